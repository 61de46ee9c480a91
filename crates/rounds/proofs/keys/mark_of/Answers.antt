use mathlib.Core.Path.{refl, ◌∙◌}
use native.Mathlib.Omega.{arith}
use Rattle.rounds.proofs.Laws.Tables.{summing_over, summing_more, sum_fits}
use Rattle.rounds.proofs.keys.mark_of.Invariants.{marking_start}
use Rattle.rounds.proofs.keys.mark_of.Goals as goal

pub loop-i-init : goal.loop-i-init
loop-i-init c = let p = c.requires in marking_start _ _ _ _ _ p.0 p.1 c.end_of-end.ensures refl

pub overflow_add-sum-in-loop-i : goal.overflow_add-sum-in-loop-i
overflow_add-sum-in-loop-i c = omega (arith, sum_fits _ _ _ _ _ c.loop-i.invariant.sums c.loop-i-test.true)

pub loop-i-preserved : goal.loop-i-preserved
loop-i-preserved c = record { from = c.loop-i.invariant.from; sums = summing_more _ _ _ _ _ c.loop-i.invariant.sums c.loop-i-test.true; all_of = c.loop-i.invariant.all_of }

pub returns : goal.returns
returns c = summing_over _ _ _ _ _ c.loop-i.invariant.sums c.loop-i-test.false ∙ c.loop-i.invariant.all_of
