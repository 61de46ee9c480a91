use native.Mathlib.Omega.{arith}
use Rattle.rounds.proofs.Laws.Tables.{counting_over, counting_more, count_small}
use Rattle.rounds.proofs.keys.count_up.Goals as goal

pub overflow_add-board : goal.overflow_add-board
overflow_add-board c = omega (arith, count_small _ _ _ _ _ c.loop-i.invariant c.loop-i-test.true)

pub loop-i-preserved : goal.loop-i-preserved
loop-i-preserved c = counting_more _ _ _ _ _ c.loop-i.invariant c.loop-i-test.true

pub returns-clause-counts : goal.returns-clause-counts
returns-clause-counts c = counting_over _ _ _ _ _ c.loop-i.invariant c.loop-i-test.false
