use Rattle.rounds.proofs.group.group_side.Goals.{then-is_rep, else-is_rep}
use mathlib.Core.Path.{sym, ◌∙◌}
use native.Mathlib.Omega.{arith}
use Rattle.rounds.proofs.Laws.Grouping.{grouping_start, grouping_over, grouping_alias, grouping_rep, one_more_fits, found_within}
use Rattle.rounds.proofs.group.group_side.Goals as goal

pub loop-x-init : goal.loop-x-init
loop-x-init c = let p = c.requires in grouping_start _ _ _ _ _ _ _ _ _ _ _ p.0 p.1 p.2 p.3 p.4 p.5

pub overflow_cast-out : goal.overflow_cast-out
overflow_cast-out c = omega (arith, found_within _ _ _ _ _ _ _ _ _ _ _ _ _ _ _ _ c.loop-x.invariant c.loop-x-test.true _ _ c.place-i.ensures.placed.first, one_more_fits _ _ _ _ _ _ _ _ _ _ _ _ _ _ _ _ c.loop-x.invariant c.loop-x-test.true)

pub loop-x-preserved : goal.loop-x-preserved
loop-x-preserved c =
    elim c.if-is_rep.branch [
      | then-is_rep w ↦ rw (w.board-is, w.tables-is, w.out-is, w.n-is ∙ w.count_after-n.ensures) (grouping_rep _ _ _ _ _ _ _ _ _ _ _ _ _ _ _ _ c.loop-x.invariant c.loop-x-test.true (sym c.is_rep.ensures ∙ w.if-is_rep.true) _ _ _ _ _ _ _ w.place-i.ensures.placed w.place-i.ensures.kept)
      | else-is_rep w ↦ rw (w.board-is, w.tables-is, w.out-is, w.n-is) (grouping_alias _ _ _ _ _ _ _ _ _ _ _ _ _ _ _ _ c.loop-x.invariant c.loop-x-test.true (sym c.is_rep.ensures ∙ w.if-is_rep.false))
    ]

pub returns-clause-colours : goal.returns-clause-colours
returns-clause-colours c = (grouping_over _ _ _ _ _ _ _ _ _ _ _ _ _ _ _ _ c.loop-x.invariant c.loop-x-test.false).0

pub returns-clause-held : goal.returns-clause-held
returns-clause-held c = (grouping_over _ _ _ _ _ _ _ _ _ _ _ _ _ _ _ _ c.loop-x.invariant c.loop-x-test.false).1
