use Rattle.rows.proofs.inverse.one_to_one.Goals.{else-y-via-then-y+else-first_at-x, else-y-via-else-y}
use Rattle.rows.specs.Maps.{one_to_one}
use Rattle.lists.proofs.Laws.Numbers.{up_over}
use Rattle.rows.proofs.inverse.one_to_one.Invariants.{none, more, stop}
use Rattle.rows.proofs.inverse.one_to_one.Goals as goal

pub returns-then-first_at-x : goal.returns-then-first_at-x
returns-then-first_at-x c = stop _ _ c.loop-x.invariant c.loop-x-test.true c.if-y.true _ c.first_at.ensures c.if-first_at-x.true

pub loop-x-preserved : goal.loop-x-preserved
loop-x-preserved c =
    elim c.else-y.branch [
      | else-y-via-then-y+else-first_at-x w ↦ more _ _ c.loop-x.invariant c.loop-x-test.true w.if-y.true _ w.first_at.ensures w.if-first_at-x.false
      | else-y-via-else-y w ↦ none _ _ c.loop-x.invariant c.loop-x-test.true w.if-y.false
    ]

pub returns : goal.returns
unfolding one_to_one
returns c = up_over c.loop-x.invariant c.loop-x-test.false
