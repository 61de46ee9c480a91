use Rattle.rounds.proofs.Laws.Counts.{filled_start, filled_some, filled_none}
use Rattle.rounds.proofs.counts.filled.Goals.{then-count-ne0, else-count-ne0}
use Rattle.rounds.proofs.counts.filled.Goals as goal

pub loop-count-init : goal.loop-count-init
loop-count-init c = filled_start _

pub loop-count-preserved : goal.loop-count-preserved
loop-count-preserved c =
    elim c.if-count-ne0.branch [
      | then-count-ne0 w ↦ filled_some _ _ _ c.loop-count.invariant c.loop-count-test.true w.if-count-ne0.true _ w.n-is
      | else-count-ne0 w ↦ filled_none _ _ _ c.loop-count.invariant c.loop-count-test.true w.if-count-ne0.false _ w.n-is
    ]
