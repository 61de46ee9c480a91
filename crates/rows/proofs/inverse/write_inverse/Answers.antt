use Rattle.lists.proofs.Laws.Entries.{written_none, written_more}
use Rattle.rows.proofs.inverse.write_inverse.Goals as goal

pub loop-y-init : goal.loop-y-init
loop-y-init c = written_none _ _ _ c.requires.0

pub loop-y-preserved : goal.loop-y-preserved
loop-y-preserved c = written_more c.loop-y.invariant _ c.loop-y-test.true c.inverse_entry.ensures
