use Rattle.lists.proofs.Laws.Entries.{written_none, written_more}
use Rattle.search.proofs.closing.write_map.Goals as goal

pub loop-x-init : goal.loop-x-init
loop-x-init c = written_none _ _ _ c.requires.0

pub loop-x-preserved : goal.loop-x-preserved
loop-x-preserved c = written_more c.loop-x.invariant _ c.loop-x-test.true c.image_of-y.ensures
