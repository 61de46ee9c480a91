use Rattle.lists.proofs.Laws.Entries.{written_none, written_more}
use Rattle.rounds.proofs.colours.write_colours.Goals as goal

pub loop-x-init : goal.loop-x-init
loop-x-init g c f h = written_none f _ _ c.requires.room

pub loop-x-preserved : goal.loop-x-preserved
loop-x-preserved g c f h = written_more (c.loop-x.invariant f h) _ c.loop-x-test.true (h _ _ c.loop-x-test.true c.colour.ensures)
