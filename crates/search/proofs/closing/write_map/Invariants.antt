-- `search::closing::write_map` meets its contract. The invariant: the images of the elements below x are written over the front.
-- Assumes nothing.
use lib.ListN.{length}
use Rattle.lists.proofs.Laws.Entries.{WrittenTo}
use Rattle.search.specs.Machine.{image_in}
use Rattle.search.proofs.closing.write_map.Given as goal

abbrev pub invariant-loop-x : goal.invariant-loop-x
invariant-loop-x l = WrittenTo (image_in l.roots l.other_roots l.left_colours l.right_colours) (length l.roots) l.initial.out l.x l.out
