-- `rows::inverse::write_inverse` meets its contract. The invariant: the entries of the elements below y are written over the front; the measure is the
-- number of elements left. Assumes nothing.
use lib.ListN.{length}
use Rattle.rows.specs.Maps.{inverse_entry}
use Rattle.lists.proofs.Laws.Entries.{WrittenTo}
use Rattle.rows.proofs.inverse.write_inverse.Given as goal

abbrev pub invariant-loop-y : goal.invariant-loop-y
invariant-loop-y l = WrittenTo (inverse_entry l.roots l.map) (length l.roots) l.initial.out l.y l.out
