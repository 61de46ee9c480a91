-- `rows::identity::write_identity` meets its contract. The invariant: the entries of the elements below x are written over the front; the measure is
-- the number of elements left. Assumes nothing.
use lib.ListN.{length}
use Rattle.rows.specs.Maps.{identity_entry}
use Rattle.lists.proofs.Laws.Entries.{WrittenTo}
use Rattle.rows.proofs.identity.write_identity.Given as goal

abbrev pub invariant-loop-x : goal.invariant-loop-x
invariant-loop-x l = WrittenTo (identity_entry l.roots) (length l.roots) l.initial.out l.x l.out
