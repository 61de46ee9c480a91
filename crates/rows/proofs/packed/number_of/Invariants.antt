-- `rows::packed::number_of` meets its contract. The invariant: the number of the first j entries is built.
-- Assumes nothing.
use Rattle.rows.proofs.Laws.Packed.{PackedTo}
use Rattle.rows.proofs.packed.number_of.Given as goal

abbrev pub invariant-loop-x : goal.invariant-loop-x
invariant-loop-x l = PackedTo l.row l.number l.x-index
