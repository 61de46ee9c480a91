-- `rows::packed::row_starts` meets its contract. The invariant: the starts of the first x entries are written. Assumes nothing.
use lib.ListN.{replicate}
use Rattle.lists.proofs.Laws.Entries.{WrittenTo}
use Rattle.stored.specs.File.{listed}
use Rattle.rows.specs.Packed.{start_at}
use Rattle.rows.proofs.packed.row_starts.Given as goal

abbrev pub invariant-loop-x : goal.invariant-loop-x
invariant-loop-x l = WrittenTo (start_at (listed l.rows)) 65 (replicate 65 0) l.x l.starts
