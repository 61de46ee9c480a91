-- `rows::inverse::same_counts` meets its contract. The invariant: the relations from k on have as many normalised rows on both sides where all have.
-- Assumes nothing.
use lib.ListN.{length}
use Rattle.stored.specs.File.{held}
use Rattle.lists.proofs.Laws.Numbers.{UpFrom}
use Rattle.rows.specs.Maps.{same_count}
use Rattle.rows.proofs.inverse.same_counts.Given as goal

abbrev pub invariant-loop-k : goal.invariant-loop-k
invariant-loop-k l = UpFrom (same_count (held l.source) (held l.target)) (length (held l.source).relations) l.k
