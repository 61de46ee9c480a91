-- `stored::file::File::same_signature` meets its contract. The invariant: the files have as many types and relations, and from relation k on their columns
-- are equal where they are so from the first. Assumes nothing.
use Rattle.lists.specs.Order.{same_row}
use Rattle.lists.proofs.Laws.Every.{PairsFrom}
use Rattle.stored.specs.Signature.{signature}
use Rattle.stored.specs.File.{held}
use Rattle.stored.proofs.file.File.same_signature.Given as goal

abbrev pub invariant-loop-k : goal.invariant-loop-k
invariant-loop-k l = PairsFrom same_row (signature (held l.self)).columns (signature (held l.other)).columns l.k
