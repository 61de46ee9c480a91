-- `stored::file::File::is_canonical` meets its contract. The invariant: from relation k on the relations are canonical where they are so from the first.
-- Assumes nothing.
use Rattle.lists.proofs.Laws.Every.{AllFrom}
use Rattle.stored.specs.Canonical.{relation_canonical}
use Rattle.stored.specs.File.{held}
use Rattle.stored.proofs.file.File.is_canonical.Given as goal

abbrev pub invariant-loop-k : goal.invariant-loop-k
invariant-loop-k l = AllFrom (relation_canonical (held l.self)) (held l.self).relations l.k
