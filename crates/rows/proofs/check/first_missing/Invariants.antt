-- `rows::check::first_missing` meets its contract. The invariant: the lowest element from x on without an image is the lowest of all. Assumes nothing.
use lib.ListN.{length}
use Rattle.lists.proofs.Laws.First.{LowestFrom}
use Rattle.rows.specs.Check.{is_missing}
use Rattle.rows.proofs.check.first_missing.Given as goal

abbrev pub invariant-loop-x : goal.invariant-loop-x
invariant-loop-x l = LowestFrom (is_missing l.roots l.images) (length l.roots) l.x
