-- `rows::rows::first_unkept` meets its contract. The invariant: the first relation from k on that is not kept is the first of all. Assumes nothing.
use lib.ListN.{length}
use Rattle.stored.specs.File.{held}
use Rattle.lists.proofs.Laws.First.{LowestFrom}
use Rattle.rows.proofs.Laws.Rows.{unkept}
use Rattle.rows.proofs.rows.first_unkept.Given as goal

abbrev pub invariant-loop-k : goal.invariant-loop-k
invariant-loop-k l = LowestFrom (unkept (held l.source) (held l.target) l.images) (length (held l.source).relations) l.k
