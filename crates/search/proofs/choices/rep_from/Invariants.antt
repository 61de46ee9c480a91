-- `search::choices::rep_from` meets its contract. The invariant: the first representative from y on is the first from `from` on. Assumes nothing.
use lib.ListN.{length}
use Rattle.stored.specs.Model.{is_rep_in}
use Rattle.search.proofs.Laws.Choices.{FirstRep}
use Rattle.search.proofs.choices.rep_from.Given as goal

abbrev pub invariant-loop-y : goal.invariant-loop-y
invariant-loop-y l = FirstRep (is_rep_in l.roots) (length l.roots) l.from l.y
