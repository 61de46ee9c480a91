-- `search::choices::reopen` meets its contract. The invariant: the choices above the first `latest` have no candidate left. Assumes
-- nothing.
use Rattle.stored.specs.File.{held}
use Rattle.search.proofs.Laws.Choices.{Closed}
use Rattle.search.proofs.choices.reopen.Given as goal

abbrev pub invariant-loop-latest : goal.invariant-loop-latest
invariant-loop-latest l = Closed (held l.right) l.choices l.depth l.latest
