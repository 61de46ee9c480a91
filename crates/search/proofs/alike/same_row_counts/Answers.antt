-- `search::alike::same_row_counts` meets its contract: the row counts of both sides are compared as lists. Assumes nothing.
use mathlib.Core.Path.{◌∙◌}
use native.Mathlib.Omega.{arith}
use Rattle.search.proofs.Laws.Alike.{counts_same}
use Rattle.search.proofs.alike.same_row_counts.Goals as goal

pub returns : goal.returns
returns c = c.eq.ensures ∙ counts_same _ _ _ (omega arith) (omega arith)
