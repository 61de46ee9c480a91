-- `stored::relation::relation` meets its contract: the arity and row count of a value that has a shape are those that its rows ask for. Assumes nothing.
use mathlib.Core.Path.{sym}
use Rattle.stored.proofs.Laws.Relation.{shape_shaped}
use Rattle.stored.proofs.relation.relation.Goals as goal

pub rows_hold-requires : goal.rows_hold-requires
rows_hold-requires c = (c.requires, shape_shaped _ _ _ (sym c.in_ok-found.ensures))
