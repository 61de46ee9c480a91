-- "A model is canonical if no row holds an alias."
use Rattle.std.specs.Prelude.{Bool}
use Rattle.lists.specs.Every.{all}
use Rattle.stored.specs.Model.{Rel, Model, is_rep}

unfoldable pub relation_canonical : Model → Rel → Bool
relation_canonical m r = all (all (is_rep m)) r.rows

unfoldable pub canonical : Model → Bool
canonical m = all (relation_canonical m) m.relations
