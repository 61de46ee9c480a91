-- "A signature here is the number of types and the columns of each relation in order."
use Rattle.std.specs.Prelude.{ℕ, Bool, ◌&&◌, List, map, length, eqb}
use Rattle.lists.specs.Every.{pairwise}
use Rattle.lists.specs.Order.{same_row}
use Rattle.stored.specs.Model.{Rel, Model}

pub record Signature : Type 0 where
  pub types : ℕ
  pub columns : List (List ℕ)

unfoldable pub signature : Model → Signature
signature m = record { types = length m.sizes; columns = map (λ (r : Rel). r.columns) m.relations }

unfoldable pub same_signature : Signature → Signature → Bool
same_signature a b = eqb a.types b.types && pairwise same_row a.columns b.columns
