-- What a model is: the number of elements of each type, the representative of each element, and the relations, each its columns and its rows.
use Rattle.std.specs.Prelude.{ℕ, Bool, ◌&&◌, List, [], length, get_or, ltb, eqb}
use Rattle.lists.specs.Numbers.{sum}
use Rattle.stored.specs.Types.{type_in}

pub record Rel : Type 0 where
  pub columns : List ℕ
  pub rows : List (List ℕ)

pub record Model : Type 0 where
  pub sizes : List ℕ
  pub roots : List ℕ
  pub relations : List Rel

-- "n is their sum"
abbrev pub size : Model → ℕ
size m = sum m.sizes

abbrev pub type_of : Model → ℕ → ℕ
type_of m x = type_in m.sizes x

abbrev pub root_of : Model → ℕ → ℕ
root_of m x = get_or m.roots x 0

-- the relation of a number; one with nothing in it where there is none
abbrev pub no_relation : Rel
no_relation = record { columns = []; rows = [] }

abbrev pub relation_at : Model → ℕ → Rel
relation_at m k = get_or m.relations k no_relation

-- "Elements that are not their own representative are aliases."
unfoldable pub is_rep_in : List ℕ → ℕ → Bool
is_rep_in roots x = ltb x (length roots) && eqb (get_or roots x 0) x

abbrev pub is_rep : Model → ℕ → Bool
is_rep m x = is_rep_in m.roots x
