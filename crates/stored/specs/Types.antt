-- "Types, tag 01: one byte for each type, its number of elements. Elements are numbered from 0, type by type; n is their sum."
use Rattle.std.specs.Prelude.{ℕ, suc, Bool, ◌&&◌, List, [], ◌∷◌, ◌++◌, length, get_or, replicate, leb}
use Rattle.lists.specs.Numbers.{sum}
use Rattle.stored.specs.Limits.{max_types, max_elements}

-- the type of each element in turn, those of type k first
unfoldable pub types_from : ℕ → List ℕ → List ℕ
types_from k [] = []
types_from k (n ∷ sizes) = replicate n k ++ types_from (suc k) sizes

-- the type of an element; the number of types, which is no type, for what is no element
unfoldable pub type_in : List ℕ → ℕ → ℕ
type_in sizes x = get_or (types_from 0 sizes) x (length sizes)

-- the rules for the value of Types
unfoldable pub types_hold : List ℕ → Bool
types_hold sizes = leb (length sizes) max_types && leb (sum sizes) max_elements
