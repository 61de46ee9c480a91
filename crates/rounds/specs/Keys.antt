-- "Key: own colour, with the multiset of (relation, column, colours along the row) over all places where the element stands."
use Rattle.std.specs.Prelude.{ℕ, suc, Bool, true, false, List, [], ◌∷◌, ◌++◌, map, eqb}
use Rattle.lists.specs.Every.{all, how_many}
use Rattle.lists.specs.Order.{same_row}
use Rattle.stored.specs.Model.{Rel, Model}
use Rattle.rounds.specs.Colours.{colour_at}

-- the places where an element stands in the rest of a row of relation k, from column j on: relation, column, the colours along the whole row
unfoldable pub places_in_row : ℕ → List ℕ → ℕ → ℕ → List ℕ → List (List ℕ)
places_in_row k colours x j [] = []
places_in_row k colours x j (y ∷ row) = elim (eqb x y) [
  | true ↦ (k ∷ j ∷ colours) ∷ places_in_row k colours x (suc j) row
  | false ↦ places_in_row k colours x (suc j) row
]

unfoldable pub places_in_rows : ℕ → List ℕ → ℕ → List (List ℕ) → List (List ℕ)
places_in_rows k colours x [] = []
places_in_rows k colours x (row ∷ rows) = places_in_row k (map (colour_at colours) row) x 0 row ++ places_in_rows k colours x rows

unfoldable pub places_from : ℕ → List ℕ → ℕ → List Rel → List (List ℕ)
places_from k colours x [] = []
places_from k colours x (r ∷ rs) = places_in_rows k colours x r.rows ++ places_from (suc k) colours x rs

pub record Key : Type 0 where
  pub own : ℕ
  pub places : List (List ℕ)

unfoldable pub key_of : Model → List ℕ → ℕ → Key
key_of m colours x = record { own = colour_at colours x; places = places_from 0 colours x m.relations }

-- equal as multisets: whatever stands in either stands as often in both
unfoldable pub same_bag : List (List ℕ) → List (List ℕ) → Bool
same_bag p q = all (λ (e : List ℕ). eqb (how_many (same_row e) p) (how_many (same_row e) q)) (p ++ q)

unfoldable pub same_key : Key → Key → Bool
same_key k l = elim (eqb k.own l.own) [ true ↦ same_bag k.places l.places | false ↦ false ]
