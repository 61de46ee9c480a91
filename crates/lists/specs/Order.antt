-- Equality and order of rows, that is of lists of numbers.
use Rattle.std.specs.Prelude.{ℕ, Bool, true, false, List, [], ◌∷◌, ltb, eqb}
use Rattle.lists.specs.Every.{pairwise}

-- whether two rows are equal
unfoldable pub same_row : List ℕ → List ℕ → Bool
same_row = pairwise eqb

-- whether a row stands strictly before another, the first place that differs deciding
unfoldable pub row_before : List ℕ → List ℕ → Bool
row_before [] [] = false
row_before [] (y ∷ ys) = true
row_before (x ∷ xs) [] = false
row_before (x ∷ xs) (y ∷ ys) = elim (eqb x y) [ true ↦ row_before xs ys | false ↦ ltb x y ]

-- whether a row stands strictly before the first of some rows, and each of them before the next
unfoldable pub ascending_from : List ℕ → List (List ℕ) → Bool
ascending_from r [] = true
ascending_from r (q ∷ rs) = elim (row_before r q) [ true ↦ ascending_from q rs | false ↦ false ]

-- whether each row stands strictly before the next
unfoldable pub ascending : List (List ℕ) → Bool
ascending [] = true
ascending (r ∷ rs) = ascending_from r rs
