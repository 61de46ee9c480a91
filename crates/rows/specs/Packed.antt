-- A row as one number, so that rows are compared at once. "Rows are strictly ascending, first column first": so are their numbers.
use Rattle.std.specs.Prelude.{ℕ, ◌+◌, ◌*◌, ◌<◌, ◌≤◌, ◌≡◌, Bool, List, [], ◌∷◌, length, get_or, leb, eqb}
use Rattle.lists.specs.Every.{any}
use Rattle.lists.specs.First.{first_at}

-- a number, followed by the entries of a row, a byte for each
unfoldable pub packed_onto : ℕ → List ℕ → ℕ
packed_onto number [] = number
packed_onto number (x ∷ row) = packed_onto (number * 256 + x) row

-- the number of a row, its first entry highest
abbrev pub packed : List ℕ → ℕ
packed row = packed_onto 0 row

-- whether a number is that of some row
unfoldable pub has_number : ℕ → List (List ℕ) → Bool
has_number number rows = any (λ (row : List ℕ). eqb (packed row) number) rows

-- the number of the first row whose first entry is at least x; the number of rows where there is none
unfoldable pub start_at : List (List ℕ) → ℕ → ℕ
start_at rows x = first_at (λ (row : List ℕ). leb x (get_or row 0 0)) rows

-- the rows with a number stand from one place on and before another
abbrev pub Between : ℕ → List (List ℕ) → ℕ → ℕ → Type 0
Between number rows from to = (k : ℕ) → k < length rows → packed (get_or rows k []) ≡ number → (from ≤ k) × (k < to)
