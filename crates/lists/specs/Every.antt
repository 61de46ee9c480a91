-- Tests of every member of a list.
use Rattle.std.specs.Prelude.{ℕ, suc, Bool, true, false, List, [], ◌∷◌}

module _ {A : Type 0} where
  -- whether every member passes the test
  unfoldable pub all : (A → Bool) → List A → Bool
  all p [] = true
  all p (x ∷ xs) = elim (p x) [ true ↦ all p xs | false ↦ false ]

  -- whether some member passes the test
  unfoldable pub any : (A → Bool) → List A → Bool
  any p [] = false
  any p (x ∷ xs) = elim (p x) [ true ↦ true | false ↦ any p xs ]

  -- the members that pass the test
  unfoldable pub keep : (A → Bool) → List A → List A
  keep p [] = []
  keep p (x ∷ xs) = elim (p x) [ true ↦ x ∷ keep p xs | false ↦ keep p xs ]

  -- how many members pass the test
  unfoldable pub how_many : (A → Bool) → List A → ℕ
  how_many p [] = 0
  how_many p (x ∷ xs) = elim (p x) [ true ↦ suc (how_many p xs) | false ↦ how_many p xs ]

module _ {A B : Type 0} where
  -- whether two lists are of one length and their members pass the test, place by place
  unfoldable pub pairwise : (A → B → Bool) → List A → List B → Bool
  pairwise p [] [] = true
  pairwise p [] (y ∷ ys) = false
  pairwise p (x ∷ xs) [] = false
  pairwise p (x ∷ xs) (y ∷ ys) = elim (p x y) [ true ↦ pairwise p xs ys | false ↦ false ]
