-- What comes first.
use Rattle.std.specs.Prelude.{ℕ, zero, suc, Bool, true, false, not, List, [], ◌∷◌}
use Rattle.lists.specs.Every.{keep}

-- the lowest of the numbers i, i + 1, .., as many as asked for, that passes the test; the number after them where none does
unfoldable pub lowest : (ℕ → Bool) → ℕ → ℕ → ℕ
lowest p i zero = i
lowest p i (suc n) = elim (p i) [ true ↦ i | false ↦ lowest p (suc i) n ]

module _ {A : Type 0} where
  -- the first place whose member passes the test; the length where none does
  unfoldable pub first_at : (A → Bool) → List A → ℕ
  first_at p [] = 0
  first_at p (x ∷ xs) = elim (p x) [ true ↦ 0 | false ↦ suc (first_at p xs) ]

  -- each member at its first appearance, where `same` says which are the same
  unfoldable pub firsts : (A → A → Bool) → List A → List A
  firsts same [] = []
  firsts same (x ∷ xs) = x ∷ keep (λ (y : A). not (same x y)) (firsts same xs)
