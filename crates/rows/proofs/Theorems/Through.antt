-- What a table says of a row: its length, its entries, and one table after another. Assumes nothing.
use Prim.Native.Nat.{ℕ, zero, suc, ◌<◌, ◌≤◌}
use mathlib.Core.Path.{◌≡◌, refl, sym, ◌∙◌, ap, ap₂}
use mathlib.Core.Logic.{by_cases}
use mathlib.Core.List.{List, [], ◌∷◌, Memᴰ, head-eq_of_cons-eq, tail-eq_of_cons-eq}
use native.Mathlib.Omega.{arith}
use native.Mathlib.Decide.{dec_le}
use lib.ListN.{length, get_or, get_or-eq_default}
use Rattle.rows.specs.Rows.{through}
use Rattle.rows.proofs.Laws.Rows.{length_through}

pub through_at : (t row : List ℕ) (j d : ℕ) → j < length row → get_or (through t row) j d ≡ get_or t (get_or row j 255) 255
unfolding through
through_at t [] j d h = absurd (omega arith)
through_at t (x ∷ row) zero d h = refl
through_at t (x ∷ row) (suc j) d h = through_at t row j d (omega arith)

-- where the table is short enough to have nothing at 255, also past the row's end
pub through_any : (t row : List ℕ) (j : ℕ) → length t ≤ 255 → get_or (through t row) j 255 ≡ get_or t (get_or row j 255) 255
through_any t row j h =
    by_cases (dec_le (suc j) (length row))
    (λ l. through_at t row j 255 l)
    (λ l.
    get_or-eq_default (through t row) 255 (let k = length_through t row in omega arith)
    ∙ sym (ap (λ (y : ℕ). get_or t y 255) (get_or-eq_default row 255 (omega arith)) ∙ get_or-eq_default t 255 h))

-- one table after another is the table of both
pub through_through : (g t row : List ℕ) → length g ≤ 255 → through (through g t) row ≡ through g (through t row)
unfolding through
through_through g t [] h = refl
through_through g t (x ∷ row) h = ap₂ (λ (y : ℕ) (r : List ℕ). y ∷ r) (through_any g t x h) (through_through g t row h)

-- tables that agree on the entries of a row
pub through_same : (t u row : List ℕ) → ((x : ℕ) → Memᴰ x row → get_or t x 255 ≡ get_or u x 255) → through t row ≡ through u row
unfolding through
through_same t u [] h = refl
through_same t u (x ∷ row) h = ap₂ (λ (y : ℕ) (r : List ℕ). y ∷ r) (h x (Memᴰ.head refl)) (through_same t u row (λ y m. h y (Memᴰ.tail m)))

-- a table that leaves the entries of a row as they are
pub through_self : (t row : List ℕ) → ((x : ℕ) → Memᴰ x row → get_or t x 255 ≡ x) → through t row ≡ row
unfolding through
through_self t [] h = refl
through_self t (x ∷ row) h = ap₂ (λ (y : ℕ) (r : List ℕ). y ∷ r) (h x (Memᴰ.head refl)) (through_self t row (λ y m. h y (Memᴰ.tail m)))

-- a table that tells the entries of two rows apart tells the rows apart
pub through_apart : (t row other : List ℕ) → ((x y : ℕ) → Memᴰ x row → Memᴰ y other → get_or t x 255 ≡ get_or t y 255 → x ≡ y) → through t row ≡ through t other → row ≡ other
unfolding through
through_apart t [] [] h e = refl
through_apart t [] (y ∷ other) h e = let z : ◌≡◌ {A = ℕ} 0 1 = cc in absurd (omega arith)
through_apart t (x ∷ row) [] h e = let z : ◌≡◌ {A = ℕ} 0 1 = cc in absurd (omega arith)
through_apart t (x ∷ row) (y ∷ other) h e =
    ap₂ (λ (z : ℕ) (r : List ℕ). z ∷ r)
    (h x y (Memᴰ.head refl) (Memᴰ.head refl) (head-eq_of_cons-eq e))
    (through_apart t row other (λ p q m n. h p q (Memᴰ.tail m) (Memᴰ.tail n)) (tail-eq_of_cons-eq e))
