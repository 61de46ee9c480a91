-- How many of the numbers below another pass a test: it grows with the number, and tells apart numbers that pass; lists that differ in order only are of one length. Assumes nothing.
use Prim.Native.Nat.{ℕ, zero, suc, ◌+◌, ◌-◌, ◌<◌, ◌≤◌}
use mathlib.Core.Path.{◌≡◌, refl, ◌∙◌, ap}
use mathlib.Core.Logic.{by_cases}
use mathlib.Core.Bool.{Bool, true}
use mathlib.Core.List.{List, [], ◌∷◌, Permᴰ}
use lib.ListN.{length}
use native.Mathlib.Omega.{arith}
use native.Mathlib.Decide.{dec_le}
use Rattle.lists.specs.Every.{how_many}
use Rattle.lists.specs.Numbers.{up_from}
use Rattle.lists.proofs.Laws.Counting.{how_many_none, how_many_yes, how_many_append}
use Rattle.lists.proofs.Laws.Numbers.{up_from_more}

module _ (p : ℕ → Bool) where
  abbrev pub below : ℕ → ℕ
  below n = how_many p (up_from 0 n)

  below_next : (n : ℕ) → below (suc n) ≡ below n + how_many p (n ∷ [])
  below_next n =
      let e : 0 + n ≡ n = omega arith in
      ap (how_many p) (up_from_more 0 n) ∙ how_many_append p (up_from 0 n) ((0 + n) ∷ []) ∙ ap (λ (k : ℕ). below n + how_many p (k ∷ [])) e

  below_grows : (x d : ℕ) → below x ≤ below (x + d)
  below_grows x zero = let e : x + 0 ≡ x = omega arith in rw e (omega arith)
  below_grows x (suc d) = let e : x + suc d ≡ suc (x + d) = omega arith in rw e (omega (arith, below_next (x + d), below_grows x d))

  pub below_more : (x y : ℕ) → x < y → p x ≡ true → below x < below y
  below_more x y l h =
      let e : suc x + (y - suc x) ≡ y = omega arith in
      omega (arith, below_next x, how_many_yes p x [] h, how_many_none p, below_grows (suc x) (y - suc x), ap below e)

  pub below_tells : (x y : ℕ) → p x ≡ true → p y ≡ true → below x ≡ below y → x ≡ y
  below_tells x y h k e =
      by_cases (dec_le (suc x) y) (λ l. absurd (omega (arith, below_more x y l h))) (λ l. by_cases (dec_le (suc y) x) (λ m. absurd (omega (arith, below_more y x m k))) (λ m. omega arith))

pub perm_length : {A : Type 0} {xs ys : List A} → Permᴰ xs ys → length xs ≡ length ys
perm_length Permᴰ.nil = refl
perm_length (Permᴰ.cons e d) = ap suc (perm_length d)
perm_length (Permᴰ.swap e₁ e₂) = refl
perm_length (Permᴰ.trans d₁ d₂) = perm_length d₁ ∙ perm_length d₂
