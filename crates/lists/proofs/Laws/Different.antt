-- Laws of lists: the members equal to one number and the different members are together at most one more than all, and where there is a member there is a different one. Assumes
-- nothing.
use Prim.Native.Nat.{ℕ, zero, suc, ◌+◌, ◌<◌, ◌≤◌}
use mathlib.Core.Path.{◌≡◌, refl, ap}
use mathlib.Core.Logic.{◌⊎◌, inl, inr}
use mathlib.Core.Bool.{Bool, true, false, not}
use mathlib.Core.List.Memᴰ
use mathlib.Core.List.{List, [], ◌∷◌, Memᴰ}
use native.Mathlib.Omega.{arith}
use borrow.Author.Tests.{eqb-true, eq-eqb}
use lib.Dec.{eqb}
use lib.ListN.{length}
use Rattle.lists.specs.Every.{keep, how_many}
use Rattle.lists.specs.First.{firsts}
use Rattle.lists.proofs.Laws.Tests.{split, clash}
use Rattle.lists.proofs.Laws.Every.{keep_none, keep_yes, keep_no}
use Rattle.lists.proofs.Laws.Sets.{firsts_mem}
use Rattle.lists.proofs.Laws.Counting.{how_many_none, how_many_yes, how_many_no, how_many_some, different_fit}

module _ {A : Type 0} (p : A → Bool) where
  pub keep_fits : (xs : List A) → length (keep p xs) ≤ length xs
  keep_fits [] = omega (arith, ap length (keep_none p))
  keep_fits (x ∷ xs) = by_test (split (p x)) (keep_fits xs)
    where
      by_test : (p x ≡ true) ⊎ (p x ≡ false) → length (keep p xs) ≤ length xs → length (keep p (x ∷ xs)) ≤ length (x ∷ xs)
      by_test (inl e) ih = omega (arith, ap length (keep_yes p x xs e))
      by_test (inr e) ih = omega (arith, ap length (keep_no p x xs e))

  -- a member that fails is not kept
  pub keep_fewer : (xs : List A) (y : A) → Memᴰ y xs → p y ≡ false → length (keep p xs) < length xs
  keep_fewer [] y m f = absurd (Memᴰ.not-nil m)
  keep_fewer (x ∷ xs) y m f = by_test (split (p x)) (Memᴰ.cases_cons m) (λ n. keep_fewer xs y n f)
    where
      by_test : (p x ≡ true) ⊎ (p x ≡ false) → (y ≡ x) ⊎ Memᴰ y xs → (Memᴰ y xs → length (keep p xs) < length xs) → length (keep p (x ∷ xs)) < length (x ∷ xs)
      by_test (inr e) n ih = omega (arith, ap length (keep_no p x xs e), keep_fits xs)
      by_test (inl e) (inl q) ih = clash e (rw q at f)
      by_test (inl e) (inr n) ih = omega (arith, ap length (keep_yes p x xs e), ih n)

first_of : (x : ℕ) (xs : List ℕ) → length (firsts eqb (x ∷ xs)) ≡ suc (length (keep (λ (y : ℕ). not (eqb x y)) (firsts eqb xs)))
unfolding firsts
first_of x xs = refl

pub different_some : (xs : List ℕ) → 1 ≤ length xs → 1 ≤ length (firsts eqb xs)
different_some [] h = absurd (omega arith)
different_some (x ∷ xs) h = omega (arith, first_of x xs)

-- a number that is there again is dropped from the different ones
dropped : (k : ℕ) (xs : List ℕ) → 0 < how_many (eqb k) xs → length (keep (λ (y : ℕ). not (eqb k y)) (firsts eqb xs)) < length (firsts eqb xs)
dropped k xs h =
    let r = how_many_some (eqb k) xs h in
    keep_fewer (λ (y : ℕ). not (eqb k y)) (firsts eqb xs) r.0 (firsts_mem eqb eqb-true (λ x. eq-eqb x x refl) xs r.0 r.1) (rw r.2 refl)

pub different_class : (k : ℕ) (xs : List ℕ) → how_many (eqb k) xs + length (firsts eqb xs) ≤ suc (length xs)
different_class k [] = omega (arith, how_many_none (eqb k), different_fit [])
different_class k (x ∷ xs) = by_test (split (eqb k x)) (different_class k xs)
  where
    by_count : (n : ℕ) → how_many (eqb k) xs ≡ n → how_many (eqb k) xs + length (firsts eqb xs) ≤ suc (length xs)
        → how_many (eqb k) xs + length (keep (λ (y : ℕ). not (eqb k y)) (firsts eqb xs)) ≤ length xs
    by_count zero e ih = omega (arith, different_fit xs, keep_fits (λ (y : ℕ). not (eqb k y)) (firsts eqb xs))
    by_count (suc n) e ih = omega (arith, dropped k xs (omega arith))

    by_test : (eqb k x ≡ true) ⊎ (eqb k x ≡ false) → how_many (eqb k) xs + length (firsts eqb xs) ≤ suc (length xs)
        → how_many (eqb k) (x ∷ xs) + length (firsts eqb (x ∷ xs)) ≤ suc (length (x ∷ xs))
    by_test (inl e) ih =
        let kept : length (firsts eqb (x ∷ xs)) ≡ suc (length (keep (λ (y : ℕ). not (eqb k y)) (firsts eqb xs))) = rw (eqb-true k x e) (first_of x xs) in
        omega (arith, how_many_yes (eqb k) x xs e, kept, by_count (how_many (eqb k) xs) refl ih)
    by_test (inr e) ih = omega (arith, how_many_no (eqb k) x xs e, first_of x xs, keep_fits (λ (y : ℕ). not (eqb x y)) (firsts eqb xs))
