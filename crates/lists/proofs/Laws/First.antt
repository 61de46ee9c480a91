-- The laws of `lowest` and `first_at`: from a number or a place on, and what is known of the answer. Assumes nothing.
use Prim.Native.Nat.{ℕ, zero, suc, ◌+◌, ◌-◌, ◌<◌, ◌≤◌, zero-le}
use mathlib.Core.Path.{◌≡◌, refl, sym, ◌∙◌}
use mathlib.Core.Logic.{◌⊎◌, inl, inr, by_cases}
use mathlib.Core.Bool.{Bool, true, false}
use mathlib.Core.List.{List, [], ◌∷◌}
use native.Mathlib.Omega.{arith}
use native.Mathlib.Numerals.{add-one}
use native.Mathlib.Decide.{ℕ_discrete, dec_le}
use lib.ListN.{length, get_or, drop, drop_of_length-le}
use lib.Seq.{drop-cons}
use Rattle.lists.specs.First.{lowest, first_at}
use Rattle.lists.proofs.Laws.Tests.{split, clash}

module _ (p : ℕ → Bool) where
  -- from i on below n
  module _ (i n : ℕ) where
    pub lowest_next : i < n → p i ≡ false → lowest p i (n - i) ≡ lowest p (i + 1) (n - (i + 1))
    unfolding lowest
    lowest_next h e = let k : n - i ≡ suc (n - (i + 1)) = omega arith in rw (k, e, lowest, add-one i)

    pub lowest_here : i < n → p i ≡ true → lowest p i (n - i) ≡ i
    unfolding lowest
    lowest_here h e = let k : n - i ≡ suc (n - (i + 1)) = omega arith in rw (k, e, lowest)

    pub lowest_end : n ≤ i → lowest p i (n - i) ≡ i
    unfolding lowest
    lowest_end h = let k : n - i ≡ 0 = omega arith in rw k

  -- the answer lies within, it passes unless it is past the end, and nothing before it passes
  pub lowest_within : (i n : ℕ) → (i ≤ lowest p i n) × (lowest p i n ≤ i + n)
  unfolding lowest
  lowest_within i zero = (omega arith, omega arith)
  lowest_within i (suc n) = go (split (p i)) (lowest_within (suc i) n)
    where
      go : (p i ≡ true) ⊎ (p i ≡ false) → (suc i ≤ lowest p (suc i) n) × (lowest p (suc i) n ≤ suc i + n) → (i ≤ lowest p i (suc n)) × (lowest p i (suc n) ≤ i + suc n)
      go (inl e) ih = rw (e, lowest) (omega arith, omega arith)
      go (inr e) ih = rw (e, lowest) (omega arith, omega arith)

  pub lowest_passes : (i n : ℕ) → lowest p i n < i + n → p (lowest p i n) ≡ true
  unfolding lowest
  lowest_passes i zero h = absurd (omega arith)
  lowest_passes i (suc n) h = go (split (p i)) (lowest_passes (suc i) n)
    where
      go : (p i ≡ true) ⊎ (p i ≡ false) → (lowest p (suc i) n < suc i + n → p (lowest p (suc i) n) ≡ true) → p (lowest p i (suc n)) ≡ true
      go (inl e) ih = rw (e, lowest) e
      go (inr e) ih = rw (e, lowest) (ih (let k : lowest p i (suc n) ≡ lowest p (suc i) n = rw (e, lowest) in omega arith))

  pub lowest_below : (i n x : ℕ) → i ≤ x → x < lowest p i n → p x ≡ false
  unfolding lowest
  lowest_below i zero x l h = absurd (omega arith)
  lowest_below i (suc n) x l h = go (split (p i)) (lowest_below (suc i) n x)
    where
      go : (p i ≡ true) ⊎ (p i ≡ false) → (suc i ≤ x → x < lowest p (suc i) n → p x ≡ false) → p x ≡ false
      go (inl e) ih = absurd (let k : lowest p i (suc n) ≡ i = rw (e, lowest) in omega arith)
      go (inr e) ih =
          let k : lowest p i (suc n) ≡ lowest p (suc i) n = rw (e, lowest) in
          by_cases (ℕ_discrete x i) (λ q. rw q e) (λ q. ih (omega arith) (omega arith))

  -- where nothing passes, the answer is past the end
  pub lowest_none : (i n : ℕ) → ((x : ℕ) → i ≤ x → x < i + n → p x ≡ false) → lowest p i n ≡ i + n
  unfolding lowest
  lowest_none i zero h = omega arith
  lowest_none i (suc n) h =
      let k = lowest_none (suc i) n (λ x l u. h x (omega arith) (omega arith)) in
      rw (h i (omega arith) (omega arith), lowest) (omega arith)

-- Loops over the numbers below n that answer the first that passes, or n: the lowest from x on is the lowest of all.
pub record LowestFrom (p : ℕ → Bool) (n x : ℕ) : Type 0 where
  pub within : x ≤ n
  pub same : lowest p x (n - x) ≡ lowest p 0 n

pub lowest_from : (p : ℕ → Bool) (n : ℕ) → LowestFrom p n 0
lowest_from p n = let e : n - 0 ≡ n = omega arith in record { within = omega arith; same = rw e }

module _ {p : ℕ → Bool} {n x : ℕ} (from : LowestFrom p n x) where
  pub lowest_passed : x < n → p x ≡ false → LowestFrom p n (x + 1)
  lowest_passed h f = record { within = omega arith; same = sym (lowest_next p x n h f) ∙ from.same }

  pub lowest_found : x < n → p x ≡ true → x ≡ lowest p 0 n
  lowest_found h t = sym (lowest_here p x n h t) ∙ from.same

  pub lowest_over : n ≤ x → x ≡ lowest p 0 n
  lowest_over h = sym (lowest_end p x n h) ∙ from.same

module _ {A : Type 0} (p : A → Bool) where
  pub first_at_none : first_at p [] ≡ 0
  unfolding first_at
  first_at_none = refl

  pub first_at_yes : (x : A) (xs : List A) → p x ≡ true → first_at p (x ∷ xs) ≡ 0
  unfolding first_at
  first_at_yes x xs e = rw (e, first_at)

  pub first_at_no : (x : A) (xs : List A) → p x ≡ false → first_at p (x ∷ xs) ≡ suc (first_at p xs)
  unfolding first_at
  first_at_no x xs e = rw (e, first_at)

  -- from place i on
  module _ (xs : List A) (i : ℕ) (d : A) where
    pub first_at_next : i < length xs → p (get_or xs i d) ≡ false → i + first_at p (drop i xs) ≡ i + 1 + first_at p (drop (i + 1) xs)
    first_at_next h e =
        let k : first_at p (drop i xs) ≡ suc (first_at p (drop (suc i) xs)) = rw (drop-cons xs i d h) (first_at_no (get_or xs i d) (drop (suc i) xs) e) in
        rw (add-one i) (omega arith)

    pub first_at_here : i < length xs → p (get_or xs i d) ≡ true → i + first_at p (drop i xs) ≡ i
    first_at_here h e =
        let k : first_at p (drop i xs) ≡ 0 = rw (drop-cons xs i d h) (first_at_yes (get_or xs i d) (drop (suc i) xs) e) in omega arith

  pub first_at_end : (xs : List A) (i : ℕ) → length xs ≤ i → i + first_at p (drop i xs) ≡ i
  first_at_end xs i h = let k : first_at p (drop i xs) ≡ 0 = rw (drop_of_length-le xs h) first_at_none in omega arith

  pub first_at_within : (xs : List A) → first_at p xs ≤ length xs
  first_at_within [] = rw first_at_none zero-le
  first_at_within (x ∷ xs) = go (split (p x)) (first_at_within xs)
    where
      go : (p x ≡ true) ⊎ (p x ≡ false) → first_at p xs ≤ length xs → first_at p (x ∷ xs) ≤ suc (length xs)
      go (inl e) ih = rw (first_at_yes x xs e) zero-le
      go (inr e) ih = rw (first_at_no x xs e) (omega arith)

  pub first_at_passes : (d : A) (xs : List A) → first_at p xs < length xs → p (get_or xs (first_at p xs) d) ≡ true
  first_at_passes d [] h = absurd (omega arith)
  first_at_passes d (y ∷ ys) h = go (split (p y)) (first_at_passes d ys)
    where
      go : (p y ≡ true) ⊎ (p y ≡ false) → (first_at p ys < length ys → p (get_or ys (first_at p ys) d) ≡ true) → p (get_or (y ∷ ys) (first_at p (y ∷ ys)) d) ≡ true
      go (inl e) ih = rw (first_at_yes y ys e) e
      go (inr e) ih = rw (first_at_no y ys e) (ih (omega (arith, first_at_no y ys e)))

  -- nothing before it passes
  pub first_at_below : (d : A) (xs : List A) (i : ℕ) → i < first_at p xs → p (get_or xs i d) ≡ false
  first_at_below d [] i h = absurd (omega (arith, first_at_none))
  first_at_below d (y ∷ ys) i h = go (split (p y)) i h (first_at_below d ys)
    where
      go : (p y ≡ true) ⊎ (p y ≡ false) → (i : ℕ) → i < first_at p (y ∷ ys) → ((i : ℕ) → i < first_at p ys → p (get_or ys i d) ≡ false) → p (get_or (y ∷ ys) i d) ≡ false
      go (inl e) i l ih = absurd (omega (arith, first_at_yes y ys e))
      go (inr e) zero l ih = e
      go (inr e) (suc i) l ih = ih i (omega (arith, first_at_no y ys e))

  -- what passes somewhere, passes first at or before that place
  pub first_at_some : (d : A) (xs : List A) (i : ℕ) → i < length xs → p (get_or xs i d) ≡ true → first_at p xs ≤ i
  first_at_some d xs i l e = by_cases (dec_le (first_at p xs) i) (λ h. h) (λ h. clash e (first_at_below d xs i (omega arith)))

-- from place i on, the first place that passes is that of the whole list
module _ {A : Type 0} where
  pub record FirstFrom (p : A → Bool) (xs : List A) (i : ℕ) : Type 0 where
    pub same : i + first_at p (drop i xs) ≡ first_at p xs

  pub first_from : (p : A → Bool) (xs : List A) → FirstFrom p xs 0
  first_from p xs = record { same = omega arith }

  module _ {p : A → Bool} {xs : List A} {i : ℕ} (from : FirstFrom p xs i) where
    pub first_passed : (d : A) → i < length xs → p (get_or xs i d) ≡ false → FirstFrom p xs (i + 1)
    first_passed d h f = record { same = sym (first_at_next p xs i d h f) ∙ from.same }

    pub first_here : (d : A) → i < length xs → p (get_or xs i d) ≡ true → i ≡ first_at p xs
    first_here d h t = sym (first_at_here p xs i d h t) ∙ from.same

    pub first_nowhere : length xs ≤ i → i ≡ first_at p xs
    first_nowhere h = sym (first_at_end p xs i h) ∙ from.same

-- tests that agree below a number have the same lowest number there
pub lowest_agree : (p q : ℕ → Bool) (i n : ℕ) → ((x : ℕ) → i ≤ x → x < i + n → p x ≡ q x) → lowest p i n ≡ lowest q i n
unfolding lowest
lowest_agree p q i zero h = refl
lowest_agree p q i (suc n) h = by_test (split (p i)) (lowest_agree p q (suc i) n (λ x k l. h x (omega arith) (omega arith)))
  where
    same : p i ≡ q i
    same = h i (omega arith) (omega arith)

    by_test : (p i ≡ true) ⊎ (p i ≡ false) → lowest p (suc i) n ≡ lowest q (suc i) n → lowest p i (suc n) ≡ lowest q i (suc n)
    by_test (inl e) ih = rw (e, lowest, sym same ∙ e) refl
    by_test (inr e) ih = rw (e, lowest, sym same ∙ e) ih
