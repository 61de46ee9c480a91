-- The laws of `sum` and `up_from`, and of a test of all the numbers that `up_from` lists. Assumes nothing.
use Prim.Native.Nat.{ℕ, zero, suc, ◌+◌, ◌-◌, ◌<◌, ◌≤◌}
use mathlib.Core.Path.{◌≡◌, refl, sym, ap, ◌∙◌}
use mathlib.Core.Bool.{Bool, true, false}
use mathlib.Core.List.Memᴰ
use mathlib.Core.List.{List, [], ◌∷◌, ◌++◌, Memᴰ}
use mathlib.Core.Logic.{◌⊎◌, inl, inr, by_cases}
use native.Mathlib.Omega.{arith}
use native.Mathlib.Numerals.{add-one}
use native.Mathlib.Decide.{ℕ_discrete}
use lib.ListN.{length, get_or, drop, drop_of_length-le}
use lib.Seq.{drop-cons}
use Rattle.lists.specs.Every.{all}
use Rattle.lists.specs.Numbers.{sum, up_from}
use Rattle.lists.proofs.Laws.Every.{all_none, all_yes, all_no}

-- the sum from place i on
module _ (xs : List ℕ) (i : ℕ) where
  pub sum_next : i < length xs → sum (drop i xs) ≡ get_or xs i 0 + sum (drop (i + 1) xs)
  unfolding sum
  sum_next h = rw (add-one i, drop-cons xs i 0 h)

  pub sum_end : length xs ≤ i → sum (drop i xs) ≡ 0
  unfolding sum
  sum_end h = rw (drop_of_length-le xs h)

-- the numbers from i on below n
module _ (i n : ℕ) where
  pub up_from_next : i < n → up_from i (n - i) ≡ i ∷ up_from (i + 1) (n - (i + 1))
  unfolding up_from
  up_from_next h = let e : n - i ≡ suc (n - (i + 1)) = omega arith in rw (e, add-one i)

  pub up_from_end : n ≤ i → up_from i (n - i) ≡ []
  unfolding up_from
  up_from_end h = let e : n - i ≡ 0 = omega arith in rw e

pub up_from_mem : (i n x : ℕ) → i ≤ x → x < i + n → Memᴰ x (up_from i n)
unfolding up_from
up_from_mem i zero x h k = absurd (omega arith)
up_from_mem i (suc n) x h k =
    by_cases (ℕ_discrete x i) (λ e. Memᴰ.head e) (λ ne. Memᴰ.tail (up_from_mem (suc i) n x (omega arith) (omega arith)))

-- a test of the numbers from i on below n
module _ (p : ℕ → Bool) (i n : ℕ) where
  pub all_up_next : i < n → p i ≡ true → all p (up_from i (n - i)) ≡ all p (up_from (i + 1) (n - (i + 1)))
  all_up_next h e = rw (up_from_next i n h) (all_yes p i (up_from (i + 1) (n - (i + 1))) e)

  pub all_up_stop : i < n → p i ≡ false → all p (up_from i (n - i)) ≡ false
  all_up_stop h e = rw (up_from_next i n h) (all_no p i (up_from (i + 1) (n - (i + 1))) e)

  pub all_up_end : n ≤ i → all p (up_from i (n - i)) ≡ true
  all_up_end h = rw (up_from_end i n h) (all_none p)

pub up_from_none : (i : ℕ) → up_from i 0 ≡ []
unfolding up_from
up_from_none i = refl

pub up_from_cons : (i n : ℕ) → up_from i (suc n) ≡ i ∷ up_from (suc i) n
unfolding up_from
up_from_cons i n = refl

pub length-up_from : (i n : ℕ) → length (up_from i n) ≡ n
unfolding up_from
length-up_from i zero = refl
length-up_from i (suc n) = ap suc (length-up_from (suc i) n)

-- one number more
pub up_from_more : (i n : ℕ) → up_from i (suc n) ≡ up_from i n ++ (i + n) ∷ []
unfolding up_from
up_from_more i zero = let e : i + 0 ≡ i = omega arith in rw e
up_from_more i (suc n) = let e : i + suc n ≡ suc i + n = omega arith in rw e (ap (λ (l : List ℕ). i ∷ l) (up_from_more (suc i) n))

-- the members of a run of numbers
pub mem_up_from : (i n x : ℕ) → Memᴰ x (up_from i n) → (i ≤ x) × (x < i + n)
unfolding up_from
mem_up_from i zero x m = absurd (Memᴰ.not-nil m)
mem_up_from i (suc n) x m = go (Memᴰ.cases_cons m) (mem_up_from (suc i) n x)
  where
    go : (x ≡ i) ⊎ Memᴰ x (up_from (suc i) n) → (Memᴰ x (up_from (suc i) n) → (suc i ≤ x) × (x < suc i + n)) → (i ≤ x) × (x < i + suc n)
    go (inl e) ih = (omega arith, omega arith)
    go (inr k) ih = let r = ih k in (omega arith, omega arith)

-- the numbers from i on below n pass as all below n do
pub record UpFrom (p : ℕ → Bool) (n i : ℕ) : Type 0 where
  pub same : all p (up_from i (n - i)) ≡ all p (up_from 0 n)

pub up_from_lem : (p : ℕ → Bool) (n : ℕ) → UpFrom p n 0
up_from_lem p n = record { same = let e : n - 0 ≡ n = omega arith in rw e }

module _ {p : ℕ → Bool} {n i : ℕ} (from : UpFrom p n i) where
  pub up_passed : i < n → p i ≡ true → UpFrom p n (i + 1)
  up_passed h t = record { same = sym (all_up_next p i n h t) ∙ from.same }

  pub up_failed : i < n → p i ≡ false → false ≡ all p (up_from 0 n)
  up_failed h f = sym (all_up_stop p i n h f) ∙ from.same

  pub up_over : n ≤ i → true ≡ all p (up_from 0 n)
  up_over h = sym (all_up_end p i n h) ∙ from.same

pub get_d_up_from : (i n x d : ℕ) → x < n → get_or (up_from i n) x d ≡ i + x
unfolding up_from
get_d_up_from i zero x d h = absurd (omega arith)
get_d_up_from i (suc n) zero d h = omega arith
get_d_up_from i (suc n) (suc x) d h = get_d_up_from (suc i) n x d (omega arith) ∙ omega arith
