-- The laws of `same_row`, `row_before` and `ascending`: their clauses as equations, and from a place or an offset on. Assumes nothing.
use Prim.Native.Nat.{ℕ, suc, ◌+◌, ◌-◌, ◌<◌, ◌≤◌}
use mathlib.Core.Path.{◌≡◌, refl, sym, ap, ◌∙◌}
use mathlib.Core.Logic.{by_cases}
use mathlib.Core.Bool.{Bool, true, false}
use mathlib.Core.List.{List, [], ◌∷◌}
use native.Mathlib.Omega.{arith}
use native.Mathlib.Numerals.{add-one}
use native.Mathlib.Decide.{dec_le}
use borrow.Author.Tests.{lt-ltb, le-ltb, eq-eqb, ne_eqb, eqb-true}
use lib.Dec.{ltb, eqb}
use lib.Pointwise.{pointwise}
use lib.ListN.{length, get_or, drop, drop_of_length-le}
use lib.Seq.{drop-cons}
use Rattle.lists.specs.Every.{pairwise}
use Rattle.lists.specs.Order.{same_row, row_before, ascending_from, ascending}
use Rattle.lists.specs.Part.{part, rows_of}
use Rattle.lists.proofs.Laws.Tests.{same_test}
use Rattle.lists.proofs.Laws.Every.{pairwise_yes, pairwise_no, pairwise_equal, pairwise_refl}
use Rattle.lists.proofs.Laws.Part.{rows_of_next, rows_of_end}

-- rows that pass for equal are equal, and the other way round
pub same_row_lem : (xs ys : List ℕ) → same_row xs ys ≡ true → xs ≡ ys
unfolding same_row
same_row_lem = pairwise_equal eqb eqb-true

pub same_row_refl : (xs : List ℕ) → same_row xs xs ≡ true
unfolding same_row
same_row_refl = pairwise_refl eqb (λ x. eq-eqb x x refl)

pub before_none : row_before [] [] ≡ false
unfolding row_before
before_none = refl

pub before_shorter : (y : ℕ) (ys : List ℕ) → row_before [] (y ∷ ys) ≡ true
unfolding row_before
before_shorter y ys = refl

pub before_longer : (x : ℕ) (xs : List ℕ) → row_before (x ∷ xs) [] ≡ false
unfolding row_before
before_longer x xs = refl

module _ (x : ℕ) (xs : List ℕ) (y : ℕ) (ys : List ℕ) where
  pub before_equal : x ≡ y → row_before (x ∷ xs) (y ∷ ys) ≡ row_before xs ys
  unfolding row_before
  before_equal e = rw (eq-eqb x y e, row_before)

  pub before_differ : (x ≡ y → ⊥) → row_before (x ∷ xs) (y ∷ ys) ≡ ltb x y
  unfolding row_before
  before_differ n = rw (ne_eqb x y n, row_before)

-- from place j on
module _ (a b : List ℕ) (j : ℕ) where
  pub before_next : j < length a → j < length b → get_or a j 0 ≡ get_or b j 0 → row_before (drop j a) (drop j b) ≡ row_before (drop (j + 1) a) (drop (j + 1) b)
  before_next h k e = rw (add-one j, drop-cons a j 0 h, drop-cons b j 0 k) (before_equal (get_or a j 0) (drop (suc j) a) (get_or b j 0) (drop (suc j) b) e)

  pub before_stop : j < length a → j < length b → (get_or a j 0 ≡ get_or b j 0 → ⊥) → row_before (drop j a) (drop j b) ≡ ltb (get_or a j 0) (get_or b j 0)
  before_stop h k n = rw (drop-cons a j 0 h, drop-cons b j 0 k) (before_differ (get_or a j 0) (drop (suc j) a) (get_or b j 0) (drop (suc j) b) n)

  pub before_past : j < length a → length b ≤ j → row_before (drop j a) (drop j b) ≡ false
  before_past h k = rw (drop-cons a j 0 h, drop_of_length-le b k) (before_longer (get_or a j 0) (drop (suc j) a))

  pub before_end : length a ≤ j → row_before (drop j a) (drop j b) ≡ ltb j (length b)
  before_end h =
      by_cases (dec_le (length b) j)
      (λ k. rw (drop_of_length-le a h, drop_of_length-le b k, le-ltb j (length b) k) before_none)
      (λ n. let k : j < length b = omega arith in rw (drop_of_length-le a h, drop-cons b j 0 k, lt-ltb j (length b) k) (before_shorter (get_or b j 0) (drop (suc j) b)))

pub ascending_none : ascending [] ≡ true
unfolding ascending
ascending_none = refl

pub ascending_cons : (r : List ℕ) (rs : List (List ℕ)) → ascending (r ∷ rs) ≡ ascending_from r rs
unfolding ascending
ascending_cons r rs = refl

module _ (r : List ℕ) where
  pub ascending_from_none : ascending_from r [] ≡ true
  unfolding ascending_from
  ascending_from_none = refl

  pub ascending_from_yes : (q : List ℕ) (rs : List (List ℕ)) → row_before r q ≡ true → ascending_from r (q ∷ rs) ≡ ascending_from q rs
  unfolding ascending_from
  ascending_from_yes q rs e = rw (e, ascending_from)

  pub ascending_from_no : (q : List ℕ) (rs : List (List ℕ)) → row_before r q ≡ false → ascending_from r (q ∷ rs) ≡ false
  unfolding ascending_from
  ascending_from_no q rs e = rw (e, ascending_from)

-- whether rows of a members ascend from an offset on: the row there, and `left` more
unfoldable pub ascending_at : ℕ → List ℕ → ℕ → ℕ → Bool
ascending_at a s at left = ascending_from (part s at a) (rows_of a left (drop (at + a) s))

module _ (a : ℕ) (s : List ℕ) where
  pub ascending_start : (c : ℕ) → 0 < c → ascending_at a s 0 (c - 1) ≡ ascending (rows_of a c s)
  unfolding ascending_at
  ascending_start c h = sym (ap ascending (rows_of_next a s 0 c h) ∙ ascending_cons (part s 0 a) (rows_of a (c - 1) (drop (0 + a) s)))

  module _ (at left : ℕ) where
    pub ascending_next : 0 < left → row_before (part s at a) (part s (at + a) a) ≡ true → ascending_at a s at left ≡ ascending_at a s (at + a) (left - 1)
    unfolding ascending_at
    ascending_next h e = ap (ascending_from (part s at a)) (rows_of_next a s (at + a) left h) ∙ ascending_from_yes (part s at a) (part s (at + a) a) _ e

    pub ascending_stop : 0 < left → row_before (part s at a) (part s (at + a) a) ≡ false → ascending_at a s at left ≡ false
    unfolding ascending_at
    ascending_stop h e = ap (ascending_from (part s at a)) (rows_of_next a s (at + a) left h) ∙ ascending_from_no (part s at a) (part s (at + a) a) _ e

    pub ascending_end : left ≤ 0 → ascending_at a s at left ≡ true
    unfolding ascending_at
    ascending_end h = ap (ascending_from (part s at a)) (rows_of_end a s (at + a) left h) ∙ ascending_from_none (part s at a)

-- which of two rows is asked about first does not matter
pub same_either : (x y : List ℕ) → same_row x y ≡ same_row y x
same_either x y = same_test (same_row x y) (same_row y x) (λ h. rw (same_row_lem x y h) (same_row_refl y)) (λ h. rw (same_row_lem y x h) (same_row_refl x))

pub same_row_sym : (x y : List ℕ) → same_row x y ≡ true → same_row y x ≡ true
same_row_sym x y h = sym (same_either x y) ∙ h

pub same_row_trans : (x y z : List ℕ) → same_row x y ≡ true → same_row y z ≡ true → same_row x z ≡ true
same_row_trans x y z h k = rw (same_row_lem x y h) k

-- rows are compared place by place
pub rows_same : (xs ys : List ℕ) → same_row xs ys ≡ pairwise eqb xs ys
unfolding same_row
rows_same xs ys = refl

-- what `==` answers at two slices
pub same_slices : (xs ys : List ℕ) → pointwise eqb xs ys ≡ same_row xs ys
unfolding same_row pairwise
same_slices [] [] = refl
same_slices [] (y ∷ ys) = refl
same_slices (x ∷ xs) [] = refl
same_slices (x ∷ xs) (y ∷ ys) = go (same_slices xs ys) (eqb x y) refl
  where
    go : pointwise eqb xs ys ≡ same_row xs ys → (b : Bool) → eqb x y ≡ b → pointwise eqb (x ∷ xs) (y ∷ ys) ≡ same_row (x ∷ xs) (y ∷ ys)
    go k true e = rw (e, pairwise_yes eqb x xs y ys e) k
    go k false e = rw (e, pairwise_no eqb x xs y ys e)
