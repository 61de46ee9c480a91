-- The lists' words and the kit's: `all`, `pairwise` and `sum` of lists answer as `list_all`, `pointwise` and `sum_by` of the kit do, which say
-- what an iterator's `all` and `sum` and a slice's `==` and `<` answer. Assumes nothing.
use Prim.Native.Nat.{ℕ, zero, suc, ◌+◌, ◌-◌, ◌*◌, ◌<◌}
use mathlib.Core.Path.{◌≡◌, refl, sym, ap, ◌∙◌}
use mathlib.Core.Bool.{Bool, true, false, ◌&&◌}
use mathlib.Core.List.{List, [], ◌∷◌}
use native.Mathlib.Omega.{arith}
use native.Mathlib.Numerals.{add-one}
use lib.ListN.{length, get_or, drop}
use lib.Seq.{drop-drop, drop-cons}
use lib.Pointwise.{pointwise}
use Rattle.std.proofs.lemmas.List.Recursion.{is_sum_by}
use Rattle.std.specs.List.{list_all, sum_by, zip, range_with_len}
use Rattle.lists.specs.Every.{all, pairwise}
use Rattle.lists.specs.Numbers.{sum, up_from}
use Rattle.lists.specs.Order.{row_before, ascending_from, ascending}
use Rattle.lists.specs.Part.{part, rows_of}
use Rattle.lists.proofs.Laws.Every.{all_end, pairwise_end}

-- a test, and then another, as `&&` and as cases have it
and_cases : (b c d : Bool) → c ≡ d → b && c ≡ elim b [ true ↦ d | false ↦ false ]
and_cases true c d e = e
and_cases false c d e = refl

pub list_all_all : {A : Type 0} (p : A → Bool) (xs : List A) → list_all p xs ≡ all p xs
unfolding all
list_all_all p [] = refl
list_all_all p (x ∷ xs) = and_cases (p x) _ _ (list_all_all p xs)

module _ {A B : Type 0} (p : A → B → Bool) where
  pub pointwise_pairwise : (xs : List A) (ys : List B) → pointwise p xs ys ≡ pairwise p xs ys
  unfolding pairwise
  pointwise_pairwise [] [] = refl
  pointwise_pairwise [] (y ∷ ys) = refl
  pointwise_pairwise (x ∷ xs) [] = refl
  pointwise_pairwise (x ∷ xs) (y ∷ ys) = and_cases (p x y) _ _ (pointwise_pairwise xs ys)

  pub zip_pairwise : (xs : List A) (ys : List B) → length xs ≡ length ys → list_all (λ (q : A × B). p q.0 q.1) (zip xs ys) ≡ pairwise p xs ys
  unfolding pairwise
  zip_pairwise [] [] e = refl
  zip_pairwise [] (y ∷ ys) e = absurd (omega arith)
  zip_pairwise (x ∷ xs) [] e = absurd (omega arith)
  zip_pairwise (x ∷ xs) (y ∷ ys) e = and_cases (p x y) _ _ (zip_pairwise xs ys (omega arith))

-- the numbers of a range
pub range_up_from : (i n : ℕ) → range_with_len i n ≡ up_from i n
unfolding up_from
range_up_from i zero = refl
range_up_from i (suc n) = ap (λ (xs : List ℕ). i ∷ xs) (ap (λ (k : ℕ). range_with_len k n) (add-one i) ∙ range_up_from (suc i) n)

-- members, tested by their places
module _ {A : Type 0} (p : A → Bool) (xs : List A) (d : A) where
  all_from_place : (i n : ℕ) → i + n ≡ length xs → list_all (λ (k : ℕ). p (get_or xs k d)) (range_with_len i n) ≡ all p (drop i xs)
  unfolding all
  all_from_place i zero e = sym (all_end p xs i (omega arith))
  all_from_place i (suc n) e =
      let h : i < length xs = omega arith in
      rw (drop-cons xs i d h) (and_cases (p (get_or xs i d)) _ _ (all_from_place (i + 1) n (omega arith) ∙ ap (λ (k : ℕ). all p (drop k xs)) (add-one i)))

  pub range_all : (n : ℕ) → n ≡ length xs → list_all (λ (k : ℕ). p (get_or xs k d)) (range_with_len 0 n) ≡ all p xs
  range_all n e = all_from_place 0 n (omega arith)

module _ {A B : Type 0} (p : A → B → Bool) (xs : List A) (ys : List B) (d : A) (e : B) where
  pairs_from_place : (i n : ℕ) → i + n ≡ length xs → i + n ≡ length ys → list_all (λ (k : ℕ). p (get_or xs k d) (get_or ys k e)) (range_with_len i n) ≡ pairwise p (drop i xs) (drop i ys)
  unfolding pairwise
  pairs_from_place i zero f g = sym (pairwise_end p xs ys i (omega arith) (omega arith))
  pairs_from_place i (suc n) f g =
      let h : i < length xs = omega arith in
      let k : i < length ys = omega arith in
      rw (drop-cons xs i d h, drop-cons ys i e k)
      (and_cases (p (get_or xs i d) (get_or ys i e)) _ _ (pairs_from_place (i + 1) n (omega arith) (omega arith) ∙ ap (λ (j : ℕ). pairwise p (drop j xs) (drop j ys)) (add-one i)))

  pub range_pairs : (n : ℕ) → n ≡ length xs → n ≡ length ys → list_all (λ (k : ℕ). p (get_or xs k d) (get_or ys k e)) (range_with_len 0 n) ≡ pairwise p xs ys
  range_pairs n f g = pairs_from_place 0 n (omega arith) (omega arith)

-- rows of a members, tested by their numbers
module _ (a : ℕ) (s : List ℕ) where
  -- the rows after row i
  past : (i : ℕ) → drop a (drop (i * a) s) ≡ drop ((i + 1) * a) s
  past i = let e : i * a + a ≡ (i + 1) * a = omega arith in drop-drop a (i * a) s ∙ rw e

  rows_from_row : (p : List ℕ → Bool) (i c : ℕ) → list_all (λ (k : ℕ). p (part s (k * a) a)) (range_with_len i c) ≡ all p (rows_of a c (drop (i * a) s))
  unfolding all rows_of
  rows_from_row p i zero = refl
  rows_from_row p i (suc c) = and_cases (p (part s (i * a) a)) _ _ (rows_from_row p (i + 1) c ∙ sym (ap (λ (t : List ℕ). all p (rows_of a c t)) (past i)))

  pub range_rows : (p : List ℕ → Bool) (c : ℕ) → list_all (λ (k : ℕ). p (part s (k * a) a)) (range_with_len 0 c) ≡ all p (rows_of a c s)
  range_rows p c = let e : 0 * a ≡ 0 = omega arith in rows_from_row p 0 c ∙ rw e

  -- each row and the one before it
  ascends_from : (i c : ℕ) → list_all (λ (k : ℕ). row_before (part s ((k - 1) * a) a) (part s (k * a) a)) (range_with_len (i + 1) c) ≡ ascending_from (part s (i * a) a) (rows_of a c (drop ((i + 1) * a) s))
  unfolding ascending_from rows_of
  ascends_from i zero = refl
  ascends_from i (suc c) =
      let e : i + 1 - 1 ≡ i = omega arith in
      rw e
      (and_cases (row_before (part s (i * a) a) (part s ((i + 1) * a) a)) _ _
      (ascends_from (i + 1) c ∙ sym (ap (λ (t : List ℕ). ascending_from (part s ((i + 1) * a) a) (rows_of a c t)) (past (i + 1)))))

  pub range_ascends : (c : ℕ) → list_all (λ (k : ℕ). row_before (part s ((k - 1) * a) a) (part s (k * a) a)) (range_with_len 1 (c - 1)) ≡ ascending (rows_of a c s)
  unfolding ascending rows_of
  range_ascends zero = refl
  range_ascends (suc c) =
      let e : suc c - 1 ≡ c = omega arith in
      let f : (0 + 1) * a ≡ a = omega arith in
      let g : 0 * a ≡ 0 = omega arith in
      rw e (ascends_from 0 c ∙ rw (f, g))

pub sum_by_sum : (xs : List ℕ) → sum_by (λ x. x) xs ≡ sum xs
unfolding sum
sum_by_sum xs = sym (is_sum_by sum (λ x. x) refl (λ _ _. refl) xs)
