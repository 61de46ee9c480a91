-- The laws of `part` and `rows_of`. Assumes nothing.
use Prim.Native.Nat.{ℕ, zero, suc, ◌+◌, ◌-◌, ◌*◌, ◌<◌, ◌≤◌}
use mathlib.Core.Path.{◌≡◌, refl, sym, ap, ◌∙◌}
use mathlib.Core.Bool.{Bool, true, false}
use mathlib.Core.List.{List, [], ◌∷◌, ◌++◌}
use native.Mathlib.Omega.{arith}
use native.Mathlib.Nat.{suc-mul, mul-le-mul_right}
use lib.ListN.{length, get_or, take, drop, length-take, length-drop}
use lib.Seq.{drop-drop, take_all, take-take, take-nil, get_or-take, get_or-drop}
use Rattle.lists.specs.Every.{all, any}
use Rattle.lists.specs.Part.{part, rows_of}
use Rattle.lists.proofs.Laws.Every.{all_none, all_yes, all_no, any_none, any_yes, any_no}

-- a product with one row less
pub rows_less : (c a : ℕ) → 0 < c → c * a ≡ a + (c - 1) * a
rows_less zero a h = absurd (omega arith)
rows_less (suc c) a h = let e : suc c - 1 ≡ c = omega arith in rw e (omega (arith, suc-mul c a))

module _ {A : Type 0} where
  pub drop-take : (k n : ℕ) (s : List A) → drop k (take n s) ≡ take (n - k) (drop k s)
  drop-take zero n s = let e : n - 0 ≡ n = omega arith in rw e
  drop-take (suc k) zero s = let e : 0 - suc k ≡ 0 = omega arith in rw e
  drop-take (suc k) (suc n) [] = rw take-nil
  drop-take (suc k) (suc n) (x ∷ s) = let e : suc n - suc k ≡ n - k = omega arith in rw e (drop-take k n s)

-- the part of n members from b on
module _ {A : Type 0} (s : List A) (b n : ℕ) where
  pub length_part : b + n ≤ length s → length (part s b n) ≡ n
  length_part h = simp (length-take, length-drop) (omega arith)

  pub get_d_part : (i : ℕ) (d : A) → i < n → get_or (part s b n) i d ≡ get_or s (b + i) d
  get_d_part i d h = rw (get_or-take, get_or-drop)

  pub drop-part : (k : ℕ) → drop k (part s b n) ≡ part s (b + k) (n - k)
  drop-part k = drop-take k n (drop b s) ∙ ap (take (n - k)) (drop-drop k b s)

  pub take_part : (k : ℕ) → k ≤ n → take k (part s b n) ≡ part s b k
  take_part k h = take-take k n (drop b s) h

  -- handed on by its ends, as `&s[b..b + n]`
  pub part_ends : part s b (b + n - b) ≡ part s b n
  part_ends = let e : b + n - b ≡ n = omega arith in rw e

-- the rest from b on, as `&s[b..]`
module _ {A : Type 0} (s : List A) (b : ℕ) where
  pub part_rest : part s b (length s - b) ≡ drop b s
  part_rest = take_all (length s - b) (drop b s) (omega (arith, length-drop b s))

-- rows of a members
module _ {A : Type 0} (a : ℕ) where
  pub rows_of_none : (s : List A) → rows_of a 0 s ≡ []
  unfolding rows_of
  rows_of_none s = refl

  pub rows_of_cons : (c : ℕ) (s : List A) → rows_of a (suc c) s ≡ take a s ∷ rows_of a c (drop a s)
  unfolding rows_of
  rows_of_cons c s = refl

  pub length-rows_of : (c : ℕ) (s : List A) → length (rows_of a c s) ≡ c
  unfolding rows_of
  length-rows_of zero s = refl
  length-rows_of (suc c) s = ap suc (length-rows_of c (drop a s))

  -- nothing past the last row matters
  pub rows_of_front : (c n : ℕ) (s : List A) → c * a ≤ n → rows_of a c (take n s) ≡ rows_of a c s
  unfolding rows_of
  rows_of_front zero n s h = refl
  rows_of_front (suc c) n s h = rw (take-take a n s (omega (arith, suc-mul c a)), drop-take a n s, rows_of_front c (n - a) (drop a s) (omega (arith, suc-mul c a)))

  pub rows_of-take : (c : ℕ) (s : List A) → rows_of a c (take (c * a) s) ≡ rows_of a c s
  rows_of-take c s = rows_of_front c (c * a) s (omega arith)

  -- from an offset on, with so many rows left
  module _ (s : List A) (at left : ℕ) where
    pub rows_of_next : 0 < left → rows_of a left (drop at s) ≡ part s at a ∷ rows_of a (left - 1) (drop (at + a) s)
    rows_of_next h =
        let e : left ≡ suc (left - 1) = omega arith in
        ap (λ c. rows_of a c (drop at s)) e ∙ rows_of_cons (left - 1) (drop at s) ∙ ap (λ t. part s at a ∷ rows_of a (left - 1) t) (drop-drop a at s)

    pub rows_of_end : left ≤ 0 → rows_of a left (drop at s) ≡ []
    rows_of_end h = let e : left ≡ 0 = omega arith in rw e (rows_of_none (drop at s))

-- a test of every row, from an offset on with so many rows left
module _ {A : Type 0} (p : List A → Bool) (a : ℕ) (s : List A) (at left : ℕ) where
  pub rows_next : 0 < left → p (part s at a) ≡ true → all p (rows_of a left (drop at s)) ≡ all p (rows_of a (left - 1) (drop (at + a) s))
  rows_next h e = ap (all p) (rows_of_next a s at left h) ∙ all_yes p (part s at a) (rows_of a (left - 1) (drop (at + a) s)) e

  pub rows_stop : 0 < left → p (part s at a) ≡ false → all p (rows_of a left (drop at s)) ≡ false
  rows_stop h e = ap (all p) (rows_of_next a s at left h) ∙ all_no p (part s at a) (rows_of a (left - 1) (drop (at + a) s)) e

  pub rows_end : left ≤ 0 → all p (rows_of a left (drop at s)) ≡ true
  rows_end h = ap (all p) (rows_of_end a s at left h) ∙ all_none p

-- Loops over an offset that answer false at the first row that fails. What is known before each turn is one record: `left` of the c rows of a members
-- are left from the offset `at` on, they lie in s, and they pass as all rows do. A row is handed on by its ends, as `&s[at..at + a]`.
module _ {A : Type 0} where
  pub record RowsFrom (p : List A → Bool) (a c : ℕ) (s : List A) (left at : ℕ) : Type 0 where
    pub fits : at + left * a ≤ length s
    pub same : all p (rows_of a left (drop at s)) ≡ all p (rows_of a c s)

  pub rows_from_lem : (p : List A → Bool) (a c : ℕ) (s : List A) → c * a ≤ length s → RowsFrom p a c s c 0
  rows_from_lem p a c s h = record { fits = omega arith; same = refl }

  module _ {p : List A → Bool} {a c left at : ℕ} {s : List A} (from : RowsFrom p a c s left at) where
    pub rows_over : left ≤ 0 → true ≡ all p (rows_of a c s)
    rows_over h = sym (rows_end p a s at left h) ∙ from.same

    module _ (h : 0 < left) where
      pub row_fits : at + a ≤ length s
      row_fits = omega (arith, from.fits, rows_less left a h)

      pub row_length : length (part s at (at + a - at)) ≡ a
      row_length = rw (part_ends s at a) (length_part s at a row_fits)

      pub rows_passed : p (part s at (at + a - at)) ≡ true → RowsFrom p a c s (left - 1) (at + a)
      rows_passed t = record {
        fits = omega (arith, from.fits, rows_less left a h);
        same = sym (rows_next p a s at left h (sym (ap p (part_ends s at a)) ∙ t)) ∙ from.same;
      }

      pub rows_failed : p (part s at (at + a - at)) ≡ false → false ≡ all p (rows_of a c s)
      rows_failed f = sym (rows_stop p a s at left h (sym (ap p (part_ends s at a)) ∙ f)) ∙ from.same

-- the row of a number
pub get_d_rows_of : {A : Type 0} (a c : ℕ) (s : List A) (i : ℕ) (d : List A) → i < c → get_or (rows_of a c s) i d ≡ part s (i * a) a
unfolding rows_of
get_d_rows_of a zero s i d h = absurd (omega arith)
get_d_rows_of a (suc c) s zero d h = let e : 0 * a ≡ 0 = omega arith in rw e
get_d_rows_of a (suc c) s (suc i) d h =
    let e : a + i * a ≡ suc i * a = omega (arith, suc-mul i a) in
    get_d_rows_of a c (drop a s) i d (omega arith) ∙ ap (take a) (drop-drop (i * a) a s) ∙ ap (λ (k : ℕ). part s k a) e

-- its length
pub length-row : {A : Type 0} (a c : ℕ) (s : List A) (i : ℕ) (d : List A) → c * a ≤ length s → i < c → length (get_or (rows_of a c s) i d) ≡ a
unfolding rows_of
length-row a zero s i d fits h = absurd (omega arith)
length-row a (suc c) s zero d fits h = rw length-take (omega (arith, suc-mul c a))
length-row a (suc c) s (suc i) d fits h = length-row a c (drop a s) i d (omega (arith, length-drop a s, suc-mul c a)) (omega arith)

-- the first so many of them
pub rows_of-fewer : {A : Type 0} (a c i : ℕ) (s : List A) → c * a ≤ length s → i ≤ c → i * a ≤ length s
rows_of-fewer a c i s fits h = omega (arith, mul-le-mul_right a h)

-- Loops over an offset that answer true at the first row that passes. What is known before each turn is one record: `left` of the c rows of a members
-- are left from the offset `at` on, they lie in s, and one of them passes where one of all rows does. A row is handed on by its ends, as
-- `&s[at..at + a]`.
module _ {A : Type 0} where
  pub record SomeRow (p : List A → Bool) (a c : ℕ) (s : List A) (left at : ℕ) : Type 0 where
    pub fits : at + left * a ≤ length s
    pub same : any p (rows_of a left (drop at s)) ≡ any p (rows_of a c s)

  pub some_from : (p : List A → Bool) (a c : ℕ) (s : List A) → c * a ≤ length s → SomeRow p a c s c 0
  some_from p a c s h = record { fits = omega arith; same = refl }

  module _ {p : List A → Bool} {a c left at : ℕ} {s : List A} (from : SomeRow p a c s left at) where
    pub some_over : left ≤ 0 → false ≡ any p (rows_of a c s)
    some_over h = sym (ap (any p) (rows_of_end a s at left h) ∙ any_none p) ∙ from.same

    module _ (h : 0 < left) where
      pub some_fits : at + a ≤ length s
      some_fits = omega (arith, from.fits, rows_less left a h)

      here : any p (part s at (at + a - at) ∷ rows_of a (left - 1) (drop (at + a) s)) ≡ any p (rows_of a c s)
      here = ap (λ r. any p (r ∷ rows_of a (left - 1) (drop (at + a) s))) (part_ends s at a) ∙ sym (ap (any p) (rows_of_next a s at left h)) ∙ from.same

      pub some_found : p (part s at (at + a - at)) ≡ true → true ≡ any p (rows_of a c s)
      some_found t = sym (any_yes p _ _ t) ∙ here

      pub some_passed : p (part s at (at + a - at)) ≡ false → SomeRow p a c s (left - 1) (at + a)
      some_passed f = record {
        fits = omega (arith, from.fits, rows_less left a h);
        same = sym (any_no p _ _ f) ∙ here;
      }

-- one row more
pub rows_of_more : {A : Type 0} (a c : ℕ) (s : List A) → rows_of a (suc c) s ≡ rows_of a c s ++ part s (c * a) a ∷ []
unfolding rows_of
rows_of_more a zero s = let e : 0 * a ≡ 0 = omega arith in rw e
rows_of_more a (suc c) s =
    let e : a + c * a ≡ suc c * a = omega (arith, suc-mul c a) in
    ap (λ rows. take a s ∷ rows) (rows_of_more a c (drop a s))
    ∙ ap (λ r. take a s ∷ (rows_of a c (drop a s) ++ r ∷ [])) (ap (take a) (drop-drop (c * a) a s) ∙ ap (λ (k : ℕ). part s k a) e)
