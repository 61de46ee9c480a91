-- The laws of rows as numbers: the number of a row is built from its front on and stays below 256 to the power of its length; rows of one length that
-- differ have different numbers, and the row that stands before has the lower one; so among rows that ascend a row is found by halving, and they are all
-- different. Assumes nothing.
use Prim.Native.Nat.{ℕ, zero, suc, ◌+◌, ◌-◌, ◌*◌, ◌/◌, ◌<◌, ◌≤◌}
use mathlib.Core.Path.{◌≡◌, refl, sym, ap, ap₂, ◌∙◌}
use mathlib.Core.Logic.{◌⊎◌, inl, inr, by_cases}
use mathlib.Core.Bool.{Bool, true, false}
use mathlib.Core.List.{List, [], ◌∷◌, ◌++◌}
use native.Mathlib.Omega.{arith}
use native.Mathlib.Nat.{suc-mul, add-mul}
use native.Mathlib.Numerals.{add-one}
use native.Mathlib.Decide.{ℕ_discrete, dec_le}
use borrow.Author.Tests.{eq-eqb, eqb-true, ltb-true}
use lib.Dec.{eqb}
use lib.ListN.{length, get_or, drop, drop_of_length-le, length-take, get_or-eq_default}
use lib.Seq.{drop-cons}
use Rattle.lists.specs.Every.{any}
use Rattle.lists.specs.First.{firsts}
use Rattle.lists.specs.Order.{same_row, row_before, ascending_from, ascending}
use Rattle.lists.proofs.Laws.Tests.{split, clash, same_test}
use Rattle.lists.proofs.Laws.Every.{any_none, any_yes, any_no, any_mem, get_d_mem, get_d_inside}
use Rattle.lists.proofs.Laws.Order.{same_row_lem, same_row_refl, same_either, before_none, before_equal, before_differ, ascending_none, ascending_cons, ascending_from_yes, ascending_from_no}
use Rattle.lists.proofs.Laws.Firsts.{firsts_new}
use Rattle.lists.specs.Part.{part, rows_of}
use Rattle.lists.proofs.Laws.Part.{length_part, get_d_part, part_ends, length-rows_of, get_d_rows_of, rows_of_more}
use Rattle.stored.specs.Limits.{max_arity}
use Rattle.rows.specs.Rows.{through, has_row}
use Rattle.rows.specs.Packed.{packed_onto, packed, has_number, Between}
use Rattle.rows.proofs.Laws.Rows.{length_through, get_d_through}

pub packed_end : (n : ℕ) → packed_onto n [] ≡ n
unfolding packed_onto
packed_end n = refl

pub packed_cons : (n x : ℕ) (row : List ℕ) → packed_onto n (x ∷ row) ≡ packed_onto (n * 256 + x) row
unfolding packed_onto
packed_cons n x row = refl

-- 256 to the power of a number of entries; of 8 it is what a number of 64 bits is below
abbrev power : ℕ → ℕ
power zero = 1
power (suc j) = power j * 256

power_grows : (j d : ℕ) → power j ≤ power (j + d)
power_grows j zero = let e : j + 0 ≡ j = omega arith in rw e (omega arith)
power_grows j (suc d) = let e : j + suc d ≡ suc (j + d) = omega arith in rw e (omega (arith, power_grows j d))

power_fits : (j : ℕ) → j < 8 → power j * 256 ≤ 18446744073709551616
power_fits j h = let e : suc j + (8 - suc j) ≡ 8 = omega arith in rw e at (power_grows (suc j) (8 - suc j))

-- a loop that builds the number of a row: of the first j entries it stands, and the others are still to follow
pub record PackedTo (row : List ℕ) (number j : ℕ) : Type 0 where
  pub short : length row ≤ max_arity
  pub small : number < power j
  pub same : packed_onto number (drop j row) ≡ packed row

pub packed_none : (row : List ℕ) → length row ≤ max_arity → PackedTo row 0 0
packed_none row h = record { short = h; small = omega arith; same = refl }

module _ {row : List ℕ} {number j : ℕ} (to : PackedTo row number j) where
  pub packed_all : length row ≤ j → number ≡ packed row
  packed_all h = sym (packed_end number) ∙ ap (packed_onto number) (sym (drop_of_length-le row h)) ∙ to.same

  module _ (h : j < length row) where
    pub packed_room : number * 256 + 255 < 18446744073709551616
    packed_room = omega (arith, to.small, power_fits j (omega (arith, to.short)))

    pub packed_more : (x : ℕ) → x < 256 → x ≡ get_or row j 0 → PackedTo row (number * 256 + x) (j + 1)
    packed_more x b e = record {
      short = to.short;
      small = rw (add-one j) (omega (arith, to.small));
      same = rw (add-one j) (sym (packed_cons number x (drop (suc j) row)) ∙ ap (packed_onto number) (ap (λ (y : ℕ). y ∷ drop (suc j) row) e ∙ sym (drop-cons row j 0 h)) ∙ to.same);
    }

-- a list of bytes
abbrev pub Bytes : List ℕ → Type 0
Bytes row = (i : ℕ) → get_or row i 0 < 256

-- what a table of bytes says of a row, and a part of a list of bytes
byte_at : (table : List ℕ) → Bytes table → (x : ℕ) → get_or table x 255 < 256
byte_at table b x =
    by_cases (dec_le (suc x) (length table))
    (λ h. rw (get_d_inside table x 255 0 h) (b x))
    (λ h. rw (get_or-eq_default table 255 {n = x} (omega arith)) (omega arith))

pub bytes_through : (table row : List ℕ) → Bytes table → Bytes (through table row)
bytes_through table row b i =
    by_cases (dec_le (suc i) (length row))
    (λ h. rw (get_d_through table row i 0 h) (byte_at table b (get_or row i 0)))
    (λ h. rw (get_or-eq_default (through table row) 0 {n = i} (omega (arith, length_through table row))) (omega arith))

pub bytes_part : (s : List ℕ) (b n : ℕ) → Bytes s → Bytes (part s b n)
bytes_part s b n known i =
    by_cases (dec_le (suc i) n)
    (λ h. rw (get_d_part s b n i 0 h) (known (b + i)))
    (λ h. rw (get_or-eq_default (part s b n) 0 {n = i} (omega (arith, length-take n (drop b s)))) (omega arith))

-- the higher of two numbers stays the higher, whatever follows
packed_less : (m n : ℕ) (xs ys : List ℕ) → length xs ≡ length ys → Bytes xs → m < n → packed_onto m xs < packed_onto n ys
packed_less m n [] [] l b h = rw (packed_end m, packed_end n) h
packed_less m n [] (y ∷ ys) l b h = absurd (omega arith)
packed_less m n (x ∷ xs) [] l b h = absurd (omega arith)
packed_less m n (x ∷ xs) (y ∷ ys) l b h = rw (packed_cons m x xs, packed_cons n y ys) (packed_less (m * 256 + x) (n * 256 + y) xs ys (omega arith) (λ i. b (suc i)) (omega (arith, b 0)))

-- the row that stands before has the lower number
pub packed_before : (n : ℕ) (xs ys : List ℕ) → length xs ≡ length ys → Bytes xs → row_before xs ys ≡ true → packed_onto n xs < packed_onto n ys
packed_before n [] [] l b h = clash h before_none
packed_before n [] (y ∷ ys) l b h = absurd (omega arith)
packed_before n (x ∷ xs) [] l b h = absurd (omega arith)
packed_before n (x ∷ xs) (y ∷ ys) l b h =
    by_cases (ℕ_discrete x y)
    (λ e. rw (packed_cons n x xs, packed_cons n y ys, e) (packed_before (n * 256 + y) xs ys (omega arith) (λ i. b (suc i)) (sym (before_equal x xs y ys e) ∙ h)))
    (λ d.
    let k : x < y = ltb-true x y (sym (before_differ x xs y ys d) ∙ h) in
    rw (packed_cons n x xs, packed_cons n y ys) (packed_less (n * 256 + x) (n * 256 + y) xs ys (omega arith) (λ i. b (suc i)) (omega arith)))

-- rows with one number are the same
pub packed_same : (n : ℕ) (xs ys : List ℕ) → length xs ≡ length ys → Bytes xs → Bytes ys → packed_onto n xs ≡ packed_onto n ys → xs ≡ ys
packed_same n [] [] l b d e = refl
packed_same n [] (y ∷ ys) l b d e = absurd (omega arith)
packed_same n (x ∷ xs) [] l b d e = absurd (omega arith)
packed_same n (x ∷ xs) (y ∷ ys) l b d e =
    by_cases (ℕ_discrete x y)
    (λ q. ap₂ ◌∷◌ q (packed_same (n * 256 + y) xs ys (omega arith) (λ i. b (suc i)) (λ i. d (suc i)) (ap (λ (z : ℕ). packed_onto (n * 256 + z) xs) (sym q) ∙ after)))
    (λ q.
    by_cases (dec_le x y)
    (λ h. let k = packed_less (n * 256 + x) (n * 256 + y) xs ys (omega arith) (λ i. b (suc i)) (omega arith) in absurd (omega (arith, after)))
    (λ h. let k = packed_less (n * 256 + y) (n * 256 + x) ys xs (omega arith) (λ i. d (suc i)) (omega arith) in absurd (omega (arith, after))))
  where
    after : packed_onto (n * 256 + x) xs ≡ packed_onto (n * 256 + y) ys
    after = sym (packed_cons n x xs) ∙ e ∙ packed_cons n y ys

-- where some row passes a test, one does at some place
any_place : (p : List ℕ → Bool) (rows : List (List ℕ)) → any p rows ≡ true → (i : ℕ) × (i < length rows) × (p (get_or rows i []) ≡ true)
any_place p [] h = clash h (any_none p)
any_place p (r ∷ rows) h = go (split (p r)) (any_place p rows)
  where
    go : (p r ≡ true) ⊎ (p r ≡ false) → (any p rows ≡ true → (i : ℕ) × (i < length rows) × (p (get_or rows i []) ≡ true)) → (i : ℕ) × (i < suc (length rows)) × (p (get_or (r ∷ rows) i []) ≡ true)
    go (inl t) ih = (0, omega arith, t)
    go (inr f) ih = let r = ih (sym (any_no p r rows f) ∙ h) in (suc r.0, omega (arith, r.1), r.2)

-- rows of a bytes each
abbrev pub Rows : ℕ → List (List ℕ) → Type 0
Rows a rows = (i : ℕ) → i < length rows → (length (get_or rows i []) ≡ a) × Bytes (get_or rows i [])

pub ascending_tail : (r : List ℕ) (rows : List (List ℕ)) → ascending (r ∷ rows) ≡ true → ascending rows ≡ true
ascending_tail r [] h = ascending_none
ascending_tail r (q ∷ rows) h = go (split (row_before r q))
  where
    go : (row_before r q ≡ true) ⊎ (row_before r q ≡ false) → ascending (q ∷ rows) ≡ true
    go (inl t) = ascending_cons q rows ∙ sym (ascending_from_yes r q rows t) ∙ sym (ascending_cons r (q ∷ rows)) ∙ h
    go (inr f) = clash (sym (ascending_cons r (q ∷ rows)) ∙ h) (ascending_from_no r q rows f)

-- the numbers of rows that ascend
module _ (a : ℕ) where
  rising_from : (r : List ℕ) (rows : List (List ℕ)) → Rows a (r ∷ rows) → ascending_from r rows ≡ true → (j : ℕ) → j < length rows → packed r < packed (get_or rows j [])
  rising_from r [] known h j l = absurd (omega arith)
  rising_from r (q ∷ rows) known h j l = go (split (row_before r q)) j l (rising_from q rows (λ i k. known (suc i) (omega arith)))
    where
      here : row_before r q ≡ true → packed r < packed q
      here t = packed_before 0 r q ((known 0 (omega arith)).0 ∙ sym (known 1 (omega arith)).0) (known 0 (omega arith)).1 t

      go : (row_before r q ≡ true) ⊎ (row_before r q ≡ false) → (j : ℕ) → j < length (q ∷ rows) → (ascending_from q rows ≡ true → (j : ℕ) → j < length rows → packed q < packed (get_or rows j [])) → packed r < packed (get_or (q ∷ rows) j [])
      go (inr f) j l ih = clash h (ascending_from_no r q rows f)
      go (inl t) zero l ih = here t
      go (inl t) (suc j) l ih = omega (arith, here t, ih (sym (ascending_from_yes r q rows t) ∙ h) j (omega arith))

  pub rising : (rows : List (List ℕ)) → Rows a rows → ascending rows ≡ true → (i j : ℕ) → i < j → j < length rows → packed (get_or rows i []) < packed (get_or rows j [])
  rising [] known h i j l k = absurd (omega arith)
  rising (r ∷ rows) known h i zero l k = absurd (omega arith)
  rising (r ∷ rows) known h zero (suc j) l k = rising_from r rows known (sym (ascending_cons r rows) ∙ h) j (omega arith)
  rising (r ∷ rows) known h (suc i) (suc j) l k = rising rows (λ n m. known (suc n) (omega arith)) (ascending_tail r rows h) i j (omega arith) (omega arith)

  -- among such rows a row is found by its number
  pub number_row : (row : List ℕ) → length row ≡ a → Bytes row → (rows : List (List ℕ)) → Rows a rows → has_number (packed row) rows ≡ has_row row rows
  unfolding has_number has_row
  number_row row l b [] known = any_none (λ (q : List ℕ). eqb (packed q) (packed row)) ∙ sym (any_none (same_row row))
  number_row row l b (q ∷ rows) known = go (split (same_row row q)) (number_row row l b rows (λ i k. known (suc i) (omega arith)))
    where
      same : eqb (packed q) (packed row) ≡ same_row row q
      same =
          same_test (eqb (packed q) (packed row)) (same_row row q)
          (λ e.
          let p = packed_same 0 row q (l ∙ sym (known 0 (omega arith)).0) b (known 0 (omega arith)).1 (sym (eqb-true _ _ e)) in
          rw p (same_row_refl q))
          (λ e. eq-eqb _ _ (ap packed (sym (same_row_lem row q e))))

      go : (same_row row q ≡ true) ⊎ (same_row row q ≡ false) → has_number (packed row) rows ≡ has_row row rows → has_number (packed row) (q ∷ rows) ≡ has_row row (q ∷ rows)
      go (inl e) ih = any_yes (λ (p : List ℕ). eqb (packed p) (packed row)) q rows (same ∙ e) ∙ sym (any_yes (same_row row) q rows e)
      go (inr e) ih = any_no (λ (p : List ℕ). eqb (packed p) (packed row)) q rows (same ∙ e) ∙ ih ∙ sym (any_no (same_row row) q rows e)

-- rows that stand one after the other in a list of bytes
pub row_ends : (i c a : ℕ) → i < c → i * a + a ≤ c * a
row_ends i c a h =
    let e : suc i + (c - suc i) ≡ c = omega arith in
    omega (arith, suc-mul i a, add-mul (suc i) (c - suc i) a, ap (λ (k : ℕ). k * a) e)

-- the number of the row of a number
abbrev pub number_at : List ℕ → ℕ → ℕ → ℕ
number_at s a i = packed (part s (i * a) a)

module _ (s : List ℕ) (a c : ℕ) (fits : c * a ≤ length s) (bytes : Bytes s) where
  pub rows_bytes : Rows a (rows_of a c s)
  rows_bytes i h =
      let k : i < c = omega (arith, length-rows_of a c s) in
      rw (get_d_rows_of a c s i [] k) (length_part s (i * a) a (omega (arith, row_ends i c a k)), bytes_part s (i * a) a bytes)

  pub numbers_rise : ascending (rows_of a c s) ≡ true → (i j : ℕ) → i < j → j < c → number_at s a i < number_at s a j
  numbers_rise h i j l k =
      let e = get_d_rows_of a c s i [] (omega arith) in
      let f = get_d_rows_of a c s j [] k in
      rw (e, f) at (rising a (rows_of a c s) rows_bytes h i j l (omega (arith, length-rows_of a c s)))

-- where no row may have the number, none has
pub number_none : (s : List ℕ) (a c from to number : ℕ) → Between number (rows_of a c s) from to → to ≤ from → false ≡ has_number number (rows_of a c s)
unfolding has_number
number_none s a c from to number between h = sym (go (split (any (λ (row : List ℕ). eqb (packed row) number) (rows_of a c s))))
  where
    seen : (i : ℕ) × (i < length (rows_of a c s)) × (eqb (packed (get_or (rows_of a c s) i [])) number ≡ true) → ⊥
    seen (i, l, e) = let k = between i l (eqb-true _ _ e) in omega (arith, k.0, k.1)

    go : (any (λ (row : List ℕ). eqb (packed row) number) (rows_of a c s) ≡ true) ⊎ (any (λ (row : List ℕ). eqb (packed row) number) (rows_of a c s) ≡ false) → any (λ (row : List ℕ). eqb (packed row) number) (rows_of a c s) ≡ false
    go (inl e) = absurd (seen (any_place (λ (row : List ℕ). eqb (packed row) number) (rows_of a c s) e))
    go (inr e) = e

-- Halving: of rows whose numbers rise, those from `first` on, `left` of them, hold every row that has the number looked for.
pub record Halved (s : List ℕ) (a c number first left : ℕ) : Type 0 where
  pub short : a ≤ max_arity
  pub fits : c * a ≤ length s
  pub ends : first + left ≤ c
  pub some : 0 < left
  pub rise : (i j : ℕ) → i < j → j < c → number_at s a i < number_at s a j
  pub inside : (k : ℕ) → k < c → number_at s a k ≡ number → (first ≤ k) × (k < first + left)

pub halved_none : (s : List ℕ) (a c from to number : ℕ) → a ≤ max_arity → c * a ≤ length s → Bytes s → ascending (rows_of a c s) ≡ true → to ≤ c → Between number (rows_of a c s) from to → from < to → Halved s a c number from (to - from)
halved_none s a c from to number short fits bytes h ends between some = record {
  short = short;
  fits = fits;
  ends = omega arith;
  some = omega arith;
  rise = numbers_rise s a c fits bytes h;
  inside = λ k l e. let b = between k (omega (arith, length-rows_of a c s)) (ap packed (get_d_rows_of a c s k [] l) ∙ e) in (b.0, omega (arith, b.0, b.1));
}

module _ {s : List ℕ} {a c number first left : ℕ} (by : Halved s a c number first left) where
  -- a row that lies in between stands in the list
  pub halved_fits : (i : ℕ) → i < first + left → i * a + a ≤ length s
  halved_fits i h = omega (arith, by.fits, row_ends i c a (omega (arith, by.ends)))

  pub halved_length : (i : ℕ) → i < first + left → length (part s (i * a) (i * a + a - i * a)) ≤ max_arity
  halved_length i h = rw (part_ends s (i * a) a, length_part s (i * a) a (halved_fits i h)) by.short

  module _ (more : 1 < left) where
    -- the upper half is left where the row in the middle is not past the number, else the lower
    pub halved_up : number_at s a (first + left / 2) ≤ number → Halved s a c number (first + left / 2) (left - left / 2)
    halved_up h = record {
      short = by.short;
      fits = by.fits;
      ends = omega (arith, by.ends);
      some = omega arith;
      rise = by.rise;
      inside = λ k l e. (
        by_cases (dec_le (first + left / 2) k) (λ q. q) (λ q. absurd (omega (arith, e, h, by.rise k (first + left / 2) (omega arith) (omega (arith, by.ends))))),
        omega (arith, (by.inside k l e).1),
      );
    }

    pub halved_down : number < number_at s a (first + left / 2) → Halved s a c number first (left - left / 2)
    halved_down h = record {
      short = by.short;
      fits = by.fits;
      ends = omega (arith, by.ends);
      some = omega arith;
      rise = by.rise;
      inside = λ k l e. (
        (by.inside k l e).0,
        by_cases (dec_le (suc k) (first + left / 2)) (λ q. omega arith) (λ q. absurd (by_cases (ℕ_discrete k (first + left / 2)) (λ z. omega (arith, e, h, ap (number_at s a) z)) (λ z. omega (arith, e, h, by.rise (first + left / 2) k (omega arith) l)))),
      );
    }

  -- where one row is left, it has the number or none has
  pub halved_all : left ≤ 1 → eqb (number_at s a first) number ≡ has_number number (rows_of a c s)
  unfolding has_number
  halved_all h =
      same_test (eqb (number_at s a first) number) (any (λ (row : List ℕ). eqb (packed row) number) (rows_of a c s))
      (λ e. any_mem (λ (row : List ℕ). eqb (packed row) number) (rows_of a c s) (get_or (rows_of a c s) first []) (get_d_mem (rows_of a c s) first [] (omega (arith, length-rows_of a c s, by.ends, by.some))) (rw there e))
      (λ e. found (any_place (λ (row : List ℕ). eqb (packed row) number) (rows_of a c s) e))
    where
      there : get_or (rows_of a c s) first [] ≡ part s (first * a) a
      there = get_d_rows_of a c s first [] (omega (arith, by.ends, by.some))

      found : (i : ℕ) × (i < length (rows_of a c s)) × (eqb (packed (get_or (rows_of a c s) i [])) number ≡ true) → eqb (number_at s a first) number ≡ true
      found (i, l, e) =
          let k : i < c = omega (arith, length-rows_of a c s) in
          let q : number_at s a i ≡ number = ap packed (sym (get_d_rows_of a c s i [] k)) ∙ eqb-true _ _ e in
          let z : first ≡ i = omega (arith, (by.inside i k q).0, (by.inside i k q).1) in
          eq-eqb _ _ (ap (number_at s a) z ∙ q)

-- rows whose numbers rise are all different: each is at its first appearance
module _ (s : List ℕ) (a n : ℕ) (rise : (i j : ℕ) → i < j → j < n → number_at s a i < number_at s a j) where
  new_row : (c : ℕ) → c < n → any (same_row (part s (c * a) a)) (rows_of a c s) ≡ false
  new_row c h = go (split (any (same_row (part s (c * a) a)) (rows_of a c s)))
    where
      seen : (i : ℕ) × (i < length (rows_of a c s)) × (same_row (part s (c * a) a) (get_or (rows_of a c s) i []) ≡ true) → ⊥
      seen (i, l, e) =
          let k : i < c = omega (arith, length-rows_of a c s) in
          let q = ap packed (same_row_lem _ _ e ∙ get_d_rows_of a c s i [] k) in
          omega (arith, q, rise i c k h)

      go : (any (same_row (part s (c * a) a)) (rows_of a c s) ≡ true) ⊎ (any (same_row (part s (c * a) a)) (rows_of a c s) ≡ false) → any (same_row (part s (c * a) a)) (rows_of a c s) ≡ false
      go (inl e) = absurd (seen (any_place (same_row (part s (c * a) a)) (rows_of a c s) e))
      go (inr e) = e

  pub rising_firsts : (c : ℕ) → c ≤ n → firsts same_row (rows_of a c s) ≡ rows_of a c s
  unfolding firsts rows_of
  rising_firsts zero h = refl
  rising_firsts (suc c) h =
      ap (firsts same_row) (rows_of_more a c s)
      ∙ firsts_new same_row same_either (rows_of a c s) (part s (c * a) a) (new_row c (omega arith))
      ∙ ap (λ (rows : List (List ℕ)). rows ++ part s (c * a) a ∷ []) (rising_firsts c (omega arith))
      ∙ sym (rows_of_more a c s)
