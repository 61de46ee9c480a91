-- Buckets of rows: codes and buckets, the last row in a bucket, the walk through a bucket to the first row with given colours, and what putting a row in its bucket changes. Assumes nothing.
use Prim.Native.Nat.{ℕ, zero, suc, ◌+◌, ◌-◌, ◌*◌, ◌%◌, ◌<◌, ◌≤◌}
use mathlib.Core.Path.{◌≡◌, refl, sym, ◌∙◌, ap, ap₂, subst}
use mathlib.Core.Logic.{◌⊎◌, inl, inr, by_cases}
use mathlib.Core.Bool.{Bool, true, false, ◌&&◌}
use mathlib.Core.List.{List, [], ◌∷◌}
use native.Mathlib.Omega.{arith}
use native.Mathlib.Nat.{mul-le-mul_right, suc-mul}
use native.Mathlib.Numerals.{add-one}
use native.Mathlib.Decide.{ℕ_discrete, dec_le}
use borrow.Author.Tests.{eqb-true, eq-eqb, ne_eqb, le-leb, lt-leb}
use lib.Dec.{eqb}
use lib.ListN.{length, get_or, take, drop, set, length-set, length-map, get_or-map, drop_of_length-le}
use lib.Seq.{drop-cons, drop-drop, get_or-set_same, get_or-set_other, ext_get_or}
use Rattle.lists.specs.First.{first_at}
use Rattle.lists.specs.Order.{same_row}
use Rattle.lists.specs.Part.{rows_of}
use Rattle.lists.proofs.Laws.Tests.{split, clash, and_left, and_right, and_both}
use Rattle.lists.proofs.Laws.First.{first_at_passes, first_at_some}
use Rattle.lists.proofs.Laws.Counting.{same_class}
use Rattle.lists.proofs.Laws.Order.{same_row_lem, same_row_refl, same_row_sym, same_row_trans}
use Rattle.lists.proofs.Laws.Part.{length-rows_of, get_d_rows_of}
use Rattle.rounds.specs.Colours.{colour_at}
use Rattle.rounds.specs.Board.{board_room, count_start, link_start, start_start, colour_start, line_of, line_at, lines_on, code_from, code_of, buckets_for, bucket_of, bucket_at, is_first, last_in, cell_of, Bucketed, kept_line}
use Rattle.rounds.proofs.Laws.Board.{line_length, line_entry}

-- rows of some cells each
pub row_inside : (i n arity : ℕ) → i < n → i * arity + arity ≤ n * arity
row_inside i n arity h = omega (arith, mul-le-mul_right {m = suc i} {n = n} arity (omega (arith, h)), suc-mul i arity)

-- the lines of a relation
module _ (w : List ℕ) (base arity rows : ℕ) where
  pub lines_long : length (lines_on w base arity rows) ≡ rows
  lines_long = length-map (rows_of arity rows (drop base w)) (line_of (drop colour_start w)) ∙ length-rows_of arity rows (drop base w)

  pub line_there : (i : ℕ) → i < rows → get_or (lines_on w base arity rows) i [] ≡ line_at w (base + i * arity) arity
  line_there i h =
      get_or-map (line_of (drop colour_start w)) (rows_of arity rows (drop base w)) i []
      ∙ ap (line_of (drop colour_start w)) (get_d_rows_of arity rows (drop base w) i [] h ∙ ap (take arity) (drop-drop (i * arity) base w))

-- codes
pub code_over : (code : ℕ) (line : List ℕ) (j : ℕ) → length line ≤ j → code_from code (drop j line) ≡ code
unfolding code_from
code_over code line j h = ap (code_from code) (drop_of_length-le line {i = j} h)

pub code_next : (code : ℕ) (line : List ℕ) (j : ℕ) → j < length line → code_from code (drop j line) ≡ code_from ((code * 101 + get_or line j 0) % 4096) (drop (j + 1) line)
unfolding code_from
code_next code line j h = ap (code_from code) (drop-cons line j 0 h) ∙ ap (λ (n : ℕ). code_from ((code * 101 + get_or line j 0) % 4096) (drop n line)) (sym (add-one j))

pub code_two : (c d : ℕ) → (c % 4096 * 101 + d) % 4096 ≡ code_of (c ∷ d ∷ [])
unfolding code_from
code_two c d = let e : c ≡ 0 * 101 + c = omega arith in ap (λ (n : ℕ). (n % 4096 * 101 + d) % 4096) e

-- rows that differ at a place
pub row_differs : (xs ys : List ℕ) (j : ℕ) → (get_or xs j 0 ≡ get_or ys j 0 → ⊥) → false ≡ same_row xs ys
row_differs xs ys j n = by_test (split (same_row xs ys))
  where
    by_test : (same_row xs ys ≡ true) ⊎ (same_row xs ys ≡ false) → false ≡ same_row xs ys
    by_test (inl q) = absurd (n (ap (λ (l : List ℕ). get_or l j 0) (same_row_lem xs ys q)))
    by_test (inr q) = sym q

-- the first of some cells
pub known_first : (w : List ℕ) (p arity : ℕ) → 1 ≤ arity → ((n : ℕ) → n < arity → get_or w (p + n) 0 < 128) → get_or w p 0 < 128
known_first w p arity wide k = let e : p + 0 ≡ p = omega arith in subst (λ (n : ℕ). get_or w n 0 < 128) e (k 0 (omega (arith, wide)))

-- a row of two cells, the first of them p
module _ (w : List ℕ) (p : ℕ) (fits : p + 2 ≤ length w) where
  entry_first : get_or (line_at w p 2) 0 0 ≡ colour_at (drop colour_start w) (get_or w p 0)
  entry_first = let e : p + 0 ≡ p = omega arith in line_entry w p 2 fits 0 (omega arith) ∙ ap (λ (n : ℕ). colour_at (drop colour_start w) (get_or w n 0)) e

  entry_second : get_or (line_at w p 2) 1 0 ≡ colour_at (drop colour_start w) (get_or w (p + 1) 0)
  entry_second = line_entry w p 2 fits 1 (omega arith)

  module _ (x : ℕ) (first : x ≡ colour_at (drop colour_start w) (get_or w p 0)) where
    pub two_first : (c d : ℕ) → (x ≡ c → ⊥) → false ≡ same_row (c ∷ d ∷ []) (line_at w p 2)
    two_first c d n = row_differs (c ∷ d ∷ []) (line_at w p 2) 0 (λ q. n (first ∙ sym (q ∙ entry_first)))

    module _ (y : ℕ) (second : y ≡ colour_at (drop colour_start w) (get_or w (p + 1) 0)) where
      pub line_two : line_at w p 2 ≡ x ∷ y ∷ []
      line_two = ext_get_or 0 (line_at w p 2) (x ∷ y ∷ []) (line_length w p 2 fits) entry
        where
          entry : (i : ℕ) → i < length (line_at w p 2) → get_or (line_at w p 2) i 0 ≡ get_or (x ∷ y ∷ []) i 0
          entry zero l = entry_first ∙ sym first
          entry (suc zero) l = entry_second ∙ sym second
          entry (suc (suc i)) l = absurd (omega (arith, l, line_length w p 2 fits))

      pub two_second : (c d : ℕ) → (y ≡ d → ⊥) → false ≡ same_row (c ∷ d ∷ []) (line_at w p 2)
      two_second c d n = row_differs (c ∷ d ∷ []) (line_at w p 2) 1 (λ q. n (second ∙ sym (q ∙ entry_second)))

      pub two_both : (c d : ℕ) → x ≡ c → y ≡ d → true ≡ same_row (c ∷ d ∷ []) (line_at w p 2)
      two_both c d e f =
          sym (ap (same_row (c ∷ d ∷ [])) (line_two ∙ ap₂ (λ (m : ℕ) (n : ℕ). m ∷ n ∷ []) e f) ∙ same_row_refl (c ∷ d ∷ []))

-- buckets
module _ (rows code : ℕ) where
  pub buckets_few : rows ≤ 64 → buckets_for rows ≡ 64
  unfolding buckets_for
  buckets_few h = rw (le-leb rows 64 h, buckets_for) refl

  pub buckets_some : 64 < rows → rows ≤ 512 → buckets_for rows ≡ 512
  unfolding buckets_for
  buckets_some h k = rw (lt-leb rows 64 h, le-leb rows 512 k, buckets_for) refl

  pub buckets_many : 512 < rows → buckets_for rows ≡ 4096
  unfolding buckets_for
  buckets_many h = rw (lt-leb rows 64 (omega (arith, h)), lt-leb rows 512 h, buckets_for) refl

  pub bucket_few : rows ≤ 64 → bucket_of rows code ≡ code % 64
  unfolding bucket_of
  bucket_few h = rw (le-leb rows 64 h, bucket_of) refl

  pub bucket_some : 64 < rows → rows ≤ 512 → bucket_of rows code ≡ code % 512
  unfolding bucket_of
  bucket_some h k = rw (lt-leb rows 64 h, le-leb rows 512 k, bucket_of) refl

  pub bucket_many : 512 < rows → bucket_of rows code ≡ code % 4096
  unfolding bucket_of
  bucket_many h = rw (lt-leb rows 64 (omega (arith, h)), lt-leb rows 512 h, bucket_of) refl

  pub bucket_below : bucket_of rows code < buckets_for rows
  bucket_below =
      by_cases (dec_le rows 64)
      (λ h. omega (arith, bucket_few h, buckets_few h))
      (λ h.
      by_cases (dec_le rows 512)
      (λ k. omega (arith, bucket_some (omega (arith, h)) k, buckets_some (omega (arith, h)) k))
      (λ k. omega (arith, bucket_many (omega (arith, k)), buckets_many (omega (arith, k)))))

  pub bucket_is : bucket_of rows code ≡ code % buckets_for rows
  bucket_is =
      by_cases (dec_le rows 64)
      (λ h. rw (bucket_few h, buckets_few h) refl)
      (λ h.
      by_cases (dec_le rows 512)
      (λ k. rw (bucket_some (omega (arith, h)) k, buckets_some (omega (arith, h)) k) refl)
      (λ k. rw (bucket_many (omega (arith, k)), buckets_many (omega (arith, k))) refl))

  pub buckets_fit : buckets_for rows ≤ 4096
  buckets_fit =
      by_cases (dec_le rows 64)
      (λ h. omega (arith, buckets_few h))
      (λ h. by_cases (dec_le rows 512) (λ k. omega (arith, buckets_some (omega (arith, h)) k)) (λ k. omega (arith, buckets_many (omega (arith, k)))))

-- rows that are the first with their colours
module _ (lines : List (List ℕ)) (i : ℕ) where
  abbrev pub first_of : ℕ
  first_of = first_at (same_row (get_or lines i [])) lines

  pub first_is : is_first lines i ≡ true → first_of ≡ i
  unfolding is_first
  first_is e = eqb-true first_of i e

  pub is_first_lem : first_of ≡ i → is_first lines i ≡ true
  unfolding is_first
  is_first_lem e = eq-eqb first_of i e

  pub not_first : (first_of ≡ i → ⊥) → is_first lines i ≡ false
  unfolding is_first
  not_first n = ne_eqb first_of i n

  pub first_within : i < length lines → first_of ≤ i
  first_within h = first_at_some (same_row (get_or lines i [])) [] lines i h (same_row_refl (get_or lines i []))

-- rows with the same colours have the same first one
pub first_agree : (lines : List (List ℕ)) (i j : ℕ) → same_row (get_or lines i []) (get_or lines j []) ≡ true → first_of lines i ≡ first_of lines j
first_agree lines i j e = same_class same_row same_row_refl same_row_sym same_row_trans lines (get_or lines i []) (get_or lines j []) e

pub first_same : (lines : List (List ℕ)) (i : ℕ) → i < length lines → same_row (get_or lines i []) (get_or lines (first_of lines i) []) ≡ true
first_same lines i h = first_at_passes (same_row (get_or lines i [])) [] lines (omega (arith, h, first_within lines i h))

pub first_first : (lines : List (List ℕ)) (i : ℕ) → i < length lines → is_first lines (first_of lines i) ≡ true
first_first lines i h = is_first_lem lines (first_of lines i) (sym (first_agree lines i (first_of lines i) (first_same lines i h)))

-- the last row in a bucket
module _ (rows : ℕ) (lines : List (List ℕ)) (b : ℕ) where
  abbrev last : ℕ → ℕ
  last i = last_in rows lines b i

  pub last_zero : last 0 ≡ 0
  unfolding last_in
  last_zero = refl

  last_yes : (i : ℕ) → is_first lines i && eqb b (bucket_at rows lines i) ≡ true → last (suc i) ≡ suc i
  unfolding last_in
  last_yes i e = rw (e, last_in) refl

  last_no : (i : ℕ) → is_first lines i && eqb b (bucket_at rows lines i) ≡ false → last (suc i) ≡ last i
  unfolding last_in
  last_no i e = rw (e, last_in) refl

  pub last_here : (i : ℕ) → is_first lines i ≡ true → b ≡ bucket_at rows lines i → last (suc i) ≡ suc i
  last_here i e f = last_yes i (and_both (is_first lines i) (eqb b (bucket_at rows lines i)) e (eq-eqb _ _ f))

  pub last_later : (i : ℕ) → is_first lines i ≡ false → last (suc i) ≡ last i
  last_later i e = by_test (split (is_first lines i && eqb b (bucket_at rows lines i)))
    where
      by_test : (is_first lines i && eqb b (bucket_at rows lines i) ≡ true) ⊎ (is_first lines i && eqb b (bucket_at rows lines i) ≡ false) → last_in rows lines b (suc i) ≡ last_in rows lines b i
      by_test (inl q) = clash (and_left (is_first lines i) (eqb b (bucket_at rows lines i)) q) e
      by_test (inr q) = last_no i q

  pub last_other : (i : ℕ) → (b ≡ bucket_at rows lines i → ⊥) → last (suc i) ≡ last i
  last_other i n = by_test (split (is_first lines i && eqb b (bucket_at rows lines i)))
    where
      by_test : (is_first lines i && eqb b (bucket_at rows lines i) ≡ true) ⊎ (is_first lines i && eqb b (bucket_at rows lines i) ≡ false) → last_in rows lines b (suc i) ≡ last_in rows lines b i
      by_test (inl q) = absurd (n (eqb-true b (bucket_at rows lines i) (and_right (is_first lines i) (eqb b (bucket_at rows lines i)) q)))
      by_test (inr q) = last_no i q

  -- what is known of it
  pub record LastOf (i l : ℕ) : Type 0 where
    pub within : l ≤ i
    pub first : (j : ℕ) → l ≡ suc j → is_first lines j ≡ true
    pub bucket : (j : ℕ) → l ≡ suc j → b ≡ bucket_at rows lines j
    pub covers : (j : ℕ) → j < i → is_first lines j ≡ true → b ≡ bucket_at rows lines j → j < l

  last_of_yes : (i : ℕ) → LastOf i (last i) → is_first lines i && eqb b (bucket_at rows lines i) ≡ true → LastOf (suc i) (last (suc i))
  last_of_yes i k q = record {
    within = omega (arith, last_yes i q);
    first = λ j e. let s : j ≡ i = omega (arith, e, last_yes i q) in rw s (and_left (is_first lines i) (eqb b (bucket_at rows lines i)) q);
    bucket = λ j e. let s : j ≡ i = omega (arith, e, last_yes i q) in rw s (eqb-true b (bucket_at rows lines i) (and_right (is_first lines i) (eqb b (bucket_at rows lines i)) q));
    covers = λ j h e f. omega (arith, h, last_yes i q);
  }

  last_of_no : (i : ℕ) → LastOf i (last i) → is_first lines i && eqb b (bucket_at rows lines i) ≡ false → LastOf (suc i) (last (suc i))
  last_of_no i k q = record {
    within = omega (arith, last_no i q, k.within);
    first = λ j e. k.first j (sym (last_no i q) ∙ e);
    bucket = λ j e. k.bucket j (sym (last_no i q) ∙ e);
    covers =
        λ j h e f. by_cases (ℕ_discrete j i)
        (λ s. clash (and_both (is_first lines i) (eqb b (bucket_at rows lines i)) (rw s at e) (eq-eqb b _ (rw s at f))) q)
        (λ n. let l = k.covers j (omega (arith, h, n)) e f in omega (arith, l, last_no i q));
  }

  pub last_of : (i : ℕ) → LastOf i (last i)
  last_of zero = record {
    within = omega (arith, last_zero);
    first = λ j e. absurd (omega (arith, e, last_zero));
    bucket = λ j e. absurd (omega (arith, e, last_zero));
    covers = λ j h e f. absurd (omega (arith, h));
  }
  last_of (suc i) = by_test (split (is_first lines i && eqb b (bucket_at rows lines i))) (last_of i)
    where
      by_test : (is_first lines i && eqb b (bucket_at rows lines i) ≡ true) ⊎ (is_first lines i && eqb b (bucket_at rows lines i) ≡ false) → LastOf i (last i) → LastOf (suc i) (last (suc i))
      by_test (inl q) k = last_of_yes i k q
      by_test (inr q) k = last_of_no i k q

  -- no row has a bucket that is too high
  pub last_unused : buckets_for rows ≤ b → (i : ℕ) → last i ≡ 0
  last_unused h zero = last_zero
  last_unused h (suc i) = last_other i (λ e. omega (arith, e, h, bucket_below rows (code_of (get_or lines i [])))) ∙ last_unused h i

-- the first cell of a row, counted from 1
module _ (base arity : ℕ) where
  pub cell_none : cell_of base arity 0 ≡ 0
  unfolding cell_of
  cell_none = refl

  pub cell_some : (i : ℕ) → cell_of base arity (suc i) ≡ base + i * arity + 1
  unfolding cell_of
  cell_some i = refl

  -- it is some row's if it is not 0
  pub cell_row : (l : ℕ) → 0 < cell_of base arity l → (i : ℕ) × (l ≡ suc i)
  cell_row zero h = absurd (omega (arith, h, cell_none))
  cell_row (suc i) h = (i, refl)

  pub cell_over : (l : ℕ) → cell_of base arity l ≤ 0 → l ≡ 0
  cell_over zero h = refl
  cell_over (suc i) h = absurd (omega (arith, h, cell_some i))

  pub cell_fits : (l n : ℕ) → 1 ≤ arity → l ≤ n → cell_of base arity l ≤ base + n * arity
  cell_fits zero n w h = omega (arith, cell_none)
  cell_fits (suc i) n w h = omega (arith, cell_some i, row_inside i n arity (omega (arith, h)), w)

-- the walk through the bucket of a row whose first cell is p
pub record Sought (w : List ℕ) (base arity rows place p b : ℕ) : Type 0 where
  pub room : length w ≡ board_room
  pub wide : 1 ≤ arity
  pub fits : base + rows * arity ≤ 4096
  pub known : (n : ℕ) → n < base + rows * arity → get_or w n 0 < 128
  pub within : place < rows
  pub is_p : p ≡ base + place * arity
  pub is_b : b ≡ bucket_at rows (lines_on w base arity rows) place
  pub bucketed : Bucketed base arity rows (lines_on w base arity rows) w place

-- q leads to the last row in the bucket among the first k, and the first row with the colours is among these if it is before the row
pub record Walk (w : List ℕ) (base arity rows place p b q : ℕ) : Type 0 where
  pub given : Sought w base arity rows place p b
  pub k : ℕ
  pub early : k ≤ place
  pub leads : q ≡ cell_of base arity (last_in rows (lines_on w base arity rows) b k)
  pub ahead : first_of (lines_on w base arity rows) place < place → first_of (lines_on w base arity rows) place < k

module _ (w : List ℕ) (base arity rows place p b : ℕ) (s : Sought w base arity rows place p b) where
  abbrev lines : List (List ℕ)
  lines = lines_on w base arity rows

  pub bucket_small : b < 4096
  bucket_small = omega (arith, s.is_b, bucket_below rows (code_of (get_or lines place [])), buckets_fit rows 0)

  pub row_fits : p + arity ≤ 4096
  row_fits = omega (arith, s.is_p, s.fits, row_inside place rows arity s.within)

  pub row_known : (n : ℕ) → n < arity → get_or w (p + n) 0 < 128
  row_known n h = s.known (p + n) (omega (arith, h, s.is_p, row_inside place rows arity s.within))

  pub head_small : get_or w (count_start + b) 0 ≤ 4096
  head_small =
      omega (arith, s.bucketed.head b bucket_small, cell_fits base arity (last_in rows lines b place) rows s.wide (omega (arith, (last_of rows lines b place).within, s.within)), s.fits)

  pub walk_start : Walk w base arity rows place p b (get_or w (count_start + b) 0)
  walk_start = record { given = s; k = place; early = omega arith; leads = s.bucketed.head b bucket_small; ahead = λ h. h }

module _ (w : List ℕ) (base arity rows place p b q : ℕ) (walk : Walk w base arity rows place p b q) where
  abbrev the_lines : List (List ℕ)
  the_lines = lines_on w base arity rows

  abbrev target : ℕ
  target = first_of the_lines place

  placed : place < length the_lines
  placed = omega (arith, walk.given.within, lines_long w base arity rows)

  target_bucket : b ≡ bucket_at rows the_lines target
  target_bucket = walk.given.is_b ∙ ap (λ (l : List ℕ). bucket_of rows (code_of l)) (same_row_lem _ _ (first_same the_lines place placed))

  -- the row is in its bucket if it is before
  covered : target < place → target < last_in rows the_lines b walk.k
  covered h = (last_of rows the_lines b walk.k).covers target (walk.ahead h) (first_first the_lines place placed) target_bucket

  pub walk_over : q ≤ 0 → p ≡ base + target * arity
  walk_over h =
      let none : last_in rows the_lines b walk.k ≡ 0 = cell_over base arity _ (omega (arith, h, walk.leads)) in
      let e : place ≡ target = by_cases (dec_le place target) (λ l. omega (arith, l, first_within the_lines place placed)) (λ l. absurd (omega (arith, covered (omega (arith, l)), none))) in
      walk.given.is_p ∙ ap (λ (n : ℕ). base + n * arity) e

  module _ (h : 0 < q) where
    here : (j : ℕ) × (last_in rows the_lines b walk.k ≡ suc j)
    here = cell_row base arity (last_in rows the_lines b walk.k) (omega (arith, h, walk.leads))

    abbrev row : ℕ
    row = here.0

    last_is : LastOf rows the_lines b walk.k (last_in rows the_lines b walk.k)
    last_is = last_of rows the_lines b walk.k

    row_early : row < place
    row_early = omega (arith, here.1, last_is.within, walk.early)

    is_cell : q ≡ base + row * arity + 1
    is_cell = walk.leads ∙ ap (cell_of base arity) here.1 ∙ cell_some base arity row

    at_is : q - 1 ≡ base + row * arity
    at_is = omega (arith, is_cell)

    pub at_fits : q - 1 + arity ≤ 4096
    at_fits = omega (arith, at_is, walk.given.fits, row_inside row rows arity (omega (arith, row_early, walk.given.within)))

    pub at_known : (n : ℕ) → n < arity → get_or w (q - 1 + n) 0 < 128
    at_known n l = walk.given.known (q - 1 + n) (omega (arith, l, at_is, row_inside row rows arity (omega (arith, row_early, walk.given.within))))

    row_first : is_first the_lines row ≡ true
    row_first = last_is.first row here.1

    row_bucket : b ≡ bucket_at rows the_lines row
    row_bucket = last_is.bucket row here.1

    link_is : get_or w (link_start + (q - 1)) 0 ≡ cell_of base arity (last_in rows the_lines b row)
    link_is =
        ap (λ (n : ℕ). get_or w (link_start + n) 0) at_is ∙ walk.given.bucketed.link row row_early row_first
        ∙ ap (λ (c : ℕ). cell_of base arity (last_in rows the_lines c row)) (sym row_bucket)

    link_bound : get_or w (link_start + (q - 1)) 0 ≤ base + row * arity
    link_bound = omega (arith, link_is, cell_fits base arity (last_in rows the_lines b row) row walk.given.wide (last_of rows the_lines b row).within)

    pub walk_less : get_or w (link_start + (q - 1)) 0 < q
    walk_less = omega (arith, link_bound, is_cell)

    pub link_small : get_or w (link_start + (q - 1)) 0 ≤ 4096
    link_small = omega (arith, link_bound, at_is, at_fits)

    -- whether its colours are those of the row
    module _ (t : Bool) (e : t ≡ same_row (line_at w p arity) (line_at w (q - 1) arity)) where
      test : t ≡ same_row (get_or the_lines place []) (get_or the_lines row [])
      test =
          e
          ∙ ap₂ same_row
          (ap (λ (n : ℕ). line_at w n arity) walk.given.is_p ∙ sym (line_there w base arity rows place walk.given.within))
          (ap (λ (n : ℕ). line_at w n arity) at_is ∙ sym (line_there w base arity rows row (omega (arith, row_early, walk.given.within))))

      pub walk_found : t ≡ true → q - 1 ≡ base + target * arity
      walk_found y = at_is ∙ ap (λ (n : ℕ). base + n * arity) (sym (first_agree the_lines place row (sym test ∙ y) ∙ first_is the_lines row row_first))

      pub walk_more : t ≡ false → Walk w base arity rows place p b (get_or w (link_start + (q - 1)) 0)
      walk_more n = record { given = walk.given; k = row; early = omega (arith, row_early); leads = link_is; ahead = before }
        where
          apart : target ≡ row → ⊥
          apart q = clash (rw q at (first_same the_lines place placed)) (sym test ∙ n)

          before : target < place → target < row
          before l = omega (arith, covered l, here.1, apart)

-- what putting a row in its bucket changes
module _ (p first b : ℕ) (w : List ℕ) (room : length w ≡ board_room) (low : p < 4096) (small : b < 4096) where
  abbrev once : List ℕ
  once = set w (link_start + p) (get_or w (count_start + b) 0)

  abbrev twice : List ℕ
  twice = set once (count_start + b) (p + 1)

  pub kept_yes : first ≡ p → kept_line p first b w ≡ twice
  unfolding kept_line
  kept_yes e = rw (eq-eqb first p e, kept_line) refl

  pub kept_no : (first ≡ p → ⊥) → kept_line p first b w ≡ w
  unfolding kept_line
  kept_no n = rw (ne_eqb first p n, kept_line) refl

  twice_other : (i : ℕ) → (i ≡ link_start + p → ⊥) → (i ≡ count_start + b → ⊥) → get_or twice i 0 ≡ get_or w i 0
  twice_other i n m = get_or-set_other once (count_start + b) i (p + 1) 0 m ∙ get_or-set_other w (link_start + p) i (get_or w (count_start + b) 0) 0 n

  twice_link : get_or twice (link_start + p) 0 ≡ get_or w (count_start + b) 0
  twice_link =
      get_or-set_other once (count_start + b) (link_start + p) (p + 1) 0 (λ q. omega (arith, q, small))
      ∙ get_or-set_same w (link_start + p) (get_or w (count_start + b) 0) 0 (omega (arith, room, low))

  pub head_room : count_start + b < length once
  head_room = omega (arith, room, small, length-set w (link_start + p) (get_or w (count_start + b) 0))

  pub twice_length : length twice ≡ length w
  twice_length = length-set once (count_start + b) (p + 1) ∙ length-set w (link_start + p) (get_or w (count_start + b) 0)

  twice_head : get_or twice (count_start + b) 0 ≡ p + 1
  twice_head = get_or-set_same once (count_start + b) (p + 1) 0 head_room

  pub kept_length : length (kept_line p first b w) ≡ length w
  kept_length =
      by_cases (ℕ_discrete first p)
      (λ e. ap length (kept_yes e) ∙ twice_length)
      (λ n. ap length (kept_no n))

  kept_else : (i : ℕ) → (i ≡ link_start + p → ⊥) → (i ≡ count_start + b → ⊥) → get_or (kept_line p first b w) i 0 ≡ get_or w i 0
  kept_else i n m = by_cases (ℕ_discrete first p) (λ e. ap (λ (l : List ℕ). get_or l i 0) (kept_yes e) ∙ twice_other i n m) (λ e. ap (λ (l : List ℕ). get_or l i 0) (kept_no e))

  pub kept_below : (i : ℕ) → i < count_start → get_or (kept_line p first b w) i 0 ≡ get_or w i 0
  kept_below i h = kept_else i (λ q. omega (arith, q, h)) (λ q. omega (arith, q, h))

  pub kept_above : (i : ℕ) → start_start ≤ i → get_or (kept_line p first b w) i 0 ≡ get_or w i 0
  kept_above i h = kept_else i (λ q. omega (arith, q, h, low)) (λ q. omega (arith, q, h, small))

  -- row i is put in its bucket
  module _ (base arity rows i : ℕ) (lines : List (List ℕ)) (wide : 1 ≤ arity) (inside : i < length lines) (is_p : p ≡ base + i * arity) (is-first-cell : first ≡ base + first_of lines i * arity)
      (is_b : b ≡ bucket_at rows lines i) (k : Bucketed base arity rows lines w i) where
    apart : (j : ℕ) → j < i → base + j * arity ≡ p → ⊥
    apart j l q = omega (arith, q, is_p, row_inside j i arity l, wide)

    itself : first ≡ p → first_of lines i ≡ i
    itself e =
        by_cases (ℕ_discrete (first_of lines i) i)
        (λ q. q)
        (λ n. absurd (omega (arith, e, is_p, is-first-cell, wide, row_inside (first_of lines i) i arity (omega (arith, n, first_within lines i inside)))))

    one_later : (c : ℕ) → cell_of base arity (last_in rows lines c (i + 1)) ≡ cell_of base arity (last_in rows lines c (suc i))
    one_later c = ap (λ (n : ℕ). cell_of base arity (last_in rows lines c n)) (add-one i)

    head_yes : first ≡ p → (c : ℕ) → c < 4096 → get_or twice (count_start + c) 0 ≡ cell_of base arity (last_in rows lines c (i + 1))
    head_yes e c l =
        by_cases (ℕ_discrete c b)
        (λ q.
        ap (λ (n : ℕ). get_or twice (count_start + n) 0) q ∙ twice_head ∙ ap (λ (n : ℕ). n + 1) is_p
        ∙ sym (one_later c ∙ ap (cell_of base arity) (last_here rows lines c i (is_first_lem lines i (itself e)) (q ∙ is_b)) ∙ cell_some base arity i))
        (λ n.
        twice_other (count_start + c) (λ q. omega (arith, q, l)) (λ q. n (omega (arith, q))) ∙ k.head c l
        ∙ sym (one_later c ∙ ap (cell_of base arity) (last_other rows lines c i (λ q. n (q ∙ sym is_b)))))

    link_yes : (j : ℕ) → j < i + 1 → is_first lines j ≡ true → get_or twice (link_start + (base + j * arity)) 0 ≡ cell_of base arity (last_in rows lines (bucket_at rows lines j) j)
    link_yes j l f =
        by_cases (ℕ_discrete j i)
        (λ q.
        rw q
        (ap (λ (n : ℕ). get_or twice (link_start + n) 0) (sym is_p) ∙ twice_link ∙ k.head b small ∙ ap (λ (c : ℕ). cell_of base arity (last_in rows lines c i)) is_b))
        (λ n.
        let m : j < i = omega (arith, l, n) in
        twice_other (link_start + (base + j * arity)) (λ q. apart j m (omega (arith, q))) (λ q. omega (arith, q, small)) ∙ k.link j m f)

    later : (first ≡ p → ⊥) → is_first lines i ≡ false
    later n = not_first lines i (λ q. n (is-first-cell ∙ ap (λ (m : ℕ). base + m * arity) q ∙ sym is_p))

    link_no : (first ≡ p → ⊥) → (j : ℕ) → j < i + 1 → is_first lines j ≡ true → get_or w (link_start + (base + j * arity)) 0 ≡ cell_of base arity (last_in rows lines (bucket_at rows lines j) j)
    link_no n j l f = by_cases (ℕ_discrete j i) (λ q. clash (rw q at f) (later n)) (λ m. k.link j (omega (arith, l, m)) f)

    pub bucketed_more : Bucketed base arity rows lines (kept_line p first b w) (i + 1)
    bucketed_more =
        by_cases (ℕ_discrete first p)
        (λ e. subst (λ (l : List ℕ). Bucketed base arity rows lines l (i + 1)) (sym (kept_yes e)) (record { head = head_yes e; link = link_yes }))
        (λ n.
        subst
        (λ (l : List ℕ). Bucketed base arity rows lines l (i + 1))
        (sym (kept_no n))
        (record { head = λ c l. k.head c l ∙ sym (one_later c ∙ ap (cell_of base arity) (last_later rows lines c i (later n))); link = link_no n }))
