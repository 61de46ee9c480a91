-- Numbers of cells, row by row: what stands on the board after some rows of a relation were numbered. Assumes nothing.
use Prim.Native.Nat.{ℕ, zero, suc, ◌+◌, ◌-◌, ◌*◌, ◌<◌, ◌≤◌}
use mathlib.Core.Path.{◌≡◌, refl, sym, ◌∙◌, ap, ap₂, subst}
use mathlib.Core.Logic.{by_cases}
use mathlib.Core.List.{List, [], ◌∷◌, ◌++◌, map}
use native.Mathlib.Omega.{arith}
use native.Mathlib.Nat.{suc-mul}
use native.Mathlib.Numerals.{add-one}
use native.Mathlib.Decide.{dec_le}
use lib.ListN.{length, get_or, drop, length-append, length-drop, get_or-append}
use lib.Seq.{get_or-append-add, get_or-drop, ext_get_or}
use Rattle.lists.specs.First.{first_at}
use Rattle.lists.specs.Numbers.{up_from}
use Rattle.lists.specs.Order.{same_row}
use Rattle.lists.specs.Part.{part, rows_of}
use Rattle.lists.proofs.Laws.Numbers.{length-up_from, get_d_up_from}
use Rattle.lists.proofs.Laws.Part.{length_part, get_d_part, rows_of-take}
use Rattle.rounds.specs.Colours.{colour_at}
use Rattle.rounds.specs.Board.{board_room, number_start, count_start, link_start, start_start, colour_start, flat, line_of, line_at, lines_on, code_from, code_of, buckets_for, bucket_of, bucket_at, cell_of, Bucketed, kept_line, row_numbers, row_numbers_at, cells_on, position_of, Listed, NumbersAt, Scattered, Bucketing, Empty}
use Rattle.rounds.proofs.Laws.Listed.{cells_around, listed_around, position_small}
use Rattle.rounds.proofs.Laws.Buckets.{line_two, row_inside, lines_long, line_there, bucket_below, buckets_fit, first_of, first_within, last_zero, last_unused, cell_none, Sought, kept_length, kept_below, kept_above, bucketed_more}

pub one_more : (i arity : ℕ) → (i + 1) * arity ≡ i * arity + arity
one_more i arity = ap (λ (n : ℕ). n * arity) (add-one i) ∙ omega (arith, suc-mul i arity)

-- boards with the same colours, and those with the same cells and colours: the lines are the same
module _ (w v : List ℕ) (long : length v ≡ length w) where
  pub colours_same : ((i : ℕ) → colour_start ≤ i → get_or v i 0 ≡ get_or w i 0) → drop colour_start v ≡ drop colour_start w
  colours_same h =
      ext_get_or 0 (drop colour_start v) (drop colour_start w) (length-drop colour_start v ∙ omega (arith, long, length-drop colour_start w))
      (λ i l. get_or-drop colour_start v i 0 ∙ h (colour_start + i) (omega arith) ∙ sym (get_or-drop colour_start w i 0))

  pub part_same : (p n : ℕ) → p + n ≤ 4096 → 4096 ≤ length w → ((i : ℕ) → i < 4096 → get_or v i 0 ≡ get_or w i 0) → part v p n ≡ part w p n
  part_same p n h room below =
      let a : length (part v p n) ≡ n = length_part v p n (omega (arith, h, room, long)) in
      let b : length (part w p n) ≡ n = length_part w p n (omega (arith, h, room)) in
      ext_get_or 0 (part v p n) (part w p n) (a ∙ sym b)
      (λ i l. let k : i < n = omega (arith, l, a) in get_d_part v p n i 0 k ∙ below (p + i) (omega (arith, k, h)) ∙ sym (get_d_part w p n i 0 k))

  pub lines_same :
      (base arity rows : ℕ) → base + rows * arity ≤ 4096 → 4096 ≤ length w → ((i : ℕ) → i < 4096 → get_or v i 0 ≡ get_or w i 0) → ((i : ℕ) → colour_start ≤ i → get_or v i 0 ≡ get_or w i 0)
      → lines_on v base arity rows ≡ lines_on w base arity rows
  lines_same base arity rows h room below above =
      ap₂ (λ (colours : List ℕ) (rs : List (List ℕ)). map (line_of colours) rs) (colours_same above)
      (sym (rows_of-take arity rows (drop base v)) ∙ ap (rows_of arity rows) (part_same base (rows * arity) h room below) ∙ rows_of-take arity rows (drop base w))

-- the numbers of a relation's cells
module _ (base arity : ℕ) (every : List (List ℕ)) where
  abbrev numbers_of : List (List ℕ) → List ℕ
  numbers_of lines = flat (map (row_numbers base arity every) lines)

  row_long : (line : List ℕ) → length (row_numbers base arity every line) ≡ arity
  unfolding row_numbers
  row_long line = length-up_from _ arity

  numbers_many : (lines : List (List ℕ)) → length (numbers_of lines) ≡ length lines * arity
  unfolding flat
  numbers_many [] = omega arith
  numbers_many (line ∷ lines) =
      omega (arith, length-append (row_numbers base arity every line) (numbers_of lines), row_long line, numbers_many lines, suc-mul (length lines) arity)

  row_entry : (line : List ℕ) (j : ℕ) → j < arity → get_or (row_numbers base arity every line) j 0 ≡ base + first_at (same_row line) every * arity + j
  unfolding row_numbers
  row_entry line j h = get_d_up_from (base + first_at (same_row line) every * arity) arity j 0 h

  numbers_at : (lines : List (List ℕ)) (i j : ℕ) → i < length lines → j < arity → get_or (numbers_of lines) (i * arity + j) 0 ≡ base + first_at (same_row (get_or lines i [])) every * arity + j
  unfolding flat
  numbers_at [] i j h k = absurd (omega (arith, h))
  numbers_at (line ∷ lines) zero j h k =
      let e : 0 * arity + j ≡ j = omega arith in
      ap (λ (n : ℕ). get_or (row_numbers base arity every line ++ numbers_of lines) n 0) e
      ∙ get_or-append (row_numbers base arity every line) (numbers_of lines) 0 j (omega (arith, k, row_long line))
      ∙ row_entry line j k
  numbers_at (line ∷ lines) (suc i) j h k =
      let e : suc i * arity + j ≡ length (row_numbers base arity every line) + (i * arity + j) = omega (arith, suc-mul i arity, row_long line) in
      ap (λ (n : ℕ). get_or (row_numbers base arity every line ++ numbers_of lines) n 0) e
      ∙ get_or-append-add (row_numbers base arity every line) (numbers_of lines) (i * arity + j) 0
      ∙ numbers_at lines i j (omega (arith, h)) k

module _ (base arity rows : ℕ) (w : List ℕ) where
  pub numbers_long : length (row_numbers_at base arity rows w) ≡ rows * arity
  unfolding row_numbers_at
  numbers_long = numbers_many base arity (lines_on w base arity rows) (lines_on w base arity rows) ∙ ap (λ (n : ℕ). n * arity) (lines_long w base arity rows)

  numbers_entry : (i j : ℕ) → i < rows → j < arity → get_or (row_numbers_at base arity rows w) (i * arity + j) 0 ≡ base + first_of (lines_on w base arity rows) i * arity + j
  unfolding row_numbers_at
  numbers_entry i j h k = numbers_at base arity (lines_on w base arity rows) (lines_on w base arity rows) i j (omega (arith, h, lines_long w base arity rows)) k

-- of one relation, whose first cell is `base`, on a board: the cells of the first i rows are numbered, and these rows stand in their buckets; row i starts at `at`
pub record NumberedTo (cells base arity rows : ℕ) (old w : List ℕ) (at i : ℕ) : Type 0 where
  pub listed : Listed cells old
  pub fits : base + rows * arity ≤ cells
  pub wide : 1 ≤ arity
  pub empty : Empty count_start old
  pub within : i ≤ rows
  pub is_at : at ≡ base + i * arity
  pub length_kept : length w ≡ length old
  pub below : (n : ℕ) → n < number_start → get_or w n 0 ≡ get_or old n 0
  pub above : (n : ℕ) → start_start ≤ n → get_or w n 0 ≡ get_or old n 0
  pub numbers_kept : (c : ℕ) → c < base → get_or w (number_start + position_of (cells_on cells old) c) 0 ≡ get_or old (number_start + position_of (cells_on cells old) c) 0
  pub bucketed : Bucketed base arity rows (lines_on old base arity rows) w i
  pub numbers : (n : ℕ) → n < i * arity → get_or w (number_start + position_of (cells_on cells old) (base + n)) 0 ≡ get_or (row_numbers_at base arity rows old) n 0

pub numbered_none : (cells base arity rows : ℕ) (old : List ℕ) → Listed cells old → base + rows * arity ≤ cells → 1 ≤ arity → Empty count_start old → NumberedTo cells base arity rows old old base 0
numbered_none cells base arity rows old l f wide e = record {
  listed = l;
  fits = f;
  wide = wide;
  empty = e;
  within = omega arith;
  is_at = omega arith;
  length_kept = refl;
  below = λ n h. refl;
  above = λ n h. refl;
  numbers_kept = λ c h. refl;
  bucketed = record {
    head = λ b h. e b h ∙ sym (ap (cell_of base arity) (last_zero rows (lines_on old base arity rows) b) ∙ cell_none base arity);
    link = λ j h. absurd (omega (arith, h));
  };
  numbers = λ n h. absurd (omega (arith, h));
}

module _ (cells base arity rows : ℕ) (old w : List ℕ) (at i : ℕ) (n : NumberedTo cells base arity rows old w at i) where
  abbrev lines : List (List ℕ)
  lines = lines_on old base arity rows

  few : base + rows * arity ≤ 4096
  few = omega (arith, n.fits, n.listed.few)

  same_lines : lines_on w base arity rows ≡ lines
  same_lines =
      lines_same old w n.length_kept base arity rows few (omega (arith, n.listed.room)) (λ x h. n.below x (omega (arith, h))) (λ x h. n.above x (omega (arith, h)))

  same_cells : cells_on cells w ≡ cells_on cells old
  same_cells = cells_around cells old w n.listed n.length_kept n.below (λ x a b. n.above x a)

  pub room_now : length w ≡ board_room
  room_now = n.length_kept ∙ n.listed.room

  known_now : (m : ℕ) → m < base + rows * arity → get_or w m 0 < 128
  known_now m h = omega (arith, n.below m (omega (arith, h, few)), n.listed.known m (omega (arith, h, n.fits)))

  pub numbered_all : rows ≤ i → NumbersAt cells base (row_numbers_at base arity rows old) w
  numbered_all h j l =
      let e : i ≡ rows = omega (arith, h, n.within) in
      let e' : i * arity ≡ rows * arity = ap (λ (m : ℕ). m * arity) e in
      ap (λ (es : List ℕ). get_or w (number_start + position_of es (base + j)) 0) same_cells ∙ n.numbers j (omega (arith, l, numbers_long base arity rows old, e'))

  unused : (b : ℕ) → buckets_for rows ≤ b → b < 4096 → get_or w (count_start + b) 0 ≡ get_or old (count_start + b) 0
  unused b h l = n.bucketed.head b l ∙ ap (cell_of base arity) (last_unused rows lines b h i) ∙ cell_none base arity ∙ sym (n.empty b l)

  pub numbered_kept : Bucketing cells base (buckets_for rows) old w
  numbered_kept = record {
    length_kept = n.length_kept;
    below = n.below;
    counts_kept =
        λ x h l. let e : count_start + (x - count_start) ≡ x = omega (arith, h) in
        rw e at (unused (x - count_start) (omega (arith, h)) (omega (arith, h, l)));
    above = n.above;
    numbers_kept = n.numbers_kept;
  }

  module _ (h : i < rows) where
    pub row_room : at + arity ≤ cells
    row_room = omega (arith, n.is_at, n.fits, row_inside i rows arity h)

    pub line_low : at + arity ≤ 4096
    line_low = omega (arith, row_room, n.listed.few)

    pub line_room_lem : at + arity ≤ length w
    line_room_lem = omega (arith, line_low, room_now)

    pub line_known : (m : ℕ) → m < arity → get_or w (at + m) 0 < 128
    line_known m l = known_now (at + m) (omega (arith, l, n.is_at, row_inside i rows arity h))

    -- the bucket of the row
    module _ (code b : ℕ) (is_code : code ≡ code_of (line_at w at arity)) (is_b : b ≡ bucket_of rows code) where
      bucket_is : b ≡ bucket_at rows (lines_on w base arity rows) i
      bucket_is =
          is_b ∙ ap (bucket_of rows) is_code
          ∙ ap (λ (line : List ℕ). bucket_of rows (code_of line)) (ap (λ (p : ℕ). line_at w p arity) n.is_at ∙ sym (line_there w base arity rows i h))

      pub row_sought : Sought w base arity rows i at b
      row_sought = record {
        room = room_now;
        wide = n.wide;
        fits = few;
        known = known_now;
        within = h;
        is_p = n.is_at;
        is_b = bucket_is;
        bucketed = subst (λ (ls : List (List ℕ)). Bucketed base arity rows ls w i) (sym same_lines) n.bucketed;
      }

      pub row_bucket : b < 4096
      row_bucket = omega (arith, is_b, bucket_below rows code, buckets_fit rows 0)

      pub row_low : at < 4096
      row_low = omega (arith, row_room, n.listed.few, n.wide)

      -- the first row with its colours
      module _ (first : ℕ) (found : first ≡ base + first_of (lines_on w base arity rows) i * arity) where
        first_is : first ≡ base + first_of lines i * arity
        first_is = found ∙ ap (λ (ls : List (List ℕ)). base + first_of ls i * arity) same_lines

        pub first_small : first + arity ≤ 4096
        first_small =
            omega (arith, first_is, few, row_inside (first_of lines i) rows arity (omega (arith, h, first_within lines i (omega (arith, h, lines_long old base arity rows)))))

        -- it is put in its bucket
        module _ (w₁ : List ℕ) (is₁ : w₁ ≡ kept_line at first b w) where
          pub long₁ : length w₁ ≡ length old
          long₁ = ap length is₁ ∙ kept_length at first b w room_now row_low row_bucket ∙ n.length_kept

          below₁ : (x : ℕ) → x < count_start → get_or w₁ x 0 ≡ get_or w x 0
          below₁ x l = ap (λ (t : List ℕ). get_or t x 0) is₁ ∙ kept_below at first b w room_now row_low row_bucket x l

          above₁ : (x : ℕ) → start_start ≤ x → get_or w₁ x 0 ≡ get_or w x 0
          above₁ x l = ap (λ (t : List ℕ). get_or t x 0) is₁ ∙ kept_above at first b w room_now row_low row_bucket x l

          cells₁ : cells_on cells w₁ ≡ cells_on cells old
          cells₁ = cells_around cells old w₁ n.listed long₁ (λ x l. below₁ x (omega (arith, l)) ∙ n.below x l) (λ x l m. above₁ x l ∙ n.above x l)

          pub listed₁ : Listed cells w₁
          listed₁ = listed_around cells old w₁ n.listed long₁ (λ x l. below₁ x (omega (arith, l)) ∙ n.below x l) (λ x l m. above₁ x l ∙ n.above x l)

          bucketed₁ : Bucketed base arity rows lines w₁ (i + 1)
          bucketed₁ =
              subst
              (λ (t : List ℕ). Bucketed base arity rows lines t (i + 1))
              (sym is₁)
              (bucketed_more at first b w room_now row_low row_bucket base arity rows i lines n.wide (omega (arith, h, lines_long old base arity rows)) n.is_at first_is (rw same_lines at bucket_is) n.bucketed)

          -- its cells are numbered
          module _ (w₂ : List ℕ) (written : NumbersAt cells at (up_from first arity) w₂) (s : Scattered cells at w₁ w₂) where
            cells₂ : cells_on cells w₂ ≡ cells_on cells old
            cells₂ = cells_around cells w₁ w₂ listed₁ s.length_kept s.below (λ x l m. s.above x (omega (arith, l))) ∙ cells₁

            -- a number of an earlier cell
            earlier : (c : ℕ) → c < at → get_or w₂ (number_start + position_of (cells_on cells old) c) 0 ≡ get_or w (number_start + position_of (cells_on cells old) c) 0
            earlier c l =
                ap (λ (es : List ℕ). get_or w₂ (number_start + position_of es c) 0) (sym cells₁) ∙ s.numbers_kept c l
                ∙ ap (λ (es : List ℕ). get_or w₁ (number_start + position_of es c) 0) cells₁
                ∙ below₁ (number_start + position_of (cells_on cells old) c) (omega (arith, position_small cells old n.listed c (omega (arith, l, row_room)), n.listed.few))

            here : (j : ℕ) → j < arity → get_or w₂ (number_start + position_of (cells_on cells old) (at + j)) 0 ≡ first + j
            here j l =
                ap (λ (es : List ℕ). get_or w₂ (number_start + position_of es (at + j)) 0) (sym cells₂)
                ∙ written j (omega (arith, l, length-up_from first arity))
                ∙ get_d_up_from first arity j 0 l

            numbers₂ : (m : ℕ) → m < (i + 1) * arity → get_or w₂ (number_start + position_of (cells_on cells old) (base + m)) 0 ≡ get_or (row_numbers_at base arity rows old) m 0
            numbers₂ m l =
                by_cases (dec_le (suc m) (i * arity))
                (λ k. earlier (base + m) (omega (arith, k, n.is_at)) ∙ n.numbers m (omega (arith, k)))
                (λ k.
                let j = m - i * arity in
                let d : j < arity = omega (arith, k, l, next_row) in
                let e : at + j ≡ base + m = omega (arith, k, n.is_at) in
                let f : i * arity + j ≡ m = omega (arith, k) in
                ap (λ (c : ℕ). get_or w₂ (number_start + position_of (cells_on cells old) c) 0) (sym e)
                ∙ here j d
                ∙ ap (λ (c : ℕ). c + j) first_is
                ∙ sym (numbers_entry base arity rows old i j h d)
                ∙ ap (λ (c : ℕ). get_or (row_numbers_at base arity rows old) c 0) f)
              where
                next_row : (i + 1) * arity ≡ i * arity + arity
                next_row = one_more i arity

            pub numbered_more : NumberedTo cells base arity rows old w₂ (at + arity) (i + 1)
            numbered_more = record {
              listed = n.listed;
              fits = n.fits;
              wide = n.wide;
              empty = n.empty;
              within = omega (arith, h);
              is_at = omega (arith, n.is_at, one_more i arity);
              length_kept = s.length_kept ∙ long₁;
              below = λ x l. s.below x l ∙ below₁ x (omega (arith, l)) ∙ n.below x l;
              above = λ x l. s.above x (omega (arith, l)) ∙ above₁ x l ∙ n.above x l;
              numbers_kept = λ c l. earlier c (omega (arith, l, n.is_at)) ∙ n.numbers_kept c l;
              bucketed = record {
                head = λ c l. s.above (count_start + c) (omega arith) ∙ bucketed₁.head c l;
                link = λ j l f. s.above (link_start + (base + j * arity)) (omega arith) ∙ bucketed₁.link j l f;
              };
              numbers = numbers₂;
            }

-- a row of two cells, of the colours c and d
module _ (cells base rows : ℕ) (old w : List ℕ) (at i : ℕ) (n : NumberedTo cells base 2 rows old w at i) (h : i < rows) (c d b : ℕ)
    (first-colour : c ≡ colour_at (drop colour_start w) (get_or w at 0)) (second-colour : d ≡ colour_at (drop colour_start w) (get_or w (at + 1) 0)) (is_b : b ≡ bucket_of rows (code_of (c ∷ d ∷ []))) where
  two_line : line_at w at 2 ≡ c ∷ d ∷ []
  two_line = line_two w at (line_room_lem cells base 2 rows old w at i n h) c first-colour d second-colour

  two_is : code_of (c ∷ d ∷ []) ≡ code_of (line_at w at 2)
  two_is = ap (code_from 0) (sym two_line)

  abbrev sought : Sought w base 2 rows i at b
  sought = row_sought cells base 2 rows old w at i n h (code_of (c ∷ d ∷ [])) b two_is is_b

  pub two_sought :
      (length w ≡ board_room) × (base + rows * 2 ≤ 4096) × ((m : ℕ) → m < base + rows * 2 → get_or w m 0 < 128) × (i < rows) × (at ≡ base + i * 2) × (line_at w at 2 ≡ c ∷ d ∷ [])
      × (b ≡ bucket_at rows (lines_on w base 2 rows) i) × Bucketed base 2 rows (lines_on w base 2 rows) w i
  two_sought = (sought.room, sought.fits, sought.known, sought.within, sought.is_p, two_line, sought.is_b, sought.bucketed)

  pub two_kept : (length w ≡ board_room) × (at < 4096) × (b < 4096)
  two_kept = (
    room_now cells base 2 rows old w at i n,
    row_low cells base 2 rows old w at i n h (code_of (c ∷ d ∷ [])) b two_is is_b,
    row_bucket cells base 2 rows old w at i n h (code_of (c ∷ d ∷ [])) b two_is is_b,
  )

  module _ (first : ℕ) (found : first ≡ base + first_of (lines_on w base 2 rows) i * 2) (w₁ : List ℕ) (is₁ : w₁ ≡ kept_line at first b w) where
    pub two_written : Listed cells w₁ × (at + 2 ≤ cells) × (first + 2 ≤ 4096)
    two_written = (
      listed₁ cells base 2 rows old w at i n h (code_of (c ∷ d ∷ [])) b two_is is_b first found w₁ is₁,
      row_room cells base 2 rows old w at i n h,
      first_small cells base 2 rows old w at i n h (code_of (c ∷ d ∷ [])) b two_is is_b first found,
    )

    pub two_more : (w₂ : List ℕ) → NumbersAt cells at (up_from first 2) w₂ × Scattered cells at w₁ w₂ → NumberedTo cells base 2 rows old w₂ (at + 2) (i + 1)
    two_more w₂ s = numbered_more cells base 2 rows old w at i n h (code_of (c ∷ d ∷ [])) b two_is is_b first found w₁ is₁ w₂ s.0 s.1
