-- Numbers of cells, relation by relation: what stands on the board after some relations were numbered. Assumes nothing.
use Prim.Native.Nat.{ℕ, suc, ◌+◌, ◌-◌, ◌*◌, ◌<◌, ◌≤◌}
use mathlib.Core.Path.{◌≡◌, refl, sym, ◌∙◌, ap, ap₂}
use mathlib.Core.Logic.{by_cases}
use mathlib.Core.List.Memᴰ
use mathlib.Core.List.{List, [], ◌∷◌, ◌++◌, map}
use native.Mathlib.Omega.{arith}
use native.Mathlib.Numerals.{add-one}
use native.Mathlib.Decide.{dec_le}
use lib.ListN.{length, get_or, take, drop, length-append, length-map, length-drop, get_or-append}
use lib.Seq.{take_at, drop_at, take-take, drop-drop, get_or-drop}
use Rattle.lists.specs.Part.{part, rows_of}
use Rattle.lists.proofs.Laws.Part.{drop-take, rows_of_none, rows_of_cons, rows_of-take}
use Rattle.stored.specs.Model.{Rel, Model, relation_at}
use Rattle.rounds.specs.Board.{number_start, count_start, flat, raised, joined_at, joined_from, cells_of, cells_on, colours_on, line_of, row_numbers, relation_numbers, numbers_from, row_numbers_at, position_of, Listed, NumbersAt, Renumbered, Empty}
use Rattle.rounds.proofs.Laws.Cells.{length_flat}
use Rattle.rounds.proofs.Laws.Listed.{cells_around, listed_around}
use Rattle.rounds.proofs.Laws.Numbers.{colours_same, part_same, numbers_long}
use Rattle.rounds.proofs.Laws.Places.{EvenRows, Even}

-- rows of one length, one after the other, cut into rows again
pub rows_of_flat : (a : ℕ) (rows : List (List ℕ)) → EvenRows a rows → rows_of a (length rows) (flat rows) ≡ rows
unfolding flat
rows_of_flat a [] even = rows_of_none a []
rows_of_flat a (row ∷ rows) even =
    let long : length row ≡ a = even row (Memᴰ.head refl) in
    rows_of_cons a (length rows) (row ++ flat rows)
    ∙ ap₂ (λ (r : List ℕ) (rest : List ℕ). r ∷ rows_of a (length rows) rest) (take_at row (flat rows) a long) (drop_at row (flat rows) a long)
    ∙ ap (λ (rs : List (List ℕ)). row ∷ rs) (rows_of_flat a rows (λ q m. even q (Memᴰ.tail m)))

-- the relations of both models from k on
module _ (a b : Model) (n k : ℕ) where
  pub joined_next : k < n → joined_from (n - k) a b k ≡ joined_at a b k ∷ joined_from (n - (k + 1)) a b (k + 1)
  unfolding joined_from
  joined_next h =
      let e : n - k ≡ suc (n - (k + 1)) = omega arith in
      ap (λ (j : ℕ). joined_from j a b k) e ∙ ap (λ (j : ℕ). joined_at a b k ∷ joined_from (n - (k + 1)) a b j) (sym (add-one k))

  pub joined_end : n ≤ k → joined_from (n - k) a b k ≡ []
  unfolding joined_from
  joined_end h = let e : n - k ≡ 0 = omega arith in ap (λ (j : ℕ). joined_from j a b k) e

pub joined_columns : (a b : Model) (k : ℕ) → length (joined_at a b k).columns ≡ length (relation_at a k).columns
unfolding joined_at
joined_columns a b k = refl

pub joined_count : (a b : Model) (k : ℕ) → length (joined_at a b k).rows ≡ length (relation_at a k).rows + length (relation_at b k).rows
unfolding joined_at
joined_count a b k =
    length-append (relation_at a k).rows (map (map raised) (relation_at b k).rows) ∙ ap (λ (n : ℕ). length (relation_at a k).rows + n) (length-map (relation_at b k).rows (map raised))

-- on a board with so many cells the numbers `new` are to stand at the positions: those of the cells before `at` do, those of the relations `rest`, whose first cell is `at`, are left
pub record Numbering (new : List ℕ) (cells : ℕ) (rest : List Rel) (old w : List ℕ) (at : ℕ) : Type 0 where
  pub listed : Listed cells old
  pub empty : Empty count_start old
  pub even : Even rest
  pub ends : at + length (cells_of rest) ≡ cells
  pub elements : drop at (cells_on cells old) ≡ cells_of rest
  pub left : drop at new ≡ numbers_from at (colours_on old) rest
  pub kept : Renumbered cells 0 old w
  pub numbers : (n : ℕ) → n < at → get_or w (number_start + position_of (cells_on cells old) n) 0 ≡ get_or new n 0

pub numbering_none :
    (cells : ℕ) (rs : List Rel) (old : List ℕ) → Listed cells old → Empty count_start old → Even rs → cells ≡ length (cells_of rs) → cells_on cells old ≡ cells_of rs
    → Numbering (numbers_from 0 (colours_on old) rs) cells rs old old 0
numbering_none cells rs old listed empty even many laid = record {
  listed = listed;
  empty = empty;
  even = even;
  ends = omega (arith, many);
  elements = laid;
  left = refl;
  kept = record { length_kept = refl; below = λ i h. refl; counts_kept = λ i h l. refl; above = λ i h. refl; numbers_kept = λ c h. refl };
  numbers = λ n h. absurd (omega (arith, h));
}

module _ (new : List ℕ) (cells : ℕ) (rest : List Rel) (old w : List ℕ) (at : ℕ) (i : Numbering new cells rest old w at) where
  -- the cells are as they were, and their positions
  pub same_cells : cells_on cells w ≡ cells_on cells old
  same_cells = cells_around cells old w i.listed i.kept.length_kept i.kept.below (λ x h l. i.kept.above x h)

  pub still_listed : Listed cells w
  still_listed = listed_around cells old w i.listed i.kept.length_kept i.kept.below (λ x h l. i.kept.above x h)

  pub still_empty : Empty count_start w
  still_empty n h = i.kept.counts_kept (count_start + n) (omega arith) (omega (arith, h)) ∙ i.empty n h

  pub numbering_all : rest ≡ [] → NumbersAt cells 0 new w
  unfolding numbers_from cells_of
  numbering_all e n h =
      let z : drop at new ≡ [] = i.left ∙ ap (numbers_from at (colours_on old)) e in
      let s : 0 + n ≡ n = omega arith in
      ap₂ (λ (es : List ℕ) (c : ℕ). get_or w (number_start + position_of es c) 0) same_cells s ∙ i.numbers n (omega (arith, h, length-drop at new, ap length z))

-- the next relation
module _ (new : List ℕ) (cells : ℕ) (r : Rel) (rs : List Rel) (old w : List ℕ) (at : ℕ) (i : Numbering new cells (r ∷ rs) old w at) where
  abbrev width : ℕ
  width = length r.columns

  abbrev size : ℕ
  size = length r.rows * width

  even_here : EvenRows width r.rows
  even_here = i.even r (Memᴰ.head refl)

  long_here : length (flat r.rows) ≡ size
  long_here = length_flat width r.rows even_here

  cells_here_lem : drop at (cells_on cells old) ≡ flat r.rows ++ cells_of rs
  unfolding cells_of
  cells_here_lem = i.elements

  next_ends : at + size + length (cells_of rs) ≡ cells
  unfolding cells_of
  next_ends = omega (arith, i.ends, length-append (flat r.rows) (cells_of rs), long_here)

  pub relation_fits : at + size ≤ cells
  relation_fits = omega (arith, next_ends)

  part_here : part old at size ≡ flat r.rows
  part_here =
      sym (take-take size (cells - at) (drop at old) (omega (arith, next_ends)))
      ∙ ap (take size) (sym (drop-take at cells old) ∙ cells_here_lem)
      ∙ take_at (flat r.rows) (cells_of rs) size long_here

  rows_here : rows_of width (length r.rows) (drop at w) ≡ r.rows
  rows_here =
      sym (rows_of-take width (length r.rows) (drop at w))
      ∙ ap (rows_of width (length r.rows))
      (part_same old w i.kept.length_kept at size (omega (arith, relation_fits, i.listed.few)) (omega (arith, i.listed.room)) (λ x h. i.kept.below x (omega (arith, h))) ∙ part_here)
      ∙ rows_of_flat width r.rows even_here

  numbers_here : row_numbers_at at width (length r.rows) w ≡ relation_numbers at (colours_on old) r
  unfolding row_numbers_at relation_numbers
  numbers_here =
      ap₂ (λ (colours : List ℕ) (rows : List (List ℕ)). flat (map (row_numbers at width (map (line_of colours) rows)) (map (line_of colours) rows)))
      (colours_same old w i.kept.length_kept (λ x h. i.kept.above x (omega (arith, h))))
      rows_here

  long_numbers : length (relation_numbers at (colours_on old) r) ≡ size
  long_numbers = ap length (sym numbers_here) ∙ numbers_long at width (length r.rows) w

  left_here : drop at new ≡ relation_numbers at (colours_on old) r ++ numbers_from (at + size) (colours_on old) rs
  unfolding numbers_from
  left_here = i.left

  new_here : (j : ℕ) → j < size → get_or new (at + j) 0 ≡ get_or (relation_numbers at (colours_on old) r) j 0
  new_here j h =
      sym (get_or-drop at new j 0) ∙ ap (λ (t : List ℕ). get_or t j 0) left_here
      ∙ get_or-append (relation_numbers at (colours_on old) r) (numbers_from (at + size) (colours_on old) rs) 0 j (omega (arith, h, long_numbers))

  -- it is numbered
  module _ (out : List ℕ) (there : NumbersAt cells at (row_numbers_at at width (length r.rows) w) out) (k : Renumbered cells at w out) where
    cells_out : cells_on cells out ≡ cells_on cells old
    cells_out =
        cells_around cells w out (still_listed new cells (r ∷ rs) old w at i) k.length_kept k.below (λ x h l. k.above x h) ∙ same_cells new cells (r ∷ rs) old w at i

    numbers_out : (n : ℕ) → n < at + size → get_or out (number_start + position_of (cells_on cells old) n) 0 ≡ get_or new n 0
    numbers_out n h =
        by_cases (dec_le (suc n) at)
        (λ l.
        ap (λ (es : List ℕ). get_or out (number_start + position_of es n) 0) (sym (same_cells new cells (r ∷ rs) old w at i))
        ∙ k.numbers_kept n (omega (arith, l))
        ∙ ap (λ (es : List ℕ). get_or w (number_start + position_of es n) 0) (same_cells new cells (r ∷ rs) old w at i)
        ∙ i.numbers n (omega (arith, l)))
        (λ l.
        let j = n - at in
        let e : at + j ≡ n = omega (arith, l) in
        let m : j < size = omega (arith, l, h) in
        ap₂ (λ (es : List ℕ) (c : ℕ). get_or out (number_start + position_of es c) 0) (sym cells_out) (sym e)
        ∙ there j (omega (arith, m, numbers_long at width (length r.rows) w))
        ∙ ap (λ (t : List ℕ). get_or t j 0) numbers_here
        ∙ sym (new_here j m)
        ∙ ap (λ (c : ℕ). get_or new c 0) e)

    pub numbering_more : Numbering new cells rs old out (at + size)
    numbering_more = record {
      listed = i.listed;
      empty = i.empty;
      even = λ q m. i.even q (Memᴰ.tail m);
      ends = next_ends;
      elements = sym (drop-drop size at (cells_on cells old)) ∙ ap (drop size) cells_here_lem ∙ drop_at (flat r.rows) (cells_of rs) size long_here;
      left =
          sym (drop-drop size at new) ∙ ap (drop size) left_here ∙ drop_at (relation_numbers at (colours_on old) r) (numbers_from (at + size) (colours_on old) rs) size long_numbers;
      kept = record {
        length_kept = k.length_kept ∙ i.kept.length_kept;
        below = λ x h. k.below x h ∙ i.kept.below x h;
        counts_kept = λ x h l. k.counts_kept x h l ∙ i.kept.counts_kept x h l;
        above = λ x h. k.above x h ∙ i.kept.above x h;
        numbers_kept = λ c h. absurd (omega (arith, h));
      };
      numbers = numbers_out;
    }
