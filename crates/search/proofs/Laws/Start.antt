-- The laws of what the search starts from and ends with: rows of 64 whose fronts are written, the first colours, the map of the closing check, the board
-- in the work, and the work cleared at the end. Assumes nothing.
use Prim.Native.Nat.{ℕ, ◌+◌, ◌-◌, ◌≤◌}
use mathlib.Core.Path.{◌≡◌, refl, sym, ◌∙◌, ap, ap₂, subst}
use mathlib.Core.Bool.{Bool, true, false}
use mathlib.Core.List.{List, [], ◌∷◌, ◌++◌}
use native.Mathlib.Omega.{arith}
use lib.ListN.{length, get_or, take, drop, replicate, length-map}
use lib.Seq.{length-take-le, length_front, drop-append-add, drop-drop}
use Rattle.lists.specs.Numbers.{up_from}
use Rattle.lists.specs.Part.{over}
use Rattle.lists.proofs.Laws.Numbers.{length-up_from}
use Rattle.lists.proofs.Laws.Over.{over_whole, back_room, back_front}
use Rattle.stored.specs.declared.layout.Layout.{Layout}
use Rattle.stored.specs.Model.{Model, size}
use Rattle.stored.specs.Reading.{Reads, model_of}
use Rattle.stored.proofs.Laws.Reading.{size_is}
use Rattle.stored.proofs.Laws.WellFormed.{WellFormed}
use Rattle.rows.specs.Check.{blank}
use Rattle.rows.proofs.Laws.Given.{size_few}
use Rattle.rows.proofs.Laws.Check.{length_blank}
use Rattle.rounds.specs.Colours.{left_colours, right_colours}
use Rattle.rounds.specs.Round.{Sides}
use Rattle.rounds.specs.Board.{board_room, Board}
use Rattle.rounds.proofs.Laws.Colours.{length_left, length_right}
use Rattle.search.specs.Partners.{PartnersOf}
use Rattle.search.specs.Machine.{State, refine, image_of, map_of, closes, run}
use Rattle.search.specs.Answer.{Answer, work_room, cleared, ended, answer_of, written}
use Rattle.search.specs.Find.{round_cost, start_from}
use Rattle.search.specs.Choices.{sides_in, Rows, SmallSides, written_if}
use Rattle.search.specs.Closing.{OneToOne}
use Rattle.search.proofs.Theorems.Small.{start_small}

-- a row of 64, with an entry for each element of a file in its front
module _ (s : List ℕ) (l : Layout) (p : Reads s l) (row : List ℕ) (h : length row ≡ 64) where
  pub row_fits : l.size ≤ length row
  row_fits = omega (arith, h, size_few s l p)

  pub row_long : l.size ≡ length (take l.size row)
  row_long = sym (length-take-le l.size row row_fits)

  pub row_asked : size (model_of s) ≤ length (take l.size row)
  row_asked = omega (arith, row_long, size_is s l p)

  -- with its front written
  module _ (xs new : List ℕ) (long : length xs ≡ size (model_of s)) (w : new ≡ over xs (take l.size row)) where
    as_long : length xs ≡ length (take l.size row)
    as_long = long ∙ sym (size_is s l p) ∙ row_long

    whole : new ≡ xs
    whole = w ∙ over_whole xs (take l.size row) as_long

    still : length new ≡ length (take l.size row)
    still = ap length whole ∙ as_long

    pub row_still_fits : l.size ≤ length (new ++ drop l.size row)
    row_still_fits = back_room l.size row new row_fits still

    pub row_still_long : l.size ≡ length (take l.size (new ++ drop l.size row))
    row_still_long = sym (length-take-le l.size (new ++ drop l.size row) row_still_fits)

    pub row_front : take l.size (new ++ drop l.size row) ≡ xs
    row_front = back_front l.size row new row_fits still ∙ whole

    pub row_still : length (new ++ drop l.size row) ≡ 64
    row_still = length_front row new l.size still ∙ h

-- a blank table of 64 bytes
pub table_row : (array : List ℕ) → array ≡ blank 64 → length array ≡ 64
table_row array e = ap length e ∙ length_blank 64

pub length_map_of : (a b : Model) (c : Sides) → length (map_of a b c) ≡ size a
unfolding map_of
length_map_of a b c = length-map (up_from 0 (size a)) (image_of a b c) ∙ length-up_from 0 (size a)

-- a map where the closing check passes, and where it fails
written_yes : (f out : List ℕ) → written_if true f out ≡ over f out
unfolding written_if
written_yes f out = refl

written_no : (f out : List ℕ) → written_if false f out ≡ out
unfolding written_if
written_no f out = refl

-- two files that were read
module _ (s t : List ℕ) (l m : Layout) (p : Reads s l) (q : Reads t m) where
  abbrev a : Model
  a = model_of s

  abbrev b : Model
  b = model_of t

  -- the fronts of two rows, by the sizes in the layouts
  abbrev fronts : List (List ℕ) → Sides
  fronts c = record { left = take l.size (get_or c 0 []); right = take m.size (get_or c 1 []) }

  fronts_sides : (c : List (List ℕ)) → fronts c ≡ sides_in a b c
  unfolding sides_in
  fronts_sides c = ap₂ (λ (i j : ℕ). record { left = take i (get_or c 0 []); right = take j (get_or c 1 []) }) (size_is s l p) (size_is t m q)

  -- the map of the closing check, in the front of a blank table
  module _ (c : List (List ℕ)) (array : List ℕ) (e : array ≡ blank 64) (new : List ℕ) (w : new ≡ over (map_of a b (fronts c)) (take l.size array)) where
    abbrev table : List ℕ
    table = new ++ drop l.size array

    pub map_fits : l.size ≤ length table
    map_fits = row_still_fits s l p array (table_row array e) (map_of a b (fronts c)) new (length_map_of a b (fronts c)) w

    pub map_long : l.size ≡ length (take l.size table)
    map_long = row_still_long s l p array (table_row array e) (map_of a b (fronts c)) new (length_map_of a b (fronts c)) w

    map_front : take l.size table ≡ map_of a b (sides_in a b c)
    map_front = row_front s l p array (table_row array e) (map_of a b (fronts c)) new (length_map_of a b (fronts c)) w ∙ ap (map_of a b) (fronts_sides c)

    pub map_one_to_one : OneToOne a (map_of a b (sides_in a b c)) → OneToOne a (take l.size table)
    map_one_to_one h = subst (OneToOne a) (sym map_front) h

    pub map_room_lem : (out : List ℕ) → size a ≤ length out → length (take l.size table) ≤ length out
    map_room_lem out h = omega (arith, map_long, size_is s l p)

    module _ (r : Bool) (v : r ≡ closes a b (take l.size table)) where
      closing : r ≡ closes a b (map_of a b (sides_in a b c))
      closing = v ∙ ap (closes a b) map_front

      pub closed : r ≡ true → (out out' : List ℕ) → out' ≡ over (take l.size table) out → (true ≡ closes a b (map_of a b (sides_in a b c))) × (out' ≡ written_if true (map_of a b (sides_in a b c)) out)
      closed h out out' u = (sym h ∙ closing, u ∙ ap (λ (f : List ℕ). over f out) map_front ∙ sym (written_yes (map_of a b (sides_in a b c)) out))

      pub not_closed : r ≡ false → (out : List ℕ) → (false ≡ closes a b (map_of a b (sides_in a b c))) × (out ≡ written_if false (map_of a b (sides_in a b c)) out)
      not_closed h out = (sym h ∙ closing, sym (written_no (map_of a b (sides_in a b c)) out))

  -- the first colours, in the fronts of two rows
  module _ (row other : List ℕ) (h : length row ≡ 64) (h' : length other ≡ 64) (f g new new' : List ℕ) (w : new ≡ over (left_colours a f) (take l.size row)) (w' : new' ≡ over (right_colours b (take l.size (new ++ drop l.size row)) g) (take m.size other)) where
    abbrev left_row : List ℕ
    left_row = new ++ drop l.size row

    abbrev right_row : List ℕ
    right_row = new' ++ drop m.size other

    left_front : take l.size left_row ≡ left_colours a f
    left_front = row_front s l p row h (left_colours a f) new (length_left a f) w

    right_front : take m.size right_row ≡ right_colours b (left_colours a f) g
    right_front =
        row_front t m q other h' (right_colours b (take l.size left_row) g) new' (length_right b (take l.size left_row) g) w'
        ∙ ap (λ (x : List ℕ). right_colours b x g) left_front

    pub first_sides_lem : ◌≡◌ {A = Sides} (sides_in a b (left_row ∷ right_row ∷ [])) (record { left = left_colours a f; right = right_colours b (left_colours a f) g })
    first_sides_lem = sym (fronts_sides (left_row ∷ right_row ∷ [])) ∙ ap₂ (λ (x y : List ℕ). record { left = x; right = y }) left_front right_front

    pub first_rows : Rows (left_row ∷ right_row ∷ [])
    first_rows = (
      refl,
      row_still s l p row h (left_colours a f) new (length_left a f) w,
      row_still t m q other h' (right_colours b (take l.size left_row) g) new' (length_right b (take l.size left_row) g) w',
    )

-- clearing forgets what stands in front
cleared_same : (w v : List ℕ) (n : ℕ) → drop n v ≡ drop n w → cleared n v ≡ cleared n w
unfolding cleared
cleared_same w v n e = ap (λ (x : List ℕ). replicate n 0 ++ x) e

-- a front that comes back leaves what stands behind it
behind : (b w : List ℕ) (n k : ℕ) → length b ≡ n → n ≤ k → drop k (b ++ drop n w) ≡ drop k w
behind b w n k e h =
    let i : k ≡ length b + (k - n) = omega arith in
    let j : n + (k - n) ≡ k = omega arith in
    ap (λ (x : ℕ). drop x (b ++ drop n w)) i ∙ drop-append-add b (drop n w) (k - n) ∙ drop-drop (k - n) n w ∙ ap (λ (x : ℕ). drop x w) j

-- the work of a search, with the board in its front
module _ (w : List ℕ) (room : work_room ≤ length w) where
  pub board_fits : board_room ≤ length w
  board_fits = omega (arith, room)

  pub board_long : length (take board_room w) ≡ board_room
  board_long = length-take-le board_room w board_fits

  -- set up
  module _ (board : List ℕ) (long : length board ≡ length (take board_room w)) where
    pub board_there : (a b : Model) (cells : ℕ) → Board a b cells board → Board a b cells (take board_room (board ++ drop board_room w))
    board_there a b cells x = subst (Board a b cells) (sym (back_front board_room w board board_fits long)) x

    still_as_before : length (board ++ drop board_room w) ≡ length w
    still_as_before = length_front w board board_room long

    pub work_room_lem : work_room ≤ length (board ++ drop board_room w)
    work_room_lem = omega (arith, still_as_before, room)

    -- after a run
    module _ (v : List ℕ) (kept : (length v ≡ length (board ++ drop board_room w)) × (drop work_room v ≡ drop work_room (board ++ drop board_room w))) where
      pub room_left : work_room ≤ length v
      room_left = omega (arith, kept.0, still_as_before, room)

      pub cleared_again : (u : List ℕ) → u ≡ cleared work_room v → u ≡ cleared work_room w
      cleared_again u e = e ∙ cleared_same w v work_room (kept.1 ∙ behind board w board_room work_room (long ∙ board_long) (omega arith))

-- the first colours are small
pub first_small :
    (a b : Model) → WellFormed a → WellFormed b → (f g : List ℕ) → PartnersOf a b f g → (start : List (List ℕ))
    → ◌≡◌ {A = Sides} (sides_in a b start) (record { left = left_colours a f; right = right_colours b (left_colours a f) g }) → SmallSides a b (sides_in a b start)
first_small a b wa wb f g p start e = subst (SmallSides a b) (sym e) (start_small a b wa wb f g p)

-- a run from the first colours
module _ (a b : Model) (f g : List ℕ) (budget : ℕ) (start : List (List ℕ)) (e : ◌≡◌ {A = Sides} (sides_in a b start) (record { left = left_colours a f; right = right_colours b (left_colours a f) g })) where
  starts : refine (sides_in a b start) [] ≡ start_from a b f g
  unfolding start_from
  starts = ap (λ (c : Sides). refine c []) e

  pub run_answer : (r : Answer) → r ≡ answer_of (ended (run budget round_cost a b budget 0 (refine (sides_in a b start) []))) → r ≡ answer_of (ended (run budget round_cost a b budget 0 (start_from a b f g)))
  run_answer r v = v ∙ ap (λ (x : State). answer_of (ended (run budget round_cost a b budget 0 x))) starts

  pub run_output : (out out' : List ℕ) → out' ≡ written (ended (run budget round_cost a b budget 0 (refine (sides_in a b start) []))) out → out' ≡ written (ended (run budget round_cost a b budget 0 (start_from a b f g))) out
  run_output out out' v = v ∙ ap (λ (x : State). written (ended (run budget round_cost a b budget 0 x)) out) starts
