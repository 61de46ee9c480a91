-- A board set up for two models, and prepared for a round: what a write leaves entry by entry, a board that is the same but for the numbers, the links and the
-- colours, and the colours and the numbers that are written. Assumes nothing.
use Prim.Native.Nat.{ℕ, ◌+◌, ◌-◌, ◌<◌, ◌≤◌}
use mathlib.Core.Path.{◌≡◌, sym, ◌∙◌, ap, ap₂}
use mathlib.Core.Bool.{true}
use mathlib.Core.List.{List}
use native.Mathlib.Omega.{arith}
use lib.ListN.{length, get_or, take, drop}
use lib.Seq.{get_or-take, get_or-drop, get_or-append-add}
use Rattle.lists.specs.Part.{over}
use Rattle.lists.proofs.Laws.Every.{get_d_inside}
use Rattle.lists.proofs.Laws.Over.{over_split, over_front, length_over, get_d_over}
use Rattle.stored.specs.Model.{Model, size}
use Rattle.stored.specs.Signature.{signature, same_signature}
use Rattle.stored.proofs.Laws.WellFormed.{WellFormed}
use Rattle.rounds.specs.Colours.{no_colour, colour_at}
use Rattle.rounds.specs.Board.{board_room, number_start, count_start, link_start, start_start, colour_start, raised, joined, cells_of, numbers_from, over_at, picked, cells_on, colours_on, Elements, Listed, Relisted, NumbersAt, Renumbered, Empty, Board, Prepared}
use Rattle.rounds.proofs.Laws.Board.{colour_there, over_at_length, over_at_before, over_at_entry}
use Rattle.rounds.proofs.Laws.Cells.{cells_few, cells_known}
use Rattle.rounds.proofs.Laws.Joined.{joined_even}
use Rattle.rounds.proofs.Laws.Listed.{same_cells, cells_around, listed_around, listed_places}
use Rattle.rounds.proofs.Laws.Numbered.{numbers_length}
use Rattle.rounds.proofs.Laws.Numbers.{colours_same}

-- an entry behind what was written over the front
beyond : (xs old : List ℕ) (i : ℕ) → length xs ≤ i → get_or (over xs old) i 0 ≡ get_or old i 0
beyond xs old i h =
    let e : length xs + (i - length xs) ≡ i = omega (arith, h) in
    ap (λ (l : List ℕ). get_or l i 0) (over_split xs old)
    ∙ (rw e at (get_or-append-add xs (drop (length xs) old) (i - length xs) 0 ∙ get_or-drop (length xs) old (i - length xs) 0))

-- the entries after a write from a place on
module _ (start : ℕ) (new old out : List ℕ) (fits : start + length new ≤ length old) (is : out ≡ over_at start new old) where
  out_long : length out ≡ length old
  out_long = ap length is ∙ over_at_length start new old fits

  out_below : (i : ℕ) → i < start → get_or out i 0 ≡ get_or old i 0
  out_below i h =
      ap (λ (l : List ℕ). get_or l i 0) is
      ∙ sym (get_or-take start (over_at start new old) i 0 h)
      ∙ ap (λ (l : List ℕ). get_or l i 0) (over_at_before start new old fits start (omega arith))
      ∙ get_or-take start old i 0 h

  out_entry : (i : ℕ) → i < length new → get_or out (start + i) 0 ≡ get_or new i 0
  out_entry i h = ap (λ (l : List ℕ). get_or l (start + i) 0) is ∙ over_at_entry start new old fits i h

-- two boards are the same but for the numbers, the links and the colours
pub record Around (w v : List ℕ) : Type 0 where
  pub length_kept : length v ≡ length w
  pub below : (i : ℕ) → i < number_start → get_or v i 0 ≡ get_or w i 0
  pub counts : (i : ℕ) → count_start ≤ i → i < link_start → get_or v i 0 ≡ get_or w i 0
  pub starts : (i : ℕ) → start_start ≤ i → i < colour_start → get_or v i 0 ≡ get_or w i 0

pub board_around : (a b : Model) (cells : ℕ) (w v : List ℕ) → Board a b cells w → Around w v → Board a b cells v
board_around a b cells w v h s = record {
  laid = cells_around cells w v h.listed s.length_kept s.below s.starts ∙ h.laid;
  as_many = h.as_many;
  listed = listed_around cells w v h.listed s.length_kept s.below s.starts;
  empty = λ n l. s.counts (count_start + n) (omega arith) (omega (arith, l)) ∙ h.empty n l;
}

-- a board between rounds, and the colours of both sides
pub record Given (a b : Model) (cells : ℕ) (w left right : List ℕ) : Type 0 where
  pub formed : WellFormed a
  pub right_formed : WellFormed b
  pub one : same_signature (signature a) (signature b) ≡ true
  pub board : Board a b cells w
  pub many : length left ≡ size a
  pub right_many : length right ≡ size b

-- the colours of the left, then those of the right, then the numbers, are written
module _ (a b : Model) (cells : ℕ) (w left right : List ℕ) (g : Given a b cells w left right) where
  long : length w ≡ 20736
  long = g.board.listed.room

  left_few : length left ≤ 64
  left_few = omega (arith, g.many, g.formed.few_elements)

  right_few : length right ≤ 64
  right_few = omega (arith, g.right_many, g.right_formed.few_elements)

  pub left_fits : (length w ≡ board_room) × (20608 + length left ≤ board_room)
  left_fits = (long, omega (arith, left_few))

  module _ (w₁ : List ℕ) (is₁ : w₁ ≡ over_at 20608 left w) where
    left_inside : 20608 + length left ≤ length w
    left_inside = omega (arith, long, left_few)

    long₁ : length w₁ ≡ 20736
    long₁ = out_long 20608 left w w₁ left_inside is₁ ∙ long

    pub right_fits : (length w₁ ≡ board_room) × (20672 + length right ≤ board_room)
    right_fits = (long₁, omega (arith, right_few))

    module _ (w₂ : List ℕ) (is₂ : w₂ ≡ over_at 20672 right w₁) where
      right_inside : 20672 + length right ≤ length w₁
      right_inside = omega (arith, long₁, right_few)

      long₂ : length w₂ ≡ 20736
      long₂ = out_long 20672 right w₁ w₂ right_inside is₂ ∙ long₁

      kept₂ : (i : ℕ) → i < colour_start → get_or w₂ i 0 ≡ get_or w i 0
      kept₂ i h = out_below 20672 right w₁ w₂ right_inside is₂ i (omega (arith, h)) ∙ out_below 20608 left w w₁ left_inside is₁ i h

      around₂ : Around w w₂
      around₂ = record { length_kept = long₂ ∙ sym long; below = λ i h. kept₂ i (omega (arith, h)); counts = λ i l h. kept₂ i (omega (arith, h)); starts = λ i l h. kept₂ i h }

      pub coloured : Board a b cells w₂
      coloured = board_around a b cells w w₂ g.board around₂

      abbrev numbers : List ℕ
      numbers = numbers_from 0 (colours_on w₂) (joined a b)

      numbers_many : length numbers ≡ cells
      numbers_many = numbers_length (colours_on w₂) (joined a b) (joined_even a b g.formed g.right_formed g.one) 0 ∙ sym g.board.as_many

      module _ (w₃ : List ℕ) (there : NumbersAt cells 0 numbers w₃) (k : Renumbered cells 0 w₂ w₃) where
        pub same_long : length w₃ ≡ length w
        same_long = k.length_kept ∙ long₂ ∙ sym long

        around₃ : Around w₂ w₃
        around₃ = record { length_kept = k.length_kept; below = k.below; counts = k.counts_kept; starts = λ i l h. k.above i l }

        kept₃ : (i : ℕ) → colour_start ≤ i → get_or w₃ i 0 ≡ get_or w₂ i 0
        kept₃ i h = k.above i (omega (arith, h))

        long₃ : length w₃ ≡ 20736
        long₃ = k.length_kept ∙ long₂

        board₃ : Board a b cells w₃
        board₃ = board_around a b cells w₂ w₃ coloured around₃

        left_there : (x : ℕ) → x < size a → colour_at (colours_on w₃) x ≡ colour_at left x
        left_there x h =
            sym (colour_there w₃ x (omega (arith, long₃, h, g.many, left_few)))
            ∙ kept₃ (20608 + x) (omega arith)
            ∙ out_below 20672 right w₁ w₂ right_inside is₂ (20608 + x) (omega (arith, h, g.many, left_few))
            ∙ out_entry 20608 left w w₁ left_inside is₁ x (omega (arith, h, g.many))
            ∙ get_d_inside left x 0 no_colour (omega (arith, h, g.many))

        right_there : (y : ℕ) → y < size b → colour_at (colours_on w₃) (raised y) ≡ colour_at right y
        unfolding raised
        right_there y h =
            let e : 20608 + (y + 64) ≡ 20672 + y = omega arith in
            sym (colour_there w₃ (y + 64) (omega (arith, long₃, h, g.right_many, right_few)))
            ∙ kept₃ (20608 + (y + 64)) (omega arith)
            ∙ ap (λ (i : ℕ). get_or w₂ i 0) e
            ∙ out_entry 20672 right w₁ w₂ right_inside is₂ y (omega (arith, h, g.right_many))
            ∙ get_d_inside right y 0 no_colour (omega (arith, h, g.right_many))

        places_there : (x : ℕ) → picked x (cells_on cells w₃) numbers ≡ picked x (cells_of (joined a b)) (numbers_from 0 (colours_on w₃) (joined a b))
        places_there x = ap₂ (λ (es colours : List ℕ). picked x es (numbers_from 0 colours (joined a b))) board₃.laid (sym (colours_same w₂ w₃ k.length_kept kept₃))

        pub prepared : Prepared a b cells left right w₃
        prepared = record {
          board = board₃;
          left_there = left_there;
          right_there = right_there;
          numbered = λ x. listed_places cells w₃ numbers board₃.listed numbers_many there x ∙ places_there x;
        }

-- the cells are laid over the front of a board, and listed
module _ (a b : Model) (va : WellFormed a) (vb : WellFormed b) (cells : ℕ) (old w : List ℕ) (many : cells ≡ length (cells_of (joined a b))) (room : length old ≡ board_room) (is : w ≡ over (cells_of (joined a b)) old) where
  few_laid : cells ≤ 4096
  few_laid = omega (arith, many, cells_few a b va vb)

  room_laid : length w ≡ board_room
  room_laid = ap length is ∙ length_over (cells_of (joined a b)) old (omega (arith, few_laid, many, room)) ∙ room

  known_laid : (c : ℕ) → c < cells → get_or w c 0 < 128
  known_laid c h =
      let i : c < length (cells_of (joined a b)) = omega (arith, h, many) in
      let e = ap (λ (l : List ℕ). get_or l c 0) is ∙ get_d_over (cells_of (joined a b)) old c 0 i in
      omega (arith, e, cells_known a b va vb c i)

  pub elements_laid : Elements cells w
  elements_laid = record { room = room_laid; few = few_laid; known = known_laid }

  cells_laid : cells_on cells w ≡ cells_of (joined a b)
  cells_laid = ap₂ (λ (n : ℕ) (l : List ℕ). take n l) many is ∙ over_front (cells_of (joined a b)) old

  beyond_laid : (i : ℕ) → 4096 ≤ i → get_or w i 0 ≡ get_or old i 0
  beyond_laid i h = ap (λ (l : List ℕ). get_or l i 0) is ∙ beyond (cells_of (joined a b)) old i (omega (arith, h, many, few_laid))

  pub board_laid : (v : List ℕ) → Listed cells v → Relisted w v → Empty count_start old → Board a b cells v
  board_laid v l r e = record {
    laid = same_cells cells w v (sym r.length_kept) (omega (arith, room_laid, few_laid)) (λ c h. r.cells_kept c (omega (arith, h, few_laid))) ∙ cells_laid;
    as_many = many;
    listed = l;
    empty = λ n h. r.counts_kept (count_start + n) (omega arith) (omega (arith, h)) ∙ beyond_laid (count_start + n) (omega arith) ∙ e n h;
  }
