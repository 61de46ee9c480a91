-- `rounds::numbers::write_numbers` meets its contract. The invariant: the first j numbers stand at the positions of their cells, and no number of an earlier cell was changed, since each cell has
-- a position of its own. Assumes nothing.
use Prim.Native.Nat.{ℕ, ◌+◌, ◌<◌, ◌≤◌}
use mathlib.Core.Path.{◌≡◌, sym, ◌∙◌, ap}
use mathlib.Core.Logic.{by_cases}
use mathlib.Core.List.{List}
use native.Mathlib.Omega.{arith}
use native.Mathlib.Decide.{ℕ_discrete}
use lib.ListN.{length, get_or, set, length-set}
use lib.Seq.{get_or-set_same, get_or-set_other}
use Rattle.lists.specs.Numbers.{up_from}
use Rattle.lists.proofs.Laws.Numbers.{length-up_from, get_d_up_from}
use Rattle.rounds.specs.Board.{board_room, position_start, number_start, cells_on, position_of, Listed, NumbersAt, Scattered}
use Rattle.rounds.proofs.Laws.Listed.{positions_apart, cells_around, cells_long, position_small}
use Rattle.rounds.proofs.numbers.write_numbers.Given as goal

pub record WrittenTo (cells p first count : ℕ) (old w : List ℕ) (j : ℕ) : Type 0 where
  pub listed : Listed cells old
  pub fits : p + count ≤ cells
  pub small : first + count ≤ 4096
  pub kept : Scattered cells p old w
  pub numbers : (n : ℕ) → n < j → get_or w (number_start + position_of (cells_on cells old) (p + n)) 0 ≡ first + n

module _ (cells p first count : ℕ) (old w : List ℕ) (j : ℕ) (k : WrittenTo cells p first count old w j) where
  abbrev pub elements : List ℕ
  elements = cells_on cells old

  pub long : length w ≡ board_room
  long = k.kept.length_kept ∙ k.listed.room

  pub done : count ≤ j → NumbersAt cells p (up_from first count) w
  done h i l =
      let m : i < count = omega (arith, l, length-up_from first count) in
      ap (λ (es : List ℕ). get_or w (number_start + position_of es (p + i)) 0) (cells_around cells old w k.listed k.kept.length_kept k.kept.below (λ x a b. k.kept.above x (omega (arith, a))))
      ∙ k.numbers i (omega (arith, m, h))
      ∙ sym (get_d_up_from first count i 0 m)

  module _ (h : j < count) where
    pub cell_inside : p + j < cells
    cell_inside = omega (arith, h, k.fits)

    pub place_is : get_or w (4096 + p + j) 0 ≡ position_of elements (p + j)
    place_is =
        let e : 4096 + p + j ≡ position_start + (p + j) = omega arith in
        ap (λ (i : ℕ). get_or w i 0) e ∙ k.kept.below (position_start + (p + j)) (omega (arith, cell_inside, k.listed.few)) ∙ k.listed.position (p + j) cell_inside

    pub place_small : get_or w (4096 + p + j) 0 < 4096
    place_small = omega (arith, place_is, position_small cells old k.listed (p + j) cell_inside, k.listed.few)

    pub inside : number_start + get_or w (4096 + p + j) 0 < length w
    inside = omega (arith, place_small, long)

    abbrev pub out : List ℕ
    out = set w (number_start + get_or w (4096 + p + j) 0) (first + j)

    -- other cells have other positions
    pub other : (c : ℕ) → c < cells → (c ≡ p + j → ⊥) → get_or out (number_start + position_of elements c) 0 ≡ get_or w (number_start + position_of elements c) 0
    other c l n =
        get_or-set_other w (number_start + get_or w (4096 + p + j) 0) (number_start + position_of elements c) (first + j) 0
        (λ q. positions_apart elements c (p + j) (omega (arith, l, cells_long cells old k.listed)) (omega (arith, cell_inside, cells_long cells old k.listed)) n (omega (arith, q, place_is)))

    pub more : WrittenTo cells p first count old out (j + 1)
    more = record {
      listed = k.listed;
      fits = k.fits;
      small = k.small;
      kept = record {
        length_kept = length-set w (number_start + get_or w (4096 + p + j) 0) (first + j) ∙ k.kept.length_kept;
        below = λ i l. get_or-set_other w (number_start + get_or w (4096 + p + j) 0) i (first + j) 0 (λ q. omega (arith, q, l)) ∙ k.kept.below i l;
        above = λ i l. get_or-set_other w (number_start + get_or w (4096 + p + j) 0) i (first + j) 0 (λ q. omega (arith, q, l, place_small)) ∙ k.kept.above i l;
        numbers_kept = λ c l. other c (omega (arith, l, cell_inside)) (λ q. omega (arith, q, l)) ∙ k.kept.numbers_kept c l;
      };
      numbers =
          λ n l. by_cases (ℕ_discrete n j)
          (λ e. rw e (ap (λ (i : ℕ). get_or out (number_start + i) 0) (sym place_is) ∙ get_or-set_same w (number_start + get_or w (4096 + p + j) 0) (first + j) 0 inside))
          (λ e. other (p + n) (omega (arith, l, cell_inside)) (λ q. e (omega (arith, q))) ∙ k.numbers n (omega (arith, l, e)));
    }

abbrev pub invariant-loop-j : goal.invariant-loop-j
invariant-loop-j l = WrittenTo l.cells l.p l.first l.count l.initial.board l.board l.j
