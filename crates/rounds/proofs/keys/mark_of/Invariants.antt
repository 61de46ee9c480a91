-- `rounds::keys::mark_of` meets its contract. The invariant: the sum and the mark of the numbers from i on make the mark of all (`Summing`). Assumes nothing.
use Prim.Native.Nat.{ℕ, ◌+◌, ◌*◌, ◌<◌, ◌≤◌}
use mathlib.Core.Path.{◌≡◌, ap}
use mathlib.Core.List.{List}
use native.Mathlib.Omega.{arith}
use native.Mathlib.Nat.{mul-le-mul}
use lib.Dec.{eqb}
use lib.ListN.{get_or}
use Rattle.lists.specs.Every.{how_many}
use Rattle.rounds.specs.Board.{start_start, cells_on, start_of, segment, mark_on, mark_of_numbers, Ready}
use Rattle.rounds.proofs.Laws.Tables.{Summing, summing_start}
use Rattle.rounds.proofs.Laws.Segments.{segment_of, segment_is}
use Rattle.rounds.proofs.keys.mark_of.Given as goal

pub square_small : (n : ℕ) → n < 4096 → n * n ≤ 16769025
square_small n h = let l : n ≤ 4095 = omega (arith, h) in mul-le-mul l l

-- the sum over an element's segment
pub record Marking (w : List ℕ) (cells x end sum i : ℕ) : Type 0 where
  pub from : ℕ
  pub sums : Summing w from end sum i
  pub all_of : mark_of_numbers (segment from end w) ≡ mark_on cells w x

pub marking_start :
    (w : List ℕ) (cells x end i : ℕ) → Ready cells w → x < 128 → end ≡ start_of (cells_on cells w) x + how_many (eqb x) (cells_on cells w) → i ≡ get_or w (start_start + x) 0 → Marking w cells x end 0 i
marking_start w cells x end i r h e s = record {
  from = i;
  sums = summing_start w i end (segment_of cells w r x i end h s e);
  all_of = ap mark_of_numbers (segment_is cells w r x i end h s e);
}

abbrev pub invariant-loop-i : goal.invariant-loop-i
invariant-loop-i l = Marking l.board l.cells l.x l.end l.sum l.i
