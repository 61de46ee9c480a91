-- `rounds::numbers::code_of` meets its contract. The invariant: the colours from place x on make of the code so far that of the row, and the code is small. Assumes nothing.
use Prim.Native.Nat.{ℕ, ◌+◌, ◌*◌, ◌%◌, ◌<◌, ◌≤◌}
use mathlib.Core.Path.{◌≡◌, sym, ◌∙◌, ap}
use mathlib.Core.List.{List}
use native.Mathlib.Omega.{arith}
use lib.ListN.{length, get_or, drop}
use Rattle.rounds.specs.Colours.{colour_at}
use Rattle.rounds.specs.Board.{colours_on, line_of, code_from, code_of}
use Rattle.rounds.proofs.Laws.Board.{length_line, get_d_line}
use Rattle.rounds.proofs.Laws.Buckets.{code_over, code_next}
use Rattle.rounds.proofs.numbers.code_of.Given as goal

-- the code of the first j colours along a row
pub record Coded (colours row : List ℕ) (code j : ℕ) : Type 0 where
  pub small : code < 4096
  pub rest : code_from code (drop j (line_of colours row)) ≡ code_of (line_of colours row)

module _ (colours row : List ℕ) (code j : ℕ) (k : Coded colours row code j) where
  pub done : length row ≤ j → code ≡ code_of (line_of colours row)
  done h = sym (code_over code (line_of colours row) j (omega (arith, h, length_line colours row))) ∙ k.rest

  pub more : j < length row → (x : ℕ) → x ≡ colour_at colours (get_or row j 0) → Coded colours row ((code * 101 + x) % 4096) (j + 1)
  more h x e = record {
    small = omega arith;
    rest =
        ap (λ (y : ℕ). code_from ((code * 101 + y) % 4096) (drop (j + 1) (line_of colours row))) (e ∙ sym (get_d_line colours row j 0 h))
        ∙ sym (code_next code (line_of colours row) j (omega (arith, h, length_line colours row)))
        ∙ k.rest;
  }

abbrev pub invariant-loop-x : goal.invariant-loop-x
invariant-loop-x l = Coded (colours_on l.board) l.x-items l.code l.x-index
