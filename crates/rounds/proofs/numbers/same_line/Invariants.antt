-- `rounds::numbers::same_line` meets its contract. The invariant: the colours of both rows agree from place j on where they do so from the start. Assumes nothing.
use Prim.Native.Nat.{ℕ, ◌<◌, ◌≤◌, ◌+◌}
use mathlib.Core.Path.{◌≡◌, sym, ◌∙◌}
use mathlib.Core.Bool.{true, false}
use mathlib.Core.List.{List}
use native.Mathlib.Omega.{arith}
use borrow.Author.Tests.{eq-eqb, ne_eqb}
use lib.Dec.{eqb}
use lib.ListN.{length, get_or}
use Rattle.lists.specs.Order.{same_row}
use Rattle.lists.proofs.Laws.Every.{PairsFrom, pairs_passed, pairs_failed, pairs_over}
use Rattle.lists.proofs.Laws.Order.{rows_same}
use Rattle.rounds.specs.Colours.{colour_at}
use Rattle.rounds.specs.Board.{colours_on, line_at}
use Rattle.rounds.proofs.Laws.Board.{line_length, line_entry}
use Rattle.rounds.proofs.numbers.same_line.Given as goal

abbrev pub Agree : List ℕ → ℕ → ℕ → ℕ → ℕ → Type 0
Agree w p q arity j = PairsFrom eqb (line_at w p arity) (line_at w q arity) j

module _ (w : List ℕ) (p q arity : ℕ) (first : p + arity ≤ length w) (second : q + arity ≤ length w) where
  module _ (j : ℕ) (i : Agree w p q arity j) where
    pub done : arity ≤ j → true ≡ same_row (line_at w p arity) (line_at w q arity)
    done h = pairs_over i (omega (arith, line_length w p arity first)) ∙ sym (rows_same _ _)

    module _ (h : j < arity) (x y : ℕ) (e : x ≡ colour_at (colours_on w) (get_or w (p + j) 0)) (f : y ≡ colour_at (colours_on w) (get_or w (q + j) 0)) where
      inside : j < length (line_at w p arity)
      inside = omega (arith, line_length w p arity first)

      left : get_or (line_at w p arity) j 0 ≡ x
      left = line_entry w p arity first j h ∙ sym e

      right : get_or (line_at w q arity) j 0 ≡ y
      right = line_entry w q arity second j h ∙ sym f

      pub stop : (x ≡ y → ⊥) → false ≡ same_row (line_at w p arity) (line_at w q arity)
      stop n = pairs_failed i 0 0 inside (ne_eqb _ _ (λ d. n (sym left ∙ d ∙ right))) ∙ sym (rows_same _ _)

      pub more : x ≡ y → Agree w p q arity (j + 1)
      more d = pairs_passed i 0 0 inside (eq-eqb _ _ (left ∙ d ∙ sym right))

abbrev pub invariant-loop-j : goal.invariant-loop-j
invariant-loop-j l = Agree l.board l.p l.q l.arity l.j
