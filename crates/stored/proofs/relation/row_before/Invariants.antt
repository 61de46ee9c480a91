-- `stored::relation::row_before` meets its contract. The invariant: the rows compare as what is left of them from column `j` on. Assumes nothing.
use Prim.Native.Nat.{ℕ, ◌+◌, ◌≤◌, ◌<◌}
use mathlib.Core.Path.{◌≡◌, refl, sym, ap, ◌∙◌}
use mathlib.Core.Bool.{false}
use mathlib.Core.List.{List}
use native.Mathlib.Omega.{arith}
use lib.Dec.{ltb}
use lib.ListN.{length, get_or, drop}
use Rattle.lists.specs.Order.{row_before}
use Rattle.lists.proofs.Laws.Order.{before_next, before_stop, before_past, before_end}
use Rattle.stored.proofs.relation.row_before.Given as goal

-- the rows compare as what is left of them from place j on
pub record From (a b : List ℕ) (j : ℕ) : Type 0 where
  pub same : row_before (drop j a) (drop j b) ≡ row_before a b

pub start : (a b : List ℕ) → From a b 0
start a b = record { same = refl }

module _ {a b : List ℕ} {j : ℕ} (from : From a b j) where
  pub longer : j < length a → length b ≤ j → false ≡ row_before a b
  longer h k = sym (before_past a b j h k) ∙ from.same

  pub decided : j < length a → j < length b → (get_or a j 0 ≡ get_or b j 0 → ⊥) → ltb (get_or a j 0) (get_or b j 0) ≡ row_before a b
  decided h k n = sym (before_stop a b j h k n) ∙ from.same

  pub more : j < length a → j < length b → get_or a j 0 ≡ get_or b j 0 → From a b (j + 1)
  more h k e = record { same = sym (before_next a b j h k e) ∙ from.same }

  pub over : length a ≤ j → j ≤ length a → ltb (length a) (length b) ≡ row_before a b
  over h k = let e : length a ≡ j = omega arith in ap (λ (n : ℕ). ltb n (length b)) e ∙ sym (before_end a b j h) ∙ from.same

abbrev pub invariant-loop-j : goal.invariant-loop-j
invariant-loop-j l = From l.a l.b l.j
