-- `rows::rows::agree` meets its contract. The invariant: the rows are of one length, and from place j on they agree, each through its table, where
-- they do so from the start. Assumes nothing.
use Prim.Native.Nat.{ℕ, ◌<◌, ◌≤◌, ◌+◌}
use mathlib.Core.Path.{◌≡◌, sym, ◌∙◌}
use mathlib.Core.Bool.{true, false}
use mathlib.Core.List.{List}
use native.Mathlib.Omega.{arith}
use borrow.Author.Tests.{eq-eqb, ne_eqb}
use lib.Dec.{eqb}
use lib.ListN.{length, get_or}
use Rattle.lists.specs.Order.{same_row}
use Rattle.lists.proofs.Laws.Every.{pairwise_lengths, PairsFrom, pairs_from_lem, pairs_passed, pairs_failed, pairs_over}
use Rattle.rows.specs.Rows.{through}
use Rattle.rows.proofs.Laws.Rows.{length_through, get_d_through}
use Rattle.rows.proofs.rows.agree.Given as goal

abbrev pub Agree : List ℕ → List ℕ → List ℕ → List ℕ → ℕ → Type 0
Agree t r u o j = PairsFrom eqb (through t r) (through u o) j

module _ (t r u o : List ℕ) where
  pub unequal : (length r ≡ length o → ⊥) → false ≡ same_row (through t r) (through u o)
  unfolding same_row
  unequal h = sym (pairwise_lengths eqb _ _ (λ e. h (sym (length_through t r) ∙ e ∙ length_through u o)))

  pub start : length r ≡ length o → Agree t r u o 0
  start h = pairs_from_lem eqb _ _ (length_through t r ∙ h ∙ sym (length_through u o))

  module _ (j : ℕ) (i : Agree t r u o j) where
    pub done : length r ≤ j → true ≡ same_row (through t r) (through u o)
    unfolding same_row
    done h = pairs_over i (rw (length_through t r) h)

    module _ (h : j < length r) where
      pub inside : j < length (through t r)
      inside = rw (length_through t r) h

      pub other_inside : j < length o
      other_inside = omega (arith, inside, i.lengths, length_through u o)

      -- what the tables say of the entries there
      module _ (x y : ℕ) (e : x ≡ get_or t (get_or r j 0) 255) (f : y ≡ get_or u (get_or o j 0) 255) where
        pub left : get_or (through t r) j 0 ≡ x
        left = get_d_through t r j 0 h ∙ sym e

        pub right : get_or (through u o) j 0 ≡ y
        right = get_d_through u o j 0 other_inside ∙ sym f

        pub stop : (x ≡ y → ⊥) → false ≡ same_row (through t r) (through u o)
        unfolding same_row
        stop n = pairs_failed i 0 0 inside (ne_eqb _ _ (λ q. n (sym left ∙ q ∙ right)))

        pub more : x ≡ y → Agree t r u o (j + 1)
        more q = pairs_passed i 0 0 inside (eq-eqb _ _ (left ∙ q ∙ sym right))

abbrev pub invariant-loop-j : goal.invariant-loop-j
invariant-loop-j l = Agree l.table l.row l.other_table l.other l.j
