-- `rows::rows::write_through` meets its contract. The invariant: what the table says of the first j entries of the row is written; the measure is
-- the number of entries left. Assumes nothing.
use Prim.Native.Nat.{ℕ, ◌<◌, ◌≤◌, ◌+◌}
use mathlib.Core.Path.{◌≡◌, sym, ◌∙◌}
use mathlib.Core.List.{List}
use native.Mathlib.Omega.{arith}
use lib.ListN.{length, get_or, set}
use Rattle.lists.specs.Part.{over}
use Rattle.rows.specs.Rows.{through}
use Rattle.lists.proofs.Laws.Over.{Written, written_none, written_length, written_more, written_all}
use Rattle.rows.proofs.Laws.Rows.{length_through, get_d_through}
use Rattle.rows.proofs.rows.write_through.Given as goal

module _ (table row old : List ℕ) where
  pub start : length row ≤ length old → Written (through table row) old old 0
  start h = written_none _ _ (rw (length_through table row) h)

  module _ (out : List ℕ) (j : ℕ) (i : Written (through table row) old out j) where
    pub done : length row ≤ j → out ≡ over (through table row) old
    done h = written_all i (rw (length_through table row) h)

    module _ (h : j < length row) where
      pub inside : j < length (through table row)
      inside = rw (length_through table row) h

      pub room : j < length out
      room = omega (arith, inside, i.fits, written_length i)

      pub more : (y : ℕ) → y ≡ get_or table (get_or row j 0) 255 → Written (through table row) old (set out j y) (j + 1)
      more y e = written_more i 0 y inside (e ∙ sym (get_d_through table row j 0 h))

abbrev pub invariant-loop-j : goal.invariant-loop-j
invariant-loop-j l = Written (through l.table l.row) l.initial.out l.out l.j
