-- `rows::packed::number_through` meets its contract. The invariant: the number of what the table says of the first j entries is built; the measure is
-- the number of entries left. Assumes nothing.
use Prim.Native.Nat.{ℕ, ◌+◌, ◌*◌, ◌<◌, ◌≤◌}
use mathlib.Core.Path.{◌≡◌, sym, ◌∙◌}
use mathlib.Core.List.{List}
use lib.ListN.{length, get_or}
use Rattle.stored.specs.Limits.{max_arity}
use Rattle.rows.specs.Rows.{through}
use Rattle.rows.specs.Packed.{packed}
use Rattle.rows.proofs.Laws.Rows.{length_through, get_d_through}
use Rattle.rows.proofs.Laws.Packed.{PackedTo, packed_none, packed_all, packed_room, packed_more}
use Rattle.rows.proofs.packed.number_through.Given as goal

module _ (table row : List ℕ) where
  pub start : length row ≤ max_arity → PackedTo (through table row) 0 0
  start h = packed_none _ (rw (length_through table row) h)

  module _ (number j : ℕ) (i : PackedTo (through table row) number j) where
    pub done : length row ≤ j → number ≡ packed (through table row)
    done h = packed_all i (rw (length_through table row) h)

    module _ (h : j < length row) where
      pub inside : j < length (through table row)
      inside = rw (length_through table row) h

      pub room : number * 256 + 255 < 18446744073709551616
      room = packed_room i inside

      pub more : (y : ℕ) → y < 256 → y ≡ get_or table (get_or row j 0) 255 → PackedTo (through table row) (number * 256 + y) (j + 1)
      more y b e = packed_more i inside y b (e ∙ sym (get_d_through table row j 0 h))

abbrev pub invariant-loop-x : goal.invariant-loop-x
invariant-loop-x l = PackedTo (through l.table l.row) l.number l.x-index
