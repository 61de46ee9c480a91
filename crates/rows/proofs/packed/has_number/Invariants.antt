-- `rows::packed::has_number` meets its contract. The invariant: the rows that may have the number are those from `first` on, `left` of them; they
-- end where the range ends; the measure is how many are left. Assumes nothing.
use Prim.Native.Nat.{ℕ, ◌*◌, ◌+◌, ◌-◌, ◌/◌, ◌<◌, ◌≤◌}
use mathlib.Core.Path.{◌≡◌, ap, ◌∙◌}
use mathlib.Core.List.{List, []}
use native.Mathlib.Omega.{arith}
use lib.Dec.{eqb}
use lib.ListN.{length, get_or}
use Rattle.lists.specs.Part.{part, rows_of}
use Rattle.lists.proofs.Laws.Part.{get_d_rows_of, length-row}
use Rattle.stored.specs.Limits.{max_arity}
use Rattle.rows.specs.Packed.{packed, has_number}
use Rattle.rows.proofs.Laws.Packed.{Halved, halved_up, halved_down, halved_all}
use Rattle.rows.proofs.packed.has_number.Given as goal

module _ {s : List ℕ} {a c number first left : ℕ} (by : Halved s a c number first left) where
  -- the row in the middle and its number
  module _ (h : 1 < left) (row : List ℕ) (row_is : row ≡ get_or (rows_of a c s) (first + left / 2) []) (n : ℕ) (is_n : n ≡ packed row) where
    is_row : row ≡ part s ((first + left / 2) * a) a
    is_row = row_is ∙ get_d_rows_of a c s (first + left / 2) [] (omega (arith, by.ends))

    pub up : n ≤ number → (f : ℕ) → f ≡ first + left / 2 → Halved s a c number f (left - left / 2)
    up l f q = rw q (halved_up by h (omega (arith, is_n ∙ ap packed is_row)))

    pub down : number < n → (f : ℕ) → f ≡ first → Halved s a c number f (left - left / 2)
    down l f q = rw q (halved_down by h (omega (arith, is_n ∙ ap packed is_row)))

  -- the row that is left
  pub done : left ≤ 1 → (row : List ℕ) → row ≡ get_or (rows_of a c s) first [] → (n : ℕ) → n ≡ packed row → eqb n number ≡ has_number number (rows_of a c s)
  done h row row_is n is_n =
      let is_row = row_is ∙ get_d_rows_of a c s first [] (omega (arith, by.ends, by.some)) in
      ap (λ (m : ℕ). eqb m number) (is_n ∙ ap packed is_row) ∙ halved_all by h

  -- a row that lies in between is short enough for a number
  pub short : (i : ℕ) → i < first + left → (row : List ℕ) → row ≡ get_or (rows_of a c s) i [] → length row ≤ max_arity
  short i h row e = omega (arith, ap length e, length-row a c s i [] by.fits (omega (arith, by.ends)), by.short)

abbrev pub invariant-loop-left : goal.invariant-loop-left
invariant-loop-left l = record {
  halved : Halved l.rows.cells.now l.rows.arity l.rows.count l.number l.first l.left;
  within : l.first + l.left ≤ l.to;
}

abbrev pub decreases-loop-left : goal.decreases-loop-left
decreases-loop-left l = l.left
