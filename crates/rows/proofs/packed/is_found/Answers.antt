-- `rows::packed::is_found` meets its contract: a row is found by its number, and it stands among those with its first entry. Assumes nothing.
use Prim.Native.Nat.{ℕ, ◌+◌, ◌<◌, ◌≤◌}
use mathlib.Core.Path.{◌≡◌, sym, ap, ◌∙◌}
use mathlib.Core.Bool.{Bool, true}
use mathlib.Core.List.{List, map}
use native.Mathlib.Omega.{arith}
use lib.ListN.{length, get_or}
use Rattle.lists.specs.Numbers.{up_from}
use Rattle.lists.specs.Order.{ascending}
use Rattle.lists.proofs.Laws.Entries.{entry_at_lem, length_entries}
use Rattle.lists.proofs.Laws.Part.{length-rows_of}
use Rattle.stored.specs.declared.rows.Rows.{Rows}
use Rattle.stored.specs.File.{listed}
use Rattle.stored.specs.Limits.{max_arity}
use Rattle.rows.specs.Rows.{through, has_row}
use Rattle.rows.specs.Packed.{packed, has_number, start_at, Between}
use Rattle.rows.proofs.Laws.Rows.{length_through, get_d_through}
use Rattle.rows.proofs.Laws.Packed.{Rows as RowsOf, Bytes, bytes_through, rows_bytes, number_row}
use Rattle.rows.proofs.Laws.Starts.{start_within, row_between}
use Rattle.rows.proofs.packed.is_found.Goals as goal

-- what the call is given
abbrev Given : List ℕ → List ℕ → Rows → Type 0
Given row starts others =
    (1 ≤ others.arity) × (others.arity ≤ max_arity) × (length row ≡ others.arity) × (ascending (listed others) ≡ true) × (starts ≡ map (start_at (listed others)) (up_from 0 65))

module _ (table row starts : List ℕ) (others : Rows) (p : Given row starts others) where
  short : length row ≤ max_arity
  short = omega (arith, p.1, p.2)

  some : 0 < length row
  some = omega (arith, p.0, p.2)

  room : length starts ≡ 65
  room = ap length p.4 ∙ length_entries (start_at (listed others)) 65

  start_is : (x : ℕ) → x < 65 → get_or starts x 0 ≡ start_at (listed others) x
  start_is x h = ap (λ (t : List ℕ). get_or t x 0) p.4 ∙ entry_at_lem (start_at (listed others)) 65 x 0 h

  -- the row's number
  module _ (n : ℕ) (e : n ≡ packed (through table row)) where
    anywhere : Between n (listed others) 0 others.count
    anywhere k l q = (omega arith, omega (arith, length-rows_of others.arity others.count others.cells.now))

    module _ (table-bytes : Bytes table) where
      its_rows : RowsOf others.arity (listed others)
      its_rows = rows_bytes others.cells.now others.arity others.count others.whole others.bytes

      answer : (r : Bool) → r ≡ has_number n (listed others) → r ≡ has_row (through table row) (listed others)
      answer r f =
          f ∙ ap (λ (m : ℕ). has_number m (listed others)) e
          ∙ number_row others.arity (through table row) (length_through table row ∙ p.2) (bytes_through table row table-bytes) (listed others) its_rows

      module _ (x : ℕ) (q : x ≡ get_or table (get_or row 0 0) 255) (h : x < 64) where
        to_within : get_or starts (x + 1) 0 ≤ others.count
        to_within = omega (arith, start_is (x + 1) (omega arith), start_within others.arity (listed others) its_rows p.3 (x + 1), length-rows_of others.arity others.count others.cells.now)

        between : Between n (listed others) (get_or starts x 0) (get_or starts (x + 1) 0)
        between =
            rw (e, start_is x (omega arith), start_is (x + 1) (omega arith))
            (row_between others.arity (listed others) its_rows p.3 (through table row) (length_through table row ∙ p.2) (bytes_through table row table-bytes) x (q ∙ sym (get_d_through table row 0 0 some)))

pub number_through-number-requires : goal.number_through-number-requires
number_through-number-requires c = short c.args.table.now c.args.row.now _ c.args.others.now c.requires

pub bounds-row-0 : goal.bounds-row-0
bounds-row-0 c = some c.args.table.now c.args.row.now _ c.args.others.now c.requires

pub overflow_cast-row : goal.overflow_cast-row
overflow_cast-row c = omega (arith, c.type_inv.row 0)

pub look-first-requires : goal.look-first-requires
look-first-requires c = tt

pub has_number-requires : goal.has_number-requires
has_number-requires c =
    let p = c.requires in
    (p.1, p.3, omega arith, anywhere c.args.table.now c.args.row.now _ c.args.others.now p _ c.number_through-number.ensures)

pub returns-then-first-ge64 : goal.returns-then-first-ge64
returns-then-first-ge64 c =
    answer _ _ _ c.args.others.now c.requires _ c.number_through-number.ensures
    (λ i. omega (arith, c.type_inv.table i)) _ c.has_number.ensures

pub offset_bounds-starts-first : goal.offset_bounds-starts-first
offset_bounds-starts-first c = omega (arith, c.if-first-ge64.false)

pub bounds-starts-first : goal.bounds-starts-first
bounds-starts-first c = omega (arith, c.if-first-ge64.false)

pub overflow_add-to : goal.overflow_add-to
overflow_add-to c = omega (arith, c.if-first-ge64.false)

pub offset_bounds-starts-first-2 : goal.offset_bounds-starts-first-2
offset_bounds-starts-first-2 c = omega (arith, c.if-first-ge64.false)

pub bounds-starts-first-2 : goal.bounds-starts-first-2
bounds-starts-first-2 c = omega (arith, c.if-first-ge64.false)

pub has_number-requires-2 : goal.has_number-requires-2
has_number-requires-2 c =
    let p = c.requires in (
      p.1,
      p.3,
      to_within c.args.table.now c.args.row.now _ c.args.others.now p _ c.number_through-number.ensures (λ i. omega (arith, c.type_inv.table i)) _ c.look-first.ensures (omega (arith, c.if-first-ge64.false)),
      between _ _ _ c.args.others.now p _ c.number_through-number.ensures (λ i. omega (arith, c.type_inv.table i)) _ c.look-first.ensures (omega (arith, c.if-first-ge64.false)),
    )

pub returns : goal.returns
returns c =
    answer _ _ _ c.args.others.now c.requires _ c.number_through-number.ensures
    (λ i. omega (arith, c.type_inv.table i)) _ c.has_number-2.ensures
