-- "Each field is a one-byte tag, a two-byte length (high byte first) and a value."
use Rattle.std.specs.Prelude.{ℕ, ◌+◌, ◌*◌, true, false, List, length, get_or, leb, Result, Ok, Err}
use Rattle.stored.specs.declared.refusal.Fault.{Fault}
use Rattle.stored.specs.declared.field.Field.{Field}

-- the two-byte number at a place, high byte first
abbrev pub word_at : List ℕ → ℕ → ℕ
word_at s at = 256 * get_or s at 0 + get_or s (at + 1) 0

-- the fault of the field that starts at an offset
abbrev pub fault_at : ℕ → Fault
fault_at at = record { offset = at }

-- the field at an offset, or its fault: "A field is at fault when under three bytes remain at its start, its length passes the end, .."
unfoldable pub field_at : List ℕ → ℕ → Result Field Fault
field_at s at = elim (leb (at + 3) (length s)) [
  | true ↦ elim (leb (at + 3 + word_at s (at + 1)) (length s)) [
    | true ↦ Ok (record { tag = get_or s at 0; start = at + 3; len = word_at s (at + 1); next = record { at = at + 3 + word_at s (at + 1) } })
    | false ↦ Err (fault_at at)
  ]
  | false ↦ Err (fault_at at)
]
