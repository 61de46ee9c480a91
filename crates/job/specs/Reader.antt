-- What a reader gives: the field at its place, by the stored form's "one-byte tag, a two-byte length (high byte first) and a value".
use Rattle.std.specs.Prelude.{ℕ, true, false, List, eqb, Option, Some, None, Ok, Err}
use Rattle.stored.specs.Field.{field_at}
use Rattle.job.specs.declared.reader.Value.{Value}

-- a field that was due: where its value stands, and the place just past it
pub record Due : Type 0 where
  pub value : Value
  pub past : ℕ

-- the field at a place, if it has the tag that is due
unfoldable pub due_at : List ℕ → ℕ → ℕ → Option Due
due_at s tag at = elim (field_at s at) [
  | Ok x ↦ elim (eqb x.tag tag) [ true ↦ Some (record { value = record { start = x.start; len = x.len }; past = x.next.at }) | false ↦ None ]
  | Err f ↦ None
]
