-- "Order: Types, Roots, any Relations, End, nothing after."
use Rattle.std.specs.Prelude.{ℕ, zero, suc, ◌-◌, true, false, ◌&&◌, List, [], ◌∷◌, length, eqb, Some, None, Result, Ok, Err}
use Rattle.lists.specs.Part.{part}
use Rattle.stored.specs.declared.refusal.Fault.{Fault}
use Rattle.stored.specs.declared.read.Item.{Item}
use Rattle.stored.specs.declared.read.Item.TheVariants as item
use Rattle.stored.specs.Limits.{max_relations, max_cells}
use Rattle.stored.specs.Field.{field_at, fault_at}
use Rattle.stored.specs.Types.{types_hold}
use Rattle.stored.specs.Roots.{roots_hold}
use Rattle.stored.specs.Relation.{columns_of, cells_of, rows_in, head_of}
use Rattle.stored.specs.Model.{Rel, Model}

-- what a file holds: a model, or a field at fault
pub data Parsed : Type 0 where
  model : Model → Parsed
  fault : Fault → Parsed

-- "End, tag 00, length 0." "Bytes after End are a fault at the offset just after it."
unfoldable pub end_at : List ℕ → ℕ → ℕ → ℕ → Result Item Fault
end_at s at start len = elim (eqb len 0) [
  | true ↦ elim (eqb start (length s)) [ true ↦ Ok item.End | false ↦ Err (fault_at start) ]
  | false ↦ Err (fault_at at)
]

-- what stands at an offset after Roots: End, a Relation that keeps its rules, or a fault
unfoldable pub item_at : List ℕ → ℕ → List ℕ → ℕ → Result Item Fault
item_at sizes room s at = elim (field_at s at) [
  | Ok x ↦ elim (eqb x.tag 0) [
    | true ↦ end_at s at x.start x.len
    | false ↦ elim (eqb x.tag 3) [
      | true ↦ elim (head_of sizes room (part s x.start x.len)) [
        | Some h ↦ Ok (item.Relation x.start x.len h.arity h.count x.next)
        | None ↦ Err (fault_at at)
      ]
      | false ↦ Err (fault_at at)
    ]
  ]
  | Err f ↦ Err f
]

abbrev pub relation_of : List ℕ → Rel
relation_of v = record { columns = columns_of v; rows = rows_in v }

-- the relations from an offset on, or a field at fault
pub data Rest : Type 0 where
  relations : List Rel → Rest
  broken : Fault → Rest

unfoldable pub before : Rel → Rest → Rest
before r (relations rs) = relations (r ∷ rs)
before r (broken f) = broken f

-- Relations and End from an offset on, with so many relations and cells still allowed. "The total of cells is at fault in the relation that
-- passes it."; a Relation where none is allowed any more has a tag that is not due
unfoldable pub rest_at : ℕ → List ℕ → ℕ → List ℕ → ℕ → Rest
rest_at zero sizes room s at = elim (item_at sizes room s at) [
  | Ok x ↦ elim x [ item.End ↦ relations [] | item.Relation start len arity count past ↦ broken (fault_at at) ]
  | Err f ↦ broken f
]
rest_at (suc allowed) sizes room s at = elim (item_at sizes room s at) [
  | Ok x ↦ elim x [
    | item.End ↦ relations []
    | item.Relation start len arity count past ↦ before (relation_of (part s start len)) (rest_at allowed sizes (room - cells_of (part s start len)) s past.at)
  ]
  | Err f ↦ broken f
]

unfoldable pub model_with : List ℕ → List ℕ → Rest → Parsed
model_with sizes roots (relations rs) = model (record { sizes = sizes; roots = roots; relations = rs })
model_with sizes roots (broken f) = fault f

-- Roots and what follows
unfoldable pub parse_roots : List ℕ → List ℕ → ℕ → Parsed
parse_roots sizes s at = elim (field_at s at) [
  | Ok x ↦ elim (eqb x.tag 2 && roots_hold sizes (part s x.start x.len)) [
    | true ↦ model_with sizes (part s x.start x.len) (rest_at max_relations sizes max_cells s x.next.at)
    | false ↦ fault (fault_at at)
  ]
  | Err f ↦ fault f
]

-- the model that a file holds, or the field at fault
unfoldable pub parse : List ℕ → Parsed
parse s = elim (field_at s 0) [
  | Ok x ↦ elim (eqb x.tag 1 && types_hold (part s x.start x.len)) [
    | true ↦ parse_roots (part s x.start x.len) s x.next.at
    | false ↦ fault (fault_at 0)
  ]
  | Err f ↦ fault f
]
