-- What reading a file answers.
use Rattle.std.specs.Prelude.{◌≡◌, ℕ, ◌+◌, List, [], length, Result, Ok, Err}
use Rattle.lists.specs.Numbers.{sum}
use Rattle.stored.specs.declared.refusal.Fault.{Fault}
use Rattle.stored.specs.declared.layout.Layout.{Layout}
use Rattle.stored.specs.declared.read.Item.TheVariants as item
use Rattle.stored.specs.Field.{fault_at}
use Rattle.stored.specs.Model.{Model}
use Rattle.stored.specs.Parse.{Parsed, model, fault, item_at, parse}
use Rattle.stored.specs.Layout.{table, firsts_from, layout_of}

-- a model's layout, or the fault
unfoldable pub reading_of : Parsed → Result Layout Fault
reading_of (model m) = Ok (layout_of m)
reading_of (fault f) = Err f

-- the model that a file holds; a model of nothing where it holds none
unfoldable pub model_in : Parsed → Model
model_in (model m) = m
model_in (fault f) = record { sizes = []; roots = []; relations = [] }

abbrev pub model_of : List ℕ → Model
model_of s = model_in (parse s)

-- the file holds a model, and the layout is that model's
pub record Reads (s : List ℕ) (l : Layout) : Type 0 where
  pub accepted : parse s ≡ model (model_of s)
  pub there : l ≡ layout_of (model_of s)

-- the file holds a model
abbrev pub Holds : List ℕ → Type 0
Holds s = parse s ≡ model (model_of s)

-- the layout of Types and Roots alone, the value of Roots at an offset
unfoldable pub begun_with : List ℕ → ℕ → Layout
begun_with sizes roots = record { types = length sizes; first = table (firsts_from 0 sizes); size = sum sizes; roots = roots; relations = 0; arity = table []; count = table []; rows = table [] }

-- the layout of Types and Roots alone, with the offset just after them
pub record Begun (sizes : List ℕ) (at : ℕ) (l : Layout) : Type 0 where
  pub is_layout : l ≡ begun_with sizes (6 + length sizes)
  pub past : at ≡ 6 + length sizes + sum sizes

-- the answer where a layout is complete and End must follow
unfoldable pub last_reading : List ℕ → ℕ → List ℕ → ℕ → Layout → Result Layout Fault
last_reading sizes room s at l = elim (item_at sizes room s at) [
  | Ok x ↦ elim x [ item.End ↦ Ok l | item.Relation start len arity count past ↦ Err (fault_at at) ]
  | Err f ↦ Err f
]
