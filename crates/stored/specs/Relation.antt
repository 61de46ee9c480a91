-- "Relation, tag 03: arity a; a type numbers; two-byte row count c; c rows of a element numbers."
use Rattle.std.specs.Prelude.{◌≡◌, ℕ, ◌+◌, ◌*◌, Bool, true, false, ◌&&◌, ◌||◌, List, length, get_or, drop, ltb, leb, eqb, Option, Some, None}
use Rattle.lists.specs.Every.{all, pairwise}
use Rattle.lists.specs.Numbers.{sum}
use Rattle.lists.specs.Order.{ascending}
use Rattle.lists.specs.Part.{part, rows_of}
use Rattle.stored.specs.declared.relation.Shape.{Shape}
use Rattle.stored.specs.Limits.{max_arity}
use Rattle.stored.specs.Field.{word_at}
use Rattle.stored.specs.Types.{type_in}

-- the parts of a relation's value
abbrev pub arity_of : List ℕ → ℕ
arity_of v = get_or v 0 0

abbrev pub columns_of : List ℕ → List ℕ
columns_of v = part v 1 (arity_of v)

abbrev pub count_of : List ℕ → ℕ
count_of v = word_at v (1 + arity_of v)

abbrev pub cells_of : List ℕ → ℕ
cells_of v = count_of v * arity_of v

abbrev pub rows_in : List ℕ → List (List ℕ)
rows_in v = rows_of (arity_of v) (count_of v) (drop (3 + arity_of v) v)

-- an entry of a row, by the numbers of row and column
abbrev pub entry_at : ℕ → List ℕ → ℕ → ℕ → ℕ
entry_at arity rows i j = get_or (part rows (i * arity) arity) j 0

-- a column has the number of a type
unfoldable pub column_holds : List ℕ → ℕ → Bool
column_holds sizes c = ltb c (length sizes)

-- "Entries have their column's type."
unfoldable pub entry_typed : List ℕ → ℕ → ℕ → Bool
entry_typed sizes c x = ltb x (sum sizes) && eqb (type_in sizes x) c

unfoldable pub row_typed : List ℕ → List ℕ → List ℕ → Bool
row_typed sizes columns row = pairwise (entry_typed sizes) columns row

-- the rules for the numbers of a Relation's value, with so many cells still allowed: "Length is exactly 3 + a + c·a." "With arity 0, c is 0
-- or 1."
unfoldable pub shape_holds : ℕ → List ℕ → Bool
shape_holds room v =
    leb (arity_of v) max_arity
    && (eqb (length v) (3 + arity_of v + cells_of v)
    && (leb (cells_of v) room
    && (leb (count_of v) 1 || leb 1 (arity_of v))))

-- the rules for its columns and rows: "Rows are strictly ascending, first column first."
unfoldable pub rows_hold : List ℕ → List ℕ → Bool
rows_hold sizes v =
    all (column_holds sizes) (columns_of v)
    && (all (row_typed sizes (columns_of v)) (rows_in v)
    && ascending (rows_in v))

unfoldable pub relation_holds : List ℕ → ℕ → List ℕ → Bool
relation_holds sizes room v = shape_holds room v && rows_hold sizes v

-- a relation's head: its arity and row count, where it keeps the rules
unfoldable pub head_if : Bool → List ℕ → Option Shape
head_if true v = Some (record { arity = arity_of v; count = count_of v })
head_if false v = None

unfoldable pub shape_of : ℕ → List ℕ → Option Shape
shape_of room v = head_if (shape_holds room v) v

unfoldable pub head_of : List ℕ → ℕ → List ℕ → Option Shape
head_of sizes room v = head_if (relation_holds sizes room v) v

-- a value's arity and row count, and its length by them
pub record Shaped (v : List ℕ) (arity count : ℕ) : Type 0 where
  pub is_arity : arity ≡ arity_of v
  pub is_count : count ≡ count_of v
  pub is_length : length v ≡ 3 + arity + count * arity
