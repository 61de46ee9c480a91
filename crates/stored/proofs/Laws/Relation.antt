-- The laws of the value of a Relation: when a column, an entry, the numbers, the rows hold, and what follows where they do. Assumes nothing.
use Prim.Native.Nat.{ℕ, ◌+◌, ◌<◌, ◌≤◌}
use mathlib.Core.Path.{◌≡◌, refl}
use mathlib.Core.Logic.{◌⊎◌, inl, inr, ⊎_map}
use mathlib.Core.Bool.{Bool, true, false, ◌&&◌, ◌||◌, false≢true}
use mathlib.Core.List.{List}
use native.Mathlib.Omega.{arith}
use borrow.Author.Tests.{lt-ltb, le-ltb, le-leb, eq-eqb, leb-true, eqb-true}
use lib.Dec.{leb, eqb}
use lib.ListN.{length}
use Rattle.lists.specs.Every.{all}
use Rattle.lists.specs.Numbers.{sum}
use Rattle.lists.specs.Order.{ascending}
use Rattle.lists.proofs.Laws.Tests.{split, and_left}
use Rattle.std.proofs.Common.{Some, None}
use Rattle.stored.specs.declared.relation.Shape.{Shape}
use Rattle.stored.specs.Limits.{max_arity}
use Rattle.stored.specs.Types.{type_in}
use Rattle.stored.specs.Relation.{arity_of, columns_of, count_of, cells_of, rows_in, column_holds, entry_typed, row_typed, shape_holds, rows_hold, relation_holds, head_if, shape_of, head_of, Shaped}
use Rattle.lists.proofs.Laws.Part.{length_part, part_ends, part_rest}

module _ (sizes : List ℕ) (c : ℕ) where
  pub column_holds_lem : c < length sizes → column_holds sizes c ≡ true
  unfolding column_holds
  column_holds_lem h = lt-ltb c (length sizes) h

  pub column_fails : length sizes ≤ c → column_holds sizes c ≡ false
  unfolding column_holds
  column_fails h = le-ltb c (length sizes) h

  pub entry_inside : (x : ℕ) → x < sum sizes → entry_typed sizes c x ≡ eqb (type_in sizes x) c
  unfolding entry_typed
  entry_inside x h = rw (lt-ltb x (sum sizes) h)

  pub entry_outside : (x : ℕ) → sum sizes ≤ x → entry_typed sizes c x ≡ false
  unfolding entry_typed
  entry_outside x h = rw (le-ltb x (sum sizes) h)

-- the rules for the numbers of a value, as facts
pub record ShapeRules (room : ℕ) (v : List ℕ) : Type 0 where
  pub is_arity : arity_of v ≤ max_arity
  pub is_length : length v ≡ 3 + arity_of v + cells_of v
  pub is_within : cells_of v ≤ room
  pub is_flat : (count_of v ≤ 1) ⊎ (1 ≤ arity_of v)

-- four tests that all hold, and two of which one holds
all_four : (a b c d : Bool) → a && (b && (c && d)) ≡ true → (a ≡ true) × (b ≡ true) × (c ≡ true) × (d ≡ true)
all_four true true true d h = (refl, refl, refl, h)
all_four true true false d h = absurd (false≢true h)
all_four true false c d h = absurd (false≢true h)
all_four false b c d h = absurd (false≢true h)

one_of : (a b : Bool) → a || b ≡ true → (a ≡ true) ⊎ (b ≡ true)
one_of true b h = inl refl
one_of false b h = inr h

of_one : (a b : Bool) → (a ≡ true) ⊎ (b ≡ true) → a || b ≡ true
of_one true b h = refl
of_one false b (inl h) = absurd (false≢true h)
of_one false b (inr h) = h

module _ (room : ℕ) (v : List ℕ) where
  pub shape_rules : shape_holds room v ≡ true → ShapeRules room v
  unfolding shape_holds
  shape_rules h =
      let k = all_four (leb (arity_of v) max_arity) (eqb (length v) (3 + arity_of v + cells_of v)) (leb (cells_of v) room) (leb (count_of v) 1 || leb 1 (arity_of v)) h in
      record {
        is_arity = leb-true (arity_of v) max_arity k.0;
        is_length = eqb-true (length v) (3 + arity_of v + cells_of v) k.1;
        is_within = leb-true (cells_of v) room k.2;
        is_flat = ⊎_map (leb-true (count_of v) 1) (leb-true 1 (arity_of v)) (one_of (leb (count_of v) 1) (leb 1 (arity_of v)) k.3);
      }

  pub rules_shape : ShapeRules room v → shape_holds room v ≡ true
  unfolding shape_holds
  rules_shape r =
      rw (le-leb (arity_of v) max_arity r.is_arity, eq-eqb (length v) (3 + arity_of v + cells_of v) r.is_length, le-leb (cells_of v) room r.is_within)
      (of_one (leb (count_of v) 1) (leb 1 (arity_of v)) (⊎_map (le-leb (count_of v) 1) (le-leb 1 (arity_of v)) r.is_flat))

-- what a head by a test tells: the test holds, and which arity and row count the value has
pub record Headed (t : Bool) (v : List ℕ) (x : Shape) : Type 0 where
  pub holds : t ≡ true
  pub is_arity : x.arity ≡ arity_of v
  pub is_count : x.count ≡ count_of v

-- the arity and row count of a value
abbrev pub numbers_of : List ℕ → Shape
numbers_of v = record { arity = arity_of v; count = count_of v }

module _ (v : List ℕ) where
  head_true : (t : Bool) → t ≡ true → head_if t v ≡ Some (numbers_of v)
  unfolding head_if
  head_true t e = rw e

  head_false : (t : Bool) → t ≡ false → head_if t v ≡ None
  unfolding head_if
  head_false t e = rw e

  headed : (t : Bool) (x : Shape) → head_if t v ≡ Some x → Headed t v x
  unfolding head_if
  headed true x e = let f : numbers_of v ≡ x = cc in rw (← f) (record { holds = refl; is_arity = refl; is_count = refl })
  headed false x e = let z : ◌≡◌ {A = ℕ} 0 1 = cc in absurd (omega arith)

  head_broken : (t : Bool) → head_if t v ≡ None → t ≡ false
  unfolding head_if
  head_broken true e = let z : ◌≡◌ {A = ℕ} 0 1 = cc in absurd (omega arith)
  head_broken false e = refl

shaped : {t : Bool} {room : ℕ} {v : List ℕ} {x : Shape} → Headed t v x → ShapeRules room v → Shaped v x.arity x.count
shaped h r = record { is_arity = h.is_arity; is_count = h.is_count; is_length = rw (h.is_arity, h.is_count) r.is_length }

module _ (room : ℕ) (v : List ℕ) where
  pub shape_head : ShapeRules room v → shape_of room v ≡ Some (numbers_of v)
  unfolding shape_of
  shape_head r = head_true v (shape_holds room v) (rules_shape room v r)

  pub shape_broken : (ShapeRules room v → ⊥) → shape_of room v ≡ None
  unfolding shape_of
  shape_broken n = head_false v (shape_holds room v) (fails (split (shape_holds room v)))
    where
      fails : (shape_holds room v ≡ true) ⊎ (shape_holds room v ≡ false) → shape_holds room v ≡ false
      fails (inl e) = absurd (n (shape_rules room v e))
      fails (inr e) = e

  module _ (x : Shape) (e : shape_of room v ≡ Some x) where
    pub shape_headed : Headed (shape_holds room v) v x
    unfolding shape_of
    shape_headed = headed v (shape_holds room v) x e

    pub shape_shaped : Shaped v x.arity x.count
    shape_shaped = shaped shape_headed (shape_rules room v shape_headed.holds)

-- the rules for the columns and rows, one after the other
module _ (sizes v : List ℕ) where
  pub rows_no_columns : all (column_holds sizes) (columns_of v) ≡ false → rows_hold sizes v ≡ false
  unfolding rows_hold
  rows_no_columns e = rw e

  pub rows_no_types : all (column_holds sizes) (columns_of v) ≡ true → all (row_typed sizes (columns_of v)) (rows_in v) ≡ false → rows_hold sizes v ≡ false
  unfolding rows_hold
  rows_no_types e f = rw (e, f)

  pub rows_order : all (column_holds sizes) (columns_of v) ≡ true → all (row_typed sizes (columns_of v)) (rows_in v) ≡ true → rows_hold sizes v ≡ ascending (rows_in v)
  unfolding rows_hold
  rows_order e f = rw (e, f)

-- all rules together
module _ (sizes : List ℕ) (room : ℕ) (v : List ℕ) where
  pub head_no_shape : shape_of room v ≡ None → head_of sizes room v ≡ None
  unfolding head_of relation_holds shape_of
  head_no_shape e = rw (head_broken v (shape_holds room v) e) (head_false v false refl)

  module _ (x : Shape) where
    pub head_no_rows : shape_of room v ≡ Some x → rows_hold sizes v ≡ false → head_of sizes room v ≡ None
    unfolding head_of relation_holds
    head_no_rows e f = rw ((shape_headed room v x e).holds, f) (head_false v false refl)

    pub head_all : shape_of room v ≡ Some x → rows_hold sizes v ≡ true → head_of sizes room v ≡ Some x
    unfolding head_of relation_holds shape_of
    head_all e f = rw ((shape_headed room v x e).holds, f) (rw (shape_headed room v x e).holds at e)

    -- what holds of a value with a head
    module _ (e : head_of sizes room v ≡ Some x) where
      pub head_headed : Headed (relation_holds sizes room v) v x
      unfolding head_of
      head_headed = headed v (relation_holds sizes room v) x e

      pub head_rules : ShapeRules room v
      unfolding relation_holds
      head_rules = shape_rules room v (and_left (shape_holds room v) (rows_hold sizes v) head_headed.holds)

      pub head_shaped : Shaped v x.arity x.count
      head_shaped = shaped head_headed head_rules

-- the cases of `head_of`
pub ruleset heads = (head_no_shape, head_no_rows, head_all)

-- the columns and the rows of a value, handed on by their ends
pub ruleset handed = (length_part, part_ends, part_rest)
