-- What was parsed is well formed, and stands in the file where its layout says. Assumes nothing.
use Prim.Native.Nat.{ℕ, zero, suc, ◌+◌, ◌*◌, ◌-◌, ◌≤◌, ◌<◌, zero-le}
use mathlib.Core.Path.{◌≡◌, refl, sym, ◌∙◌, ap, subst}
use mathlib.Core.Logic.{◌⊎◌, inl, inr}
use mathlib.Core.Bool.{true, false, ◌&&◌, ◌||◌}
use mathlib.Core.List.Memᴰ
use mathlib.Core.List.{List, [], ◌∷◌, Memᴰ}
use native.Mathlib.Omega.{arith}
use borrow.Author.Tests.{eqb-true, leb-true, ltb-true}
use lib.ListN.{length, get_or, take, drop}
use lib.Dec.{ltb, leb, eqb}
use Rattle.lists.specs.Every.{all}
use Rattle.lists.specs.Numbers.{sum, up_from}
use Rattle.lists.specs.Order.{ascending}
use Rattle.lists.specs.Part.{part, rows_of}
use Rattle.lists.proofs.Laws.Tests.{split, and_left, and_right}
use Rattle.lists.proofs.Laws.Every.{all_mem}
use Rattle.lists.proofs.Laws.Numbers.{up_from_mem}
use Rattle.lists.proofs.Laws.Part.{length_part, drop-part, take_part, length-rows_of, rows_of_front, part_ends}
use Rattle.std.proofs.Common.{Result, Ok, Err}
use Rattle.stored.specs.declared.refusal.Fault.{Fault}
use Rattle.stored.specs.declared.field.Cursor.{Cursor}
use Rattle.stored.specs.declared.read.Item.{Item}
use Rattle.stored.specs.declared.read.Item.TheVariants as item
use Rattle.stored.specs.Limits.{max_types, max_elements, max_relations, max_arity, max_cells}
use Rattle.stored.specs.Types.{types_hold, type_in}
use Rattle.stored.specs.Roots.{root_holds, roots_hold}
use Rattle.stored.specs.Relation.{arity_of, columns_of, count_of, cells_of, rows_in, column_holds, row_typed, shape_holds, rows_hold, relation_holds}
use Rattle.stored.specs.Model.{Rel, Model, size, type_of, root_of}
use Rattle.stored.specs.Parse.{model, item_at, relation_of, Rest, relations, broken, before, rest_at, parse}
use Rattle.stored.specs.Layout.{arity, count, rows_from}
use Rattle.stored.proofs.Laws.Field.{Within, field_within}
use Rattle.stored.proofs.Laws.Parse.{relation_field, Found, item_found, rest_end, rest_fault, rest_too_many, rest_more, Accepted, parse_accepted}
use Rattle.stored.proofs.Laws.Types.{types_length}

-- a relation over types of these sizes: every limit, and the rules for columns and rows
pub record RelationFormed (sizes : List ℕ) (r : Rel) : Type 0 where
  pub small_arity : arity r ≤ max_arity
  pub one_empty_row : arity r ≡ 0 → count r ≤ 1
  pub columns_known : (c : ℕ) → Memᴰ c r.columns → c < length sizes
  pub rows_typed : (row : List ℕ) → Memᴰ row r.rows → row_typed sizes r.columns row ≡ true
  pub rows_ascend : ascending r.rows ≡ true

-- the cells of some relations together
unfoldable pub cells : List Rel → ℕ
cells [] = 0
cells (r ∷ rs) = count r * arity r + cells rs

-- a relation whose rows start at an offset of the file, its columns before them
pub record Stands (s : List ℕ) (start : ℕ) (r : Rel) : Type 0 where
  pub rows_there : r.rows ≡ rows_of (arity r) (count r) (drop start s)
  pub columns_there : r.columns ≡ part s (start - (arity r + 2)) (arity r)
  pub after_columns : arity r + 2 ≤ start
  pub inside : start + count r * arity r ≤ length s

-- one relation's value: what its rules say
module _ (sizes : List ℕ) (room : ℕ) (v : List ℕ) (h : relation_holds sizes room v ≡ true) where
  shape_holds_lem : shape_holds room v ≡ true
  unfolding relation_holds
  shape_holds_lem = and_left (shape_holds room v) (rows_hold sizes v) h

  rows_hold_lem : rows_hold sizes v ≡ true
  unfolding relation_holds
  rows_hold_lem = and_right (shape_holds room v) (rows_hold sizes v) h

  value_arity : arity_of v ≤ max_arity
  unfolding shape_holds
  value_arity = leb-true _ _ (and_left (leb (arity_of v) max_arity) _ shape_holds_lem)

  value_length : length v ≡ 3 + arity_of v + cells_of v
  unfolding shape_holds
  value_length = eqb-true _ _ (and_left (eqb (length v) (3 + arity_of v + cells_of v)) _ (and_right (leb (arity_of v) max_arity) _ shape_holds_lem))

  after_length : leb (cells_of v) room && (leb (count_of v) 1 || leb 1 (arity_of v)) ≡ true
  unfolding shape_holds
  after_length = and_right (eqb (length v) (3 + arity_of v + cells_of v)) _ (and_right (leb (arity_of v) max_arity) _ shape_holds_lem)

  value_cells : cells_of v ≤ room
  value_cells = leb-true _ _ (and_left (leb (cells_of v) room) _ after_length)

  value_nullary : arity_of v ≡ 0 → count_of v ≤ 1
  value_nullary e = go (split (leb (count_of v) 1)) (and_right (leb (cells_of v) room) _ after_length)
    where
      go : (leb (count_of v) 1 ≡ true) ⊎ (leb (count_of v) 1 ≡ false) → leb (count_of v) 1 || leb 1 (arity_of v) ≡ true → count_of v ≤ 1
      go (inl p) q = leb-true _ _ p
      go (inr p) q = absurd (let z : 1 ≤ arity_of v = leb-true 1 (arity_of v) (rw p at q) in omega arith)

  is_arity : arity (relation_of v) ≡ arity_of v
  is_arity = length_part v 1 (arity_of v) (omega (arith, value_length))

  is_count : count (relation_of v) ≡ count_of v
  is_count = length-rows_of (arity_of v) (count_of v) (drop (3 + arity_of v) v)

  value_formed : RelationFormed sizes (relation_of v)
  unfolding rows_hold column_holds
  value_formed = record {
    small_arity = rw is_arity value_arity;
    one_empty_row = λ e. rw is_count (value_nullary (sym is_arity ∙ e));
    columns_known = λ c m. ltb-true _ _ (all_mem (column_holds sizes) (columns_of v) (and_left (all (column_holds sizes) (columns_of v)) _ rows_hold_lem) c m);
    rows_typed = λ row m. all_mem (row_typed sizes (columns_of v)) (rows_in v) (and_left (all (row_typed sizes (columns_of v)) (rows_in v)) _ after_columns) row m;
    rows_ascend = and_right (all (row_typed sizes (columns_of v)) (rows_in v)) _ after_columns;
  }
    where
      after_columns : all (row_typed sizes (columns_of v)) (rows_in v) && ascending (rows_in v) ≡ true
      after_columns = and_right (all (column_holds sizes) (columns_of v)) _ rows_hold_lem

-- rows and columns of a part of the file stand in the file
module _ (s : List ℕ) (start len a c : ℕ) (h : 3 + a + c * a ≤ len) where
  rows_of-part : rows_of a c (drop (3 + a) (part s start len)) ≡ rows_of a c (drop (start + 3 + a) s)
  rows_of-part =
      let e : start + (3 + a) ≡ start + 3 + a = omega arith in
      ap (rows_of a c) (drop-part s start len (3 + a)) ∙ rows_of_front a c (len - (3 + a)) (drop (start + (3 + a)) s) (omega arith) ∙ ap (λ (k : ℕ). rows_of a c (drop k s)) e

  columns_of_part : part (part s start len) 1 a ≡ part s (start + 3 + a - (a + 2)) a
  columns_of_part =
      let e : start + 1 ≡ start + 3 + a - (a + 2) = omega arith in
      ap (take a) (drop-part s start len 1) ∙ take_part s (start + 1) (len - 1) a (omega arith) ∙ ap (λ (k : ℕ). part s k a) e

-- the value of a relation that keeps the rules stands in the file
module _ (sizes : List ℕ) (room : ℕ) (s : List ℕ) (start len : ℕ) (within : start + len ≤ length s) (h : relation_holds sizes room (part s start len) ≡ true) where
  len_is : len ≡ 3 + arity_of (part s start len) + cells_of (part s start len)
  len_is = sym (length_part s start len within) ∙ value_length sizes room (part s start len) h

  value_stands : Stands s (start + 3 + arity_of (part s start len)) (relation_of (part s start len))
  value_stands =
      let v = part s start len in
      let p = is_arity sizes room v h in
      let q = is_count sizes room v h in
      let l : 3 + arity_of v + cells_of v ≤ len = omega (arith, len_is) in
      record {
        rows_there = rw (p, q) (rows_of-part s start len (arity_of v) (count_of v) l);
        columns_there = rw p (columns_of_part s start len (arity_of v) (count_of v) l);
        after_columns = rw p (omega arith);
        inside = rw (p, q) (omega (arith, len_is));
      }

-- the numbers of a relation that was found, and the offsets of its field
pub record Measured (room : ℕ) (s : List ℕ) (at start arity₀ count₀ : ℕ) (past : Cursor) (r : Rel) : Type 0 where
  pub is_arity : arity₀ ≡ arity r
  pub is_count : count₀ ≡ count r
  pub small : arity₀ ≤ max_arity
  pub fits : count₀ * arity₀ ≤ room
  pub begins : start ≡ at + 3
  pub ends : past.at ≡ at + 6 + arity₀ + count₀ * arity₀
  pub inside : past.at ≤ length s

pub found_measured : (sizes : List ℕ) (room : ℕ) (s : List ℕ) (at start len a c : ℕ) (past : Cursor) → Found sizes room s at start len a c past → Measured room s at start a c past (relation_of (part s start len))
found_measured sizes room s at start len a c past found =
    let v = part s start len in
    let h = found.holds in
    let w = field_within s at (relation_field start len past) found.field in
    let p = found.is_arity in
    let q = found.is_count in
    record {
      is_arity = p ∙ sym (is_arity sizes room v h);
      is_count = q ∙ sym (is_count sizes room v h);
      small = rw p (value_arity sizes room v h);
      fits = rw (p, q) (value_cells sizes room v h);
      begins = w.begins;
      ends = rw (p, q) (omega (arith, w.begins, w.ends, len_is sizes room s start len w.inside h));
      inside = omega (arith, w.ends, w.inside);
    }

-- Relations from an offset on that were read with so many relations and cells allowed
pub record RestFormed (allowed : ℕ) (sizes : List ℕ) (room : ℕ) (s : List ℕ) (at : ℕ) (rs : List Rel) : Type 0 where
  pub few : length rs ≤ allowed
  pub cells_fit : cells rs ≤ room
  pub formed : (r : Rel) → Memᴰ r rs → RelationFormed sizes r
  pub stand : (d : Rel) (k : ℕ) → k < length rs → Stands s (get_or (rows_from at rs) k 0) (get_or rs k d)

module _ (sizes : List ℕ) (s : List ℕ) where
  none_formed : (k room at : ℕ) → RestFormed k sizes room s at []
  unfolding cells
  none_formed k room at = record {
    few = zero-le;
    cells_fit = zero-le;
    formed = λ r m. absurd (Memᴰ.not-nil m);
    stand = λ d k l. absurd (omega arith);
  }

  more_formed : (k room at start len a c : ℕ) (past : Cursor) → Found sizes room s at start len a c past → (rs : List Rel) → RestFormed k sizes (room - cells_of (part s start len)) s past.at rs → RestFormed (suc k) sizes room s at (relation_of (part s start len) ∷ rs)
  unfolding cells rows_from
  more_formed k room at start len a c past found rs f = record {
    few = omega (arith, f.few);
    cells_fit = rw (is_arity sizes room v h, is_count sizes room v h) (omega (arith, f.cells_fit, value_cells sizes room v h));
    formed = λ r m. by_member r (Memᴰ.cases_cons m);
    stand = by_place;
  }
    where
      v : List ℕ
      v = part s start len

      h : relation_holds sizes room (part s start len) ≡ true
      h = found.holds

      by_member : (r : Rel) → (r ≡ relation_of (part s start len)) ⊎ Memᴰ r rs → RelationFormed sizes r
      by_member r (inl e) = subst (RelationFormed sizes) (sym e) (value_formed sizes room (part s start len) h)
      by_member r (inr m) = f.formed r m

      w : Within s at (relation_field start len past)
      w = field_within s at (relation_field start len past) found.field

      d₀ : Measured room s at start a c past (relation_of (part s start len))
      d₀ = found_measured sizes room s at start len a c past found

      starts : start + 3 + arity_of (part s start len) ≡ at + 6 + arity (relation_of (part s start len))
      starts = omega (arith, d₀.begins, d₀.is_arity, found.is_arity)

      ends : past.at ≡ at + 6 + arity (relation_of (part s start len)) + count (relation_of (part s start len)) * arity (relation_of (part s start len))
      ends = rw (← d₀.is_arity, ← d₀.is_count) d₀.ends

      by_place : (d : Rel) (k : ℕ) → k < suc (length rs) → Stands s (get_or (rows_from at (relation_of (part s start len) ∷ rs)) k 0) (get_or (relation_of (part s start len) ∷ rs) k d)
      by_place d zero l = subst (λ (b : ℕ). Stands s b (relation_of (part s start len))) starts (value_stands sizes room s start len w.inside h)
      by_place d (suc k) l = subst (λ (b : ℕ). Stands s (get_or (rows_from b rs) k 0) (get_or rs k d)) ends (f.stand d k (omega arith))

  abbrev RestKnown : ℕ → ℕ → ℕ → Rest → Type 0
  RestKnown k room at (relations rs) = RestFormed k sizes room s at rs
  RestKnown k room at (broken f) = Unit {0}

  before_known : (k room at start len a c : ℕ) (past : Cursor) → Found sizes room s at start len a c past → (r : Rest) → RestKnown k (room - cells_of (part s start len)) past.at r → RestKnown (suc k) room at (before (relation_of (part s start len)) r)
  unfolding before
  before_known k room at start len a c past found (relations rs) f = more_formed k room at start len a c past found rs f
  before_known k room at start len a c past found (broken g) f = tt

  rest_known : (k room at : ℕ) → RestKnown k room at (rest_at k sizes room s at)
  rest_known zero room at = by_item (item_at sizes room s at) refl
    where
      by_item : (i : Result Item Fault) → item_at sizes room s at ≡ i → RestKnown zero room at (rest_at zero sizes room s at)
      by_item (Ok item.End) e = rw (rest_end sizes room s at zero e) (none_formed zero room at)
      by_item (Ok (item.Relation start len a c past)) e = rw (rest_too_many sizes room s at start len a c past e) tt
      by_item (Err f) e = rw (rest_fault sizes room s at zero f e) tt
  rest_known (suc k) room at = by_item (item_at sizes room s at) refl (rest_known k)
    where
      by_item : (i : Result Item Fault) → item_at sizes room s at ≡ i → ((room at : ℕ) → RestKnown k room at (rest_at k sizes room s at)) → RestKnown (suc k) room at (rest_at (suc k) sizes room s at)
      by_item (Ok item.End) e ih = rw (rest_end sizes room s at (suc k) e) (none_formed (suc k) room at)
      by_item (Err f) e ih = rw (rest_fault sizes room s at (suc k) f e) tt
      by_item (Ok (item.Relation start len a c past)) e ih =
          rw (rest_more sizes room s at start len a c past e k)
          (before_known k room at start len a c past (item_found sizes room s at start len a c past e) (rest_at k sizes (room - cells_of (part s start len)) s past.at) (ih (room - cells_of (part s start len)) past.at))

  pub rest_formed : (k room at : ℕ) (rs : List Rel) → rest_at k sizes room s at ≡ relations rs → RestFormed k sizes room s at rs
  rest_formed k room at rs e = subst (RestKnown k room at) e (rest_known k room at)

-- what the layers above may rely on of a model that was parsed
pub record WellFormed (m : Model) : Type 0 where
  pub few_types : length m.sizes ≤ max_types
  pub few_elements : size m ≤ max_elements
  pub roots_length : length m.roots ≡ size m
  pub root_known : (x : ℕ) → x < size m → root_of m x < size m
  pub root_type : (x : ℕ) → x < size m → type_of m (root_of m x) ≡ type_of m x
  pub root_root : (x : ℕ) → x < size m → root_of m (root_of m x) ≡ root_of m x
  pub few_relations : length m.relations ≤ max_relations
  pub few_cells : cells m.relations ≤ max_cells
  pub each_formed : (r : Rel) → Memᴰ r m.relations → RelationFormed m.sizes r

-- the rules for roots, at each element
module _ (sizes roots : List ℕ) (h : roots_hold sizes roots ≡ true) where
  pub roots_length : length roots ≡ sum sizes
  unfolding roots_hold
  roots_length = eqb-true _ _ (and_left (eqb (length roots) (sum sizes)) _ h)

  module _ (x : ℕ) (l : x < length roots) where
    root_holds_lem : root_holds sizes roots x ≡ true
    unfolding roots_hold
    root_holds_lem = all_mem (root_holds sizes roots) (up_from 0 (length roots)) (and_right (eqb (length roots) (sum sizes)) _ h) x (up_from_mem 0 (length roots) x zero-le (omega arith))

    pub root_known : get_or roots x 0 < length roots
    unfolding root_holds
    root_known = ltb-true _ _ (and_left (ltb (get_or roots x 0) (length roots)) _ root_holds_lem)

    after_known : eqb (type_in sizes (get_or roots x 0)) (type_in sizes x) && eqb (get_or roots (get_or roots x 0) 0) (get_or roots x 0) ≡ true
    unfolding root_holds
    after_known = and_right (ltb (get_or roots x 0) (length roots)) _ root_holds_lem

    pub root_type : type_in sizes (get_or roots x 0) ≡ type_in sizes x
    root_type = eqb-true _ _ (and_left (eqb (type_in sizes (get_or roots x 0)) (type_in sizes x)) _ after_known)

    pub root_root : get_or roots (get_or roots x 0) 0 ≡ get_or roots x 0
    root_root = eqb-true _ _ (and_right (eqb (type_in sizes (get_or roots x 0)) (type_in sizes x)) _ after_known)

pub well_formed : (s : List ℕ) (m : Model) → parse s ≡ model m → WellFormed m
unfolding types_hold
well_formed s m e = record {
  few_types = leb-true _ _ (and_left (leb (length m.sizes) max_types) _ k.types_hold_lem);
  few_elements = leb-true _ _ (and_right (leb (length m.sizes) max_types) _ k.types_hold_lem);
  roots_length = len;
  root_known = λ x l. let z = root_known m.sizes m.roots k.roots_hold_lem x (omega (arith, len)) in omega (arith, len);
  root_type = λ x l. root_type m.sizes m.roots k.roots_hold_lem x (omega (arith, len));
  root_root = λ x l. root_root m.sizes m.roots k.roots_hold_lem x (omega (arith, len));
  few_relations = f.few;
  few_cells = f.cells_fit;
  each_formed = f.formed;
}
  where
    k : Accepted s m
    k = parse_accepted s m e

    len : length m.roots ≡ sum m.sizes
    len = roots_length m.sizes m.roots k.roots_hold_lem

    f : RestFormed max_relations m.sizes max_cells s (6 + length m.sizes + sum m.sizes) m.relations
    f = rest_formed m.sizes s max_relations max_cells (6 + length m.sizes + sum m.sizes) m.relations k.rest

-- where Roots stand after Types that keep the rules
pub ruleset roots_found = (field_within, part_ends, length_part, types_length, roots_length)
