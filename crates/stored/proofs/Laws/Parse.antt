-- The laws of `item_at`, `rest_at` and `parse`: each case as an equation, and what is known where a relation, its rows or a whole model was
-- found. Assumes nothing.
use Prim.Native.Nat.{ℕ, zero, suc, ◌+◌, ◌-◌, ◌≤◌}
use mathlib.Core.Path.{◌≡◌, refl, sym, ◌∙◌, ap, subst}
use mathlib.Core.Logic.{◌⊎◌, inl, inr}
use mathlib.Core.Bool.{true, false, ◌&&◌}
use mathlib.Core.List.{List, []}
use native.Mathlib.Omega.{arith}
use borrow.Author.Tests.{eqb-true, eqb-false, eq-eqb, ne_eqb}
use lib.ListN.{length}
use lib.Dec.{eqb}
use Rattle.lists.specs.Numbers.{sum}
use Rattle.lists.specs.Part.{part}
use Rattle.lists.proofs.Laws.Part.{length_part, part_ends}
use Rattle.lists.proofs.Laws.Tests.{split, and_left, and_right}
use Rattle.stored.specs.declared.refusal.Fault.{Fault}
use Rattle.stored.specs.declared.field.Cursor.{Cursor}
use Rattle.stored.specs.declared.field.Field.{Field}
use Rattle.stored.specs.declared.relation.Shape.{Shape}
use Rattle.std.proofs.Common.{Option, Some, None, Result, Ok, Err}
use Rattle.stored.specs.declared.read.Item.{Item}
use Rattle.stored.specs.declared.read.Item.TheVariants as item
use Rattle.stored.specs.Limits.{max_relations, max_cells}
use Rattle.stored.specs.Field.{field_at, fault_at}
use Rattle.stored.specs.Types.{types_hold}
use Rattle.stored.specs.Roots.{roots_hold}
use Rattle.stored.specs.Relation.{arity_of, count_of, cells_of, relation_holds, head_of}
use Rattle.stored.specs.Model.{Model}
use Rattle.stored.proofs.Laws.Field.{field_within}
use Rattle.stored.proofs.Laws.Relation.{head_headed}
use Rattle.stored.specs.Parse.{Parsed, model, fault, end_at, item_at, relation_of, Rest, relations, broken, before, rest_at, model_with, parse_roots, parse}

-- the cases of `item_at`
module _ (sizes : List ℕ) (room : ℕ) (s : List ℕ) (at : ℕ) where
  pub item_fault : (f : Fault) → field_at s at ≡ Err f → item_at sizes room s at ≡ Err f
  unfolding item_at
  item_fault f e = rw (e, item_at)

  module _ (x : Field) (e : field_at s at ≡ Ok x) where
    pub item_end : x.tag ≡ 0 → item_at sizes room s at ≡ end_at s at x.start x.len
    unfolding item_at
    item_end t = rw (e, item_at, eq-eqb x.tag 0 t)

    pub item_not_due : (x.tag ≡ 0 → ⊥) → (x.tag ≡ 3 → ⊥) → item_at sizes room s at ≡ Err (fault_at at)
    unfolding item_at
    item_not_due t u = rw (e, item_at, ne_eqb x.tag 0 t, ne_eqb x.tag 3 u)

    pub item_relation : (h : Shape) → x.tag ≡ 3 → head_of sizes room (part s x.start x.len) ≡ Some h → item_at sizes room s at ≡ Ok (item.Relation x.start x.len h.arity h.count x.next)
    unfolding item_at
    item_relation h t g = rw (e, item_at, ne_eqb x.tag 0 (omega arith), eq-eqb x.tag 3 t, g)

    pub item_broken : x.tag ≡ 3 → head_of sizes room (part s x.start x.len) ≡ None → item_at sizes room s at ≡ Err (fault_at at)
    unfolding item_at
    item_broken t g = rw (e, item_at, ne_eqb x.tag 0 (omega arith), eq-eqb x.tag 3 t, g)

-- the field of a relation
abbrev pub relation_field : ℕ → ℕ → Cursor → Field
relation_field start len past = record { tag = 3; start = start; len = len; next = past }

-- what is known of a relation that was found at an offset
pub record Found (sizes : List ℕ) (room : ℕ) (s : List ℕ) (at start len arity count : ℕ) (past : Cursor) : Type 0 where
  pub field : field_at s at ≡ Ok (relation_field start len past)
  pub holds : relation_holds sizes room (part s start len) ≡ true
  pub is_arity : arity ≡ arity_of (part s start len)
  pub is_count : count ≡ count_of (part s start len)

-- what is known of an item by its kind
abbrev ItemKnown : List ℕ → ℕ → List ℕ → ℕ → Result Item Fault → Type 0
ItemKnown sizes room s at (Ok item.End) = Unit {0}
ItemKnown sizes room s at (Ok (item.Relation start len arity count past)) = Found sizes room s at start len arity count past
ItemKnown sizes room s at (Err f) = Unit {0}

module _ (sizes : List ℕ) (room : ℕ) (s : List ℕ) (at : ℕ) where
  end_known : (start len : ℕ) → ItemKnown sizes room s at (end_at s at start len)
  unfolding end_at
  end_known start len = go (split (eqb len 0)) (split (eqb start (length s)))
    where
      go : (eqb len 0 ≡ true) ⊎ (eqb len 0 ≡ false) → (eqb start (length s) ≡ true) ⊎ (eqb start (length s) ≡ false) → ItemKnown sizes room s at (end_at s at start len)
      go (inl p) (inl q) = rw (p, end_at, q) tt
      go (inl p) (inr q) = rw (p, end_at, q) tt
      go (inr p) q = rw (p, end_at) tt

  item_known : ItemKnown sizes room s at (item_at sizes room s at)
  item_known = by_field (field_at s at) refl
    where
      by_head : (x : Field) → field_at s at ≡ Ok x → x.tag ≡ 3 → (h : Option Shape) → head_of sizes room (part s x.start x.len) ≡ h → ItemKnown sizes room s at (item_at sizes room s at)
      by_head x f t None g = rw (item_broken sizes room s at x f t g) tt
      by_head x f t (Some h) g =
          let k = head_headed sizes room (part s x.start x.len) h g in
          rw (item_relation sizes room s at x f h t g) (record { field = f ∙ ap (λ (n : ℕ). Ok (record { tag = n; start = x.start; len = x.len; next = x.next })) t; holds = k.holds; is_arity = k.is_arity; is_count = k.is_count })

      by_tag : (x : Field) → field_at s at ≡ Ok x → (eqb x.tag 0 ≡ true) ⊎ (eqb x.tag 0 ≡ false) → (eqb x.tag 3 ≡ true) ⊎ (eqb x.tag 3 ≡ false) → ItemKnown sizes room s at (item_at sizes room s at)
      by_tag x f (inl p) q = rw (item_end sizes room s at x f (eqb-true x.tag 0 p)) (end_known x.start x.len)
      by_tag x f (inr p) (inl q) = by_head x f (eqb-true x.tag 3 q) (head_of sizes room (part s x.start x.len)) refl
      by_tag x f (inr p) (inr q) = rw (item_not_due sizes room s at x f (eqb-false x.tag 0 p) (eqb-false x.tag 3 q)) tt

      by_field : (r : Result Field Fault) → field_at s at ≡ r → ItemKnown sizes room s at (item_at sizes room s at)
      by_field (Err f) e = rw (item_fault sizes room s at f e) tt
      by_field (Ok x) e = by_tag x e (split (eqb x.tag 0)) (split (eqb x.tag 3))

  pub item_found : (start len a c : ℕ) (past : Cursor) → item_at sizes room s at ≡ Ok (item.Relation start len a c past) → Found sizes room s at start len a c past
  item_found start len a c past e = subst (ItemKnown sizes room s at) e item_known

  -- the cases of `rest_at`
  pub rest_end : (k : ℕ) → item_at sizes room s at ≡ Ok item.End → rest_at k sizes room s at ≡ relations []
  unfolding rest_at
  rest_end zero e = rw (e, rest_at)
  rest_end (suc k) e = rw (e, rest_at)

  pub rest_fault : (k : ℕ) (f : Fault) → item_at sizes room s at ≡ Err f → rest_at k sizes room s at ≡ broken f
  unfolding rest_at
  rest_fault zero f e = rw (e, rest_at)
  rest_fault (suc k) f e = rw (e, rest_at)

  module _ (start len a c : ℕ) (past : Cursor) (e : item_at sizes room s at ≡ Ok (item.Relation start len a c past)) where
    pub rest_too_many : rest_at 0 sizes room s at ≡ broken (fault_at at)
    unfolding rest_at
    rest_too_many = rw (e, rest_at)

    pub rest_more : (k : ℕ) → rest_at (suc k) sizes room s at ≡ before (relation_of (part s start len)) (rest_at k sizes (room - cells_of (part s start len)) s past.at)
    unfolding rest_at
    rest_more k = rw (e, rest_at)

-- the cases of `parse_roots`
module _ (sizes s : List ℕ) (at : ℕ) where
  pub roots_fault : (f : Fault) → field_at s at ≡ Err f → parse_roots sizes s at ≡ fault f
  unfolding parse_roots
  roots_fault f e = rw (e, parse_roots)

  module _ (x : Field) (e : field_at s at ≡ Ok x) where
    pub roots_refused : eqb x.tag 2 && roots_hold sizes (part s x.start x.len) ≡ false → parse_roots sizes s at ≡ fault (fault_at at)
    unfolding parse_roots
    roots_refused h = rw (e, parse_roots, h)

    pub roots_held : eqb x.tag 2 && roots_hold sizes (part s x.start x.len) ≡ true → parse_roots sizes s at ≡ model_with sizes (part s x.start x.len) (rest_at max_relations sizes max_cells s x.next.at)
    unfolding parse_roots
    roots_held h = rw (e, parse_roots, h)

-- the cases of `parse`
module _ (s : List ℕ) where
  pub parse_fault : (f : Fault) → field_at s 0 ≡ Err f → parse s ≡ fault f
  unfolding parse
  parse_fault f e = rw (e, parse)

  module _ (x : Field) (e : field_at s 0 ≡ Ok x) where
    pub parse_refused : eqb x.tag 1 && types_hold (part s x.start x.len) ≡ false → parse s ≡ fault (fault_at 0)
    unfolding parse
    parse_refused h = rw (e, parse, h)

    pub parse_held : eqb x.tag 1 && types_hold (part s x.start x.len) ≡ true → parse s ≡ parse_roots (part s x.start x.len) s x.next.at
    unfolding parse
    parse_held h = rw (e, parse, h)

-- what is known of a model that was parsed, and where its parts stand
pub record Accepted (s : List ℕ) (m : Model) : Type 0 where
  pub types_hold_lem : types_hold m.sizes ≡ true
  pub types_there : m.sizes ≡ part s 3 (length m.sizes)
  pub roots_hold_lem : roots_hold m.sizes m.roots ≡ true
  pub roots_there : m.roots ≡ part s (6 + length m.sizes) (sum m.sizes)
  pub roots_inside : 6 + length m.sizes + sum m.sizes ≤ length s
  pub rest : rest_at max_relations m.sizes max_cells s (6 + length m.sizes + sum m.sizes) ≡ relations m.relations

abbrev ParsedKnown : List ℕ → Parsed → Type 0
ParsedKnown s (model m) = Accepted s m
ParsedKnown s (fault f) = Unit {0}

-- Types of a given number stand at the file's start, and keep the rules
record Begins (s sizes : List ℕ) : Type 0 where
  pub hold : types_hold sizes ≡ true
  pub there : sizes ≡ part s 3 (length sizes)

module _ (s sizes : List ℕ) (b : Begins s sizes) where
  with_rest : (start len : ℕ) → start ≡ 6 + length sizes → start + len ≤ length s → roots_hold sizes (part s start len) ≡ true → (r : Rest) → rest_at max_relations sizes max_cells s (start + len) ≡ r → ParsedKnown s (model_with sizes (part s start len) r)
  unfolding model_with roots_hold
  with_rest start len p q h (broken f) e = tt
  with_rest start len p q h (relations rs) e =
      let l : length (part s start len) ≡ len = length_part s start len q in
      let n : len ≡ sum sizes = sym l ∙ eqb-true _ _ (and_left (eqb (length (part s start len)) (sum sizes)) _ h) in
      record {
        types_hold_lem = b.hold;
        types_there = b.there;
        roots_hold_lem = h;
        roots_there = rw (p, n);
        roots_inside = omega arith;
        rest = let f : start + len ≡ 6 + length sizes + sum sizes = omega arith in rw (← f) e;
      }

  roots_known : (at : ℕ) → at ≡ 3 + length sizes → ParsedKnown s (parse_roots sizes s at)
  roots_known at p = by_field (field_at s at) refl
    where
      by_test : (x : Field) → field_at s at ≡ Ok x → (eqb x.tag 2 && roots_hold sizes (part s x.start x.len) ≡ true) ⊎ (eqb x.tag 2 && roots_hold sizes (part s x.start x.len) ≡ false) → ParsedKnown s (parse_roots sizes s at)
      by_test x e (inr h) = rw (roots_refused sizes s at x e h) tt
      by_test x e (inl h) =
          let w = field_within s at x e in
          let f : x.next.at ≡ x.start + x.len = w.ends in
          rw (roots_held sizes s at x e h, f)
          (with_rest x.start x.len (omega arith) w.inside (and_right (eqb x.tag 2) (roots_hold sizes (part s x.start x.len)) h) (rest_at max_relations sizes max_cells s (x.start + x.len)) refl)

      by_field : (x : Result Field Fault) → field_at s at ≡ x → ParsedKnown s (parse_roots sizes s at)
      by_field (Err f) e = rw (roots_fault sizes s at f e) tt
      by_field (Ok x) e = by_test x e (split (eqb x.tag 2 && roots_hold sizes (part s x.start x.len)))

parse_known : (s : List ℕ) → ParsedKnown s (parse s)
parse_known s = by_field (field_at s 0) refl
  where
    by_test : (x : Field) → field_at s 0 ≡ Ok x → (eqb x.tag 1 && types_hold (part s x.start x.len) ≡ true) ⊎ (eqb x.tag 1 && types_hold (part s x.start x.len) ≡ false) → ParsedKnown s (parse s)
    by_test x e (inr h) = rw (parse_refused s x e h) tt
    by_test x e (inl h) =
        let w = field_within s 0 x e in
        let l : length (part s x.start x.len) ≡ x.len = length_part s x.start x.len w.inside in
        let b : x.start ≡ 3 = omega arith in
        rw (parse_held s x e h)
        (roots_known s (part s x.start x.len)
        (record { hold = and_right (eqb x.tag 1) (types_hold (part s x.start x.len)) h; there = rw (l, b) })
        x.next.at
        (omega arith))

    by_field : (x : Result Field Fault) → field_at s 0 ≡ x → ParsedKnown s (parse s)
    by_field (Err f) e = rw (parse_fault s f e) tt
    by_field (Ok x) e = by_test x e (split (eqb x.tag 1 && types_hold (part s x.start x.len)))

pub parse_accepted : (s : List ℕ) (m : Model) → parse s ≡ model m → Accepted s m
parse_accepted s m e = subst (ParsedKnown s) e (parse_known s)

-- the cases of `item_at`, and where the field stands
pub ruleset items = (item_fault, item_end, item_not_due, item_relation, item_broken, field_within, part_ends)
