-- `stored::read::relations` meets its contract. The invariant: the relations read so far, whose layout is at hand, stand before what is still
-- to be read, and together these are what the whole rest holds. Assumes nothing.
use Prim.Native.Nat.{ℕ, suc, ◌+◌, ◌-◌, ◌*◌, ◌≤◌, ◌<◌}
use mathlib.Core.Path.{◌≡◌, refl, sym, ◌∙◌, ap}
use mathlib.Core.List.{List, [], ◌∷◌, ◌++◌, append-nil, append_assoc}
use native.Mathlib.Omega.{arith}
use lib.ListN.{length, length-append}
use Rattle.std.proofs.Common.{Result, Ok, Err}
use Rattle.lists.specs.Numbers.{sum}
use Rattle.lists.specs.Part.{part}
use Rattle.stored.specs.declared.refusal.Fault.{Fault}
use Rattle.stored.specs.declared.field.Cursor.{Cursor}
use Rattle.stored.specs.declared.layout.Layout.{Layout}
use Rattle.stored.specs.declared.read.Item.{Item}
use Rattle.stored.specs.declared.read.Item.TheVariants as item
use Rattle.stored.specs.Field.{fault_at}
use Rattle.stored.specs.Limits.{max_relations, max_cells}
use Rattle.stored.specs.Relation.{cells_of}
use Rattle.stored.specs.Model.{Rel}
use Rattle.stored.specs.Parse.{item_at, relation_of, Rest, relations, broken, before, rest_at, model_with}
use Rattle.stored.specs.Layout.{rows_from, layout_of, with_relation}
use Rattle.stored.specs.Reading.{reading_of, begun_with, Begun, last_reading}
use Rattle.stored.proofs.Laws.Parse.{Found, item_found, rest_end, rest_fault, rest_too_many, rest_more}
use Rattle.stored.proofs.Laws.WellFormed.{Measured, found_measured}
use Rattle.stored.proofs.Laws.Layout.{past_of, past_none, past_more, having, layout_more}
use Rattle.stored.proofs.read.relations.Given as goal

-- relations that were read before what a rest holds
pub after : List Rel → Rest → Rest
after rs (relations qs) = relations (rs ++ qs)
after rs (broken f) = broken f

pub after_none : (x : Rest) → after [] x ≡ x
unfolding after
after_none (relations qs) = refl
after_none (broken f) = refl

pub after_before : (rs : List Rel) (r : Rel) (x : Rest) → after rs (before r x) ≡ after (rs ++ r ∷ []) x
unfolding after before
after_before rs r (relations qs) = ap relations (sym (append_assoc rs (r ∷ []) qs))
after_before rs r (broken f) = refl

module _ (sizes s roots : List ℕ) (at₀ : ℕ) where
  pub record Upto (cursor : Cursor) (l : Layout) (room allowed : ℕ) : Type 0 where
    pub few : length sizes ≤ 16
    pub sofar : List Rel
    pub together : length sofar + allowed ≡ 16
    pub laid_out : l ≡ layout_of (having sizes roots sofar)
    pub here : cursor.at ≡ past_of (6 + length sizes + sum sizes) sofar
    pub same : after sofar (rest_at allowed sizes room s cursor.at) ≡ rest_at max_relations sizes max_cells s at₀

  pub start : (c : Cursor) (l : Layout) → c.at ≡ at₀ → length sizes ≤ 16 → Begun sizes c.at l → Upto c l 2048 16
  unfolding begun_with layout_of rows_from
  start c l e h b = record {
    few = h;
    sofar = [];
    together = refl;
    laid_out = b.is_layout;
    here = b.past ∙ sym (past_none _);
    same = after_none _ ∙ ap (rest_at max_relations sizes max_cells s) e;
  }

  module _ (cursor : Cursor) (l : Layout) (room allowed : ℕ) (u : Upto cursor l room allowed) where
    -- what is still to be read decides the whole
    pub decides : (x : Rest) → rest_at allowed sizes room s cursor.at ≡ x → reading_of (model_with sizes roots (after u.sofar x)) ≡ reading_of (model_with sizes roots (rest_at max_relations sizes max_cells s at₀))
    decides x e = ap (λ (y : Rest). reading_of (model_with sizes roots y)) (ap (after u.sofar) (sym e) ∙ u.same)

    pub reading_end : item_at sizes room s cursor.at ≡ Ok item.End → Ok l ≡ reading_of (model_with sizes roots (rest_at max_relations sizes max_cells s at₀))
    unfolding reading_of model_with after
    reading_end e =
        ap (λ (x : Layout). Ok x) (u.laid_out ∙ ap (λ (rs : List Rel). layout_of (having sizes roots rs)) (sym (append-nil u.sofar)))
        ∙ decides (relations []) (rest_end sizes room s cursor.at allowed e)

    pub reading_fault : (f : Fault) → item_at sizes room s cursor.at ≡ Err f → Err f ≡ reading_of (model_with sizes roots (rest_at max_relations sizes max_cells s at₀))
    unfolding reading_of model_with after
    reading_fault f e = decides (broken f) (rest_fault sizes room s cursor.at allowed f e)

    pub reading_last : allowed ≤ 0 → last_reading sizes room s cursor.at l ≡ reading_of (model_with sizes roots (rest_at max_relations sizes max_cells s at₀))
    unfolding last_reading reading_of model_with after
    reading_last h = by_item (item_at sizes room s cursor.at) refl
      where
        by_item : (i : Result Item Fault) → item_at sizes room s cursor.at ≡ i → last_reading sizes room s cursor.at l ≡ reading_of (model_with sizes roots (rest_at max_relations sizes max_cells s at₀))
        by_item (Ok item.End) e = rw (e, last_reading) (reading_end e)
        by_item (Err f) e = rw (e, last_reading) (reading_fault f e)
        by_item (Ok (item.Relation start len a c past)) e =
            let z : allowed ≡ 0 = omega arith in
            rw (e, last_reading)
            (decides (broken (fault_at cursor.at)) (ap (λ (k : ℕ). rest_at k sizes room s cursor.at) z ∙ rest_too_many sizes room s cursor.at start len a c past e))

    pub room_for_one : 0 < allowed → l.relations < 16
    unfolding layout_of
    room_for_one h = let e : l.relations ≡ length u.sofar = ap (λ (x : Layout). x.relations) u.laid_out in omega (arith, u.together)

    module _ (h : 0 < allowed) (start len a c : ℕ) (past : Cursor) (e : item_at sizes room s cursor.at ≡ Ok (item.Relation start len a c past)) where
      pub found : Found sizes room s cursor.at start len a c past
      found = item_found sizes room s cursor.at start len a c past e

      pub measured : Measured room s cursor.at start a c past (relation_of (part s start len))
      measured = found_measured sizes room s cursor.at start len a c past found

      pub goes_on : rest_at allowed sizes room s cursor.at ≡ before (relation_of (part s start len)) (rest_at (allowed - 1) sizes (room - c * a) s past.at)
      goes_on =
          let k : allowed ≡ suc (allowed - 1) = omega arith in
          let m : cells_of (part s start len) ≡ c * a = rw (found.is_arity, found.is_count) in
          ap (λ (n : ℕ). rest_at n sizes room s cursor.at) k
          ∙ rest_more sizes room s cursor.at start len a c past e (allowed - 1)
          ∙ ap (λ (n : ℕ). before (relation_of (part s start len)) (rest_at (allowed - 1) sizes (room - n) s past.at)) m

      pub laid : with_relation l a c (start + 3 + a) ≡ layout_of (having sizes roots (u.sofar ++ relation_of (part s start len) ∷ []))
      laid =
          let k : start + 3 + a ≡ past_of (6 + length sizes + sum sizes) u.sofar + 6 + a = omega (arith, measured.begins, u.here) in
          rw (k, u.laid_out, measured.is_arity, measured.is_count) (layout_more sizes roots u.sofar (relation_of (part s start len)) (omega (arith, u.together)))

      pub more : (l' : Layout) → l' ≡ with_relation l a c (start + 3 + a) → Upto past l' (room - c * a) (allowed - 1)
      more l' g = record {
        few = u.few;
        sofar = u.sofar ++ relation_of (part s start len) ∷ [];
        together = omega (arith, u.together, length-append u.sofar (relation_of (part s start len) ∷ []));
        laid_out = g ∙ laid;
        here = measured.ends ∙ rw (u.here, measured.is_arity, measured.is_count) (sym (past_more (6 + length sizes + sum sizes) u.sofar (relation_of (part s start len))));
        same = sym (after_before u.sofar (relation_of (part s start len)) (rest_at (allowed - 1) sizes (room - c * a) s past.at)) ∙ ap (after u.sofar) (sym goes_on) ∙ u.same;
      }

abbrev pub invariant-loop-k : goal.invariant-loop-k
invariant-loop-k l = Upto l.types l.s (part l.s l.initial.l.roots l.initial.l.size) l.initial.cursor.at l.cursor l.l l.room (16 - l._k)
