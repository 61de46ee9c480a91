-- The laws of canonical models: whether an element is its own representative, case by case, and where the rows that are tested stand in a file.
-- Assumes nothing.
use Prim.Native.Nat.{ℕ, ◌-◌, ◌*◌, ◌<◌, ◌≤◌}
use mathlib.Core.Path.{◌≡◌, refl, sym, ◌∙◌}
use mathlib.Core.Bool.{Bool, true, false}
use mathlib.Core.List.{List}
use native.Mathlib.Omega.{arith}
use borrow.Author.Tests.{lt-ltb, le-ltb, eq-eqb, ne_eqb}
use lib.ListN.{length, get_or, drop}
use Rattle.lists.specs.Every.{all}
use Rattle.lists.specs.Part.{part, rows_of}
use Rattle.lists.proofs.Laws.Part.{length_part, rows_of_front, part_ends}
use Rattle.stored.specs.declared.layout.Layout.{Layout}
use Rattle.stored.specs.Model.{Rel, Model, is_rep_in, relation_at}
use Rattle.stored.specs.Canonical.{relation_canonical, canonical}
use Rattle.stored.specs.Layout.{arity, count}
use Rattle.stored.specs.Reading.{Reads, model_of}
use Rattle.stored.proofs.Laws.WellFormed.{Stands}
use Rattle.stored.proofs.Laws.Reading.{relation_there, few_relations, roots_part, roots_inside}

-- one element
module _ (roots : List ℕ) (x : ℕ) where
  pub rep_outside : length roots ≤ x → is_rep_in roots x ≡ false
  unfolding is_rep_in
  rep_outside h = rw (le-ltb x (length roots) h)

  module _ (h : x < length roots) where
    pub rep_alias : (get_or roots x 0 ≡ x → ⊥) → is_rep_in roots x ≡ false
    unfolding is_rep_in
    rep_alias n = rw (lt-ltb x (length roots) h, ne_eqb (get_or roots x 0) x n)

    pub rep_own : get_or roots x 0 ≡ x → is_rep_in roots x ≡ true
    unfolding is_rep_in
    rep_own e = rw (lt-ltb x (length roots) h, eq-eqb (get_or roots x 0) x e)

-- a model
module _ (m : Model) where
  pub relation_canonical_lem : (r : Rel) → relation_canonical m r ≡ all (all (is_rep_in m.roots)) r.rows
  unfolding relation_canonical
  relation_canonical_lem r = refl

  pub all_canonical : canonical m ≡ all (relation_canonical m) m.relations
  unfolding canonical
  all_canonical = refl

-- the answer for a relation's rows, which were handed on with the roots
pub same_answer : (m : Model) (r : Rel) (b : Bool) (roots : List ℕ) (rows : List (List ℕ)) → roots ≡ m.roots → rows ≡ r.rows → b ≡ all (all (is_rep_in roots)) rows → relation_canonical m r ≡ b
unfolding relation_canonical
same_answer m r b roots rows e f g = rw (e, f) at (sym g)

-- rows that start at an offset of a file, handed on with all that follows
pub record RowsThere (s : List ℕ) (rows : List (List ℕ)) (start arity count : ℕ) : Type 0 where
  pub begins : start ≤ length s
  pub inside : count * arity ≤ length (part s start (length s - start))
  pub same : rows_of arity count (part s start (length s - start)) ≡ rows

stood : (s : List ℕ) (start a c : ℕ) (r : Rel) → a ≡ arity r → c ≡ count r → Stands s start r → RowsThere s r.rows start a c
stood s start a c r e f k = record {
  begins = omega (arith, k.inside);
  inside = rw (e, f, length_part s start (length s - start) (omega (arith, k.inside))) (omega (arith, k.inside));
  same = rw (e, f) (rows_of_front (arity r) (count r) (length s - start) (drop start s) (omega (arith, k.inside)) ∙ sym k.rows_there);
}

pub rows_there : (s : List ℕ) (l : Layout) → Reads s l → (k : ℕ) → k < l.relations → RowsThere s (relation_at (model_of s) k).rows (get_or l.rows k 0) (get_or l.arity k 0) (get_or l.count k 0)
rows_there s l reads k h = let r = relation_there s l reads k h in stood s _ _ _ _ r.is_arity r.is_count r.stands

-- where the roots and the rows of a relation stand
pub ruleset tested = (few_relations, roots_part, roots_inside, rows_there, part_ends)
