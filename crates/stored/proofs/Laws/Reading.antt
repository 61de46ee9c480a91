-- What is known of a file that was read, with its layout: the model is well formed, and its types, roots and relations stand where the layout
-- says. Assumes nothing.
use Prim.Native.Nat.{ℕ, ◌+◌, ◌≤◌, ◌<◌}
use mathlib.Core.Path.{◌≡◌, refl, sym, ◌∙◌, ap, subst}
use mathlib.Core.List.{List, map}
use native.Mathlib.Omega.{arith}
use lib.ListN.{length, get_or, replicate, length-map, get_or-map}
use Rattle.lists.specs.Numbers.{sum}
use Rattle.lists.specs.Part.{part}
use Rattle.lists.proofs.Laws.Over.{get_d_over}
use Rattle.std.proofs.Common.{Ok, Err}
use Rattle.stored.specs.declared.refusal.Fault.{Fault}
use Rattle.stored.specs.declared.layout.Layout.{Layout}
use Rattle.stored.specs.Limits.{max_relations, max_cells}
use Rattle.stored.specs.Model.{Rel, Model, size, no_relation, relation_at}
use Rattle.stored.specs.Parse.{Parsed, model, fault, parse}
use Rattle.stored.specs.Layout.{arity, count, table, rows_from, layout_of}
use Rattle.stored.specs.Reading.{reading_of, model_in, model_of, Reads}
use Rattle.stored.proofs.Laws.Layout.{length_rows_from}
use Rattle.stored.proofs.Laws.Parse.{Accepted, parse_accepted}
use Rattle.stored.proofs.Laws.WellFormed.{WellFormed, well_formed, Stands, RestFormed, rest_formed}

-- an entry of a table
pub table_entry : (xs : List ℕ) (k : ℕ) → k < length xs → get_or (table xs) k 0 ≡ get_or xs k 0
unfolding table
table_entry xs k h = get_d_over xs (replicate 16 0) k 0 h

-- a layout that reading answers makes the file one that was read
pub reading_reads : (s : List ℕ) (l : Layout) → Ok l ≡ reading_of (parse s) → Reads s l
unfolding reading_of model_in
reading_reads s l e = go (parse s) refl
  where
    go : (p : Parsed) → parse s ≡ p → Reads s l
    go (model m) q = let h : l ≡ layout_of m = cc (rw q at e) in record { accepted = rw q; there = h ∙ rw q }
    go (fault f) q = let y : ◌≡◌ {A = ℕ} 0 1 = cc (rw q at e) in absurd (omega arith)

-- a file that was parsed is one that was read, with its model's layout
pub model_reads : (s : List ℕ) (m : Model) → parse s ≡ model m → Reads s (layout_of m)
unfolding model_in
model_reads s m e = let k : model_of s ≡ m = rw e in record { accepted = e ∙ ap model (sym k); there = ap layout_of (sym k) }

-- a fault that reading answers is that of the file
pub reading_faults : (s : List ℕ) (f : Fault) → Err f ≡ reading_of (parse s) → parse s ≡ fault f
unfolding reading_of
reading_faults s f e = go (parse s) refl
  where
    go : (p : Parsed) → parse s ≡ p → parse s ≡ fault f
    go (model m) q = let y : ◌≡◌ {A = ℕ} 0 1 = cc (rw q at e) in absurd (omega arith)
    go (fault g) q = let h : f ≡ g = cc (rw q at e) in q ∙ ap fault (sym h)

-- where a relation stands
pub record RelationThere (s : List ℕ) (l : Layout) (k : ℕ) (r : Rel) : Type 0 where
  pub is_arity : get_or l.arity k 0 ≡ arity r
  pub is_count : get_or l.count k 0 ≡ count r
  pub stands : Stands s (get_or l.rows k 0) r

module _ (s : List ℕ) (l : Layout) (reads : Reads s l) where
  pub reads_formed : WellFormed (model_of s)
  reads_formed = well_formed s (model_of s) reads.accepted

  reads_accepted : Accepted s (model_of s)
  reads_accepted = parse_accepted s (model_of s) reads.accepted

  pub types_is : l.types ≡ length (model_of s).sizes
  unfolding layout_of
  types_is = ap (λ (x : Layout). x.types) reads.there

  pub size_is : l.size ≡ size (model_of s)
  unfolding layout_of
  size_is = ap (λ (x : Layout). x.size) reads.there

  pub roots_is : l.roots ≡ 6 + length (model_of s).sizes
  unfolding layout_of
  roots_is = ap (λ (x : Layout). x.roots) reads.there

  pub relations_is : l.relations ≡ length (model_of s).relations
  unfolding layout_of
  relations_is = ap (λ (x : Layout). x.relations) reads.there

  pub types_part : part s 3 l.types ≡ (model_of s).sizes
  types_part = rw types_is (sym reads_accepted.types_there)

  pub roots_part : part s l.roots l.size ≡ (model_of s).roots
  roots_part = rw (roots_is, size_is) (sym reads_accepted.roots_there)

  pub roots_inside : l.roots + l.size ≤ length s
  roots_inside = omega (arith, roots_is, size_is, reads_accepted.roots_inside)

  pub types_inside : 3 + l.types ≤ length s
  types_inside = omega (arith, types_is, reads_accepted.roots_inside)

  pub few_relations : l.relations ≤ max_relations
  few_relations = omega (arith, relations_is, reads_formed.few_relations)

  pub relation_there : (k : ℕ) → k < l.relations → RelationThere s l k (relation_at (model_of s) k)
  unfolding layout_of
  relation_there k h = record {
    is_arity = ap (λ (x : Layout). get_or x.arity k 0) reads.there ∙ from_map arity refl;
    is_count = ap (λ (x : Layout). get_or x.count k 0) reads.there ∙ from_map count refl;
    stands = subst (λ (b : ℕ). Stands s b (relation_at (model_of s) k)) (sym place) (f.stand no_relation k below);
  }
    where
      rs : List Rel
      rs = (model_of s).relations

      below : k < length (model_of s).relations
      below = omega (arith, relations_is)

      f : RestFormed max_relations (model_of s).sizes max_cells s (6 + length (model_of s).sizes + sum (model_of s).sizes) (model_of s).relations
      f = rest_formed (model_of s).sizes s max_relations max_cells (6 + length (model_of s).sizes + sum (model_of s).sizes) (model_of s).relations reads_accepted.rest

      from_map : (g : Rel → ℕ) → g no_relation ≡ 0 → get_or (table (map g (model_of s).relations)) k 0 ≡ g (relation_at (model_of s) k)
      from_map g e =
          table_entry (map g (model_of s).relations) k (omega (arith, below, length-map (model_of s).relations g))
          ∙ ap (get_or (map g (model_of s).relations) k) (sym e)
          ∙ get_or-map g (model_of s).relations k no_relation

      place : get_or l.rows k 0 ≡ get_or (rows_from (6 + length (model_of s).sizes + sum (model_of s).sizes) (model_of s).relations) k 0
      place =
          ap (λ (x : Layout). get_or x.rows k 0) reads.there
          ∙ table_entry (rows_from (6 + length (model_of s).sizes + sum (model_of s).sizes) (model_of s).relations) k (omega (arith, below, length_rows_from (6 + length (model_of s).sizes + sum (model_of s).sizes) (model_of s).relations))
