-- The laws of signatures: `same_signature` tells equality, its cases, and where the columns that a signature lists stand in a file. Assumes nothing.
use Prim.Native.Nat.{ℕ, ◌+◌, ◌-◌, ◌<◌, ◌≤◌}
use mathlib.Core.Path.{◌≡◌, refl, sym, ◌∙◌, ap}
use mathlib.Core.Bool.{Bool, true, false, not, not-not}
use mathlib.Core.List.{List, []}
use native.Mathlib.Omega.{arith}
use borrow.Author.Tests.{eq-eqb, ne_eqb, eqb-true}
use lib.Dec.{eqb}
use lib.Pointwise.{pointwise}
use lib.ListN.{length, get_or, length-map, get_or-map}
use Rattle.lists.specs.Every.{pairwise}
use Rattle.lists.specs.Order.{same_row}
use Rattle.lists.specs.Part.{part}
use Rattle.lists.proofs.Laws.Tests.{and_left, and_right}
use Rattle.lists.proofs.Laws.Every.{pairwise_equal, pairwise_refl, pairwise_lengths, PairsFrom, pairs_from_lem}
use Rattle.lists.proofs.Laws.Order.{same_row_lem, same_row_refl, same_slices}
use Rattle.stored.specs.declared.layout.Layout.{Layout}
use Rattle.stored.specs.Model.{Rel, Model, no_relation, relation_at}
use Rattle.stored.specs.Signature.{Signature, signature, same_signature}
use Rattle.stored.specs.Reading.{Reads, model_of}
use Rattle.stored.proofs.Laws.WellFormed.{Stands}
use Rattle.stored.proofs.Laws.Reading.{relation_there, few_relations, types_is, relations_is}

module _ (a b : Signature) where
  -- the cases
  pub types_differ : (a.types ≡ b.types → ⊥) → same_signature a b ≡ false
  unfolding same_signature
  types_differ h = rw (ne_eqb a.types b.types h)

  pub types_agree : a.types ≡ b.types → same_signature a b ≡ pairwise same_row a.columns b.columns
  unfolding same_signature
  types_agree h = rw (eq-eqb a.types b.types h)

  -- signatures that pass for equal are equal, and the other way round
  pub same_signature_lem : same_signature a b ≡ true → a ≡ b
  unfolding same_signature
  same_signature_lem h =
      let t : a.types ≡ b.types = eqb-true _ _ (and_left (eqb a.types b.types) (pairwise same_row a.columns b.columns) h) in
      let c : a.columns ≡ b.columns = pairwise_equal same_row same_row_lem _ _ (and_right (eqb a.types b.types) (pairwise same_row a.columns b.columns) h) in
      ap (λ (n : ℕ). record { types = n; columns = a.columns }) t ∙ ap (λ (cs : List (List ℕ)). record { types = b.types; columns = cs }) c

  pub equal_signature : a ≡ b → same_signature a b ≡ true
  equal_signature e =
      types_agree (ap (λ (x : Signature). x.types) e)
      ∙ ap (λ (x : Signature). pairwise same_row a.columns x.columns) (sym e)
      ∙ pairwise_refl same_row same_row_refl a.columns

-- the signature of a model
module _ (m : Model) where
  pub signature_types : (signature m).types ≡ length m.sizes
  unfolding signature
  signature_types = refl

  pub signature_length : length (signature m).columns ≡ length m.relations
  unfolding signature
  signature_length = length-map m.relations (λ (r : Rel). r.columns)

  pub signature_columns : (k : ℕ) → get_or (signature m).columns k [] ≡ (relation_at m k).columns
  unfolding signature
  signature_columns k = get_or-map (λ (r : Rel). r.columns) m.relations k no_relation

-- two models, by their types and columns
module _ (a b : Model) where
  pub types_apart : (length a.sizes ≡ length b.sizes → ⊥) → false ≡ same_signature (signature a) (signature b)
  types_apart h = sym (types_differ (signature a) (signature b) (λ e. h (sym (signature_types a) ∙ e ∙ signature_types b)))

  module _ (t : length a.sizes ≡ length b.sizes) where
    pub as_columns : pairwise same_row (signature a).columns (signature b).columns ≡ same_signature (signature a) (signature b)
    as_columns = sym (types_agree (signature a) (signature b) (signature_types a ∙ t ∙ sym (signature_types b)))

    pub relations_apart : (length a.relations ≡ length b.relations → ⊥) → false ≡ same_signature (signature a) (signature b)
    relations_apart h = sym (pairwise_lengths same_row _ _ (λ e. h (sym (signature_length a) ∙ e ∙ signature_length b))) ∙ as_columns

  pub columns_from : length a.relations ≡ length b.relations → PairsFrom same_row (signature a).columns (signature b).columns 0
  columns_from r = pairs_from_lem same_row _ _ (signature_length a ∙ r ∙ sym (signature_length b))

-- the answer for the columns of relation k, compared as slices
pub columns_compared : (a b : Model) (k : ℕ) (r : Bool) (xs ys : List ℕ) → xs ≡ (relation_at a k).columns → ys ≡ (relation_at b k).columns → r ≡ not (pointwise eqb xs ys) → same_row (get_or (signature a).columns k []) (get_or (signature b).columns k []) ≡ not r
columns_compared a b k r xs ys e f g = rw (signature_columns a k, signature_columns b k, sym e, sym f, g, same_slices xs ys, not-not)

-- columns, with two bytes between them and the rows' start, handed on by their ends
pub record ColumnsThere (s columns : List ℕ) (start arity : ℕ) : Type 0 where
  pub room : arity + 2 ≤ start
  pub inside : start - 2 ≤ length s
  pub same : part s (start - 2 - arity) (start - 2 - (start - 2 - arity)) ≡ columns

stood : (s : List ℕ) (start a : ℕ) (r : Rel) → a ≡ length r.columns → Stands s start r → ColumnsThere s r.columns start a
stood s start a r e k = record {
  room = omega (arith, k.after_columns);
  inside = omega (arith, k.inside);
  same =
      let f : start - 2 - a ≡ start - (length r.columns + 2) = omega (arith, k.after_columns) in
      let g : start - 2 - (start - (length r.columns + 2)) ≡ length r.columns = omega (arith, k.after_columns) in
      rw (f, g) (sym k.columns_there);
}

pub columns_there : (s : List ℕ) (l : Layout) → Reads s l → (k : ℕ) → k < l.relations → ColumnsThere s (get_or (signature (model_of s)).columns k []) (get_or l.rows k 0) (get_or l.arity k 0)
columns_there s l reads k h = let r = relation_there s l reads k h in rw (signature_columns (model_of s) k) (stood s _ _ _ r.is_arity r.stands)

-- where the columns of a relation stand
pub ruleset listed = (few_relations, columns_there, signature_columns)

-- the numbers of types and relations, by a layout
pub ruleset numbered = (types_is, relations_is, signature_types, signature_length, pairwise_lengths)
