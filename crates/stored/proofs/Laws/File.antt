-- What is known of a file that holds a model, by its bytes and its layout: the parts that its lookups hand on. Assumes nothing.
use Prim.Native.Nat.{ℕ, ◌+◌, ◌-◌, ◌<◌}
use mathlib.Core.Path.{◌≡◌, ◌∙◌}
use mathlib.Core.List.{List}
use native.Mathlib.Omega.{arith}
use lib.ListN.{length, get_or}
use Rattle.lists.specs.Part.{part}
use Rattle.lists.proofs.Laws.Part.{part_ends}
use Rattle.stored.specs.declared.layout.Layout.{Layout}
use Rattle.stored.specs.Limits.{max_relations}
use Rattle.stored.specs.Model.{relation_at}
use Rattle.stored.specs.Reading.{Reads, model_of}
use Rattle.stored.proofs.Laws.Reading.{types_part, roots_part, relations_is, few_relations, relation_there}
use Rattle.stored.proofs.Laws.Signature.{ColumnsThere, columns_there, signature_columns}
use Rattle.stored.proofs.Laws.Canonical.{RowsThere, rows_there}

module _ (s : List ℕ) (l : Layout) (reads : Reads s l) where
  -- the types and the roots, handed on by their ends
  pub types_between : part s 3 (3 + l.types - 3) ≡ (model_of s).sizes
  types_between = part_ends s 3 l.types ∙ types_part s l reads

  pub roots_between : part s l.roots (l.roots + l.size - l.roots) ≡ (model_of s).roots
  roots_between = part_ends s l.roots l.size ∙ roots_part s l reads

  module _ (k : ℕ) (h : k < length (model_of s).relations) where
    pub counted : k < l.relations
    counted = omega (arith, relations_is s l reads)

    pub few : k < max_relations
    few = omega (arith, counted, few_relations s l reads)

    pub its_rows : RowsThere s (relation_at (model_of s) k).rows (get_or l.rows k 0) (get_or l.arity k 0) (get_or l.count k 0)
    its_rows = rows_there s l reads k counted

    pub its_arity : get_or l.arity k 0 ≡ length (relation_at (model_of s) k).columns
    its_arity = (relation_there s l reads k counted).is_arity

    pub its_columns : ColumnsThere s (relation_at (model_of s) k).columns (get_or l.rows k 0) (get_or l.arity k 0)
    its_columns = rw signature_columns at (columns_there s l reads k counted)
