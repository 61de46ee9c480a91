-- The laws of rows taken through tables: their length and their entries, rows that are among others, the first relation that is not kept, the
-- image of each element, and two files of one signature. Assumes nothing.
use Prim.Native.Nat.{ℕ, zero, suc, ◌-◌, ◌<◌}
use mathlib.Core.Path.{◌≡◌, refl, sym, ap, ◌∙◌}
use mathlib.Core.Bool.{Bool, true, not}
use mathlib.Core.List.{List, [], ◌∷◌, map}
use native.Mathlib.Omega.{arith}
use lib.ListN.{length, get_or, length-map}
use Rattle.lists.specs.Every.{all, any}
use Rattle.lists.specs.First.{lowest}
use Rattle.lists.specs.Order.{same_row}
use Rattle.lists.specs.Part.{part}
use Rattle.lists.proofs.Laws.Part.{length-row}
use Rattle.stored.specs.declared.layout.Layout.{Layout}
use Rattle.stored.specs.declared.rows.Rows.{Rows}
use Rattle.stored.specs.File.{listed}
use Rattle.stored.specs.Model.{Model, relation_at}
use Rattle.stored.specs.Signature.{Signature, signature, same_signature}
use Rattle.stored.specs.Reading.{Reads, model_of}
use Rattle.stored.proofs.Laws.Reading.{relations_is, relation_there}
use Rattle.stored.proofs.Laws.Canonical.{RowsThere, rows_there}
use Rattle.stored.proofs.Laws.Signature.{same_signature_lem, signature_length, signature_columns}
use Rattle.rows.specs.Rows.{through, has_row, normal_rows, images_of, rows_kept, kept_by, first_unkept_by}
use Rattle.lists.proofs.Laws.Every.{any-map}

module _ (table : List ℕ) where
  pub length_through : (row : List ℕ) → length (through table row) ≡ length row
  unfolding through
  length_through row = length-map row (λ x. get_or table x 255)

  pub get_d_through : (row : List ℕ) (j d : ℕ) → j < length row → get_or (through table row) j d ≡ get_or table (get_or row j 0) 255
  unfolding through
  get_d_through [] j d h = absurd (omega arith)
  get_d_through (x ∷ row) zero d h = refl
  get_d_through (x ∷ row) (suc j) d h = get_d_through row j d (omega arith)

-- whether a row equals another, taken through a table, and whether it equals some of others
abbrev pub is_through : List ℕ → List ℕ → List ℕ → Bool
is_through row table other = same_row row (through table other)

pub some_through : (row table : List ℕ) (others : List (List ℕ)) → any (is_through row table) others ≡ has_row row (map (through table) others)
unfolding has_row
some_through row table others = sym (any-map (same_row row) (through table) others)

-- the length of each row
pub row_length : (r : Rows) (i : ℕ) → i < r.count → length (get_or (listed r) i []) ≡ r.arity
row_length r i h = length-row r.arity r.count r.cells.now i [] r.whole h

-- rows that are kept, row by row
pub kept_each : (table : List ℕ) (rows others : List (List ℕ)) → rows_kept table rows others ≡ all (λ (row : List ℕ). has_row (through table row) others) rows
unfolding rows_kept
kept_each table rows others = refl

-- the rows of a relation that are kept, and the first relation whose rows are not
module _ (a b : Model) (images : List ℕ) where
  pub kept_rows : (k : ℕ) → kept_by a b images k ≡ rows_kept images (relation_at a k).rows (map (through b.roots) (relation_at b k).rows)
  unfolding kept_by normal_rows
  kept_rows k = refl

  abbrev pub unkept : ℕ → Bool
  unkept k = not (kept_by a b images k)

  pub lowest_unkept : lowest unkept 0 (length a.relations) ≡ first_unkept_by a b images
  unfolding first_unkept_by
  lowest_unkept = refl

  -- the answer for the rows of relation k as they are handed on
  pub kept_handed : (k : ℕ) (rows others : List (List ℕ)) (roots : List ℕ) → rows ≡ (relation_at a k).rows → others ≡ (relation_at b k).rows → roots ≡ b.roots → (r : Bool) → r ≡ rows_kept images rows (map (through roots) others) → kept_by a b images k ≡ r
  kept_handed k rows others roots p q w r e = kept_rows k ∙ sym (rw (p, q, w) at e)

-- the image of each element
pub images_through : (a : Model) (f : List ℕ) → through f a.roots ≡ images_of a f
unfolding images_of
images_through a f = refl

-- two models of one signature
module _ (a b : Model) (same : same_signature (signature a) (signature b) ≡ true) where
  one : signature a ≡ signature b
  one = same_signature_lem _ _ same

  pub as_many : length a.relations ≡ length b.relations
  as_many = sym (signature_length a) ∙ ap (λ (g : Signature). length g.columns) one ∙ signature_length b

  pub like_columns : (k : ℕ) → (relation_at a k).columns ≡ (relation_at b k).columns
  like_columns k = sym (signature_columns a k) ∙ ap (λ (g : Signature). get_or g.columns k []) one ∙ signature_columns b k

-- what is handed on with the rows of relation k
abbrev pub rows_at : List ℕ → Layout → ℕ → List ℕ
rows_at s l k = let start = get_or l.rows k 0 in part s start (length s - start)

-- two files that were read and hold models of one signature
abbrev pub Alike : List ℕ → List ℕ → Layout → Layout → Type 0
Alike s t l m = Reads s l × Reads t m × (same_signature (signature (model_of s)) (signature (model_of t)) ≡ true)

module _ (s t : List ℕ) (l m : Layout) (alike : Alike s t l m) where
  pub as_many_relations : l.relations ≡ m.relations
  as_many_relations = relations_is s l alike.0 ∙ as_many (model_of s) (model_of t) alike.2 ∙ sym (relations_is t m alike.1)

  pub same_columns : (k : ℕ) → (relation_at (model_of s) k).columns ≡ (relation_at (model_of t) k).columns
  same_columns k = like_columns (model_of s) (model_of t) alike.2 k

  module _ (k : ℕ) (h : k < l.relations) where
    in_target : k < m.relations
    in_target = omega (arith, as_many_relations)

    pub same_arity : get_or m.arity k 0 ≡ get_or l.arity k 0
    same_arity =
        (relation_there t m alike.1 k in_target).is_arity
        ∙ ap length (sym (same_columns k))
        ∙ sym (relation_there s l alike.0 k h).is_arity

    -- the rows of the target's relation, by the arity of the source's
    pub target_rows : RowsThere t (relation_at (model_of t) k).rows (get_or m.rows k 0) (get_or l.arity k 0) (get_or m.count k 0)
    target_rows = rw same_arity at (rows_there t m alike.1 k in_target)
