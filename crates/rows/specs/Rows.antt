-- "Rows are compared after taking entries to representatives, as sets. A relation is kept if each source row's image is a target row."
use Rattle.std.specs.Prelude.{ℕ, Bool, not, List, map, length, get_or}
use Rattle.lists.specs.Every.{all, any}
use Rattle.lists.specs.First.{lowest, firsts}
use Rattle.lists.specs.Order.{same_row}
use Rattle.stored.specs.Model.{Rel, Model, relation_at}

-- what a table says of each entry of a row; 255 where the table has no such entry
unfoldable pub through : List ℕ → List ℕ → List ℕ
through table row = map (λ (x : ℕ). get_or table x 255) row

-- whether a row is among some rows
unfoldable pub has_row : List ℕ → List (List ℕ) → Bool
has_row row rows = any (same_row row) rows

-- the rows of a relation, every entry taken to its representative
unfoldable pub normal_rows : Model → Rel → List (List ℕ)
normal_rows m r = map (through m.roots) r.rows

-- how many normalised rows there are, as a set: each row counts at its first appearance
unfoldable pub normal_count : Model → Rel → ℕ
normal_count m r = length (firsts same_row (normal_rows m r))

-- the image of each element of a model under a map of its classes
unfoldable pub images_of : Model → List ℕ → List ℕ
images_of m f = through f m.roots

-- whether each of some rows, taken through a table, is among others
unfoldable pub rows_kept : List ℕ → List (List ℕ) → List (List ℕ) → Bool
rows_kept table rows others = all (λ (row : List ℕ). has_row (through table row) others) rows

-- whether a relation's rows, each element taken to its image, are among the target's
unfoldable pub kept_by : Model → Model → List ℕ → ℕ → Bool
kept_by a b images k = rows_kept images (relation_at a k).rows (normal_rows b (relation_at b k))

-- the lowest relation number not kept; the number of relations where all are kept
unfoldable pub first_unkept_by : Model → Model → List ℕ → ℕ
first_unkept_by a b images = lowest (λ (k : ℕ). not (kept_by a b images k)) 0 (length a.relations)

abbrev pub kept : Model → Model → List ℕ → ℕ → Bool
kept a b f k = kept_by a b (images_of a f) k

abbrev pub first_unkept : Model → Model → List ℕ → ℕ
first_unkept a b f = first_unkept_by a b (images_of a f)
