-- The laws of lookups: where the types and the representative of an element stand in a file, and a row or an entry by its number. Assumes nothing.
use Prim.Native.Nat.{ℕ, ◌+◌, ◌-◌, ◌*◌, ◌<◌, ◌≤◌}
use mathlib.Core.Path.{◌≡◌, sym, ◌∙◌, ap}
use mathlib.Core.List.{List, []}
use native.Mathlib.Omega.{arith}
use lib.ListN.{length, get_or}
use Rattle.lists.specs.Part.{part, rows_of}
use Rattle.lists.proofs.Laws.Part.{get_d_part, part_ends, get_d_rows_of}
use Rattle.stored.specs.Limits.{max_types}
use Rattle.stored.specs.Model.{size, root_of}
use Rattle.stored.specs.Relation.{entry_at}
use Rattle.stored.specs.Layout.{roots_start, roots_end}
use Rattle.stored.specs.declared.layout.Layout.{Layout}
use Rattle.stored.specs.Reading.{Holds, model_of, Reads}
use Rattle.stored.proofs.Laws.Types.{types_length}
use Rattle.stored.proofs.Laws.Parse.{Accepted, parse_accepted}
use Rattle.stored.proofs.Laws.Reading.{roots_is, size_is, roots_inside, reads_formed}

-- a file that holds a model
module _ (s : List ℕ) (h : Holds s) where
  accepted : Accepted s (model_of s)
  accepted = parse_accepted s (model_of s) h

  pub few_types : length (model_of s).sizes ≤ max_types
  few_types = types_length (model_of s).sizes accepted.types_hold_lem

  pub roots_fit : roots_end (model_of s) ≤ length s
  roots_fit = accepted.roots_inside

  -- the types, handed on by their ends
  pub types_between : part s 3 (3 + length (model_of s).sizes - 3) ≡ (model_of s).sizes
  types_between = part_ends s 3 (length (model_of s).sizes) ∙ sym accepted.types_there

  pub root_there : (x : ℕ) → x < size (model_of s) → get_or s (roots_start (model_of s) + x) 0 ≡ root_of (model_of s) x
  root_there x l = sym (get_d_part s (roots_start (model_of s)) (size (model_of s)) x 0 l) ∙ ap (λ (r : List ℕ). get_or r x 0) (sym accepted.roots_there)

-- c rows of a members
module _ (a c : ℕ) (rows : List ℕ) (i : ℕ) (h : i < c) where
  pub row_at : get_or (rows_of a c rows) i [] ≡ part rows (i * a) a
  row_at = get_d_rows_of a c rows i [] h

  pub entry_at_lem : (j : ℕ) → entry_at a rows i j ≡ get_or (get_or (rows_of a c rows) i []) j 0
  entry_at_lem j = ap (λ (r : List ℕ). get_or r j 0) (sym row_at)

-- an entry where it stands
pub entry_there : (a : ℕ) (rows : List ℕ) (i j : ℕ) → j < a → get_or rows (i * a + j) 0 ≡ entry_at a rows i j
entry_there a rows i j h = sym (get_d_part rows (i * a) a j 0 h)

-- the representative of an element, looked up where the layout says
module _ (s : List ℕ) (l : Layout) (reads : Reads s l) (x : ℕ) (h : x < size (model_of s)) where
  pub root_inside : l.roots + x < length s
  root_inside = omega (arith, roots_inside s l reads, size_is s l reads)

  pub root_at : get_or s (l.roots + x) 0 ≡ root_of (model_of s) x
  root_at = ap (λ (r : ℕ). get_or s (r + x) 0) (roots_is s l reads) ∙ root_there s reads.accepted x h

  pub root_at_known : get_or s (l.roots + x) 0 < size (model_of s)
  root_at_known = rw root_at ((reads_formed s l reads).root_known x h)
