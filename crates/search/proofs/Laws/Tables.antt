-- The partners of both sides in the fronts of two tables of 64 bytes that are lent: the room, the lengths, and the partners that good pairs give. The
-- pairs that a base gives in the front of a table of 128 bytes. Assumes nothing.
use Prim.Native.Nat.{ℕ, ◌*◌, ◌≤◌}
use mathlib.Core.Path.{◌≡◌, sym, ◌∙◌, ap, ap₂}
use mathlib.Core.Bool.{Bool, true, false}
use mathlib.Core.List.{List, ◌++◌}
use native.Mathlib.Omega.{arith}
use lib.ListN.{length, take, drop, length-set, length-take, length-append, length-drop}
use lib.Seq.{length-take-le}
use Rattle.lists.specs.Every.{keep}
use Rattle.lists.specs.Numbers.{up_from}
use Rattle.lists.specs.Part.{over}
use Rattle.lists.proofs.Laws.Over.{back_room, back_front, over_holds, over_front}
use Rattle.stored.specs.declared.layout.Layout.{Layout}
use Rattle.stored.specs.Model.{Model, size, is_rep_in}
use Rattle.stored.proofs.Laws.WellFormed.{WellFormed}
use Rattle.stored.specs.Reading.{Reads, model_of}
use Rattle.stored.proofs.Laws.Reading.{size_is}
use Rattle.rows.specs.Pairs.{pair_count}
use Rattle.rows.specs.Check.{blank}
use Rattle.rows.proofs.Laws.Given.{size_few}
use Rattle.rows.proofs.Laws.Check.{length_blank, blank_front}
use Rattle.rounds.specs.Round.{reps}
use Rattle.rounds.proofs.Theorems.Keys.{reps_kept}
use Rattle.search.specs.Partners.{partners, clash, partners_from, partners_of, partners_by}
use Rattle.search.specs.Find.{pairs_under}
use Rattle.search.proofs.Laws.Pairs.{partners_good, partners_clash}

-- how long tables and their fronts are, by the sizes of files that were read
pub ruleset fronts = (size_few, size_is, length_blank, length-set, length-take, length-append, length-drop)

-- a blank table, with a byte for each element of a file in its front
module _ (s : List ℕ) (l : Layout) (p : Reads s l) (array : List ℕ) (e : array ≡ blank 64) where
  pub table_fits : l.size ≤ length array
  table_fits = omega (arith, ap length e, length_blank 64, size_few s l p)

  pub table_long : l.size ≡ length (take l.size array)
  table_long = sym (length-take-le l.size array table_fits)

  pub table_asked : length (take l.size array) ≡ size (model_of s)
  table_asked = sym table_long ∙ size_is s l p

  pub table_blank : take l.size array ≡ blank (size (model_of s))
  table_blank = ap (take l.size) e ∙ blank_front l.size 64 (size_few s l p) ∙ ap blank (size_is s l p)

  -- with its front written
  module _ (new : List ℕ) (long : length new ≡ length (take l.size array)) where
    pub written_fits : l.size ≤ length (new ++ drop l.size array)
    written_fits = back_room l.size array new table_fits long

    pub written_front : take l.size (new ++ drop l.size array) ≡ new
    written_front = back_front l.size array new table_fits long

    pub written_long : l.size ≡ length (take l.size (new ++ drop l.size array))
    written_long = sym (length-take-le l.size (new ++ drop l.size array) written_fits)

-- both tables written with the partners that pairs give
module _ (s t : List ℕ) (l m : Layout) (p : Reads s l) (q : Reads t m) (array array' : List ℕ) (e : array ≡ blank 64) (e' : array' ≡ blank 64) (pairs new new' : List ℕ) (r : Bool) (w : partners_by r new new' ≡ partners_from (pair_count pairs) (model_of s) (model_of t) pairs 0 (take l.size array) (take m.size array')) where
  given : partners_of (model_of s) (model_of t) pairs ≡ partners_by r new new'
  unfolding partners_of
  given = sym (w ∙ ap₂ (partners_from (pair_count pairs) (model_of s) (model_of t) pairs 0) (table_blank s l p array e) (table_blank t m q array' e'))

  pub given_clash : r ≡ false → partners_of (model_of s) (model_of t) pairs ≡ clash
  given_clash h = given ∙ rw h (partners_clash new new')

  pub given_partners : r ≡ true → (long : length new ≡ length (take l.size array)) (long' : length new' ≡ length (take m.size array')) → partners_of (model_of s) (model_of t) pairs ≡ partners (take l.size (new ++ drop l.size array)) (take m.size (new' ++ drop m.size array'))
  given_partners h long long' = given ∙ rw h (partners_good new new') ∙ sym (ap₂ partners (written_front s l p array e new long) (written_front t m q array' e' new' long'))

-- the pairs that two maps give to the representatives of a base, as they are written, by its roots as they are handed on
abbrev pub pairs_in : List ℕ → List ℕ → List ℕ → List ℕ
pairs_in xs f g = pairs_under f g (keep (is_rep_in xs) (up_from 0 (length xs)))

module _ (m : Model) (v : WellFormed m) (xs : List ℕ) (d : xs ≡ m.roots) where
  pub base_fits : (array : List ℕ) → length array ≡ 128 → 2 * length xs ≤ length array
  base_fits array e = omega (arith, ap length d, v.roots_length, v.few_elements)

  module _ (f g array new : List ℕ) (n : ℕ) (w : (new ≡ over (pairs_in xs f g) array) × (n ≡ length (pairs_in xs f g))) where
    pub base_room : n ≤ length new
    base_room = omega (arith, w.1, ap length w.0, over_holds (pairs_in xs f g) array)

    pub base_long : n ≡ length (take n new)
    base_long = sym (length-take-le n new base_room)

    pub base_pairs : take n new ≡ pairs_under f g (reps m)
    base_pairs = ap₂ take w.1 w.0 ∙ over_front (pairs_in xs f g) array ∙ ap (pairs_under f g) (rw (d, v.roots_length, reps_kept m))
