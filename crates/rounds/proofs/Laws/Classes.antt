-- The laws of the smallest open class: one colour more, and that of the parts of a file is that of the model that was read. Assumes nothing.
use Prim.Native.Nat.{ℕ, suc, ◌<◌, ◌≤◌}
use mathlib.Core.Path.{◌≡◌, refl}
use mathlib.Core.List.{List}
use borrow.Author.Tests.{lt-ltb, le-ltb, le-leb, lt-leb}
use lib.Dec.{eqb}
use lib.ListN.{length, length-map}
use Rattle.stored.proofs.Laws.WellFormed.{WellFormed}
use Rattle.stored.specs.Model.{Model}
use Rattle.std.specs.Prelude.{Option, None, Some}
use Rattle.lists.specs.Every.{how_many}
use Rattle.rounds.specs.declared.colour.Colour.{Colour}
use Rattle.rounds.specs.Colours.{colour_at}
use Rattle.rounds.specs.Classes.{open_of, smaller, smallest_from, smallest_open}
use Rattle.rounds.specs.Parts.{reps_below, reps_in, colours_below, colours_in, smallest_with}
use Rattle.rounds.proofs.Laws.Parts.{colours_handed}

-- what a function answers
pub open_none : open_of None ≡ None
unfolding open_of
open_none = refl

pub open_at_lem : (k : Colour) → open_of (Some k) ≡ Some k.0
unfolding open_of
open_at_lem k = refl

-- one colour more
module _ (colours : List ℕ) (k : ℕ) where
  pub with_single : (later : Option ℕ) → how_many (eqb k) colours < 2 → smallest_with colours k later ≡ later
  unfolding smallest_with
  with_single later h = rw (lt-ltb _ _ h, smallest_with)

  module _ (h : 2 ≤ how_many (eqb k) colours) where
    pub with_only : smallest_with colours k None ≡ Some k
    unfolding smallest_with smaller
    with_only = rw (le-ltb _ _ h, smallest_with)

    pub with_first : (l : ℕ) → how_many (eqb k) colours ≤ how_many (eqb l) colours → smallest_with colours k (Some l) ≡ Some k
    unfolding smallest_with smaller
    with_first l q = rw (le-ltb _ _ h, smallest_with, le-leb _ _ q, smaller)

    pub with_later : (l : ℕ) → how_many (eqb l) colours < how_many (eqb k) colours → smallest_with colours k (Some l) ≡ Some l
    unfolding smallest_with smaller
    with_later l q = rw (le-ltb _ _ h, smallest_with, lt-leb _ _ q, smaller)

  pub from_more : (n : ℕ) → smallest_from colours k (suc n) ≡ smallest_with colours k (smallest_from colours (suc k) n)
  unfolding smallest_from smallest_with
  from_more n = refl

pub from_none : (colours : List ℕ) (k : ℕ) → smallest_from colours k 0 ≡ None
unfolding smallest_from
from_none colours k = refl

-- the colours are as many as the representatives
pub colours_count : (roots colours : List ℕ) → length (colours_in roots colours) ≡ length (reps_in roots)
unfolding colours_below
colours_count roots colours = length-map (reps_below roots (length roots)) (colour_at colours)

-- what is said of the roots of a model as they are handed on
module _ (m : Model) (w : WellFormed m) (xs : List ℕ) (e : xs ≡ m.roots) where
  pub open_handed : (colours : List ℕ) → smallest_from (colours_in xs colours) 0 (length (colours_in xs colours)) ≡ smallest_open m colours
  unfolding smallest_open
  open_handed colours = rw (colours_handed m w xs e colours)
