-- Starting: the first colours of the representatives of both sides, by whether they have a partner. Assumes nothing.
use Prim.Native.Nat.{ℕ, ◌+◌}
use mathlib.Core.Path.{◌≡◌, ◌∙◌}
use mathlib.Core.Bool.{true, false}
use mathlib.Core.List.{List, Memᴰ}
use borrow.Author.Tests.{eq-eqb, ne_eqb}
use lib.ListN.{length, get_or}
use Rattle.lists.specs.Every.{how_many}
use Rattle.lists.specs.Numbers.{up_from}
use Rattle.lists.proofs.Laws.Entries.{entry_at_lem}
use Rattle.stored.specs.Model.{Model, size, type_of}
use Rattle.rounds.specs.Colours.{no_colour, colour_at, paired, left_colour, left_colours, right_colour, right_colours}
use Rattle.rounds.specs.Round.{reps}
use Rattle.rounds.proofs.Theorems.Keys.{reps_below_lem, reps_rep}

module _ (partners : List ℕ) (x : ℕ) where
  pub is_paired : (get_or partners x 255 ≡ 255 → ⊥) → paired partners x ≡ true
  unfolding paired
  is_paired n = rw (ne_eqb (get_or partners x 255) 255 n)

  pub is_free : get_or partners x 255 ≡ 255 → paired partners x ≡ false
  unfolding paired
  is_free e = rw (eq-eqb (get_or partners x 255) 255 e)

module _ (a : Model) (partners : List ℕ) (x : ℕ) (m : Memᴰ x (reps a)) where
  left_at : colour_at (left_colours a partners) x ≡ left_colour a partners x
  unfolding left_colours
  left_at = entry_at_lem (left_colour a partners) (size a) x no_colour (reps_below_lem a x m)

  -- its type, or a colour after the types
  pub left_free : get_or partners x 255 ≡ 255 → colour_at (left_colours a partners) x ≡ type_of a x
  unfolding left_colour
  left_free e = left_at ∙ rw (reps_rep a x m, left_colour, is_free partners x e)

  pub left_paired : (get_or partners x 255 ≡ 255 → ⊥) → colour_at (left_colours a partners) x ≡ length a.sizes + how_many (paired partners) (up_from 0 x)
  unfolding left_colour
  left_paired n = left_at ∙ rw (reps_rep a x m, left_colour, is_paired partners x n)

module _ (b : Model) (left partners : List ℕ) (y : ℕ) (m : Memᴰ y (reps b)) where
  right_at_lem : colour_at (right_colours b left partners) y ≡ right_colour b left partners y
  unfolding right_colours
  right_at_lem = entry_at_lem (right_colour b left partners) (size b) y no_colour (reps_below_lem b y m)

  -- its type, or the colour of its partner
  pub right_free : get_or partners y 255 ≡ 255 → colour_at (right_colours b left partners) y ≡ type_of b y
  unfolding right_colour
  right_free e = right_at_lem ∙ rw (reps_rep b y m, right_colour, is_free partners y e)

  pub right_paired : (get_or partners y 255 ≡ 255 → ⊥) → colour_at (right_colours b left partners) y ≡ colour_at left (get_or partners y 255)
  unfolding right_colour
  right_paired n = right_at_lem ∙ rw (reps_rep b y m, right_colour, is_paired partners y n)
