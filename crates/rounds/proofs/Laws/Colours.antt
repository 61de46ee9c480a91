-- The laws of the first colours: whether an element has a partner, the cases of a colour, a colour for each element, and that the colours by the parts
-- of a file are those of the model that was read. Assumes nothing.
use Prim.Native.Nat.{ℕ, ◌+◌, ◌≤◌}
use mathlib.Core.Path.{◌≡◌, ◌∙◌, ap}
use mathlib.Core.Bool.{true, false, not}
use mathlib.Core.List.{List, map}
use native.Mathlib.Omega.{arith}
use borrow.Author.Tests.{eq-eqb, ne_eqb}
use lib.ListN.{length, get_or, length-map}
use Rattle.lists.specs.Every.{how_many}
use Rattle.lists.specs.Numbers.{up_from}
use Rattle.lists.specs.Part.{over}
use Rattle.lists.proofs.Laws.Counting.{how_many_fits}
use Rattle.lists.proofs.Laws.Numbers.{length-up_from}
use Rattle.stored.specs.Types.{type_in}
use Rattle.stored.proofs.Laws.WellFormed.{WellFormed}
use Rattle.stored.specs.Model.{Model, size, is_rep_in}
use Rattle.rounds.specs.Colours.{colour_at, paired, left_colour, left_colours, right_colour, right_colours}
use Rattle.rounds.specs.Parts.{left_colour_in, right_colour_in}

-- whether an element has a partner
module _ (partners : List ℕ) (x : ℕ) where
  pub paired_none : get_or partners x 255 ≡ 255 → paired partners x ≡ false
  unfolding paired
  paired_none e = ap not (eq-eqb (get_or partners x 255) 255 e)

  pub paired_some : (get_or partners x 255 ≡ 255 → ⊥) → paired partners x ≡ true
  unfolding paired
  paired_some n = ap not (ne_eqb (get_or partners x 255) 255 n)

pub paired_few : (partners : List ℕ) (x : ℕ) → how_many (paired partners) (up_from 0 x) ≤ x
paired_few partners x = omega (arith, how_many_fits (paired partners) (up_from 0 x), length-up_from 0 x)

-- the cases of a left colour
module _ (types roots partners : List ℕ) (x : ℕ) where
  pub left_alias : is_rep_in roots x ≡ false → left_colour_in types roots partners x ≡ 65535
  unfolding left_colour_in
  left_alias e = rw (e, left_colour_in)

  pub left_typed : is_rep_in roots x ≡ true → paired partners x ≡ false → left_colour_in types roots partners x ≡ type_in types x
  unfolding left_colour_in
  left_typed e q = rw (e, left_colour_in, q)

  pub left_paired : is_rep_in roots x ≡ true → paired partners x ≡ true → left_colour_in types roots partners x ≡ length types + how_many (paired partners) (up_from 0 x)
  unfolding left_colour_in
  left_paired e q = rw (e, left_colour_in, q)

-- the cases of a right colour
module _ (types roots left partners : List ℕ) (y : ℕ) where
  pub right_alias : is_rep_in roots y ≡ false → right_colour_in types roots left partners y ≡ 65535
  unfolding right_colour_in
  right_alias e = rw (e, right_colour_in)

  pub right_typed : is_rep_in roots y ≡ true → paired partners y ≡ false → right_colour_in types roots left partners y ≡ type_in types y
  unfolding right_colour_in
  right_typed e q = rw (e, right_colour_in, q)

  pub right_paired : is_rep_in roots y ≡ true → paired partners y ≡ true → right_colour_in types roots left partners y ≡ colour_at left (get_or partners y 255)
  unfolding right_colour_in
  right_paired e q = rw (e, right_colour_in, q)

-- a colour for each element
pub length_left : (a : Model) (partners : List ℕ) → length (left_colours a partners) ≡ size a
unfolding left_colours
length_left a partners = length-map (up_from 0 (size a)) (left_colour a partners) ∙ length-up_from 0 (size a)

pub length_right : (b : Model) (left partners : List ℕ) → length (right_colours b left partners) ≡ size b
unfolding right_colours
length_right b left partners = length-map (up_from 0 (size b)) (right_colour b left partners) ∙ length-up_from 0 (size b)

-- what is said of the types and the roots of a model as they are handed on
module _ (m : Model) (w : WellFormed m) (ts xs : List ℕ) (d : ts ≡ m.sizes) (e : xs ≡ m.roots) where
  left_handed : (partners : List ℕ) → map (left_colour_in ts xs partners) (up_from 0 (length xs)) ≡ left_colours m partners
  unfolding left_colours left_colour left_colour_in
  left_handed partners = rw (e, d, w.roots_length)

  right_handed : (left partners : List ℕ) → map (right_colour_in ts xs left partners) (up_from 0 (length xs)) ≡ right_colours m left partners
  unfolding right_colours right_colour right_colour_in
  right_handed left partners = rw (e, d, w.roots_length)

  pub left_written : (partners old out : List ℕ) → out ≡ over (map (left_colour_in ts xs partners) (up_from 0 (length xs))) old → out ≡ over (left_colours m partners) old
  left_written partners old out h = h ∙ ap (λ (new : List ℕ). over new old) (left_handed partners)

  pub right_written : (left partners old out : List ℕ) → out ≡ over (map (right_colour_in ts xs left partners) (up_from 0 (length xs))) old → out ≡ over (right_colours m left partners) old
  right_written left partners old out h = h ∙ ap (λ (new : List ℕ). over new old) (right_handed left partners)
