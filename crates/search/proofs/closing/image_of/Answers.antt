-- `search::closing::image_of` meets its contract: an alias has no image, and the number of an element fits a byte. Assumes nothing.
use Prim.Native.Nat.{ℕ, ◌≤◌}
use mathlib.Core.Path.{◌≡◌, sym, ◌∙◌, ap}
use mathlib.Core.Bool.{Bool, true}
use mathlib.Core.List.{List}
use native.Mathlib.Omega.{arith}
use borrow.Author.Tests.{not-true}
use lib.ListN.{length}
use Rattle.lists.specs.First.{lowest}
use Rattle.lists.proofs.Laws.First.{lowest_within}
use Rattle.stored.specs.Model.{is_rep_in}
use Rattle.rounds.specs.Colours.{colour_at}
use Rattle.rounds.specs.Parts.{has_colour}
use Rattle.search.specs.Machine.{image_in}
use Rattle.search.proofs.Laws.Closing.{image_alias, image_rep}
use Rattle.search.proofs.closing.image_of.Goals as goal

-- the lowest representative of a colour
module _ (roots colours : List ℕ) (colour y : ℕ) (e : y ≡ lowest (has_colour roots colours colour) 0 (length roots)) where
  within : y ≤ length roots
  within = omega (arith, e, (lowest_within (has_colour roots colours colour) 0 (length roots)).1)

  image : (own left : List ℕ) (x : ℕ) (r : Bool) → colour ≡ colour_at left x → r ≡ is_rep_in own x → r ≡ true → y ≡ image_in own roots left colours x
  image own left x r k i t =
      e ∙ ap (λ (c : ℕ). lowest (has_colour roots colours c) 0 (length roots)) k
      ∙ sym (image_rep own roots left colours x (sym i ∙ t))

pub returns-then-not-is_rep : goal.returns-then-not-is_rep
returns-then-not-is_rep c = sym (image_alias _ _ _ _ _ (sym c.is_rep.ensures ∙ not-true _ c.if-not-is_rep.true-raw))

pub overflow_cast-result : goal.overflow_cast-result
overflow_cast-result c = omega (arith, within _ _ _ _ c.lowest_in-y.ensures, c.requires)

pub returns : goal.returns
returns c = image _ _ _ _ c.lowest_in-y.ensures _ _ _ _ c.colour_at-colour.ensures c.is_rep.ensures c.if-not-is_rep.false
