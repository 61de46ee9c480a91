-- `rows::pairs::conflict` meets its contract: no image was given before, or one that is the same or another. Assumes nothing.
use Prim.Native.Nat.{ℕ, ◌<◌}
use mathlib.Core.Path.{◌≡◌, sym, ◌∙◌, ap}
use mathlib.Core.Bool.{false, not}
use mathlib.Core.List.{List}
use lib.Dec.{eqb}
use lib.ListN.{length, get_or}
use Rattle.rows.specs.Pairs.{conflicts}
use Rattle.lists.proofs.Laws.Every.{get_d_inside}
use Rattle.rows.proofs.Laws.Pairs.{conflicts_none, conflicts_given}
use Rattle.rows.proofs.pairs.conflict.Goals as goal

module _ (f : List ℕ) (x y : ℕ) (h : x < length f) where
  at_x : get_or f x 255 ≡ get_or f x 0
  at_x = get_d_inside f x 255 0 h

  none : get_or f x 0 ≡ 255 → false ≡ conflicts f x y
  none e = sym (conflicts_none f x y (at_x ∙ e))

  given : (get_or f x 0 ≡ 255 → ⊥) → not (eqb (get_or f x 0) y) ≡ conflicts f x y
  given n = sym (conflicts_given f x y (λ e. n (sym at_x ∙ e)) ∙ ap (λ (z : ℕ). not (eqb z y)) at_x)

pub returns-then-before : goal.returns-then-before
returns-then-before c = none _ _ _ c.requires c.if-before.true

pub returns : goal.returns
returns c = given _ _ _ c.requires c.if-before.false
