-- Refining: representatives that have one colour after a round had one colour before it, within a side and across the two. Assumes nothing.
use Prim.Native.Nat.{ℕ}
use mathlib.Core.Path.{◌≡◌}
use mathlib.Core.List.{Memᴰ}
use Rattle.stored.specs.Model.{Model}
use Rattle.rounds.specs.Colours.{colour_at}
use Rattle.rounds.specs.Keys.{key_of}
use Rattle.rounds.specs.Round.{reps, Sides, round}
use Rattle.rounds.proofs.Theorems.Keys.{Side, on_left, on_right, colours_on, key_on, RepOn, same_own, round_key}

module _ (a b : Model) (c : Sides) where
  abbrev pub after : Side → ℕ → ℕ
  after s x = colour_at (colours_on (round a b c) s) x

  pub round_refines : (s t : Side) (x y : ℕ) → RepOn a b c s x → RepOn a b c t y → after s x ≡ after t y → colour_at (colours_on c s) x ≡ colour_at (colours_on c t) y
  unfolding key_of
  round_refines s t x y m n e = same_own (key_on a b c s x) (key_on a b c t y) (round_key a b c s t x y m n e)

  -- side by side
  pub left_refines : (x y : ℕ) → Memᴰ x (reps a) → Memᴰ y (reps a) → colour_at (round a b c).left x ≡ colour_at (round a b c).left y → colour_at c.left x ≡ colour_at c.left y
  left_refines = round_refines on_left on_left

  pub right_refines : (x y : ℕ) → Memᴰ x (reps b) → Memᴰ y (reps b) → colour_at (round a b c).right x ≡ colour_at (round a b c).right y → colour_at c.right x ≡ colour_at c.right y
  right_refines = round_refines on_right on_right

  pub across_refines : (x y : ℕ) → Memᴰ x (reps a) → Memᴰ y (reps b) → colour_at (round a b c).left x ≡ colour_at (round a b c).right y → colour_at c.left x ≡ colour_at c.right y
  across_refines = round_refines on_left on_right
