-- The laws of cleared work: nothing cleared, one entry more, a front set to zero. Assumes nothing.
use Prim.Native.Nat.{ℕ, ◌+◌, ◌<◌, ◌≤◌}
use mathlib.Core.Path.{◌≡◌, ap, ◌∙◌}
use mathlib.Core.List.{List, ◌++◌}
use borrow.Author.Fill.{fill_none, fill_more}
use lib.ListN.{length, set, take, drop, replicate}
use lib.Seq.{length-take-le}
use Rattle.search.specs.Answer.{cleared}

module _ (w : List ℕ) where
  pub cleared_none : w ≡ cleared 0 w
  unfolding cleared
  cleared_none = fill_none w 0

  pub cleared_more : (n : ℕ) → n < length w → set (cleared n w) n 0 ≡ cleared (n + 1) w
  unfolding cleared
  cleared_more n h = fill_more n 0 w h

-- a front set to zero, and what is past it
pub cleared_front : (n : ℕ) (w front : List ℕ) → n ≤ length w → front ≡ replicate (length (take n w)) 0 → front ++ drop n w ≡ cleared n w
unfolding cleared
cleared_front n w front h e = ap (λ (l : List ℕ). l ++ drop n w) (e ∙ ap (λ (k : ℕ). replicate k 0) (length-take-le n w h))
