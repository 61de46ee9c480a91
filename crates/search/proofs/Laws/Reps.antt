-- The laws of the members below a number that pass a test, with one number more. Assumes nothing.
use Prim.Native.Nat.{ℕ, ◌+◌}
use mathlib.Core.Path.{◌≡◌, ◌∙◌, ap}
use mathlib.Core.Bool.{Bool, true, false}
use mathlib.Core.List.{[], ◌∷◌, ◌++◌}
use native.Mathlib.Omega.{arith}
use native.Mathlib.Numerals.{add-one}
use Rattle.lists.specs.Every.{keep}
use Rattle.lists.specs.Numbers.{up_from}
use Rattle.lists.proofs.Laws.Every.{keep_none, keep_more, keep_past}
use Rattle.lists.proofs.Laws.Numbers.{up_from_end, up_from_more}

pub kept_none : (p : ℕ → Bool) → keep p (up_from 0 0) ≡ []
kept_none p = ap (keep p) (up_from_end 0 0 (omega arith)) ∙ keep_none p

module _ (p : ℕ → Bool) (x : ℕ) where
  one_more : up_from 0 (x + 1) ≡ up_from 0 x ++ x ∷ []
  one_more = let e : 0 + x ≡ x = omega arith in rw (add-one x, up_from_more 0 x, e)

  pub kept_more : p x ≡ true → keep p (up_from 0 (x + 1)) ≡ keep p (up_from 0 x) ++ x ∷ []
  kept_more t = ap (keep p) one_more ∙ keep_more p (up_from 0 x) x t

  pub kept_same : p x ≡ false → keep p (up_from 0 (x + 1)) ≡ keep p (up_from 0 x)
  kept_same f = ap (keep p) one_more ∙ keep_past p (up_from 0 x) x f
