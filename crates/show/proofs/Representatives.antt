-- The clauses of the count of representatives, at the element x of some roots. Assumes nothing.
use Prim.Native.Nat.{ℕ, ◌+◌, ◌<◌, ◌≤◌}
use mathlib.Core.Path.{◌≡◌}
use mathlib.Core.List.{List}
use native.Mathlib.Numerals.{add-one}
use native.Mathlib.Omega.{arith}
use borrow.Author.Tests.{eq-eqb, ne_eqb}
use lib.ListN.{length, get_or, drop, drop_of_length-le}
use lib.Seq.{drop-cons}
use Rattle.show.specs.Representatives.{representatives_from}

module _ (roots : List ℕ) (x : ℕ) where
  pub own : x < length roots → get_or roots x 0 ≡ x → representatives_from x (drop x roots) ≡ 1 + representatives_from (x + 1) (drop (x + 1) roots)
  unfolding representatives_from
  own h e = rw (add-one x, drop-cons roots x 0 h, representatives_from, eq-eqb (get_or roots x 0) x e) (omega arith)

  pub alias : x < length roots → (get_or roots x 0 ≡ x → ⊥) → representatives_from x (drop x roots) ≡ representatives_from (x + 1) (drop (x + 1) roots)
  unfolding representatives_from
  alias h e = rw (add-one x, drop-cons roots x 0 h, representatives_from, ne_eqb (get_or roots x 0) x e)

  pub end : length roots ≤ x → representatives_from x (drop x roots) ≡ 0
  unfolding representatives_from
  end h = rw (drop_of_length-le roots h)
