-- The laws of Roots: the rules case by case, for one element and from element x on. Assumes nothing.
use Prim.Native.Nat.{ℕ, ◌-◌, ◌<◌, ◌≤◌}
use mathlib.Core.Path.{◌≡◌}
use mathlib.Core.Bool.{false}
use mathlib.Core.List.{List}
use native.Mathlib.Omega.{arith}
use borrow.Author.Tests.{lt-ltb, le-ltb, eq-eqb, ne_eqb}
use lib.Dec.{eqb}
use lib.ListN.{length, get_or}
use Rattle.lists.specs.Every.{all}
use Rattle.lists.specs.Numbers.{sum, up_from}
use Rattle.stored.specs.Types.{type_in}
use Rattle.stored.specs.Roots.{root_holds, roots_hold}

-- one element
module _ (sizes roots : List ℕ) (x : ℕ) where
  pub root_outside : length roots ≤ get_or roots x 0 → root_holds sizes roots x ≡ false
  unfolding root_holds
  root_outside h = rw (le-ltb (get_or roots x 0) (length roots) h)

  module _ (h : get_or roots x 0 < length roots) where
    pub root_other_type : (type_in sizes (get_or roots x 0) ≡ type_in sizes x → ⊥) → root_holds sizes roots x ≡ false
    unfolding root_holds
    root_other_type k = rw (lt-ltb (get_or roots x 0) (length roots) h, ne_eqb (type_in sizes (get_or roots x 0)) (type_in sizes x) k)

    pub root_same_type : type_in sizes (get_or roots x 0) ≡ type_in sizes x → root_holds sizes roots x ≡ eqb (get_or roots (get_or roots x 0) 0) (get_or roots x 0)
    unfolding root_holds
    root_same_type k = rw (lt-ltb (get_or roots x 0) (length roots) h, eq-eqb (type_in sizes (get_or roots x 0)) (type_in sizes x) k)

-- all of them
module _ (sizes roots : List ℕ) where
  pub roots_miscounted : (length roots ≡ sum sizes → ⊥) → roots_hold sizes roots ≡ false
  unfolding roots_hold
  roots_miscounted h = rw (ne_eqb (length roots) (sum sizes) h)

  pub roots_counted : length roots ≡ sum sizes → roots_hold sizes roots ≡ all (root_holds sizes roots) (up_from 0 (length roots - 0))
  unfolding roots_hold
  roots_counted h = let e : length roots - 0 ≡ length roots = omega arith in rw (eq-eqb (length roots) (sum sizes) h, e)
