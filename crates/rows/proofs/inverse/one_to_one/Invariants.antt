-- `rows::inverse::one_to_one` meets its contract. The invariant: the entries from x on are alone where all entries are; the measure is the number of
-- entries left. Assumes nothing.
use Prim.Native.Nat.{ℕ, ◌+◌, ◌<◌}
use mathlib.Core.Path.{◌≡◌, sym, ◌∙◌}
use mathlib.Core.Bool.{false}
use mathlib.Core.List.{List}
use lib.Dec.{eqb}
use lib.ListN.{length, get_or}
use Rattle.lists.specs.First.{first_at}
use Rattle.rows.specs.Maps.{alone, one_to_one}
use Rattle.lists.proofs.Laws.Every.{get_d_inside}
use Rattle.lists.proofs.Laws.Numbers.{UpFrom, up_passed, up_failed}
use Rattle.rows.proofs.Laws.Inverse.{alone_none, alone_first, alone_later}
use Rattle.rows.proofs.inverse.one_to_one.Given as goal

abbrev pub Passed : List ℕ → ℕ → Type 0
Passed f x = UpFrom (alone f) (length f) x

-- the entry of x, which stands first at a place
module _ (f : List ℕ) (x : ℕ) (i : Passed f x) (h : x < length f) where
  pub entry : get_or f x 255 ≡ get_or f x 0
  entry = get_d_inside f x 255 0 h

  pub none : get_or f x 0 ≡ 255 → Passed f (x + 1)
  none e = up_passed i h (alone_none f x (get_or f x 0) entry e)

  module _ (some : get_or f x 0 ≡ 255 → ⊥) (place : ℕ) (e : place ≡ first_at (eqb (get_or f x 0)) f) where
    pub more : place ≡ x → Passed f (x + 1)
    more k = up_passed i h (alone_first f x (get_or f x 0) entry some (sym e ∙ k))

    pub stop : (place ≡ x → ⊥) → false ≡ one_to_one f
    unfolding one_to_one
    stop k = up_failed i h (alone_later f x (get_or f x 0) entry some (λ q. k (e ∙ q)))

abbrev pub invariant-loop-x : goal.invariant-loop-x
invariant-loop-x l = Passed l.map l.x
