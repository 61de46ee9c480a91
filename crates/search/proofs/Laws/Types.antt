-- The type of an element is below the number of types. Assumes nothing.
use Prim.Native.Nat.{ℕ, zero, suc, ◌+◌, ◌-◌, ◌<◌}
use mathlib.Core.Path.{◌≡◌, subst}
use mathlib.Core.Logic.{by_cases}
use mathlib.Core.List.{List}
use native.Mathlib.Omega.{arith}
use native.Mathlib.Decide.{dec_le}
use lib.ListN.{length, get_or, drop}
use Rattle.lists.specs.Numbers.{sum}
use Rattle.lists.proofs.Laws.Numbers.{sum_next, sum_end}
use Rattle.stored.specs.Model.{Model, size, type_of}
use Rattle.stored.proofs.Laws.Types.{type_from, type_start, type_here, type_next}

module _ (sizes : List ℕ) where
  below_from : (left t x : ℕ) → left + t ≡ length sizes → x < sum (drop t sizes) → type_from sizes t x < length sizes
  below_from zero t x e l = absurd (omega (arith, sum_end sizes t (omega arith)))
  below_from (suc left) t x e l =
      by_cases (dec_le (suc x) (get_or sizes t 0))
      (λ h. omega (arith, type_here sizes t x (omega arith) h))
      (λ h.
      omega (arith, type_next sizes t x (omega arith) (omega arith), below_from left (t + 1) (x - get_or sizes t 0) (omega arith) (omega (arith, sum_next sizes t (omega arith)))))

pub type_below : (m : Model) (x : ℕ) → x < size m → type_of m x < length m.sizes
type_below m x l = subst (λ (t : ℕ). t < length m.sizes) (type_start m.sizes x) (below_from m.sizes (length m.sizes) 0 x (omega arith) l)
