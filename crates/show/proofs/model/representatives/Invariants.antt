-- The invariant: what is counted and the representatives from the element x on make the whole, and each element counted at most once.
use Prim.Native.Nat.{◌+◌, ◌≤◌}
use mathlib.Core.Path.{◌≡◌}
use lib.ListN.{drop}
use Rattle.show.specs.Representatives.{representatives_from}
use Rattle.show.proofs.model.representatives.Given as goal

abbrev pub invariant-loop-x : goal.invariant-loop-x
invariant-loop-x l = (l.n ≤ l.x) × (l.n + representatives_from l.x (drop l.x l.roots) ≡ representatives_from 0 l.roots)
