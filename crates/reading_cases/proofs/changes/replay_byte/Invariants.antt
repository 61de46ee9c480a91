-- A run is at most as long as the values tried.
use Prim.Native.Nat.{◌≤◌}
use Rattle.reading_cases.proofs.changes.replay_byte.Given as goal

abbrev pub invariant-loop-value : goal.invariant-loop-value
invariant-loop-value l = l.run.count ≤ l.value
