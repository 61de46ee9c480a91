-- `rounds::classes::rep_count` meets its contract. The invariant: n counts the representatives below x. Assumes nothing.
use Rattle.std.proofs.Common.{◌≡◌, ◌≤◌, length}
use Rattle.rounds.specs.Parts.{reps_below}
use Rattle.rounds.proofs.classes.rep_count.Given as goal

abbrev pub invariant-loop-x : goal.invariant-loop-x
invariant-loop-x l = (l.n ≤ l.x) × (l.n ≡ length (reps_below l.roots l.x))
