-- `rounds::counts::filled` meets its contract. The invariant: n counts the entries passed that are not 0. Assumes nothing.
use Rattle.rounds.proofs.Laws.Counts.{Filled}
use Rattle.rounds.proofs.counts.filled.Given as goal

abbrev pub invariant-loop-count : goal.invariant-loop-count
invariant-loop-count l = Filled l.table l.n l.count-index
