-- `rounds::keys::count_down` meets its contract. The invariant: the numbers before i were taken off the counts (`Lowering`). Assumes nothing.
use Rattle.rounds.proofs.Laws.Tables.{Lowering}
use Rattle.rounds.proofs.keys.count_down.Given as goal

abbrev pub invariant-loop-i : goal.invariant-loop-i
invariant-loop-i l = Lowering l.initial.board l.from l.end l.board l.i
