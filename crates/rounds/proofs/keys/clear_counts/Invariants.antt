-- `rounds::keys::clear_counts` meets its contract. The invariant: a number that none of those from i on is stands with 0 in the table (`Emptying`).
-- Assumes nothing.
use Rattle.rounds.proofs.Laws.Tables.{Emptying}
use Rattle.rounds.proofs.keys.clear_counts.Given as goal

abbrev pub invariant-loop-i : goal.invariant-loop-i
invariant-loop-i l = Emptying l.initial.board l.from l.end l.board l.i
