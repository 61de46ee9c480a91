-- `rounds::keys::count_up` meets its contract. The invariant: at i the table holds what is to be counted but for the numbers from i on (`Counting`).
-- Assumes nothing.
use Rattle.rounds.proofs.Laws.Tables.{Counting}
use Rattle.rounds.proofs.keys.count_up.Given as goal

abbrev pub invariant-loop-i : goal.invariant-loop-i
invariant-loop-i l = Counting l.initial.board l.from l.end l.board l.i
