-- `rounds::numbers::number_rows` meets its contract. The invariant: the cells of the first i rows are numbered, and these rows stand in their buckets (`NumberedTo`). Assumes nothing.
use Rattle.rounds.proofs.Laws.Numbers.{NumberedTo}
use Rattle.rounds.proofs.numbers.number_rows.Given as goal

abbrev pub invariant-loop-i : goal.invariant-loop-i
invariant-loop-i l = NumberedTo l.cells l.base l.arity l.rows l.initial.board l.board l.at l.i
