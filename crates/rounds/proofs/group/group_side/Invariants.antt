-- `rounds::group::group_side` meets its contract. The invariant: the elements before x are grouped (`Grouping`). Assumes nothing.
use Rattle.rounds.proofs.Laws.Grouping.{Grouping}
use Rattle.rounds.proofs.group.group_side.Given as goal

abbrev pub invariant-loop-x : goal.invariant-loop-x
invariant-loop-x l = Grouping l.initial.board l.cells l.roots l.raise l.initial.tables.holders l.count l.initial.out l.board l.tables.holders l.tables.marks l.tables.heads l.tables.links l.tables.lone l.n l.out l.x
