-- `stored::relation::row_typed` meets its contract. The invariant: the entries from `j` on have their columns' types as all of them do. Assumes nothing.
use Rattle.lists.proofs.Laws.Every.{PairsFrom}
use Rattle.stored.specs.Relation.{entry_typed}
use Rattle.stored.proofs.relation.row_typed.Given as goal

abbrev pub invariant-loop-j : goal.invariant-loop-j
invariant-loop-j l = PairsFrom (entry_typed l.types) l.columns l.row l.j
