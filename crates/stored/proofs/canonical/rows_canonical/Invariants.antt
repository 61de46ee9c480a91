-- `stored::canonical::rows_canonical` meets its contract. The invariant: from row i on the rows pass where all rows do. Assumes nothing.
use Rattle.lists.specs.Every.{all}
use Rattle.lists.proofs.Laws.Every.{AllFrom}
use Rattle.stored.specs.Model.{is_rep_in}
use Rattle.stored.specs.File.{listed}
use Rattle.stored.proofs.canonical.rows_canonical.Given as goal

abbrev pub invariant-loop-i : goal.invariant-loop-i
invariant-loop-i l = AllFrom (all (is_rep_in l.roots)) (listed l.rows) l.i
