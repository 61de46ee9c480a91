-- `rows::packed::first_from` meets its contract. The invariant: the rows before `first` have a lower first entry than x, those past `left` more have not;
-- the measure is how many are left. Assumes nothing.
use Rattle.rows.proofs.Laws.Starts.{Started}
use Rattle.rows.proofs.packed.first_from.Given as goal

abbrev pub invariant-loop-left : goal.invariant-loop-left
invariant-loop-left l = Started l.rows.cells.now l.rows.arity l.rows.count l.x l.first l.left

abbrev pub decreases-loop-left : goal.decreases-loop-left
decreases-loop-left l = l.left
