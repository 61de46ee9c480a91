-- `search::machine::run` meets its contract. The invariant: the rest of the machine's run from here is the run from the start (`Running`), and where a round is due the count is that of
-- the left's colours (`Carried`); the measure is the number of units left. In what follows r is what is known at the head of the loop, q
-- which phase it is, o the place where it is known how many choices stay open, k what is known once a candidate was looked at. Assumes nothing.
use Prim.Native.Nat.{◌-◌}
use Rattle.stored.specs.File.{held}
use Rattle.search.proofs.Laws.Machine.{Carried, Running}
use Rattle.search.proofs.machine.run.Given as goal

abbrev pub invariant-loop-phase : goal.invariant-loop-phase
invariant-loop-phase l = Running l.both.left.bytes.now l.both.right.bytes.now l.both.left.layout l.both.right.layout l.cells l.initial.colours l.budget l.initial.out l.initial.work l.out l.work l.colours l.phase l.depth l.used × Carried (held l.both.left) (held l.both.right) l.colours l.phase l.count

abbrev pub decreases-loop-phase : goal.decreases-loop-phase
decreases-loop-phase l = l.budget - l.used
