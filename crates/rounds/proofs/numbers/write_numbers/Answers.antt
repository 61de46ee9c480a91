use Rattle.rounds.proofs.numbers.write_numbers.Invariants.{done, inside, more}
use Rattle.rounds.proofs.numbers.write_numbers.Goals as goal

pub bounds-board-position : goal.bounds-board-position
bounds-board-position c = inside _ _ _ _ _ _ _ c.loop-j.invariant c.loop-j-test.true

pub loop-j-preserved : goal.loop-j-preserved
loop-j-preserved c = more _ _ _ _ _ _ _ c.loop-j.invariant c.loop-j-test.true

pub returns-clause-written : goal.returns-clause-written
returns-clause-written c = done _ _ _ _ _ _ _ c.loop-j.invariant c.loop-j-test.false
