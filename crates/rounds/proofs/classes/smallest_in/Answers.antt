use Rattle.rounds.proofs.classes.smallest_in.Invariants.{start, done, more, passed}
use Rattle.rounds.proofs.classes.smallest_in.Goals as goal

pub loop-k-init : goal.loop-k-init
loop-k-init c = start _ _ c.requires.0 _ c.rep_count-k.ensures

pub loop-k-preserved-then-table-k-gt1 : goal.loop-k-preserved-then-table-k-gt1
loop-k-preserved-then-table-k-gt1 c = more _ _ _ _ c.loop-k.invariant c.loop-k-test.true _ c.smallest_with-answer.ensures

pub loop-k-preserved : goal.loop-k-preserved
loop-k-preserved c = passed _ _ _ _ c.loop-k.invariant c.loop-k-test.true c.if-table-k-gt1.false

pub returns : goal.returns
returns c = done _ _ _ _ c.loop-k.invariant c.loop-k-test.false
