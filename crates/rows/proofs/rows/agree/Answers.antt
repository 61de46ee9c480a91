use Rattle.rows.proofs.rows.agree.Invariants.{unequal, start, done, stop, more}
use Rattle.rows.proofs.rows.agree.Goals as goal

pub returns-then-row-other : goal.returns-then-row-other
returns-then-row-other c = unequal _ _ _ _ c.if-row-other.true

pub loop-j-init : goal.loop-j-init
loop-j-init c = start _ _ _ _ c.if-row-other.false

pub returns-then-x-y : goal.returns-then-x-y
returns-then-x-y c = stop _ _ _ _ _ c.loop-j.invariant c.loop-j-test.true _ _ c.look-x.ensures c.look-y.ensures c.if-x-y.true

pub loop-j-preserved : goal.loop-j-preserved
loop-j-preserved c = more _ _ _ _ _ c.loop-j.invariant c.loop-j-test.true _ _ c.look-x.ensures c.look-y.ensures c.if-x-y.false

pub returns : goal.returns
returns c = done _ _ _ _ _ c.loop-j.invariant c.loop-j-test.false
