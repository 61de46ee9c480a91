use native.Mathlib.Omega.{arith}
use Rattle.stored.proofs.relation.row_before.Invariants.{longer, decided, more, over}
use Rattle.stored.proofs.relation.row_before.Goals as goal

pub returns-then-b-j : goal.returns-then-b-j
returns-then-b-j c = longer c.loop-j.invariant c.loop-j-test.true c.if-b-j.true

pub returns-then-x-b : goal.returns-then-x-b
returns-then-x-b c = decided c.loop-j.invariant c.loop-j-test.true (omega (arith, c.if-b-j.false)) c.if-x-b.true

pub loop-j-preserved : goal.loop-j-preserved
loop-j-preserved c = more c.loop-j.invariant c.loop-j-test.true (omega (arith, c.if-b-j.false)) c.if-x-b.false

pub returns : goal.returns
returns c = over c.loop-j.invariant (omega (arith, c.loop-j-test.false)) c.loop-j.auto.j-end
