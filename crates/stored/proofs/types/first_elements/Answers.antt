use native.Mathlib.Omega.{arith}
use Rattle.stored.proofs.types.first_elements.Invariants.{start, more, done}
use Rattle.stored.proofs.types.first_elements.Goals as goal

pub loop-t-init : goal.loop-t-init
loop-t-init c = start _

pub loop-t-preserved : goal.loop-t-preserved
loop-t-preserved c = rw c.from-x.ensures (more _ _ _ _ c.loop-t.invariant c.loop-t-test.true c.requires (omega (arith, c.type_inv.types c.loop-t.t)))

pub returns : goal.returns
returns c = done _ _ _ _ c.loop-t.invariant c.loop-t-test.false
