use native.Mathlib.Omega.{arith}
use Rattle.rows.proofs.packed.number_through.Invariants.{start, done, room, more}
use Rattle.rows.proofs.packed.number_through.Goals as goal

pub loop-x-init : goal.loop-x-init
loop-x-init c = start _ _ c.requires

pub overflow_mul-number : goal.overflow_mul-number
overflow_mul-number c = omega (arith, room _ _ _ _ c.loop-x.invariant (omega arith))

pub overflow_add-number : goal.overflow_add-number
overflow_add-number c = omega (arith, room _ _ _ _ c.loop-x.invariant (omega arith), c.look.type_inv)

pub loop-x-preserved : goal.loop-x-preserved
loop-x-preserved c = more _ _ _ _ c.loop-x.invariant (omega arith) _ (omega (arith, c.look.type_inv)) c.look.ensures

pub returns : goal.returns
returns c = done _ _ _ _ c.loop-x.invariant (omega arith)
