use mathlib.Core.Path.{refl}
use native.Mathlib.Omega.{arith}
use Rattle.rows.proofs.Laws.Packed.{packed_all, packed_room, packed_more}
use Rattle.rows.proofs.packed.number_of.Goals as goal

pub overflow_mul-number : goal.overflow_mul-number
overflow_mul-number c = omega (arith, packed_room c.loop-x.invariant (omega arith))

pub loop-x-preserved : goal.loop-x-preserved
loop-x-preserved c = packed_more c.loop-x.invariant (omega arith) _ (omega (arith, c.type_inv.row c.loop-x.x-index)) refl

pub returns : goal.returns
returns c = packed_all c.loop-x.invariant (omega arith)
