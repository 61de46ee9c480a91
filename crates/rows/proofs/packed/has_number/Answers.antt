use Rattle.rows.proofs.packed.has_number.Goals.{then-there-number, else-there-number}
use native.Mathlib.Omega.{arith}
use Rattle.rows.proofs.Laws.Packed.{number_none, halved_none}
use Rattle.rows.proofs.packed.has_number.Invariants.{up, down, done, short}
use Rattle.rows.proofs.packed.has_number.Goals as goal

pub returns-then-to-from : goal.returns-then-to-from
returns-then-to-from c = number_none _ _ _ _ _ _ c.requires.3 c.if-to-from.true

pub loop-left-init : goal.loop-left-init
loop-left-init c =
    let k = c.requires in
    record {
      halved = halved_none _ _ _ _ _ _ k.0 c.args.rows.now.whole c.args.rows.now.bytes k.1 k.2 k.3 (omega arith);
      within = omega arith;
    }

pub overflow_add-middle : goal.overflow_add-middle
overflow_add-middle c = omega (arith, c.loop-left.invariant.within, c.ranges.to)

pub row-requires : goal.row-requires
row-requires c = omega (arith, c.loop-left.invariant.halved.ends, c.loop-left-test.true)

pub number_of-there-requires : goal.number_of-there-requires
number_of-there-requires c = short c.loop-left.invariant.halved _ (omega (arith, c.loop-left-test.true)) _ c.row.ensures

pub loop-left-preserved : goal.loop-left-preserved
loop-left-preserved c =
    elim c.if-there-number.branch [
      | then-there-number w ↦ record { halved = up c.loop-left.invariant.halved c.loop-left-test.true _ c.row.ensures _ c.number_of-there.ensures (omega (arith, w.if-there-number.true)) _ w.first-is; within = omega arith }
      | else-there-number w ↦ record { halved = down c.loop-left.invariant.halved c.loop-left-test.true _ c.row.ensures _ c.number_of-there.ensures (omega (arith, w.if-there-number.false)) _ w.first-is; within = omega arith }
    ]

pub row-requires-2 : goal.row-requires-2
row-requires-2 c = omega (arith, c.loop-left.invariant.halved.ends, c.loop-left.invariant.halved.some)

pub number_of-requires : goal.number_of-requires
number_of-requires c = short c.loop-left.invariant.halved _ (omega (arith, c.loop-left.invariant.halved.some)) _ c.row-2.ensures

pub returns : goal.returns
returns c = done c.loop-left.invariant.halved c.loop-left-test.false _ c.row-2.ensures _ c.number_of.ensures
