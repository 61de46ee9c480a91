use Prim.Native.Nat.{◌+◌, ◌-◌, ◌/◌}
use native.Mathlib.Omega.{arith}
use Rattle.rows.proofs.Laws.Starts.{started_none, started_all, started_up, started_down, first_entry}
use Rattle.rows.proofs.packed.first_from.Goals as goal

pub loop-left-init : goal.loop-left-init
loop-left-init c = started_none _ _ _ c.requires.0 c.args.rows.now.whole c.requires.1 _

pub overflow_add-middle : goal.overflow_add-middle
overflow_add-middle c = omega (arith, c.loop-left.invariant.ends, c.loop-left-test.true)

pub entry-entry-requires : goal.entry-entry-requires
entry-entry-requires c = (omega (arith, c.loop-left.invariant.ends, c.loop-left-test.true), c.requires.0)

pub loop-left-preserved-then-entry-x : goal.loop-left-preserved-then-entry-x
loop-left-preserved-then-entry-x c = started_up c.loop-left.invariant c.loop-left-test.true (omega (arith, c.if-entry-x.true, c.entry-entry.ensures, first_entry c.loop-left.invariant (c.loop-left.first + (c.loop-left.left - c.loop-left.left / 2) - 1)))

pub loop-left-preserved : goal.loop-left-preserved
loop-left-preserved c = started_down c.loop-left.invariant c.loop-left-test.true (omega (arith, c.if-entry-x.false, c.entry-entry.ensures, first_entry c.loop-left.invariant (c.loop-left.first + (c.loop-left.left - c.loop-left.left / 2) - 1)))

pub returns : goal.returns
returns c = started_all c.loop-left.invariant c.loop-left-test.false
