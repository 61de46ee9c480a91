use native.Mathlib.Omega.{arith}
use Rattle.search.proofs.pairs.give_partners.Invariants.{known, done, stop_left, stop_right, more}
use Rattle.search.proofs.pairs.give_partners.Goals as goal

pub overflow_add-x : goal.overflow_add-x
overflow_add-x c = omega (arith, known c.args.left.now c.args.right.now c.requires c.loop-place-test.true)

pub bounds-left-roots : goal.bounds-left-roots
bounds-left-roots c = omega (arith, known c.args.left.now c.args.right.now c.requires c.loop-place-test.true)

pub overflow_add-y-in-loop-place : goal.overflow_add-y-in-loop-place
overflow_add-y-in-loop-place c = omega (arith, known c.args.left.now c.args.right.now c.requires c.loop-place-test.true)

pub bounds-right-other_roots : goal.bounds-right-other_roots
bounds-right-other_roots c = omega (arith, known c.args.left.now c.args.right.now c.requires c.loop-place-test.true)

pub conflict-requires : goal.conflict-requires
conflict-requires c = omega (arith, known c.args.left.now c.args.right.now c.requires c.loop-place-test.true)

pub returns-then-conflict : goal.returns-then-conflict
returns-then-conflict c = stop_left c.loop-place.invariant (known c.args.left.now c.args.right.now c.requires c.loop-place-test.true) c.loop-place-test.true c.conflict.ensures c.if-conflict.true

pub conflict-requires-in-loop-place : goal.conflict-requires-in-loop-place
conflict-requires-in-loop-place c = omega (arith, known c.args.left.now c.args.right.now c.requires c.loop-place-test.true)

pub returns-then-conflict-2 : goal.returns-then-conflict-2
returns-then-conflict-2 c = stop_right c.loop-place.invariant (known c.args.left.now c.args.right.now c.requires c.loop-place-test.true) c.loop-place-test.true c.conflict.ensures c.if-conflict.false c.conflict-in-loop-place.ensures c.if-conflict-2.true

pub bounds-to_right-x : goal.bounds-to_right-x
bounds-to_right-x c = omega (arith, known c.args.left.now c.args.right.now c.requires c.loop-place-test.true)

pub bounds-to_left-y : goal.bounds-to_left-y
bounds-to_left-y c = omega (arith, known c.args.left.now c.args.right.now c.requires c.loop-place-test.true)

pub loop-place-preserved : goal.loop-place-preserved
loop-place-preserved c = more c.loop-place.invariant (known c.args.left.now c.args.right.now c.requires c.loop-place-test.true) c.loop-place-test.true c.conflict.ensures c.if-conflict.false c.conflict-in-loop-place.ensures c.if-conflict-2.false

pub returns : goal.returns
returns c = done c.loop-place.invariant c.loop-place-test.false
