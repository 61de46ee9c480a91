use native.Mathlib.Omega.{arith}
use Rattle.rounds.proofs.Laws.Buckets.{bucket_small, row_fits, row_known, walk_start, walk_over, at_fits, at_known, walk_less, walk_found, walk_more}
use Rattle.rounds.proofs.numbers.first_line.Invariants.{sought}
use Rattle.rounds.proofs.numbers.first_line.Goals as goal

pub overflow_add-q : goal.overflow_add-q
overflow_add-q c = omega (arith, bucket_small _ _ _ _ _ _ _ (sought _ _ _ _ _ _ _ c.requires))

pub offset_bounds-board-bucket : goal.offset_bounds-board-bucket
offset_bounds-board-bucket c = omega (arith, bucket_small _ _ _ _ _ _ _ (sought _ _ _ _ _ _ _ c.requires))

pub bounds-board-bucket : goal.bounds-board-bucket
bounds-board-bucket c = let p = c.requires in omega (arith, bucket_small _ _ _ _ _ _ _ (sought _ _ _ _ _ _ _ p), p.0)

pub loop-q-init : goal.loop-q-init
loop-q-init c = walk_start _ _ _ _ _ _ _ (sought _ _ _ _ _ _ _ c.requires)

pub same_line-requires : goal.same_line-requires
same_line-requires c = (c.loop-q.invariant.given.room, row_fits _ _ _ _ _ _ _ c.loop-q.invariant.given, row_known _ _ _ _ _ _ _ c.loop-q.invariant.given, at_fits _ _ _ _ _ _ _ _ c.loop-q.invariant c.loop-q-test.true, at_known _ _ _ _ _ _ _ _ c.loop-q.invariant c.loop-q-test.true)

pub returns-then-same_line : goal.returns-then-same_line
returns-then-same_line c = walk_found _ _ _ _ _ _ _ _ c.loop-q.invariant c.loop-q-test.true _ c.same_line.ensures c.if-same_line.true

pub overflow_add-q-in-loop-q : goal.overflow_add-q-in-loop-q
overflow_add-q-in-loop-q c = omega (arith, at_fits _ _ _ _ _ _ _ _ c.loop-q.invariant c.loop-q-test.true)

pub offset_bounds-board-at : goal.offset_bounds-board-at
offset_bounds-board-at c = omega (arith, at_fits _ _ _ _ _ _ _ _ c.loop-q.invariant c.loop-q-test.true)

pub bounds-board-at : goal.bounds-board-at
bounds-board-at c = omega (arith, at_fits _ _ _ _ _ _ _ _ c.loop-q.invariant c.loop-q-test.true, c.loop-q.invariant.given.room, c.loop-q.invariant.given.wide)

pub loop-q-smaller : goal.loop-q-smaller
loop-q-smaller c = walk_less _ _ _ _ _ _ _ _ c.loop-q.invariant c.loop-q-test.true

pub loop-q-preserved : goal.loop-q-preserved
loop-q-preserved c = walk_more _ _ _ _ _ _ _ _ c.loop-q.invariant c.loop-q-test.true _ c.same_line.ensures c.if-same_line.false

pub returns : goal.returns
returns c = walk_over _ _ _ _ _ _ _ _ c.loop-q.invariant c.loop-q-test.false
