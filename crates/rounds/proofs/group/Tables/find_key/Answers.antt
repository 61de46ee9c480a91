use mathlib.Core.Path.{refl}
use native.Mathlib.Omega.{arith}
use Rattle.rounds.proofs.Laws.Holders.{bucket_low, seeking_start, seeking_over, seeking_found, seeking_more, place_low, ask, next_low}
use Rattle.rounds.proofs.group.Tables.find_key.Goals as goal

pub offset_bounds-self-bucket : goal.offset_bounds-self-bucket
offset_bounds-self-bucket c = let p = c.requires in omega (arith, bucket_low _ _ _ p.4)

pub bounds-self-bucket : goal.bounds-self-bucket
bounds-self-bucket c = let p = c.requires in omega (arith, bucket_low _ _ _ p.4)

pub loop-p-init : goal.loop-p-init
loop-p-init c = let p = c.requires in seeking_start _ _ _ _ _ _ _ _ _ _ _ p.0 p.1 p.2 p.3 p.4 refl

pub offset_bounds-self-p : goal.offset_bounds-self-p
offset_bounds-self-p c = omega (arith, place_low _ _ _ _ _ _ _ _ _ _ _ c.loop-p.invariant c.loop-p-test.true, c.loop-p.invariant.chained.few)

pub bounds-self-p : goal.bounds-self-p
bounds-self-p c = omega (arith, place_low _ _ _ _ _ _ _ _ _ _ _ c.loop-p.invariant c.loop-p-test.true, c.loop-p.invariant.chained.few)

pub offset_bounds-self-p-in-loop-p : goal.offset_bounds-self-p-in-loop-p
offset_bounds-self-p-in-loop-p c = omega (arith, place_low _ _ _ _ _ _ _ _ _ _ _ c.loop-p.invariant c.loop-p-test.true, c.loop-p.invariant.chained.few)

pub bounds-self-p-in-loop-p : goal.bounds-self-p-in-loop-p
bounds-self-p-in-loop-p c = omega (arith, place_low _ _ _ _ _ _ _ _ _ _ _ c.loop-p.invariant c.loop-p-test.true, c.loop-p.invariant.chained.few)

pub offset_bounds-self-p-in-loop-p-2 : goal.offset_bounds-self-p-in-loop-p-2
offset_bounds-self-p-in-loop-p-2 c = omega (arith, place_low _ _ _ _ _ _ _ _ _ _ _ c.loop-p.invariant c.loop-p-test.true, c.loop-p.invariant.chained.few)

pub bounds-self-p-in-loop-p-2 : goal.bounds-self-p-in-loop-p-2
bounds-self-p-in-loop-p-2 c = omega (arith, place_low _ _ _ _ _ _ _ _ _ _ _ c.loop-p.invariant c.loop-p-test.true, c.loop-p.invariant.chained.few)

pub same_marked-requires : goal.same_marked-requires
same_marked-requires c = ask _ _ _ _ _ _ _ _ _ _ _ c.loop-p.invariant c.loop-p-test.true

pub returns-then-same_marked-clause-answer : goal.returns-then-same_marked-clause-answer
returns-then-same_marked-clause-answer c =
    (seeking_found _ _ _ _ _ _ _ _ _ _ _ c.loop-p.invariant c.loop-p-test.true _ _ c.same_marked.ensures.answer c.same_marked.ensures.kept c.if-same_marked.true).0

pub loop-p-smaller : goal.loop-p-smaller
loop-p-smaller c = next_low _ _ _ _ _ _ _ _ _ _ _ c.loop-p.invariant c.loop-p-test.true

pub loop-p-preserved : goal.loop-p-preserved
loop-p-preserved c = seeking_more _ _ _ _ _ _ _ _ _ _ _ c.loop-p.invariant c.loop-p-test.true _ _ c.same_marked.ensures.answer c.same_marked.ensures.kept c.if-same_marked.false

pub returns-clause-answer : goal.returns-clause-answer
returns-clause-answer c = (seeking_over _ _ _ _ _ _ _ _ _ _ _ c.loop-p.invariant c.loop-p-test.false).0
