use Rattle.rounds.proofs.Laws.Tables.{emptying_over, emptying_more}
use Rattle.rounds.proofs.keys.clear_counts.Goals as goal

pub loop-i-preserved : goal.loop-i-preserved
loop-i-preserved c = emptying_more _ _ _ _ _ c.loop-i.invariant c.loop-i-test.true

pub returns-clause-emptied : goal.returns-clause-emptied
returns-clause-emptied c = emptying_over _ _ _ _ _ c.loop-i.invariant c.loop-i-test.false
