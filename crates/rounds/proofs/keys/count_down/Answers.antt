use Rattle.rounds.proofs.Laws.Tables.{lowering_over, lowering_failed, lowering_more}
use Rattle.rounds.proofs.keys.count_down.Goals as goal

pub loop-i-preserved : goal.loop-i-preserved
loop-i-preserved c = lowering_more _ _ _ _ _ c.loop-i.invariant c.loop-i-test.true c.if-count-eq0.false

pub returns-then-count-eq0-clause-missing : goal.returns-then-count-eq0-clause-missing
returns-then-count-eq0-clause-missing c = λ _. lowering_failed _ _ _ _ _ c.loop-i.invariant c.loop-i-test.true c.if-count-eq0.true

pub returns-clause-enough : goal.returns-clause-enough
returns-clause-enough c = λ _. lowering_over _ _ _ _ _ c.loop-i.invariant c.loop-i-test.false
