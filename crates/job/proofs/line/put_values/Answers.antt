use Rattle.job.proofs.Laws.Line.{mapping_none, mapping_more}
use Rattle.job.proofs.line.put_values.Goals as goal

pub loop-n-init : goal.loop-n-init
loop-n-init c = mapping_none _ _ _ _

pub loop-n-preserved : goal.loop-n-preserved
loop-n-preserved c = mapping_more _ _ _ _ _ _ _ c.loop-n.invariant _ _ c.loop-n-test.true c.put_value-end.ensures.added c.put_value-end.ensures.short
