use Rattle.job.proofs.Laws.Line.{mapping_none, mapping_more}
use Rattle.job.proofs.line.put_map.Goals as goal

pub loop-e-init : goal.loop-e-init
loop-e-init c = mapping_none _ _ _ _

pub loop-e-preserved : goal.loop-e-preserved
loop-e-preserved c = mapping_more _ _ _ _ _ _ _ c.loop-e.invariant _ _ c.loop-e-test.true c.put_entry-end.ensures.added c.put_entry-end.ensures.short
