use Rattle.rows.proofs.rows.write_through.Invariants.{start, done, more}
use Rattle.rows.proofs.rows.write_through.Goals as goal

pub loop-j-init : goal.loop-j-init
loop-j-init c = start _ _ _ c.requires

pub loop-j-preserved : goal.loop-j-preserved
loop-j-preserved c = more _ _ _ _ _ c.loop-j.invariant c.loop-j-test.true _ c.look.ensures

pub returns : goal.returns
returns c = done _ _ _ _ _ c.loop-j.invariant c.loop-j-test.false
