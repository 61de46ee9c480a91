use Rattle.rows.proofs.rows.normal_count.Goals.{then-not-has_row, else-not-has_row}
use Rattle.rows.proofs.rows.normal_count.Invariants.{start, known, new}
use Rattle.rows.proofs.rows.normal_count.Goals as goal

pub loop-i-init : goal.loop-i-init
loop-i-init c = start _ _ _

pub loop-i-preserved : goal.loop-i-preserved
loop-i-preserved c =
    elim c.if-not-has_row.branch [
      | then-not-has_row w ↦ new c.loop-i.invariant c.loop-i-test.true _ c.row.ensures _ c.has_row.ensures w.if-not-has_row.true _ w.n-is
      | else-not-has_row w ↦ known c.loop-i.invariant c.loop-i-test.true _ c.row.ensures _ c.has_row.ensures w.if-not-has_row.false _ w.n-is
    ]
