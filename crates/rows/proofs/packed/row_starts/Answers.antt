use mathlib.Core.Path.{◌∙◌}
use native.Mathlib.Omega.{arith}
use Rattle.lists.proofs.Laws.Over.{over_whole}
use Rattle.lists.proofs.Laws.Entries.{written_none, written_more, written_all, length_entries}
use Rattle.stored.specs.File.{listed}
use Rattle.rows.specs.Packed.{start_at}
use Rattle.rows.proofs.packed.row_starts.Goals as goal

pub loop-x-init : goal.loop-x-init
loop-x-init c = written_none _ _ _ (omega arith)

pub loop-x-preserved : goal.loop-x-preserved
loop-x-preserved c = written_more c.loop-x.invariant _ c.loop-x-test.true c.first_from.ensures

pub returns : goal.returns
returns c = written_all c.loop-x.invariant (omega arith) ∙ over_whole _ _ (length_entries (start_at (listed c.args.rows.now)) 65)
