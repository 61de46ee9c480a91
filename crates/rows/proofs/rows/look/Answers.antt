-- `rows::rows::look` meets its contract: an entry that is there is the same whatever stands for those that are not. Assumes nothing.
use mathlib.Core.Path.{sym}
use lib.ListN.{get_or-eq_default}
use Rattle.lists.proofs.Laws.Every.{get_d_inside}
use Rattle.rows.proofs.rows.look.Goals as goal

pub returns-then-x-table : goal.returns-then-x-table
returns-then-x-table c = get_d_inside c.args.table.now c.args.x 0 255 c.if-x-table.true

pub returns-else-x-table : goal.returns-else-x-table
returns-else-x-table c = sym (get_or-eq_default c.args.table.now 255 c.if-x-table.false)
