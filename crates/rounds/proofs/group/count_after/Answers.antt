-- `rounds::group::count_after` meets its contract. Assumes nothing.
use mathlib.Core.Path.{sym}
use Rattle.rounds.proofs.Laws.Holders.{count_known, count_new}
use Rattle.rounds.proofs.group.count_after.Goals as goal

pub returns-then-found-count : goal.returns-then-found-count
returns-then-found-count c = sym (count_known _ _ c.if-found-count.true)

pub returns : goal.returns
returns c = sym (count_new _ _ c.if-found-count.false)
