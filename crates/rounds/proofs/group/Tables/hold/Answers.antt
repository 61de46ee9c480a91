-- `rounds::group::Tables::hold` meets its contract: a key that was found needs no holder, a new one gets one. Assumes nothing.
use native.Mathlib.Omega.{arith}
use Rattle.rounds.proofs.Laws.Grouping.{hold_known, hold_new}
use Rattle.rounds.proofs.Laws.Holders.{count_known, count_new, chained_as, chained_new}
use Rattle.rounds.proofs.group.Tables.hold.Goals as goal

pub returns-then-found-count-clause-chained : goal.returns-then-found-count-clause-chained
returns-then-found-count-clause-chained c cells w k _ _ _ _ = chained_as _ _ _ _ _ _ _ _ (count_known _ _ c.if-found-count.true) k

pub returns-then-found-count-clause-held : goal.returns-then-found-count-clause-held
returns-then-found-count-clause-held c = hold_known _ _ _ _ (omega arith) c.if-found-count.true

pub returns-clause-chained : goal.returns-clause-chained
returns-clause-chained c cells w k h m b f =
    chained_as _ _ _ _ _ _ _ _ (count_new _ _ c.if-found-count.false) (chained_new _ _ _ _ _ _ _ k _ _ _ c.requires.0 h m b (omega (arith, f, c.if-found-count.false)))

pub returns-clause-held : goal.returns-clause-held
returns-clause-held c = hold_new _ _ _ _ (omega arith) c.if-found-count.false
