-- `rounds::group::Tables::find_key` meets its contract. The invariant: p leads to the last holder of the bucket that was not looked at (`Seeking`); the measure is p. Assumes nothing.
use Rattle.rounds.proofs.Laws.Holders.{Seeking}
use Rattle.rounds.proofs.group.Tables.find_key.Given as goal

abbrev pub invariant-loop-p : goal.invariant-loop-p
invariant-loop-p l = Seeking l.initial.board l.cells l.self.holders l.self.marks l.self.heads l.self.links l.count l.x l.mark l.board l.p

abbrev pub decreases-loop-p : goal.decreases-loop-p
decreases-loop-p l = l.p
