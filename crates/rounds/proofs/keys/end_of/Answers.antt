-- `rounds::keys::end_of` meets its contract: the places of an element end where those of the next start, those of the last with the cells. Assumes nothing.
use Rattle.rounds.proofs.Laws.Segments.{end_next, end_last}
use Rattle.rounds.proofs.keys.end_of.Goals as goal

pub returns-then-x-lt127 : goal.returns-then-x-lt127
returns-then-x-lt127 c = end_next _ _ c.requires.0 _ c.if-x-lt127.true

pub returns-else-x-lt127 : goal.returns-else-x-lt127
returns-else-x-lt127 c = end_last _ _ c.requires.0 _ c.requires.1 c.if-x-lt127.false
