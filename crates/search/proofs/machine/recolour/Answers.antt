-- `search::machine::recolour` meets its contract: the front of the lent work is handed on as the board, and comes back. Assumes nothing.
use Rattle.search.proofs.Laws.Refine.{rounded_sides, board_back, board_kept}
use Rattle.search.proofs.machine.recolour.Goals as goal

pub returns : goal.returns
returns c = record { recoloured = rounded_sides _ _ _ _ c.round.ensures.recoloured; shape = c.round.ensures.shape; work = board_kept ((board_back c.args.work.now c.round.new.board c.requires.1 c.round.auto.board)) _ _ _ c.round.ensures.board }
