-- `rounds::numbers::colour_of` meets its contract: the colours stand at the end of the board. Assumes nothing.
use native.Mathlib.Omega.{arith}
use Rattle.rounds.proofs.Laws.Board.{colour_there}
use Rattle.rounds.proofs.numbers.colour_of.Goals as goal

pub returns : goal.returns
returns c = colour_there c.args.board.now c.args.x (omega (arith, c.requires.0, c.requires.1))
