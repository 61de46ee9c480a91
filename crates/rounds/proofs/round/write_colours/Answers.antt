-- `rounds::round::write_colours` meets its contract: the colours take the place of as many entries. Assumes nothing.
use native.Mathlib.Omega.{arith}
use Rattle.rounds.proofs.Laws.Board.{part_over}
use Rattle.rounds.proofs.round.write_colours.Goals as goal

pub returns : goal.returns
returns c = part_over _ _ _ _ _ (omega arith) c.copy_from_slice.ensures.after
