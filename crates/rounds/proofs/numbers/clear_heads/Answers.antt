-- `rounds::numbers::clear_heads` meets its contract: the heads are filled with zeros. Assumes nothing.
use native.Mathlib.Omega.{arith}
use Rattle.rounds.proofs.Laws.Board.{filled_length, filled_there, filled_below, filled_above}
use Rattle.rounds.proofs.numbers.clear_heads.Goals as goal

pub returns : goal.returns
returns c =
    let is = c.fill.ensures.after (λ y e. e) in
    record { length_kept = filled_length _ _ 12288 c.args.count _ (omega arith) (omega arith) is; cleared = filled_there _ _ 12288 c.args.count _ (omega arith) (omega arith) is; below = filled_below _ _ 12288 c.args.count _ (omega arith) (omega arith) is; above = filled_above _ _ 12288 c.args.count _ (omega arith) (omega arith) is }
