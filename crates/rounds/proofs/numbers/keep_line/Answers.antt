-- `rounds::numbers::keep_line` meets its contract: the link is written before the head. Assumes nothing.
use mathlib.Core.Path.{sym}
use Rattle.rounds.proofs.Laws.Buckets.{kept_yes, kept_no}
use Rattle.rounds.proofs.numbers.keep_line.Goals as goal

pub returns-then-first-p : goal.returns-then-first-p
returns-then-first-p c = let p = c.requires in sym (kept_yes _ _ _ _ p.0 p.1 p.2 c.if-first-p.true)

pub returns-else-first-p : goal.returns-else-first-p
returns-else-first-p c = let p = c.requires in sym (kept_no _ _ _ _ p.0 p.1 p.2 c.if-first-p.false)
