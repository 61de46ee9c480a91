-- `rounds::group::same_marked` meets its contract: elements of one key have one mark. Assumes nothing.
use mathlib.Core.Path.{sym, ◌∙◌}
use Rattle.rounds.proofs.Laws.Keys.{marks_tell}
use Rattle.rounds.proofs.group.same_marked.Goals as goal

pub returns-then-mark-other-clause-answer : goal.returns-then-mark-other-clause-answer
returns-then-mark-other-clause-answer c = let p = c.requires in marks_tell _ _ _ _ (λ e. c.if-mark-other.true (p.3 ∙ e ∙ sym p.4))
