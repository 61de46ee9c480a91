use mathlib.Core.Path.{sym, ◌∙◌}
use Rattle.search.proofs.Laws.Choices.{rep_passed, rep_found, rep_none}
use Rattle.search.proofs.choices.rep_from.Goals as goal

pub returns-then-is_rep : goal.returns-then-is_rep
returns-then-is_rep c = rep_found c.loop-y.invariant c.loop-y-test.true (sym c.is_rep.ensures ∙ c.if-is_rep.true)

pub loop-y-preserved : goal.loop-y-preserved
loop-y-preserved c = rep_passed c.loop-y.invariant c.loop-y-test.true (sym c.is_rep.ensures ∙ c.if-is_rep.false)

pub returns : goal.returns
returns c = c.max.ensures ∙ rep_none c.loop-y.invariant c.loop-y-test.false c.loop-y.auto.y-end
