use mathlib.Core.Path.{sym, ◌∙◌}
use native.Mathlib.Omega.{arith}
use Rattle.lists.proofs.Laws.Every.{pairs_from_lem, pairs_passed, pairs_failed, pairs_over}
use Rattle.stored.specs.Relation.{row_typed}
use Rattle.stored.proofs.relation.row_typed.Goals as goal

pub loop-j-init : goal.loop-j-init
loop-j-init c = pairs_from_lem _ _ _ c.requires.2

pub returns-then-not-entry_typed : goal.returns-then-not-entry_typed
unfolding row_typed
returns-then-not-entry_typed c = pairs_failed c.loop-j.invariant 0 0 c.loop-j-test.true (sym c.entry_typed.ensures ∙ c.if-not-entry_typed.true)

pub loop-j-preserved : goal.loop-j-preserved
loop-j-preserved c = pairs_passed c.loop-j.invariant 0 0 c.loop-j-test.true (sym c.entry_typed.ensures ∙ c.if-not-entry_typed.false)

pub returns : goal.returns
unfolding row_typed
returns c = pairs_over c.loop-j.invariant (omega (arith, c.loop-j-test.false))
