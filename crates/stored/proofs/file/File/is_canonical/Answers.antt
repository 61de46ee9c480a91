use mathlib.Core.Path.{sym, ◌∙◌}
use native.Mathlib.Omega.{arith}
use Rattle.lists.proofs.Laws.Every.{all_passed, all_failed, all_over}
use Rattle.stored.specs.Model.{no_relation}
use Rattle.stored.proofs.Laws.Canonical.{all_canonical, same_answer}
use Rattle.stored.proofs.file.File.is_canonical.Goals as goal

pub returns-then-not-rows_canonical : goal.returns-then-not-rows_canonical
returns-then-not-rows_canonical c =
    all_failed c.loop-k.invariant no_relation (omega arith) (same_answer _ _ _ _ _ c.roots-roots.ensures c.rows-rows.ensures.rows c.rows_canonical.ensures ∙ c.if-not-rows_canonical.true) ∙ sym (all_canonical _)

pub loop-k-preserved : goal.loop-k-preserved
loop-k-preserved c =
    all_passed c.loop-k.invariant no_relation (omega arith) (same_answer _ _ _ _ _ c.roots-roots.ensures c.rows-rows.ensures.rows c.rows_canonical.ensures ∙ c.if-not-rows_canonical.false)

pub returns : goal.returns
returns c = all_over c.loop-k.invariant (omega arith) ∙ sym (all_canonical _)
