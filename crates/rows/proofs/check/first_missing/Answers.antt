use Rattle.rows.proofs.check.first_missing.Goals.{else-image-via-then-image+else-is_rep, else-image-via-else-image}
use mathlib.Core.Path.{◌≡◌, sym, ◌∙◌}
use native.Mathlib.Omega.{arith}
use lib.ListN.{length}
use Rattle.lists.proofs.Laws.Every.{get_d_inside}
use Rattle.lists.proofs.Laws.First.{lowest_passed, lowest_found, lowest_over}
use Rattle.rows.proofs.Laws.Check.{missing_alias, missing_none, missing_given}
use Rattle.rows.proofs.check.first_missing.Goals as goal

pub returns-then-is_rep : goal.returns-then-is_rep
returns-then-is_rep c =
    let at_x = get_d_inside c.args.images.now c.loop-x.x 255 0 (omega arith) in
    lowest_found c.loop-x.invariant (omega arith) (missing_none _ _ _ (at_x ∙ c.if-image.true) ∙ sym c.is_rep.ensures ∙ c.if-is_rep.true)

pub loop-x-preserved : goal.loop-x-preserved
loop-x-preserved c =
    let at_x = get_d_inside c.args.images.now c.loop-x.x 255 0 (omega arith) in
    lowest_passed c.loop-x.invariant (omega arith) (elim c.else-image.branch [
      | else-image-via-then-image+else-is_rep w ↦ missing_alias _ _ _ (sym w.is_rep.ensures ∙ w.if-is_rep.false)
      | else-image-via-else-image w ↦ missing_given _ _ _ (λ e. w.if-image.false (sym at_x ∙ e))
    ])

pub returns : goal.returns
returns c =
    let e : length c.args.roots.now ≡ c.loop-x.x = omega arith in
    e ∙ lowest_over c.loop-x.invariant (omega arith)
