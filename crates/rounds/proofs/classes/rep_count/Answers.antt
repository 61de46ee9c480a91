use Rattle.std.proofs.Common.{arith, ℕ, length, ap, sym, ◌∙◌, length-append}
use Rattle.rounds.proofs.Laws.Parts.{reps_none, reps_rep, reps_alias}
use Rattle.rounds.proofs.classes.rep_count.Goals.{then-is_rep, else-is_rep}
use Rattle.rounds.proofs.classes.rep_count.Goals as goal

pub loop-x-init : goal.loop-x-init
loop-x-init c = (omega arith, sym (ap length (reps_none _)))

pub loop-x-preserved : goal.loop-x-preserved
loop-x-preserved c =
    elim c.if-is_rep.branch [
      | then-is_rep w ↦ (omega arith, omega (arith, ap length (reps_rep _ _ (sym c.is_rep.ensures ∙ w.if-is_rep.true)), length-append {A = ℕ}))
      | else-is_rep w ↦ (omega arith, omega (arith, ap length (reps_alias _ _ (sym c.is_rep.ensures ∙ w.if-is_rep.false))))
    ]
