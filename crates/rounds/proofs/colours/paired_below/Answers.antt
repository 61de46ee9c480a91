use Rattle.std.proofs.Common.{arith, sym, ◌∙◌}
use Rattle.rounds.specs.Colours.{paired}
use Rattle.rounds.proofs.Laws.Parts.{count_yes, count_no}
use Rattle.rounds.proofs.Laws.Colours.{paired_none, paired_some, paired_few}
use Rattle.rounds.proofs.colours.paired_below.Goals.{then-look, else-look}
use Rattle.rounds.proofs.colours.paired_below.Goals as goal

pub loop-x-init : goal.loop-x-init
loop-x-init c = (omega arith, omega (arith, paired_few c.args.partners.now 0))

pub loop-x-preserved : goal.loop-x-preserved
loop-x-preserved c =
    elim c.if-look.branch [
      | then-look w ↦ (omega arith, omega (arith, count_yes (paired c.args.partners.now) _ (paired_some _ _ (λ u. w.if-look.true (c.look.ensures ∙ u)))))
      | else-look w ↦ (omega arith, omega (arith, count_no (paired c.args.partners.now) _ (paired_none _ _ (sym c.look.ensures ∙ w.if-look.false))))
    ]
