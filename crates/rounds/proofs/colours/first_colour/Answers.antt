-- `rounds::colours::first_colour` meets its contract: whether an element has a partner is read from the table. Assumes nothing.
use Rattle.std.proofs.Common.{◌∙◌, sym}
use Rattle.lists.proofs.Laws.Tests.{clash}
use Rattle.rounds.proofs.Laws.Colours.{paired_none, paired_some}
use Rattle.rounds.proofs.colours.first_colour.Goals as goal

pub returns-then-partner-clause-of_pair : goal.returns-then-partner-clause-of_pair
returns-then-partner-clause-of_pair g c = λ _ u. clash u (paired_none _ _ (sym c.look-partner.ensures ∙ c.if-partner.true))

pub returns-clause-typed : goal.returns-clause-typed
returns-clause-typed g c = λ _ u. clash (paired_some _ _ (λ e. c.if-partner.false (c.look-partner.ensures ∙ e))) u
