-- `rows::identity::identity_entry` meets its contract. Assumes nothing.
use mathlib.Core.Path.{sym, ◌∙◌}
use Rattle.rows.proofs.Laws.Identity.{identity_rep, identity_alias}
use Rattle.rows.proofs.identity.identity_entry.Goals as goal

pub returns-then-is_rep : goal.returns-then-is_rep
returns-then-is_rep c = sym (identity_rep _ _ (sym c.is_rep.ensures ∙ c.if-is_rep.true))

pub returns-else-is_rep : goal.returns-else-is_rep
returns-else-is_rep c = sym (identity_alias _ _ (sym c.is_rep.ensures ∙ c.if-is_rep.false))
