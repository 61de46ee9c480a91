-- `rows::inverse::inverse_entry` meets its contract: a place of a map fits a byte. Assumes nothing.
use mathlib.Core.Path.{sym, ◌∙◌}
use native.Mathlib.Omega.{arith}
use lib.Dec.{eqb}
use Rattle.lists.proofs.Laws.First.{first_at_within}
use Rattle.rows.proofs.Laws.Inverse.{inverse_rep, inverse_alias}
use Rattle.rows.proofs.inverse.inverse_entry.Goals as goal

pub overflow_cast-result : goal.overflow_cast-result
overflow_cast-result c = omega (arith, c.first_at.ensures, first_at_within (eqb c.args.y) c.args.map.now)

pub returns-then-is_rep : goal.returns-then-is_rep
returns-then-is_rep c = c.first_at.ensures ∙ sym (inverse_rep _ _ _ (sym c.is_rep.ensures ∙ c.if-is_rep.true))

pub returns-else-is_rep : goal.returns-else-is_rep
returns-else-is_rep c = sym (inverse_alias _ _ _ (sym c.is_rep.ensures ∙ c.if-is_rep.false))
