-- `rounds::group::Tables::place` meets its contract: an element with no places goes by its colour, another by its bucket. Assumes nothing.
use mathlib.Core.Path.{sym, ◌∙◌}
use native.Mathlib.Omega.{arith}
use Rattle.rounds.proofs.Laws.Lone.{placed_key}
use Rattle.rounds.proofs.group.Tables.place.Goals as goal

pub returns-then-is_lone-clause-placed : goal.returns-then-is_lone-clause-placed
returns-then-is_lone-clause-placed c =
    let p = c.requires in
    c.place_lone.ensures _ _ p.1 p.3 (sym c.mark_of-mark.ensures ∙ (c.is_lone.ensures.yes c.if-is_lone.true).0) c.colour_of-colour.ensures

pub returns-clause-placed : goal.returns-clause-placed
returns-clause-placed c =
    let p = c.requires in
    rw c.place_key.ensures.lone
    (placed_key _ _ _ _ _ _ _ _ p.1 _ _ _ _ _ _
    (λ m u. c.is_lone.ensures.no c.if-is_lone.false (c.mark_of-mark.ensures ∙ m) (omega (arith, c.colour_of-colour.ensures, u))) c.place_key.ensures.answer c.place_key.ensures.chained c.place_key.ensures.held)
