-- `rows::inverse::first_at` meets its contract: `position` answers the first place, if there is one. Assumes nothing.
use mathlib.Core.Path.{ap, ◌∙◌}
use borrow.Author.Tests.{tests}
use lib.Dec.{eqb}
use lib.ListN.{length}
use Rattle.std.specs.Option.{unwrap_or}
use Rattle.std.proofs.Common.{rules}
use Rattle.std.proofs.lemmas.Iterator.{YieldsList-from_slice}
use Rattle.std.proofs.lemmas.Iterator.Search.{position_from_yields_List}
use Rattle.rows.proofs.Laws.Chains.{first_place}
use Rattle.rows.proofs.inverse.first_at.Goals as goal

pub returns : goal.returns
returns c =
    let xs = c.args.map.now in
    let e = position_from_yields_List (eqb c.args.y) _ _ c.position.result c.position.ensures.ran (YieldsList-from_slice xs cc) (λ x b q k. search (rules, tests)) in
    c.unwrap_or.ensures ∙ ap (λ o. unwrap_or o (length xs)) e ∙ first_place (eqb c.args.y) xs
