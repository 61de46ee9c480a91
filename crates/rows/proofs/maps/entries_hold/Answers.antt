-- `rows::maps::entries_hold` meets its contract: the test of each entry is that of the definition. Assumes nothing.
use mathlib.Core.Path.{refl, ◌∙◌}
use native.Mathlib.Omega.{arith}
use borrow.Author.Tests.{tests}
use lib.ListN.{length}
use Rattle.std.proofs.Common.{rules}
use Rattle.std.proofs.lemmas.Iterator.{YieldsList-from_range}
use Rattle.std.proofs.lemmas.Iterator.Search.{all_from_yields_List}
use Rattle.rows.specs.Maps.{entry_in}
use Rattle.rows.proofs.Laws.Chains.{all_up}
use Rattle.rows.proofs.maps.entries_hold.Goals as goal

pub returns : goal.returns
returns c =
    let a = c.args in
    let n = length a.map.now in
    let p = entry_in a.types.now a.roots.now a.other_types.now a.other_roots.now a.map.now in
    all_from_yields_List p _ _ _ c.all.ensures.ran (YieldsList-from_range 0 n n refl (omega arith)) (λ x b q k. search (rules, tests)) ∙ all_up p n
