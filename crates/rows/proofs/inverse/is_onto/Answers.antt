-- `rows::inverse::is_onto` meets its contract: the test of each element is that of the definition. Assumes nothing.
use mathlib.Core.Path.{refl, ◌∙◌}
use native.Mathlib.Omega.{arith}
use borrow.Author.Tests.{tests}
use lib.ListN.{length}
use Rattle.std.proofs.Common.{rules}
use Rattle.std.proofs.lemmas.Iterator.{YieldsList-from_range}
use Rattle.std.proofs.lemmas.Iterator.Search.{all_from_yields_List}
use Rattle.rows.specs.Maps.{reached}
use Rattle.rows.proofs.Laws.Chains.{all_up}
use Rattle.rows.proofs.inverse.is_onto.Goals as goal

pub returns : goal.returns
unfolding reached
returns c =
    let n = length c.args.roots.now in
    let p = reached c.args.roots.now c.args.map.now in
    all_from_yields_List p _ _ _ c.all.ensures.ran (YieldsList-from_range 0 n n refl (omega arith)) (λ x b q k. search (rules, tests)) ∙ all_up p n
