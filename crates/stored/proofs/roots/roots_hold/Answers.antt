-- `stored::roots::roots_hold` meets its contract. Assumes nothing.
use Prim.Native.Nat.{◌≤◌}
use mathlib.Core.Path.{refl, sym, ◌∙◌, ap}
use native.Mathlib.Omega.{arith}
use borrow.Author.Tests.{tests}
use lib.ListN.{length}
use Rattle.std.proofs.Common.{rules}
use Rattle.std.proofs.lemmas.Iterator.{YieldsList-from_range, serves_from_Range}
use Rattle.std.proofs.lemmas.Iterator.Search.{all_from_yields_List}
use Rattle.lists.specs.Every.{all}
use Rattle.stored.specs.Limits.{max_types, max_elements}
use Rattle.stored.specs.Roots.{root_holds}
use Rattle.stored.proofs.Laws.Chains.{list_all_all, range_up_from}
use Rattle.stored.proofs.Laws.Types.{types_length, types_total}
use Rattle.stored.proofs.Laws.Roots.{roots_miscounted, roots_counted}
use Rattle.stored.proofs.roots.roots_hold.Goals as goal

pub total-n-requires : goal.total-n-requires
total-n-requires c = types_length _ c.requires

pub returns-then-roots-n : goal.returns-then-roots-n
returns-then-roots-n c = sym (roots_miscounted _ _ (λ e. c.if-roots-n.true (e ∙ sym c.total-n.ensures)))

pub all-requires-clause-callable : goal.all-requires-clause-callable
all-requires-clause-callable c =
    let few : length c.args.types.now ≤ max_types = types_length _ c.requires in
    let small : length c.args.roots.now ≤ max_elements = omega (arith, types_total _ c.requires) in
    serves_from_Range (λ x q k. search rules) (λ x low high. search rules)

pub returns : goal.returns
returns c =
    all_from_yields_List (root_holds c.args.types.now c.args.roots.now) c.all.new.self _ c.all.result c.all.ensures.ran (YieldsList-from_range 0 (length c.args.roots.now) _ refl refl) (λ x b q k. search (rules, tests))
    ∙ list_all_all _ _
    ∙ ap (all (root_holds c.args.types.now c.args.roots.now)) (range_up_from 0 _)
    ∙ sym (roots_counted _ _ (c.if-roots-n.false ∙ c.total-n.ensures))
