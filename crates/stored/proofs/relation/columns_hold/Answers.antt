-- `stored::relation::columns_hold` meets its contract. Assumes nothing.
use mathlib.Core.Path.{◌∙◌}
use borrow.Author.Tests.{tests}
use Rattle.std.proofs.Common.{rules}
use Rattle.std.proofs.lemmas.Iterator.{YieldsList-from_slice}
use Rattle.std.proofs.lemmas.Iterator.Search.{all_from_yields_List}
use Rattle.stored.specs.Relation.{column_holds}
use Rattle.stored.proofs.Laws.Chains.{list_all_all}
use Rattle.stored.proofs.relation.columns_hold.Goals as goal

pub returns : goal.returns
unfolding column_holds
returns c = all_from_yields_List (column_holds c.args.types.now) _ _ _ c.all.ensures.ran (YieldsList-from_slice c.args.columns.now cc) (λ x b q k. search (rules, tests)) ∙ list_all_all _ _
