-- `stored::canonical::row_canonical` meets its contract. Assumes nothing.
use mathlib.Core.Path.{◌∙◌}
use borrow.Author.Tests.{tests}
use Rattle.std.proofs.Common.{rules}
use Rattle.std.proofs.lemmas.Iterator.{YieldsList-from_slice}
use Rattle.std.proofs.lemmas.Iterator.Search.{all_from_yields_List}
use Rattle.stored.specs.Model.{is_rep_in}
use Rattle.stored.proofs.Laws.Chains.{list_all_all}
use Rattle.stored.proofs.canonical.row_canonical.Goals as goal

pub returns : goal.returns
returns c = all_from_yields_List (is_rep_in c.args.roots.now) _ _ _ c.all.ensures.ran (YieldsList-from_slice c.args.row.now cc) (λ x b q k. search (rules, tests)) ∙ list_all_all _ _
