-- `stored::relation::rows_ascend` meets its contract. Assumes nothing.
use Prim.Native.Nat.{ℕ, ◌-◌, ◌*◌}
use mathlib.Core.Path.{◌∙◌, refl}
use borrow.Author.Tests.{tests}
use Rattle.std.proofs.Common.{rules}
use Rattle.std.proofs.lemmas.Iterator.{YieldsList-from_range}
use Rattle.std.proofs.lemmas.Iterator.Search.{all_from_yields_List}
use Rattle.lists.specs.Order.{row_before}
use Rattle.lists.specs.Part.{part}
use Rattle.stored.proofs.Laws.Chains.{range_ascends}
use Rattle.stored.proofs.relation.rows_ascend.Goals as goal

pub returns : goal.returns
returns c =
    let a = c.args.arity in
    all_from_yields_List (λ (i : ℕ). row_before (part c.args.rows.now ((i - 1) * a) a) (part c.args.rows.now (i * a) a)) c.all.new.self _ c.all.result c.all.ensures.ran (YieldsList-from_range 1 c.args.count _ refl refl) (λ x b q k. search (rules, tests))
    ∙ range_ascends _ _ _
