-- `stored::relation::rows_typed` meets its contract. Assumes nothing.
use Prim.Native.Nat.{ℕ, ◌*◌}
use lib.ListN.{length}
use mathlib.Core.Path.{◌∙◌, refl}
use native.Mathlib.Omega.{arith}
use borrow.Author.Tests.{tests}
use Rattle.std.proofs.Common.{rules}
use Rattle.std.proofs.lemmas.Iterator.{YieldsList-from_range}
use Rattle.std.proofs.lemmas.Iterator.Search.{all_from_yields_List}
use Rattle.lists.specs.Part.{part}
use Rattle.stored.specs.Relation.{row_typed}
use Rattle.stored.proofs.Laws.Chains.{range_rows}
use Rattle.stored.proofs.relation.rows_typed.Goals as goal

pub returns : goal.returns
returns c =
    let a = length c.args.columns.now in
    let p = row_typed c.args.types.now c.args.columns.now in
    all_from_yields_List (λ (i : ℕ). p (part c.args.rows.now (i * a) a)) c.all.new.self _ c.all.result c.all.ensures.ran (YieldsList-from_range 0 c.args.count c.args.count refl (omega arith)) (λ x b q k. search (rules, tests))
    ∙ range_rows a c.args.rows.now p c.args.count
