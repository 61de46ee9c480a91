-- `rows::rows::has_row` meets its contract: the row of each number agrees with the row where the two are the same. Assumes nothing.
use mathlib.Core.Path.{refl, ◌∙◌}
use native.Mathlib.Omega.{arith}
use borrow.Author.Tests.{tests}
use Rattle.std.proofs.Common.{rules}
use Rattle.std.proofs.lemmas.Iterator.{YieldsList-from_range}
use Rattle.std.proofs.lemmas.Iterator.Search.{any_from_yields_List}
use Rattle.stored.specs.File.{listed}
use Rattle.rows.specs.Rows.{through}
use Rattle.rows.proofs.Laws.Chains.{numbered, any_rows}
use Rattle.rows.proofs.Laws.Rows.{is_through, some_through}
use Rattle.rows.proofs.rows.has_row.Goals as goal

pub returns : goal.returns
returns c =
    let a = c.args in
    let rows = a.rows.now in
    let row = through a.table.now a.row.now in
    let p = is_through row a.other_table.now in
    any_from_yields_List (λ i. p (numbered rows i)) _ _ _ c.any.ensures.ran (YieldsList-from_range 0 rows.count rows.count refl (omega arith)) (λ x b q k. search (rules, tests))
    ∙ any_rows rows p ∙ some_through row a.other_table.now (listed rows)
