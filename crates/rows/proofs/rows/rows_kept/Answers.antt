-- `rows::rows::rows_kept` meets its contract: the row of each number is tested. Assumes nothing.
use Prim.Native.Nat.{ℕ}
use mathlib.Core.Path.{refl, ◌∙◌}
use mathlib.Core.List.{List, map}
use native.Mathlib.Omega.{arith}
use borrow.Author.Tests.{tests}
use Rattle.std.proofs.Common.{rules}
use Rattle.std.proofs.lemmas.Iterator.{YieldsList-from_range}
use Rattle.std.proofs.lemmas.Iterator.Search.{all_from_yields_List}
use Rattle.stored.specs.File.{listed}
use Rattle.rows.specs.Rows.{through, has_row, rows_kept}
use Rattle.rows.proofs.Laws.Chains.{numbered, all_rows}
use Rattle.rows.proofs.rows.rows_kept.Goals as goal

pub returns : goal.returns
unfolding rows_kept
returns c =
    let a = c.args in
    let rows = a.rows.now in
    let p = λ (row : List ℕ). has_row (through a.table.now row) (map (through a.other_table.now) (listed a.others.now)) in
    all_from_yields_List (λ i. p (numbered rows i)) _ _ _ c.all.ensures.ran (YieldsList-from_range 0 rows.count rows.count refl (omega arith)) (λ x b q k. search (rules, tests))
    ∙ all_rows rows p
