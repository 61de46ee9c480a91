use mathlib.Core.Path.{sym, ◌∙◌, ap}
use mathlib.Core.List.{[]}
use native.Mathlib.Omega.{arith}
use Rattle.lists.specs.Every.{all}
use Rattle.lists.proofs.Laws.Every.{all_passed, all_failed, all_over}
use Rattle.lists.proofs.Laws.Part.{length-rows_of}
use Rattle.stored.specs.Model.{is_rep_in}
use Rattle.stored.proofs.canonical.rows_canonical.Goals as goal

pub returns-then-not-row_canonical : goal.returns-then-not-row_canonical
returns-then-not-row_canonical c =
    let test = all (is_rep_in c.args.roots.now) in
    all_failed c.loop-i.invariant [] (omega (arith, length-rows_of c.args.rows.now.arity c.args.rows.now.count c.args.rows.now.cells.now)) (ap test (sym c.row.ensures) ∙ sym c.row_canonical.ensures ∙ c.if-not-row_canonical.true)

pub loop-i-preserved : goal.loop-i-preserved
loop-i-preserved c =
    let test = all (is_rep_in c.args.roots.now) in
    all_passed c.loop-i.invariant [] (omega (arith, length-rows_of c.args.rows.now.arity c.args.rows.now.count c.args.rows.now.cells.now)) (ap test (sym c.row.ensures) ∙ sym c.row_canonical.ensures ∙ c.if-not-row_canonical.false)

pub returns : goal.returns
returns c = all_over c.loop-i.invariant (omega (arith, length-rows_of c.args.rows.now.arity c.args.rows.now.count c.args.rows.now.cells.now))
