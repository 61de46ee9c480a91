-- `search::find::find_under` meets its contract: the first two files are read, or the call is refused. Assumes nothing.
use mathlib.Core.Path.{ap, ◌∙◌}
use Rattle.std.proofs.Common.{Err}
use Rattle.std.proofs.lemmas.Result.{err_from_is_err_and}
use Rattle.rows.proofs.Laws.Files.{two_go_on, two_refused}
use Rattle.search.specs.Answer.{numbers}
use Rattle.search.specs.Find.{under_files}
use Rattle.search.proofs.Laws.Outcome.{refuses, passes_on, by_numbers}
use Rattle.search.proofs.find.find_under.Goals as goal

pub returns-in_err-base : goal.returns-in_err-base
unfolding under_files
returns-in_err-base c =
    let p = err_from_is_err_and c.from_residual.result c.from_residual.ensures.1 in
    let it = by_numbers _ _ _ _ _ _ (refuses _ _ _ _ (two_refused _ _ _ _ _ c.in_err-base.ensures)) in
    record { answer = ap numbers (p.1 ∙ ap Err p.2) ∙ it.0; output = it.1.0; work = it.1.1 }

pub returns : goal.returns
unfolding under_files
returns c =
    let on = two_go_on _ _ _ _ _ _ c.in_ok-base.ensures in
    let it = by_numbers _ _ _ _ _ _ (passes_on _ _ _ _ _ _ _ on (c.under_third.ensures.answer, (c.under_third.ensures.output, c.under_third.ensures.work))) in
    record { answer = it.0; output = it.1.0; work = it.1.1 }
