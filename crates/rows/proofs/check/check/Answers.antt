-- `rows::check::check` meets its contract: both files are read, or the call is refused. Assumes nothing.
use mathlib.Core.Path.{ap, ◌∙◌}
use Rattle.std.proofs.Common.{Err}
use Rattle.std.proofs.lemmas.Result.{err_from_is_err_and}
use Rattle.rows.specs.Check.{check_files}
use Rattle.rows.proofs.Laws.Files.{two_go_on, two_refused}
use Rattle.rows.proofs.Laws.Outcome.{refuses_as, passes_on, by_numbers}
use Rattle.rows.proofs.check.check.Goals as goal

pub returns-in_err-source : goal.returns-in_err-source
unfolding check_files
returns-in_err-source c =
    let p = err_from_is_err_and c.from_residual.result c.from_residual.ensures.1 in
    let it = by_numbers _ _ _ _ (refuses_as _ _ _ _ (p.1 ∙ ap Err p.2) (two_refused _ _ _ _ _ c.in_err-source.ensures)) in
    record { answer = it.0; output = it.1 }

pub returns : goal.returns
unfolding check_files
returns c =
    let on = two_go_on _ _ _ _ _ _ c.in_ok-source.ensures in
    let it = by_numbers _ _ _ _ (passes_on _ _ _ _ _ on (c.check_models.ensures.answer, c.check_models.ensures.output)) in
    record { answer = it.0; output = it.1 }
