-- `search::find::under_third` meets its contract: the third file is read, or the call is refused. Assumes nothing.
use mathlib.Core.Path.{ap, ◌∙◌}
use Rattle.std.proofs.Common.{Err}
use Rattle.std.proofs.lemmas.Result.{err_from_is_err_and}
use Rattle.rows.proofs.Laws.Files.{model_goes_on, model_refused}
use Rattle.search.proofs.Laws.Outcome.{refuses, passes_on}
use Rattle.search.proofs.find.under_third.Goals as goal

pub returns-in_err-third : goal.returns-in_err-third
returns-in_err-third c =
    let p = err_from_is_err_and c.from_residual.result c.from_residual.ensures.1 in
    let it = refuses _ _ _ _ (model_refused _ _ _ _ _ c.in_err-third.ensures) in
    record { answer = p.1 ∙ ap Err p.2 ∙ it.0; output = it.1.0; work = it.1.1 }

pub returns : goal.returns
returns c =
    let on = model_goes_on _ _ _ _ _ c.in_ok-third.ensures in
    let it = passes_on _ _ _ _ _ _ _ on (c.under_models.ensures.answer, (c.under_models.ensures.output, c.under_models.ensures.work)) in
    record { answer = it.0; output = it.1.0; work = it.1.1 }
