-- `rows::compose::compose_third` meets its contract: the third file is read, or the call is refused. Assumes nothing.
use mathlib.Core.Path.{ap, ◌∙◌}
use Rattle.std.proofs.Common.{Err}
use Rattle.std.proofs.lemmas.Result.{err_from_is_err_and}
use Rattle.rows.proofs.Laws.Files.{model_goes_on, model_refused}
use Rattle.rows.proofs.Laws.Outcome.{refuses_as, passes_on}
use Rattle.rows.proofs.compose.compose_third.Goals as goal

pub returns-in_err-third : goal.returns-in_err-third
returns-in_err-third c =
    let p = err_from_is_err_and c.from_residual.result c.from_residual.ensures.1 in
    let it = refuses_as _ _ _ _ (p.1 ∙ ap Err p.2) (model_refused _ _ _ _ _ c.in_err-third.ensures) in
    record { answer = it.0; output = it.1 }

pub returns : goal.returns
returns c =
    let on = model_goes_on _ _ _ _ _ c.in_ok-third.ensures in
    let it = passes_on _ _ _ _ _ on (c.compose_models.ensures.answer, c.compose_models.ensures.output) in
    record { answer = it.0; output = it.1 }
