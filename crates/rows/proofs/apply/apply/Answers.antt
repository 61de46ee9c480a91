-- `rows::apply::apply` meets its contract: both files are read, or the call is refused. Assumes nothing.
use mathlib.Core.Path.{sym, ◌∙◌, ap}
use Rattle.std.proofs.Common.{Err}
use Rattle.std.proofs.lemmas.Result.{err_from_is_err_and}
use Rattle.rows.specs.Answer.{applied_numbers}
use Rattle.rows.specs.Apply.{apply_files}
use Rattle.rows.proofs.Laws.Files.{two_go_on, two_refused}
use Rattle.rows.proofs.apply.apply.Goals as goal

pub returns-in_err-source : goal.returns-in_err-source
unfolding apply_files
returns-in_err-source c =
    let p = err_from_is_err_and c.from_residual.result c.from_residual.ensures.1 in
    ap applied_numbers (p.1 ∙ ap Err p.2 ∙ sym (two_refused _ _ _ _ _ c.in_err-source.ensures))

pub returns : goal.returns
unfolding apply_files
returns c = ap applied_numbers (c.apply_models.ensures ∙ sym (two_go_on _ _ _ _ _ _ c.in_ok-source.ensures))
