-- `rows::identity::identity` meets its contract: the file is not read, there is no room, or the identity is written. Assumes nothing.
use mathlib.Core.Path.{ap, ◌∙◌}
use Rattle.std.proofs.Common.{Err}
use Rattle.std.proofs.lemmas.Result.{err_from_is_err_and}
use Rattle.stored.proofs.Laws.Reading.{reads_formed}
use Rattle.rows.specs.Identity.{identity_file}
use Rattle.rows.proofs.Laws.Files.{model_goes_on, model_refused}
use Rattle.rows.proofs.Laws.Given.{cramped, roomy, roots_fit, few_roots}
use Rattle.rows.proofs.Laws.Outcome.{refuses, refuses_as, accepts, by_numbers}
use Rattle.rows.proofs.Laws.Identity.{identity_written, identity_cramped, identity_accepted}
use Rattle.rows.proofs.identity.identity.Goals as goal

pub returns-in_err-file : goal.returns-in_err-file
unfolding identity_file
returns-in_err-file c =
    let p = err_from_is_err_and c.from_residual.result c.from_residual.ensures.1 in
    let it = by_numbers _ _ _ _ (refuses_as _ _ _ _ (p.1 ∙ ap Err p.2) (model_refused _ _ _ _ _ c.in_err-file.ensures)) in
    record { answer = it.0; output = it.1 }

pub returns-then-out-size : goal.returns-then-out-size
unfolding identity_file
returns-then-out-size c =
    let on = model_goes_on _ _ _ _ _ c.in_ok-file.ensures in
    let it = by_numbers _ _ _ _ (refuses _ _ _ (on ∙ identity_cramped _ _ (cramped c.size.ensures _ c.if-out-size.true))) in
    record { answer = it.0; output = it.1 }

pub write_identity-requires : goal.write_identity-requires
write_identity-requires c =
    let formed = reads_formed _ _ c.in_ok-file.file.reads in
    (roots_fit formed c.roots.ensures _ (roomy c.size.ensures _ c.if-out-size.false), few_roots formed c.roots.ensures)

pub returns : goal.returns
unfolding identity_file
returns c =
    let on = model_goes_on _ _ _ _ _ c.in_ok-file.ensures in
    let wrote = identity_written (reads_formed _ _ c.in_ok-file.file.reads) c.roots.ensures _ _ c.write_identity.ensures in
    let it = by_numbers _ _ _ _ (accepts _ _ _ _ (on ∙ identity_accepted _ _ (roomy c.size.ensures _ c.if-out-size.false)) wrote) in
    record { answer = it.0; output = it.1 }
