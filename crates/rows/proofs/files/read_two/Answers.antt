-- `rows::files::read_two` meets its contract: each return is one case of reading the two files. Assumes nothing.
use Rattle.std.proofs.lemmas.Result.{err_from_is_err_and}
use Rattle.rows.proofs.Laws.Files.{first_refused, second_refused, both_read}
use Rattle.rows.proofs.files.read_two.Goals as goal

pub returns-in_err-first : goal.returns-in_err-first
returns-in_err-first c =
    let p = err_from_is_err_and c.from_residual.result c.from_residual.ensures.1 in
    rw (p.1, p.2) (first_refused _ _ _ c.in_err-first.ensures)

pub returns-in_err-second : goal.returns-in_err-second
returns-in_err-second c =
    let p = err_from_is_err_and c.from_residual-in_err-second.result c.from_residual-in_err-second.ensures.1 in
    rw (p.1, p.2) (second_refused _ _ _ c.in_ok-first.ensures _ c.in_err-second.ensures)

pub returns : goal.returns
returns c = both_read _ _ _ c.in_ok-first.ensures _ c.in_ok-second.ensures
