-- `search::find::find_among` meets its contract: the first bad pair is refused, or the call goes on with pairs that are all good. Assumes nothing.
use mathlib.Core.Path.{sym, ◌∙◌, ap}
use Rattle.std.proofs.Common.{Err}
use Rattle.std.proofs.lemmas.Result.{err_from_is_err_and}
use Rattle.search.proofs.Laws.Outcome.{refuses, passes_on}
use Rattle.search.proofs.Laws.Find.{among_bad, among_good}
use Rattle.search.proofs.find.find_among.Goals as goal

pub returns-in_err-pairs_hold : goal.returns-in_err-pairs_hold
returns-in_err-pairs_hold c =
    let p = err_from_is_err_and c.from_residual.result c.from_residual.ensures.1 in
    let it = refuses _ _ _ _ (among_bad _ _ _ _ _ (sym c.in_err-pairs_hold.ensures)) in
    record { answer = p.1 ∙ ap Err p.2 ∙ it.0; output = it.1.0; work = it.1.1 }

pub find_paired-requires : goal.find_paired-requires
find_paired-requires c =
    let p = c.requires in
    (p.0, p.1, sym c.in_ok-pairs_hold.ensures, p.2, p.3)

pub returns : goal.returns
returns c =
    let it = passes_on _ _ _ _ _ _ _ (among_good _ _ _ _ (sym c.in_ok-pairs_hold.ensures)) (c.find_paired.ensures.answer, (c.find_paired.ensures.output, c.find_paired.ensures.work)) in
    record { answer = it.0; output = it.1.0; work = it.1.1 }
