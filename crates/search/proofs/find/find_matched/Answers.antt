-- `search::find::find_matched` meets its contract: models that are not alike have no isomorphism, others are searched. Assumes nothing.
use mathlib.Core.Path.{ap}
use Rattle.rows.proofs.Laws.Outcome.{holds, fails}
use Rattle.search.specs.Answer.{ended}
use Rattle.search.proofs.Laws.Outcome.{gives_none, ends}
use Rattle.search.proofs.Laws.Find.{searched_run}
use Rattle.search.proofs.Theorems.Asked.{searched_unlike}
use Rattle.search.proofs.find.find_matched.Goals as goal

pub returns-then-not-alike : goal.returns-then-not-alike
returns-then-not-alike c =
    let it = gives_none _ _ _ _ (ap ended (searched_unlike _ _ _ _ _ (fails c.alike.ensures c.if-not-alike.true-raw))) c.clear.ensures in
    record { answer = it.0; output = it.1.0; work = it.1.1 }

pub search-requires : goal.search-requires
search-requires c =
    let p = c.requires in
    (p.0, p.1, holds c.alike.ensures c.if-not-alike.false-raw, p.2, p.3, p.4)

pub returns : goal.returns
returns c =
    let it = ends _ _ _ _ _ _ _ (ap ended (searched_run _ _ _ _ _ (holds c.alike.ensures c.if-not-alike.false-raw))) (c.search.ensures.answer, (c.search.ensures.output, c.search.ensures.work)) in
    record { answer = it.0; output = it.1.0; work = it.1.1 }
