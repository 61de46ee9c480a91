-- `search::find::under_models` meets its contract: each return is one case of `under_models`; kN is the place after the N-th test. Assumes nothing.
use Rattle.rows.proofs.Laws.Outcome.{holds, fails}
use Rattle.search.proofs.Laws.Outcome.{refuses}
use Rattle.search.proofs.Laws.Find.{too_small, large_enough, under_cramped, under_workless, under_left, under_right}
use Rattle.search.proofs.find.under_models.Goals as goal

pub returns-then-out-size : goal.returns-then-out-size
returns-then-out-size c =
    let it = refuses _ _ _ _ (under_cramped _ _ _ _ _ _ _ _ (too_small c.size.ensures c.if-out-size.true)) in
    record { answer = it.0; output = it.1.0; work = it.1.1 }

pub returns-then-work-lt-ROOM : goal.returns-then-work-lt-ROOM
returns-then-work-lt-ROOM c =
    let it = refuses _ _ _ _ (under_workless _ _ _ _ _ _ _ _ (large_enough c.size.ensures c.if-out-size.false) c.if-work-lt-ROOM.true) in
    record { answer = it.0; output = it.1.0; work = it.1.1 }

pub returns-then-not-is_canonical : goal.returns-then-not-is_canonical
returns-then-not-is_canonical c =
    let it = refuses _ _ _ _ (under_left _ _ _ _ _ _ _ _ (large_enough c.size.ensures c.if-out-size.false) c.if-work-lt-ROOM.false (fails c.is_canonical.ensures c.if-not-is_canonical.true-raw)) in
    record { answer = it.0; output = it.1.0; work = it.1.1 }

pub returns-then-not-is_canonical-2 : goal.returns-then-not-is_canonical-2
returns-then-not-is_canonical-2 c =
    let room = large_enough c.size.ensures c.if-out-size.false in
    let it = refuses _ _ _ _ (under_right _ _ _ _ _ _ _ _ room c.if-work-lt-ROOM.false (holds c.is_canonical.ensures c.if-not-is_canonical.false-raw) (fails c.is_canonical-2.ensures c.if-not-is_canonical-2.true-raw)) in
    record { answer = it.0; output = it.1.0; work = it.1.1 }

pub under_maps-requires : goal.under_maps-requires
under_maps-requires c =
    let left = holds c.is_canonical.ensures c.if-not-is_canonical.false-raw in
    let right = holds c.is_canonical-2.ensures c.if-not-is_canonical-2.false-raw in
    (left, right, large_enough c.size.ensures c.if-out-size.false, c.if-work-lt-ROOM.false)
