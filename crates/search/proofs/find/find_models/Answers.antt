-- `search::find::find_models` meets its contract: each return is one case of `find_models`; kN is the place after the N-th test. Assumes nothing.
use Rattle.rows.proofs.Laws.Outcome.{holds, fails}
use Rattle.search.proofs.Laws.Outcome.{refuses, passes_on}
use Rattle.search.proofs.Laws.Find.{too_small, large_enough, find_cramped, find_workless, find_left, find_right, find_differing, find_odd, find_goes_on}
use Rattle.search.proofs.find.find_models.Goals as goal

pub returns-then-out-size : goal.returns-then-out-size
returns-then-out-size c =
    let it = refuses _ _ _ _ (find_cramped _ _ _ _ _ _ (too_small c.size.ensures c.if-out-size.true)) in
    record { answer = it.0; output = it.1.0; work = it.1.1 }

pub returns-then-work-lt-ROOM : goal.returns-then-work-lt-ROOM
returns-then-work-lt-ROOM c =
    let it = refuses _ _ _ _ (find_workless _ _ _ _ _ _ (large_enough c.size.ensures c.if-out-size.false) c.if-work-lt-ROOM.true) in
    record { answer = it.0; output = it.1.0; work = it.1.1 }

pub returns-then-not-is_canonical : goal.returns-then-not-is_canonical
returns-then-not-is_canonical c =
    let it = refuses _ _ _ _ (find_left _ _ _ _ _ _ (large_enough c.size.ensures c.if-out-size.false) c.if-work-lt-ROOM.false (fails c.is_canonical.ensures c.if-not-is_canonical.true-raw)) in
    record { answer = it.0; output = it.1.0; work = it.1.1 }

pub returns-then-not-is_canonical-2 : goal.returns-then-not-is_canonical-2
returns-then-not-is_canonical-2 c =
    let room = large_enough c.size.ensures c.if-out-size.false in
    let it = refuses _ _ _ _ (find_right _ _ _ _ _ _ room c.if-work-lt-ROOM.false (holds c.is_canonical.ensures c.if-not-is_canonical.false-raw) (fails c.is_canonical-2.ensures c.if-not-is_canonical-2.true-raw)) in
    record { answer = it.0; output = it.1.0; work = it.1.1 }

pub returns-then-not-same_signature : goal.returns-then-not-same_signature
returns-then-not-same_signature c =
    let room = large_enough c.size.ensures c.if-out-size.false in
    let left = holds c.is_canonical.ensures c.if-not-is_canonical.false-raw in
    let right = holds c.is_canonical-2.ensures c.if-not-is_canonical-2.false-raw in
    let it = refuses _ _ _ _ (find_differing _ _ _ _ _ _ room c.if-work-lt-ROOM.false left right (fails c.same_signature.ensures c.if-not-same_signature.true-raw)) in
    record { answer = it.0; output = it.1.0; work = it.1.1 }

pub returns-then-pairs-ne0 : goal.returns-then-pairs-ne0
returns-then-pairs-ne0 c =
    let room = large_enough c.size.ensures c.if-out-size.false in
    let left = holds c.is_canonical.ensures c.if-not-is_canonical.false-raw in
    let right = holds c.is_canonical-2.ensures c.if-not-is_canonical-2.false-raw in
    let it = refuses _ _ _ _ (find_odd _ _ _ _ _ _ room c.if-work-lt-ROOM.false left right (holds c.same_signature.ensures c.if-not-same_signature.false-raw) c.if-pairs-ne0.true) in
    record { answer = it.0; output = it.1.0; work = it.1.1 }

pub invariant_of-both : goal.invariant_of-both
invariant_of-both c = record { one_signature = holds c.same_signature.ensures c.if-not-same_signature.false-raw }

pub find_among-requires : goal.find_among-requires
find_among-requires c =
    let room = large_enough c.size.ensures c.if-out-size.false in
    let left = holds c.is_canonical.ensures c.if-not-is_canonical.false-raw in
    let right = holds c.is_canonical-2.ensures c.if-not-is_canonical-2.false-raw in
    (left, right, room, c.if-work-lt-ROOM.false)

pub returns : goal.returns
returns c =
    let room = large_enough c.size.ensures c.if-out-size.false in
    let left = holds c.is_canonical.ensures c.if-not-is_canonical.false-raw in
    let right = holds c.is_canonical-2.ensures c.if-not-is_canonical-2.false-raw in
    let on = find_goes_on _ _ _ _ _ _ room c.if-work-lt-ROOM.false left right (holds c.same_signature.ensures c.if-not-same_signature.false-raw) c.if-pairs-ne0.false in
    let it = passes_on _ _ _ _ _ _ _ on (c.find_among.ensures.answer, (c.find_among.ensures.output, c.find_among.ensures.work)) in
    record { answer = it.0; output = it.1.0; work = it.1.1 }
