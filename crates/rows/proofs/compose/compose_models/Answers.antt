-- `rows::compose::compose_models` meets its contract: each return is one case of `compose_models`; kN is the place after the N-th test. Assumes nothing.
use Rattle.rows.proofs.Laws.Given.{cramped, roomy}
use Rattle.rows.proofs.Laws.Outcome.{refuses, passes_on, holds, fails}
use Rattle.rows.proofs.Laws.Compose.{compose_cramped, first_differing, second_differing, compose_goes_on}
use Rattle.rows.proofs.compose.compose_models.Goals as goal

pub returns-then-out-size : goal.returns-then-out-size
returns-then-out-size c =
    let it = refuses _ _ _ (compose_cramped _ _ _ _ _ _ (cramped c.size.ensures _ c.if-out-size.true)) in
    record { answer = it.0; output = it.1 }

pub returns-then-not-same_signature : goal.returns-then-not-same_signature
returns-then-not-same_signature c =
    let room = roomy c.size.ensures _ c.if-out-size.false in
    let it = refuses _ _ _ (first_differing _ _ _ _ _ _ room (fails c.same_signature.ensures c.if-not-same_signature.true-raw)) in
    record { answer = it.0; output = it.1 }

pub returns-then-not-same_signature-2 : goal.returns-then-not-same_signature-2
returns-then-not-same_signature-2 c =
    let room = roomy c.size.ensures _ c.if-out-size.false in
    let it = refuses _ _ _ (second_differing _ _ _ _ _ _ room (holds c.same_signature.ensures c.if-not-same_signature.false-raw) (fails c.same_signature-2.ensures c.if-not-same_signature-2.true-raw)) in
    record { answer = it.0; output = it.1 }

pub compose_maps-requires : goal.compose_maps-requires
compose_maps-requires c =
    let room = roomy c.size.ensures _ c.if-out-size.false in
    (holds c.same_signature.ensures c.if-not-same_signature.false-raw, holds c.same_signature-2.ensures c.if-not-same_signature-2.false-raw, room)

pub returns : goal.returns
returns c =
    let room = roomy c.size.ensures _ c.if-out-size.false in
    let first = holds c.same_signature.ensures c.if-not-same_signature.false-raw in
    let second = holds c.same_signature-2.ensures c.if-not-same_signature-2.false-raw in
    let it = passes_on _ _ _ _ _ (compose_goes_on _ _ _ _ _ _ room first second) (c.compose_maps.ensures.answer, c.compose_maps.ensures.output) in
    record { answer = it.0; output = it.1 }
