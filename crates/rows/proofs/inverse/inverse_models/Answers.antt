-- `rows::inverse::inverse_models` meets its contract: each return is one case of `inverse_models`; kN is the place after the N-th test. Assumes nothing.
use Rattle.stored.specs.Limits.{max_elements}
use Rattle.stored.proofs.Laws.Reading.{reads_formed}
use Rattle.rows.proofs.Laws.Given.{cramped, roomy, roots_fit, few_roots, map_fits}
use Rattle.rows.proofs.Laws.Outcome.{refuses, gives_none, accepts, holds, fails}
use Rattle.rows.proofs.Laws.Inverse.{inverse_written, inverse_cramped, inverse_differing, inverse_no_map, inverse_none, inverse_accepted}
use Rattle.rows.proofs.inverse.inverse_models.Goals as goal

pub returns-then-out-size : goal.returns-then-out-size
returns-then-out-size c =
    let it = refuses _ _ _ (inverse_cramped _ _ _ _ (cramped c.size.ensures _ c.if-out-size.true)) in
    record { answer = it.0; output = it.1 }

pub returns-then-not-same_signature : goal.returns-then-not-same_signature
returns-then-not-same_signature c =
    let room = roomy c.size.ensures _ c.if-out-size.false in
    let it = refuses _ _ _ (inverse_differing _ _ _ _ room (fails c.same_signature.ensures c.if-not-same_signature.true-raw)) in
    record { answer = it.0; output = it.1 }

pub is_map-requires : goal.is_map-requires
is_map-requires c =
    holds c.same_signature.ensures c.if-not-same_signature.false-raw

pub returns-then-not-is_map : goal.returns-then-not-is_map
returns-then-not-is_map c =
    let room = roomy c.size.ensures _ c.if-out-size.false in
    let same = holds c.same_signature.ensures c.if-not-same_signature.false-raw in
    let it = refuses _ _ _ (inverse_no_map _ _ _ _ room same (fails c.is_map.ensures c.if-not-is_map.true-raw)) in
    record { answer = it.0; output = it.1 }

pub is_invertible-requires : goal.is_invertible-requires
is_invertible-requires c =
    holds c.same_signature.ensures c.if-not-same_signature.false-raw

pub returns-then-not-is_invertible : goal.returns-then-not-is_invertible
returns-then-not-is_invertible c =
    let room = roomy c.size.ensures _ c.if-out-size.false in
    let same = holds c.same_signature.ensures c.if-not-same_signature.false-raw in
    let mapped = holds c.is_map.ensures c.if-not-is_map.false-raw in
    let it = gives_none _ _ (inverse_none _ _ _ _ room same mapped (fails c.is_invertible.ensures c.if-not-is_invertible.true-raw)) in
    record { answer = it.0; output = it.1 }

pub write_inverse-requires : goal.write_inverse-requires
write_inverse-requires c =
    let source = reads_formed _ _ c.args.source.now.reads in
    let target = reads_formed _ _ c.args.target.now.reads in
    let mapped = holds c.is_map.ensures c.if-not-is_map.false-raw in
    (roots_fit target c.roots.ensures _ (roomy c.size.ensures _ c.if-out-size.false), few_roots target c.roots.ensures, map_fits _ _ _ mapped max_elements source.few_elements)

pub returns : goal.returns
returns c =
    let room = roomy c.size.ensures _ c.if-out-size.false in
    let same = holds c.same_signature.ensures c.if-not-same_signature.false-raw in
    let mapped = holds c.is_map.ensures c.if-not-is_map.false-raw in
    let found = holds c.is_invertible.ensures c.if-not-is_invertible.false-raw in
    let wrote = inverse_written (reads_formed _ _ c.args.target.now.reads) c.roots.ensures _ _ _ c.write_inverse.ensures in
    let it = accepts _ _ _ _ (inverse_accepted _ _ _ _ room same mapped found) wrote in
    record { answer = it.0; output = it.1 }
