-- `search::find::under_maps` meets its contract: each return is one case of `under_models`; kN is the place after the N-th test. Assumes nothing.
use mathlib.Core.Path.{sym, ◌∙◌}
use Rattle.stored.proofs.Laws.Signature.{same_signature_lem, equal_signature}
use Rattle.rows.proofs.Laws.Outcome.{holds, fails}
use Rattle.search.proofs.Laws.Outcome.{refuses, passes_on}
use Rattle.search.proofs.Laws.Find.{left_differing, right_differing, left_no_map, right_no_map, under_goes_on}
use Rattle.search.proofs.find.under_maps.Goals as goal

pub returns-then-not-same_signature : goal.returns-then-not-same_signature
returns-then-not-same_signature c =
    let p = c.requires in
    let it = refuses _ _ _ _ (left_differing _ _ _ _ _ _ _ _ p.2 p.3 p.0 p.1 (fails c.same_signature.ensures c.if-not-same_signature.true-raw)) in
    record { answer = it.0; output = it.1.0; work = it.1.1 }

pub returns-then-not-same_signature-2 : goal.returns-then-not-same_signature-2
returns-then-not-same_signature-2 c =
    let p = c.requires in
    let it = refuses _ _ _ _ (right_differing _ _ _ _ _ _ _ _ p.2 p.3 p.0 p.1 (holds c.same_signature.ensures c.if-not-same_signature.false-raw) (fails c.same_signature-2.ensures c.if-not-same_signature-2.true-raw)) in
    record { answer = it.0; output = it.1.0; work = it.1.1 }

pub returns-then-not-is_map : goal.returns-then-not-is_map
returns-then-not-is_map c =
    let p = c.requires in
    let left = holds c.same_signature.ensures c.if-not-same_signature.false-raw in
    let right = holds c.same_signature-2.ensures c.if-not-same_signature-2.false-raw in
    let it = refuses _ _ _ _ (left_no_map _ _ _ _ _ _ _ _ p.2 p.3 p.0 p.1 left right (fails c.is_map.ensures c.if-not-is_map.true-raw)) in
    record { answer = it.0; output = it.1.0; work = it.1.1 }

pub returns-then-not-is_map-2 : goal.returns-then-not-is_map-2
returns-then-not-is_map-2 c =
    let p = c.requires in
    let left = holds c.same_signature.ensures c.if-not-same_signature.false-raw in
    let right = holds c.same_signature-2.ensures c.if-not-same_signature-2.false-raw in
    let it = refuses _ _ _ _ (right_no_map _ _ _ _ _ _ _ _ p.2 p.3 p.0 p.1 left right (holds c.is_map.ensures c.if-not-is_map.false-raw) (fails c.is_map-2.ensures c.if-not-is_map-2.true-raw)) in
    record { answer = it.0; output = it.1.0; work = it.1.1 }

pub invariant_of-both : goal.invariant_of-both
invariant_of-both c =
    let left = same_signature_lem _ _ (holds c.same_signature.ensures c.if-not-same_signature.false-raw) in
    let right = same_signature_lem _ _ (holds c.same_signature-2.ensures c.if-not-same_signature-2.false-raw) in
    record { one_signature = equal_signature _ _ (sym left ∙ right) }

pub find_from-requires : goal.find_from-requires
find_from-requires c = c.requires

pub returns : goal.returns
returns c =
    let p = c.requires in
    let left = holds c.same_signature.ensures c.if-not-same_signature.false-raw in
    let right = holds c.same_signature-2.ensures c.if-not-same_signature-2.false-raw in
    let on = under_goes_on _ _ _ _ _ _ _ _ p.2 p.3 p.0 p.1 left right (holds c.is_map.ensures c.if-not-is_map.false-raw) (holds c.is_map-2.ensures c.if-not-is_map-2.false-raw) in
    let it = passes_on _ _ _ _ _ _ _ on (c.find_from.ensures.answer, (c.find_from.ensures.output, c.find_from.ensures.work)) in
    record { answer = it.0; output = it.1.0; work = it.1.1 }
