-- `rows::compose::compose_maps` meets its contract: each return is one case of `compose_maps`; kN is the place after the N-th test. Assumes nothing.
use Rattle.rows.proofs.Laws.Given.{map_fits}
use Rattle.rows.proofs.Laws.Outcome.{refuses, accepts, holds, fails}
use Rattle.rows.proofs.Laws.Compose.{first_no_map, second_no_map, compose_accepted}
use Rattle.rows.proofs.compose.compose_maps.Goals as goal

pub returns-then-not-is_map : goal.returns-then-not-is_map
returns-then-not-is_map c =
    let it = refuses _ _ _ (first_no_map _ _ _ _ _ (fails c.is_map.ensures c.if-not-is_map.true-raw)) in
    record { answer = it.0; output = it.1 }

pub returns-then-not-is_map-2 : goal.returns-then-not-is_map-2
returns-then-not-is_map-2 c =
    let it = refuses _ _ _ (second_no_map _ _ _ _ _ (holds c.is_map.ensures c.if-not-is_map.false-raw) (fails c.is_map-2.ensures c.if-not-is_map-2.true-raw)) in
    record { answer = it.0; output = it.1 }

pub write_through-requires : goal.write_through-requires
write_through-requires c = map_fits _ _ _ (holds c.is_map.ensures c.if-not-is_map.false-raw) _ c.requires.2

pub returns : goal.returns
returns c =
    let first = holds c.is_map.ensures c.if-not-is_map.false-raw in
    let second = holds c.is_map-2.ensures c.if-not-is_map-2.false-raw in
    let it = accepts _ _ _ _ (compose_accepted _ _ _ _ _ first second) c.write_through.ensures in
    record { answer = it.0; output = it.1 }
