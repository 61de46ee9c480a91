use mathlib.Core.Path.{refl, ap}
use native.Mathlib.Omega.{arith}
use lib.ListN.{length}
use Rattle.stored.specs.File.{held}
use Rattle.rows.proofs.Laws.Given.{size_few}
use Rattle.search.proofs.Laws.Machine.{start_small, carried_start, carried_past, running_start, depth_few, work_room_lem, round_small, round_out, round_on, check_one_to_one, check_out, check_found, check_on, choice_none, choice_out, element_known, stay_few, candidate_there, choice_same, choice_counted, choice_other}
use Rattle.search.proofs.machine.run.Goals as goal

pub first_count-count-requires : goal.first_count-count-requires
first_count-count-requires c = (c.requires.4, start_small _ (held c.args.both.now.right) _ c.requires.7)

pub loop-phase-init : goal.loop-phase-init
loop-phase-init c =
    let p = c.requires in
    (running_start _ _ _ _ _ _ _ _ _ c.args.both.now.left.reads c.args.both.now.right.reads p.0 p.1 c.args.both.now.one_signature p.2 p.3 p.4 p.5 p.6, carried_start _ _ _ _ c.first_count-count.ensures)

pub returns-then-used-budget : goal.returns-then-used-budget
returns-then-used-budget c =
    let it = round_out c.loop-phase.invariant.0 c.in-Refine.is c.if-used-budget.true in
    record { answer = it.0; output = it.1.0; work = it.1.1 }

pub refine-turn-requires : goal.refine-turn-requires
refine-turn-requires c = (c.loop-phase.invariant.0.board, work_room_lem c.loop-phase.invariant.0, depth_few c.loop-phase.invariant.0, c.loop-phase.invariant.0.rows, round_small c.loop-phase.invariant.0 c.in-Refine.is c.requires.7, c.loop-phase.invariant.1.counted c.in-Refine.is)

pub loop-phase-preserved-in-Refine : goal.loop-phase-preserved-in-Refine
loop-phase-preserved-in-Refine c = (round_on c.loop-phase.invariant.0 c.in-Refine.is c.if-used-budget.false c.refine-turn.ensures.state c.refine-turn.ensures.kept, record { counted = c.refine-turn.ensures.count })

pub returns-then-used-budget-2 : goal.returns-then-used-budget-2
returns-then-used-budget-2 c =
    let it = check_out c.loop-phase.invariant.0 c.in-Close.is c.if-used-budget-2.true in
    record { answer = it.0; output = it.1.0; work = it.1.1 }

pub close-requires : goal.close-requires
close-requires c = (c.loop-phase.invariant.0.alikes.left_plain, c.loop-phase.invariant.0.alikes.right_plain, c.loop-phase.invariant.0.alikes.are_alike, check_one_to_one c.loop-phase.invariant.0 c.in-Close.is, omega (arith, c.loop-phase.invariant.0.fits, ap length c.loop-phase.invariant.0.same_out), c.loop-phase.invariant.0.rows)

pub returns-then-close : goal.returns-then-close
returns-then-close c =
    let it = check_found c.loop-phase.invariant.0 c.in-Close.is c.if-used-budget-2.false c.close.ensures.answer c.close.ensures.output c.if-close.true in
    record { answer = it.0; output = it.1.0; work = it.1.1 }

pub loop-phase-preserved-in-Close : goal.loop-phase-preserved-in-Close
loop-phase-preserved-in-Close c = (check_on c.loop-phase.invariant.0 c.in-Close.is c.if-used-budget-2.false c.close.ensures.answer c.close.ensures.output c.if-close.false, carried_past _ _ _ _ _ refl)

pub still_open-stay-requires : goal.still_open-stay-requires
still_open-stay-requires c = (work_room_lem c.loop-phase.invariant.0, depth_few c.loop-phase.invariant.0)

pub returns-then-stay-eq0 : goal.returns-then-stay-eq0
returns-then-stay-eq0 c =
    let it = choice_none c.loop-phase.invariant.0 c.in-Choose.is c.still_open-stay.ensures c.if-stay-eq0.true in
    record { answer = it.0; output = it.1.0; work = it.1.1 }

pub returns-then-used-budget-3 : goal.returns-then-used-budget-3
returns-then-used-budget-3 c =
    let it = choice_out c.loop-phase.invariant.0 c.in-Choose.is c.still_open-stay.ensures c.if-stay-eq0.false c.if-used-budget-3.true in
    record { answer = it.0; output = it.1.0; work = it.1.1 }

pub try_latest-requires : goal.try_latest-requires
try_latest-requires c = (work_room_lem c.loop-phase.invariant.0, omega (arith, c.if-stay-eq0.false), stay_few c.loop-phase.invariant.0 c.in-Choose.is c.still_open-stay.ensures c.if-stay-eq0.false, candidate_there c.loop-phase.invariant.0 c.in-Choose.is c.still_open-stay.ensures c.if-stay-eq0.false, element_known c.loop-phase.invariant.0 c.in-Choose.is c.still_open-stay.ensures c.if-stay-eq0.false, size_few _ _ c.loop-phase.invariant.0.reads)

pub latest_count-count-requires : goal.latest_count-count-requires
latest_count-count-requires c = (omega (arith, work_room_lem c.loop-phase.invariant.0, c.try_latest.ensures.kept.1), omega (arith, c.if-stay-eq0.false), stay_few c.loop-phase.invariant.0 c.in-Choose.is c.still_open-stay.ensures c.if-stay-eq0.false)

pub loop-phase-preserved-then-try_latest : goal.loop-phase-preserved-then-try_latest
loop-phase-preserved-then-try_latest c = (choice_same c.loop-phase.invariant.0 c.in-Choose.is c.still_open-stay.ensures c.if-stay-eq0.false c.if-used-budget-3.false c.try_latest.ensures.looked c.try_latest.ensures.kept c.if-try_latest.true, choice_counted c.loop-phase.invariant.0 c.in-Choose.is c.still_open-stay.ensures c.if-stay-eq0.false c.try_latest.ensures.looked c.if-try_latest.true c.latest_count-count.ensures)

pub loop-phase-preserved : goal.loop-phase-preserved
loop-phase-preserved c = (choice_other c.loop-phase.invariant.0 c.in-Choose.is c.still_open-stay.ensures c.if-stay-eq0.false c.if-used-budget-3.false c.try_latest.ensures.looked c.try_latest.ensures.kept c.if-try_latest.false, carried_past _ _ _ _ _ c.in-Choose.is)
