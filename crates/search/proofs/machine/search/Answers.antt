-- `search::machine::search` meets its contract: the board is set up in the front of the work, the run starts from the first colours, and clearing leaves what it
-- would have left at the start. In what follows p is the place where the call begins, u after the board is set up, o after the first colours, r after the run, z after
-- the clearing. Assumes nothing.
use mathlib.Core.Path.{sym}
use Rattle.stored.proofs.Laws.Reading.{reads_formed}
use Rattle.search.proofs.Laws.Start.{board_fits, board_long, board_there, work_room_lem, room_left, cleared_again, first_small, run_answer, run_output}
use Rattle.search.proofs.machine.search.Goals as goal

pub slice_bounds-set_up-end : goal.slice_bounds-set_up-end
slice_bounds-set_up-end c = board_fits c.args.work.now c.requires.5

pub slice_bounds-set_up-end-2 : goal.slice_bounds-set_up-end-2
slice_bounds-set_up-end-2 c = sym (board_long c.args.work.now c.requires.5)

pub set_up-cells-requires : goal.set_up-cells-requires
set_up-cells-requires c = board_long c.args.work.now c.requires.5

pub run-answer-requires : goal.run-answer-requires
run-answer-requires c =
    let k = c.requires in
    let w = c.args.work.now in
    (k.0, k.1, k.2, board_there w k.5 c.set_up-cells.new.board c.set_up-cells.auto.board _ _ _ c.set_up-cells.ensures, c.first_colours-start.ensures.shape, k.4, work_room_lem w k.5 c.set_up-cells.new.board c.set_up-cells.auto.board, first_small _ _ (reads_formed _ _ c.args.both.now.left.reads) (reads_formed _ _ c.args.both.now.right.reads) _ _ k.3 _ c.first_colours-start.ensures.colours)

pub clear-requires : goal.clear-requires
clear-requires c = room_left c.args.work.now c.requires.5 c.set_up-cells.new.board c.set_up-cells.auto.board c.run-answer.new.work c.run-answer.ensures.work

pub returns : goal.returns
returns c = record { answer = run_answer _ _ _ _ _ _ c.first_colours-start.ensures.colours _ c.run-answer.ensures.answer; output = run_output _ _ _ _ _ _ c.first_colours-start.ensures.colours _ _ c.run-answer.ensures.output; work = cleared_again c.args.work.now c.requires.5 c.set_up-cells.new.board c.set_up-cells.auto.board _ c.run-answer.ensures.work _ c.clear.ensures }
