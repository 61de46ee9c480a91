-- `rounds::round::set_up` meets its contract: the table of counts is emptied, the cells are laid over the front of the board, then listed. Assumes nothing.
use mathlib.Core.Path.{◌∙◌}
use native.Mathlib.Omega.{arith}
use Rattle.stored.proofs.Laws.Reading.{reads_formed}
use Rattle.rounds.proofs.Laws.Prepare.{elements_laid, board_laid}
use Rattle.rounds.proofs.round.set_up.Goals as goal

pub clear_heads-requires : goal.clear_heads-requires
clear_heads-requires c = (c.requires, omega arith)

pub lay-cells-requires : goal.lay-cells-requires
lay-cells-requires c = c.clear_heads.ensures.length_kept ∙ c.requires

pub list_cells-requires : goal.list_cells-requires
list_cells-requires c =
    let b = c.args.both.now in
    elements_laid _ _ (reads_formed _ _ b.left.reads) (reads_formed _ _ b.right.reads) _ _ _ c.lay-cells.ensures.cells (c.clear_heads.ensures.length_kept ∙ c.requires) c.lay-cells.ensures.output

pub shape_of-board : goal.shape_of-board
shape_of-board c = c.list_cells.auto.board ∙ c.lay-cells.auto.board ∙ c.clear_heads.auto.board

pub returns : goal.returns
returns c =
    let b = c.args.both.now in
    board_laid _ _ (reads_formed _ _ b.left.reads) (reads_formed _ _ b.right.reads) _ _ _ c.lay-cells.ensures.cells (c.clear_heads.ensures.length_kept ∙ c.requires) c.lay-cells.ensures.output _ c.list_cells.ensures.listed c.list_cells.ensures.kept c.clear_heads.ensures.cleared
