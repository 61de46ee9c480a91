-- `rounds::round::recolour` meets its contract: a prepared board, and both sides grouped on it. Assumes nothing.
use mathlib.Core.Path.{◌∙◌}
use Rattle.stored.proofs.Laws.Reading.{reads_formed}
use Rattle.rounds.proofs.Laws.Recoloured.{sides_ready, recoloured_both, board_kept}
use Rattle.rounds.proofs.round.recolour.Goals as goal

pub group_sides-requires : goal.group_sides-requires
group_sides-requires c =
    let b = c.args.both.now in
    sides_ready _ _ (reads_formed _ _ b.left.reads) (reads_formed _ _ b.right.reads) b.one_signature _ _ _ _ c.prepare.ensures c.requires.1 c.requires.2 _ _ c.roots-roots.ensures c.roots-other_roots.ensures

pub shape_of-left_colours : goal.shape_of-left_colours
shape_of-left_colours c = c.group_sides.auto.out

pub shape_of-right_colours : goal.shape_of-right_colours
shape_of-right_colours c = c.group_sides.auto.other_out

pub shape_of-board : goal.shape_of-board
shape_of-board c = c.group_sides.auto.board ∙ c.prepare.auto.board

pub returns : goal.returns
returns c =
    let b = c.args.both.now in
    let v = reads_formed _ _ b.left.reads in
    let w = reads_formed _ _ b.right.reads in
    let e = c.roots-roots.ensures in
    let f = c.roots-other_roots.ensures in
    record {
      recoloured = recoloured_both _ _ v w b.one_signature _ _ _ _ c.prepare.ensures c.requires.1 c.requires.2 _ _ e f _ _ c.group_sides.ensures.left c.group_sides.ensures.right;
      board = board_kept _ _ v w b.one_signature _ _ _ _ c.prepare.ensures c.requires.1 c.requires.2 _ _ e f _ c.group_sides.ensures.kept;
    }
