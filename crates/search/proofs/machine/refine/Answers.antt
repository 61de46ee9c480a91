-- `search::machine::refine` meets its contract: one round, and what its colours come to. In what follows r is the place
-- after the round, t after the weighing. Assumes nothing.
use mathlib.Core.Path.{◌∙◌}
use mathlib.Core.List.{[]}
use native.Mathlib.Omega.{arith}
use lib.ListN.{get_or}
use Rattle.search.proofs.Laws.Refine.{side_room, side_front, side_long, left_small, right_small, rounded_small, weighed_sides, refined_state, refined_kept}
use Rattle.search.proofs.machine.refine.Goals as goal

pub recolour-new-requires : goal.recolour-new-requires
recolour-new-requires c =
    let p = c.requires in
    (p.0, p.1, p.3)

pub slice_bounds-row-end : goal.slice_bounds-row-end
slice_bounds-row-end c = side_room _ _ c.args.both.now.left.reads (get_or c.recolour-new.result 0 []) c.recolour-new.ensures.shape.1

pub slice_bounds-weigh-end : goal.slice_bounds-weigh-end
slice_bounds-weigh-end c = side_front _ _ c.args.both.now.left.reads (get_or c.recolour-new.result 0 []) c.recolour-new.ensures.shape.1

pub slice_bounds-other-end : goal.slice_bounds-other-end
slice_bounds-other-end c = side_room _ _ c.args.both.now.right.reads (get_or c.recolour-new.result 1 []) c.recolour-new.ensures.shape.2

pub slice_bounds-weigh-end-2 : goal.slice_bounds-weigh-end-2
slice_bounds-weigh-end-2 c = side_front _ _ c.args.both.now.right.reads (get_or c.recolour-new.result 1 []) c.recolour-new.ensures.shape.2

pub weigh-requires : goal.weigh-requires
weigh-requires c =
    let p = c.requires in
    let small = rounded_small _ _ _ _ c.args.both.now.left.reads c.args.both.now.right.reads c.args.colours.now c.recolour-new.result c.recolour-new.ensures.recoloured in
    (side_long _ _ c.args.both.now.left.reads _ c.recolour-new.ensures.shape.1, side_long _ _ c.args.both.now.right.reads _ c.recolour-new.ensures.shape.2, left_small _ _ _ _ c.args.both.now.left.reads c.args.both.now.right.reads c.recolour-new.result small, right_small _ _ _ _ c.args.both.now.left.reads c.args.both.now.right.reads c.recolour-new.result small, (omega (arith, c.requires.1, c.recolour-new.auto.work)), p.2)

pub shape_of-work : goal.shape_of-work
shape_of-work c = c.weigh.ensures.kept.1 ∙ c.recolour-new.auto.work

pub returns : goal.returns
returns c =
    let p = c.requires in
    let u = weighed_sides _ _ _ _ c.args.both.now.left.reads c.args.both.now.right.reads c.recolour-new.result c.weigh.ensures.weighed in
    record { state = refined_state c.args.colours.now c.recolour-new.result c.args.work.now c.recolour-new.new.work c.weigh.new.work c.recolour-new.ensures.recoloured c.recolour-new.ensures.work c.weigh.ensures.kept u p.5; kept = refined_kept c.args.colours.now c.recolour-new.result c.args.work.now c.recolour-new.new.work c.weigh.new.work c.recolour-new.ensures.recoloured c.recolour-new.ensures.work c.weigh.ensures.kept u c.recolour-new.ensures.shape; count = u.counted }
