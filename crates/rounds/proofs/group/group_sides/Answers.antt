-- `rounds::group::group_sides` meets its contract: the left is grouped with no holders, then the right with what the left holds. Assumes nothing.
use mathlib.Core.Path.{refl}
use lib.ListN.{get_or-replicate}
use Rattle.rounds.proofs.Laws.Grouping.{left_asks}
use Rattle.rounds.proofs.group.group_sides.Goals as goal

pub group_side-held-requires : goal.group_side-held-requires
group_side-held-requires c =
    let p = c.requires in
    left_asks _ _ c.args.roots.now c.args.other_roots.now c.args.out.now c.args.other_out.now p.0 p.1 p.2 _ _ _ _ _ refl refl (refl, λ b h. get_or-replicate 256 b 0 0 h) refl (refl, λ k h. get_or-replicate 128 k 0 0 h) p.3
