-- `rounds::round::round` meets its contract: both rows are copied, recoloured in their fronts, and put together again. Assumes nothing.
use Prim.Native.Nat.{ℕ, ◌≤◌}
use mathlib.Core.Path.{◌≡◌, refl, sym, ◌∙◌}
use mathlib.Core.List.{List, []}
use native.Mathlib.Omega.{arith}
use lib.ListN.{length, take, get_or}
use lib.Seq.{length-take-le, length_front}
use Rattle.stored.specs.declared.file.File.{File}
use Rattle.stored.specs.Model.{size}
use Rattle.stored.specs.File.{held}
use Rattle.stored.proofs.Laws.Reading.{reads_formed}
use Rattle.rounds.proofs.Laws.Recoloured.{put_together}
use Rattle.rounds.proofs.round.round.Goals as goal

-- a row of 64 has room for a side of n elements
module _ (f : File) (n : ℕ) (e : n ≡ size (held f)) (row : List ℕ) (h : length row ≡ 64) where
  room : n ≤ length row
  room = omega (arith, (reads_formed _ _ f.reads).few_elements)

  front : n ≡ length (take n row)
  front = sym (length-take-le n row room)

  as_long : length (take n row) ≡ size (held f)
  as_long = sym front ∙ e

pub slice_bounds-row-end : goal.slice_bounds-row-end
slice_bounds-row-end c = room c.args.both.now.left _ c.size-n.ensures (get_or c.args.colours 0 []) c.requires.1

pub slice_bounds-recolour-end : goal.slice_bounds-recolour-end
slice_bounds-recolour-end c = front c.args.both.now.left _ c.size-n.ensures _ c.requires.1

pub slice_bounds-other-end : goal.slice_bounds-other-end
slice_bounds-other-end c = room c.args.both.now.right _ c.size-m.ensures (get_or c.args.colours 1 []) c.requires.2

pub slice_bounds-recolour-end-2 : goal.slice_bounds-recolour-end-2
slice_bounds-recolour-end-2 c = front c.args.both.now.right _ c.size-m.ensures _ c.requires.2

pub recolour-requires : goal.recolour-requires
recolour-requires c = let p = c.requires in (p.0, as_long c.args.both.now.left _ c.size-n.ensures _ p.1, as_long c.args.both.now.right _ c.size-m.ensures _ p.2)

pub returns : goal.returns
returns c =
    let p = c.requires in
    record {
      recoloured = put_together _ _ _ _ _ _ c.size-n.ensures c.size-m.ensures (room c.args.both.now.left _ c.size-n.ensures (get_or c.args.colours 0 []) p.1) (room c.args.both.now.right _ c.size-m.ensures (get_or c.args.colours 1 []) p.2) _ _ c.recolour.auto.left_colours c.recolour.auto.right_colours c.recolour.ensures.recoloured;
      shape = (refl, length_front (get_or c.args.colours 0 []) c.recolour.new.left_colours c.size-n.result c.recolour.auto.left_colours ∙ p.1, length_front (get_or c.args.colours 1 []) c.recolour.new.right_colours c.size-m.result c.recolour.auto.right_colours ∙ p.2);
      board = c.recolour.ensures.board;
    }
