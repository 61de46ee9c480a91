-- `rounds::round::prepare` meets its contract: the colours of both sides are written at the end of the board, then the cells are numbered by them. Assumes nothing.
use Prim.Native.Nat.{ℕ}
use mathlib.Core.Path.{◌≡◌}
use mathlib.Core.List.{List}
use lib.ListN.{length}
use Rattle.stored.specs.declared.matched.Matched.{Matched}
use Rattle.stored.specs.Model.{size}
use Rattle.stored.specs.File.{held}
use Rattle.stored.proofs.Laws.Reading.{reads_formed}
use Rattle.rounds.specs.Board.{Board}
use Rattle.rounds.proofs.Laws.Prepare.{Given, left_fits, right_fits, coloured, same_long, prepared}
use Rattle.rounds.proofs.round.prepare.Goals as goal

-- what the function is called with
given :
    (b : Matched) {cells : ℕ} {w : List ℕ} (left right : List ℕ)
    → Board (held b.left) (held b.right) cells w × (length left ≡ size (held b.left)) × (length right ≡ size (held b.right))
    → Given (held b.left) (held b.right) cells w left right
given b left right p = record { formed = reads_formed _ _ b.left.reads; right_formed = reads_formed _ _ b.right.reads; one = b.one_signature; board = p.0; many = p.1; right_many = p.2 }

pub write_colours-requires : goal.write_colours-requires
write_colours-requires c =
    let p = c.requires in
    let g = given c.args.both.now c.args.left_colours.now c.args.right_colours.now p in
    left_fits _ _ _ _ _ _ g

pub write_colours-requires-2 : goal.write_colours-requires-2
write_colours-requires-2 c =
    let p = c.requires in
    let g = given c.args.both.now c.args.left_colours.now c.args.right_colours.now p in
    right_fits _ _ _ _ _ _ g _ c.write_colours.ensures

pub number_cells-requires : goal.number_cells-requires
number_cells-requires c =
    let p = c.requires in
    let g = given c.args.both.now c.args.left_colours.now c.args.right_colours.now p in
    let b = coloured _ _ _ _ _ _ g _ c.write_colours.ensures _ c.write_colours-2.ensures in
    (b.listed, b.empty, b.as_many, b.laid)

pub shape_of-board : goal.shape_of-board
shape_of-board c =
    let p = c.requires in
    let g = given c.args.both.now c.args.left_colours.now c.args.right_colours.now p in
    same_long _ _ _ _ _ _ g _ c.write_colours.ensures _ c.write_colours-2.ensures _ c.number_cells.ensures.numbers c.number_cells.ensures.kept

pub returns : goal.returns
returns c =
    let p = c.requires in
    let g = given c.args.both.now c.args.left_colours.now c.args.right_colours.now p in
    prepared _ _ _ _ _ _ g _ c.write_colours.ensures _ c.write_colours-2.ensures _ c.number_cells.ensures.numbers c.number_cells.ensures.kept
