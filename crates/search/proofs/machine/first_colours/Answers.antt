-- `search::machine::first_colours` meets its contract: the colours that are written over the fronts of two rows are those of both sides. In what follows k
-- is the place where the left row is made, v the place after its front is written, o the place where the right row is made. Assumes nothing.
use mathlib.Core.Path.{refl}
use Rattle.search.proofs.Laws.Start.{first_sides_lem, first_rows}
use Rattle.search.proofs.machine.first_colours.Goals as goal

pub returns : goal.returns
returns c =
    let p = c.requires in
    record { colours = first_sides_lem _ _ _ _ c.args.both.now.left.reads c.args.both.now.right.reads _ _ refl refl _ _ _ _ c.left_colours.ensures c.right_colours.ensures; shape = first_rows _ _ _ _ c.args.both.now.left.reads c.args.both.now.right.reads _ _ refl refl _ _ _ _ c.left_colours.ensures c.right_colours.ensures }
