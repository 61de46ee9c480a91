-- `search::machine::close` meets its contract: the map that is written over the front of a blank table is that of the colours in the fronts of both rows. In
-- what follows k is the place where the table is made, g the place after the map is written. Assumes nothing.
use Rattle.search.proofs.Laws.Start.{map_one_to_one, closed, not_closed}
use Rattle.search.proofs.machine.close.Goals as goal

pub closes-requires : goal.closes-requires
closes-requires c =
    let p = c.requires in
    (p.0, p.1, p.2, map_one_to_one _ _ _ _ c.args.both.now.left.reads c.args.both.now.right.reads c.args.colours _ c.no_images-map.ensures _ c.map_of.ensures p.3)

pub returns-then-closes : goal.returns-then-closes
returns-then-closes c =
    let it = closed _ _ _ _ c.args.both.now.left.reads c.args.both.now.right.reads c.args.colours _ c.no_images-map.ensures _ c.map_of.ensures _ c.closes.ensures c.if-closes.true _ _ c.put.ensures in
    record { answer = it.0; output = it.1 }

pub returns : goal.returns
returns c =
    let it = not_closed _ _ _ _ c.args.both.now.left.reads c.args.both.now.right.reads c.args.colours _ c.no_images-map.ensures _ c.map_of.ensures _ c.closes.ensures c.if-closes.false _ in
    record { answer = it.0; output = it.1 }
