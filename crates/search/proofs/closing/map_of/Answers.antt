-- `search::closing::map_of` meets its contract: the roots of both files are handed on, and the images by them are those of the models. Assumes nothing.
use mathlib.Core.Path.{ap}
use native.Mathlib.Omega.{arith}
use lib.ListN.{length}
use Rattle.stored.proofs.Laws.Reading.{reads_formed}
use Rattle.rounds.proofs.Laws.Parts.{roots_few}
use Rattle.search.proofs.Laws.Closing.{map_written}
use Rattle.search.proofs.closing.map_of.Goals as goal

pub write_map-requires : goal.write_map-requires
write_map-requires c =
    let b = c.args.both.now in
    (omega (arith, c.requires, ap length c.roots-roots.ensures, (reads_formed _ _ b.left.reads).roots_length), roots_few _ (reads_formed _ _ b.right.reads) _ c.roots-other_roots.ensures)

pub returns : goal.returns
returns c = let b = c.args.both.now in map_written _ _ _ _ b.left.reads b.right.reads _ _ _ _ c.roots-roots.ensures c.roots-other_roots.ensures _ _ c.write_map.ensures
