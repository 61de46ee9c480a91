-- `rounds::keys::same_places` meets its contract: the places of each element are a segment of the numbers. Assumes nothing.
use mathlib.Core.Path.{refl}
use Rattle.rounds.proofs.Laws.Segments.{segment_of}
use Rattle.rounds.proofs.keys.same_places.Goals as goal

pub same_numbers-requires : goal.same_numbers-requires
same_numbers-requires c = let p = c.requires in (segment_of _ _ p.0 _ _ _ p.1 refl c.end_of-end.ensures, segment_of _ _ p.0 _ _ _ p.2 refl c.end_of-other_end.ensures, p.0.empty)
