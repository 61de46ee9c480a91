-- `search::machine::settle` meets its contract: the phase is that of the class found, and a class with two or more members opens a choice. Assumes
-- nothing.
use mathlib.Core.Path.{refl}
use native.Mathlib.Omega.{arith}
use Rattle.stored.proofs.Laws.Reading.{reads_formed}
use Rattle.search.proofs.Laws.Refine.{few_colours, low_element, settled_single, settled_open}
use Rattle.search.proofs.machine.settle.Goals as goal

pub overflow_cast-x : goal.overflow_cast-x
overflow_cast-x c = omega (arith, c.lowest_of-x.ensures, low_element _ _ c.args.left.now.reads c.args.row.now c.in-Some.k.0)

pub overflow_cast-count : goal.overflow_cast-count
overflow_cast-count c = omega (arith, c.requires.2, few_colours _ _ c.args.left.now.reads c.args.row.now)

pub open_above-requires : goal.open_above-requires
open_above-requires c = (c.requires.3, c.requires.4, omega (arith, c.requires.0, (reads_formed _ _ c.args.left.now.reads).few_elements), c.requires.1)

pub returns-in-None : goal.returns-in-None
returns-in-None c = record { settled = settled_single _ _ _ _ _ _ (c.smallest_open.ensures _ c.requires.5) c.in-None.is; count = refl; kept = (refl, refl, refl) }

pub shape_of-work : goal.shape_of-work
shape_of-work c = c.open_above.ensures.kept.1

pub returns-in-Some : goal.returns-in-Some
returns-in-Some c = record { settled = settled_open _ _ _ _ _ _ (c.smallest_open.ensures _ c.requires.5) _ c.in-Some.is _ _ c.lowest_of-x.ensures c.requires.2 c.requires.0 _ c.open_above.ensures.opened; count = refl; kept = c.open_above.ensures.kept }
