-- `rows::maps::no_images` meets its contract: its sixty-four entries are 255. Assumes nothing.
use mathlib.Core.Path.{refl}
use Rattle.rows.specs.Check.{blank}
use Rattle.rows.proofs.maps.no_images.Goals as goal

pub returns : goal.returns
unfolding blank
returns c = refl
