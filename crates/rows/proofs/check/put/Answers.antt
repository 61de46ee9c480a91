-- `rows::check::put` meets its contract: what is copied stands over the front of the output. Assumes nothing.
use Rattle.lists.specs.Part.{over}
use Rattle.rows.proofs.check.put.Goals as goal

pub returns : goal.returns
unfolding over
returns c = cc
