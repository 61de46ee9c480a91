-- `rounds::classes::lowest_of` meets its contract: the roots that are handed on are the model's. Assumes nothing.
use mathlib.Core.Path.{◌∙◌}
use Rattle.stored.proofs.Laws.Reading.{reads_formed}
use Rattle.rounds.proofs.Laws.Parts.{lowest_handed}
use Rattle.rounds.proofs.classes.lowest_of.Goals as goal

pub returns : goal.returns
returns c = c.lowest_in.ensures ∙ lowest_handed _ (reads_formed _ _ c.args.file.now.reads) _ c.roots.ensures _ _
