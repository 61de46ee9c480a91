-- `rounds::classes::class_count` meets its contract: the roots that are handed on are the model's. Assumes nothing.
use mathlib.Core.Path.{◌∙◌, ap}
use lib.ListN.{length}
use Rattle.stored.proofs.Laws.Reading.{reads_formed}
use Rattle.rounds.proofs.Laws.Parts.{reps_handed}
use Rattle.rounds.proofs.classes.class_count.Goals as goal

pub returns : goal.returns
returns c = c.rep_count.ensures ∙ ap length (reps_handed _ (reads_formed _ _ c.args.file.now.reads) _ c.roots.ensures)
