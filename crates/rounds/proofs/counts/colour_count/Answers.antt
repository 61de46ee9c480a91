-- `rounds::counts::colour_count` meets its contract: the roots that are handed on are the model's. Assumes nothing.
use mathlib.Core.Path.{◌∙◌}
use Rattle.stored.proofs.Laws.Reading.{reads_formed}
use Rattle.rounds.proofs.Laws.Parts.{roots_few}
use Rattle.rounds.proofs.Laws.Counts.{small_handed, count_handed}
use Rattle.rounds.proofs.counts.colour_count.Goals as goal

pub counts_in-counts-requires : goal.counts_in-counts-requires
counts_in-counts-requires c =
    let w = reads_formed _ _ c.args.file.now.reads in
    (roots_few _ w _ c.roots.ensures, small_handed _ w _ c.roots.ensures _ c.requires.1)

pub returns : goal.returns
returns c = c.filled.ensures ∙ count_handed _ (reads_formed _ _ c.args.file.now.reads) _ c.roots.ensures _ _ c.counts_in-counts.ensures
