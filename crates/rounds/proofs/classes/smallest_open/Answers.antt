-- `rounds::classes::smallest_open` meets its contract: the roots that are handed on are the model's. Assumes nothing.
use mathlib.Core.Path.{sym, ◌∙◌, subst}
use Rattle.stored.proofs.Laws.Reading.{reads_formed}
use Rattle.rounds.specs.Parts.{CountsOf}
use Rattle.rounds.proofs.Laws.Parts.{roots_few, colours_handed}
use Rattle.rounds.proofs.Laws.Classes.{open_handed}
use Rattle.rounds.proofs.classes.smallest_open.Goals as goal

pub smallest_in-requires : goal.smallest_in-requires
smallest_in-requires c = (roots_few _ (reads_formed _ _ c.args.file.now.reads) _ c.roots.ensures, c.requires)

pub returns : goal.returns
returns c colours counts =
    let w = reads_formed _ _ c.args.file.now.reads in
    c.smallest_in.ensures colours (subst (CountsOf _) (sym (colours_handed _ w _ c.roots.ensures colours)) counts) ∙ open_handed _ w _ c.roots.ensures colours
