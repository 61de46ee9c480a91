-- `rounds::counts::count_both` meets its contract: the roots that are handed on are those of the models. Assumes nothing.
use mathlib.Core.Path.{◌∙◌}
use Rattle.stored.proofs.Laws.Reading.{reads_formed}
use Rattle.rounds.proofs.Laws.Parts.{roots_few}
use Rattle.rounds.proofs.Laws.Counts.{tables_equal, small_handed, counts_handed, count_handed, equal_handed}
use Rattle.rounds.proofs.counts.count_both.Goals as goal

pub counts_in-left_counts-requires : goal.counts_in-left_counts-requires
counts_in-left_counts-requires c =
    let w = reads_formed _ _ c.args.left.now.reads in
    (roots_few _ w _ c.roots.ensures, small_handed _ w _ c.roots.ensures _ c.requires.2)

pub counts_in-right_counts-requires : goal.counts_in-right_counts-requires
counts_in-right_counts-requires c =
    let w = reads_formed _ _ c.args.right.now.reads in
    (roots_few _ w _ c.roots-2.ensures, small_handed _ w _ c.roots-2.ensures _ c.requires.3)

pub returns : goal.returns
returns c =
    let v = reads_formed _ _ c.args.left.now.reads in
    let w = reads_formed _ _ c.args.right.now.reads in
    let e = c.roots.ensures in
    let f = c.roots-2.ensures in
    record {
      equal = c.eq.ensures ∙ tables_equal _ _ ∙ equal_handed _ v _ e _ _ w _ f _ _ _ c.counts_in-left_counts.ensures c.counts_in-right_counts.ensures;
      count = c.filled-count.ensures ∙ count_handed _ v _ e _ _ c.counts_in-left_counts.ensures;
      table = counts_handed _ v _ e _ _ c.counts_in-left_counts.ensures;
    }
