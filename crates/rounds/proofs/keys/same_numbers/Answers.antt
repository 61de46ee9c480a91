-- `rounds::keys::same_numbers` meets its contract: the table is empty, counts the numbers of one segment, those of the other are taken off, and it is empty again. Assumes nothing.
use Rattle.rounds.proofs.Laws.Keys.{pair_uneven, pair_enough, pair_missing, pair_mine, pair_counts, pair_cleared}
use Rattle.rounds.proofs.keys.same_numbers.Goals as goal

pub returns-then-end-from-clause-answer : goal.returns-then-end-from-clause-answer
returns-then-end-from-clause-answer c = pair_uneven _ _ _ _ _ c.requires c.if-end-from.true

pub returns-then-count_down : goal.returns-then-count_down
returns-then-count_down c =
    let it = pair_enough _ _ _ _ _ c.requires c.if-end-from.false _ (c.count_up.ensures.counts, c.count_up.ensures.kept) _ c.count_down.ensures.kept (c.count_down.ensures.enough c.if-count_down.true) in
    record { answer = it.0; kept = it.1 }

pub clear_counts-requires : goal.clear_counts-requires
clear_counts-requires c = (pair_mine _ _ _ _ _ c.requires c.if-end-from.false _ (c.count_up.ensures.counts, c.count_up.ensures.kept) _ c.count_down.ensures.kept, pair_counts _ _ _ _ _ c.requires c.if-end-from.false _ (c.count_up.ensures.counts, c.count_up.ensures.kept) _ c.count_down.ensures.kept c.count_down.ensures.fewer)

pub returns : goal.returns
returns c = record { answer = pair_missing _ _ _ _ _ c.requires c.if-end-from.false _ (c.count_up.ensures.counts, c.count_up.ensures.kept) _ c.count_down.ensures.kept (c.count_down.ensures.missing c.if-count_down.false); kept = pair_cleared _ _ _ _ _ c.requires c.if-end-from.false _ (c.count_up.ensures.counts, c.count_up.ensures.kept) _ c.count_down.ensures.kept _ (c.clear_counts.ensures.emptied, c.clear_counts.ensures.kept) }
