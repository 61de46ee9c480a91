-- `search::choices::candidate` meets its contract: the roots of the file are handed on. Assumes nothing.
use Rattle.stored.proofs.Laws.Reading.{reads_formed}
use Rattle.search.proofs.Laws.Choices.{candidate_is}
use Rattle.search.proofs.choices.candidate.Goals as goal

pub returns : goal.returns
returns c = candidate_is _ (reads_formed _ _ c.args.right.now.reads) _ c.roots.ensures _ _ c.rep_from.ensures
