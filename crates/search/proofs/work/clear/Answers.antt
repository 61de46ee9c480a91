-- `search::work::clear` meets its contract: the front is filled with zeros. Assumes nothing.
use Rattle.search.proofs.Laws.Work.{cleared_front}
use Rattle.search.proofs.work.clear.Goals as goal

pub returns : goal.returns
returns c = cleared_front _ _ _ c.requires (c.fill.ensures.after (λ y e. e))
