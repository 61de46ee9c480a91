-- `rounds::group::bucket_of` meets its contract: a small mark can be multiplied. Assumes nothing.
use Rattle.rounds.proofs.Laws.Holders.{bucket_is}
use Rattle.rounds.proofs.group.bucket_of.Goals as goal

pub returns : goal.returns
returns c = bucket_is _ _
