use Rattle.stored.proofs.Laws.Reading.{size_is}
use Rattle.stored.proofs.file.File.size.Goals as goal

pub returns : goal.returns
returns c = size_is _ _ c.args.self.now.reads
