use Rattle.stored.proofs.Laws.Reading.{relations_is}
use Rattle.stored.proofs.file.File.relations.Goals as goal

pub returns : goal.returns
returns c = relations_is _ _ c.args.self.now.reads
