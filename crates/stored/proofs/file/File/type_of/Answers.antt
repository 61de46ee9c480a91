use Rattle.stored.proofs.Laws.Reading.{types_is}
use Rattle.stored.proofs.file.File.type_of.Goals as goal

pub type_of-requires : goal.type_of-requires
type_of-requires c = let reads = c.args.self.now.reads in (reads.accepted, types_is _ _ reads)
