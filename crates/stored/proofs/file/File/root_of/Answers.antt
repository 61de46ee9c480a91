use Rattle.stored.proofs.Laws.Reading.{roots_is}
use Rattle.stored.proofs.file.File.root_of.Goals as goal

pub root_of-requires : goal.root_of-requires
root_of-requires c = let reads = c.args.self.now.reads in (reads.accepted, roots_is _ _ reads, c.requires)
