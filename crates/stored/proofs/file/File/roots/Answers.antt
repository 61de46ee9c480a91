use native.Mathlib.Omega.{arith}
use Rattle.stored.proofs.Laws.Reading.{roots_inside}
use Rattle.stored.proofs.Laws.File.{roots_between}
use Rattle.stored.proofs.file.File.roots.Goals as goal

pub overflow_add-end : goal.overflow_add-end
overflow_add-end c = omega (arith, roots_inside _ _ c.args.self.now.reads)

pub slice_bounds-result-end : goal.slice_bounds-result-end
slice_bounds-result-end c = roots_inside _ _ c.args.self.now.reads

pub returns : goal.returns
returns c = roots_between _ _ c.args.self.now.reads
