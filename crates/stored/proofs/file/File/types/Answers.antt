use native.Mathlib.Omega.{arith}
use Rattle.stored.proofs.Laws.Reading.{types_inside}
use Rattle.stored.proofs.Laws.File.{types_between}
use Rattle.stored.proofs.file.File.types.Goals as goal

pub overflow_add-end : goal.overflow_add-end
overflow_add-end c = omega (arith, types_inside _ _ c.args.self.now.reads)

pub slice_bounds-result-end : goal.slice_bounds-result-end
slice_bounds-result-end c = types_inside _ _ c.args.self.now.reads

pub returns : goal.returns
returns c = types_between _ _ c.args.self.now.reads
