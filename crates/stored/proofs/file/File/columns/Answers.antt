use native.Mathlib.Omega.{arith}
use Rattle.stored.proofs.Laws.File.{few, its_columns}
use Rattle.stored.proofs.file.File.columns.Goals as goal

pub offset_bounds-self-k : goal.offset_bounds-self-k
offset_bounds-self-k c = omega (arith, few _ _ c.args.self.now.reads _ c.requires)

pub bounds-self-k : goal.bounds-self-k
bounds-self-k c = few _ _ c.args.self.now.reads _ c.requires

pub overflow_sub-end : goal.overflow_sub-end
overflow_sub-end c = omega (arith, (its_columns _ _ c.args.self.now.reads _ c.requires).room)

pub offset_bounds-self-k-2 : goal.offset_bounds-self-k-2
offset_bounds-self-k-2 c = omega (arith, few _ _ c.args.self.now.reads _ c.requires)

pub bounds-self-k-2 : goal.bounds-self-k-2
bounds-self-k-2 c = few _ _ c.args.self.now.reads _ c.requires

pub overflow_sub-start : goal.overflow_sub-start
overflow_sub-start c = omega (arith, (its_columns _ _ c.args.self.now.reads _ c.requires).room)

pub slice_bounds-result-end : goal.slice_bounds-result-end
slice_bounds-result-end c = (its_columns _ _ c.args.self.now.reads _ c.requires).inside

pub returns : goal.returns
returns c = (its_columns _ _ c.args.self.now.reads _ c.requires).same
