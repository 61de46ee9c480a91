-- The invariant is `Mapping`: the words so far are put.
use Rattle.job.specs.Line.{decimal}
use Rattle.job.proofs.Laws.Line.{Mapping}
use Rattle.job.proofs.line.put_values.Given as goal

abbrev pub invariant-loop-n : goal.invariant-loop-n
invariant-loop-n l = Mapping decimal l.initial.line l.values l.at l.line l.end l.n-index
