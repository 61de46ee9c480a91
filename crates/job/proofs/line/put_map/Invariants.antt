-- The invariant is `Mapping`: the words so far are put.
use Rattle.job.specs.Line.{entry}
use Rattle.job.proofs.Laws.Line.{Mapping}
use Rattle.job.proofs.line.put_map.Given as goal

abbrev pub invariant-loop-e : goal.invariant-loop-e
invariant-loop-e l = Mapping entry l.initial.line l.map l.at l.line l.end l.e-index
