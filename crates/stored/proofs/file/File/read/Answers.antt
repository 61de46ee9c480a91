use Rattle.std.proofs.lemmas.Result.{err_from_is_err_and}
use Rattle.stored.proofs.Laws.Reading.{reading_reads, reading_faults}
use Rattle.stored.proofs.file.File.read.Goals as goal

pub returns-in_err-layout : goal.returns-in_err-layout
returns-in_err-layout c =
    let p = err_from_is_err_and c.from_residual.result c.from_residual.ensures.1 in rw (p.1, p.2) (reading_faults _ _ c.in_err-layout.ensures)

pub invariant_of-result : goal.invariant_of-result
invariant_of-result c = record { reads = reading_reads _ _ c.in_ok-layout.ensures }
