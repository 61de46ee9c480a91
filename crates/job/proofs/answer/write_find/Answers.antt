-- What find answers, and the first entries of its output, are what the line of the call holds.
use mathlib.Core.Path.{refl}
use Rattle.job.proofs.Laws.Line.{added_as}
use Rattle.job.proofs.Laws.Found.{line_of_find}
use Rattle.job.proofs.answer.write_find.Goals as goal

pub returns : goal.returns
returns c =
    added_as c.write_answer.ensures
    (line_of_find _ _ _ _ _ _ _ _ c.find_with_pairs-answer.ensures.output c.map_length-n.result c.find_with_pairs-answer.result refl refl c.find_with_pairs-answer.ensures.answer c.map_length-n.ensures.is)
