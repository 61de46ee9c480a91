-- `search::machine::try_latest` meets its contract: the part of the lent work for the choices is handed on, and comes back. Assumes nothing.
use Rattle.search.proofs.Laws.Refine.{choices_back, back_looked, back_kept}
use Rattle.search.proofs.machine.try_latest.Goals as goal

pub returns : goal.returns
returns c = record { looked = back_looked ((choices_back c.args.work.now c.try_choice.new.choices c.requires.0 c.try_choice.auto.choices)) c.try_choice.ensures; kept = back_kept ((choices_back c.args.work.now c.try_choice.new.choices c.requires.0 c.try_choice.auto.choices)) }
