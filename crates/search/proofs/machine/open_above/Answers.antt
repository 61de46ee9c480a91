-- `search::machine::open_above` meets its contract: the part of the lent work for the choices is handed on, and comes back. Assumes nothing.
use Rattle.search.proofs.Laws.Refine.{choices_back, back_opened, back_kept}
use Rattle.search.proofs.machine.open_above.Goals as goal

pub returns : goal.returns
returns c =
    let back = choices_back c.args.work.now c.open_choice.new.choices c.requires.0 c.open_choice.auto.choices in
    record { opened = back_opened back c.open_choice.ensures; kept = back_kept back }
