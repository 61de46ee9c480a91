-- `rounds::colours::left_colours` meets its contract: the types and the roots that are handed on are the model's. Assumes nothing.
use Rattle.std.proofs.Common.{arith, rules, ap, length}
use Rattle.stored.proofs.Laws.Reading.{reads_formed}
use Rattle.rounds.proofs.Laws.Parts.{types_few, roots_few}
use Rattle.rounds.proofs.Laws.Colours.{left_written}
use Rattle.rounds.proofs.colours.left_colours.Goals as goal

pub write_colours-requires-clause-room : goal.write_colours-requires-clause-room
write_colours-requires-clause-room c = omega (arith, c.requires, ap length c.roots-roots.ensures, (reads_formed _ _ c.args.left.now.reads).roots_length)

pub write_colours-requires-clause-callable : goal.write_colours-requires-clause-callable
write_colours-requires-clause-callable c =
    let w = reads_formed _ _ c.args.left.now.reads in
    let few = types_few _ w _ c.types-types.ensures in
    let short = roots_few _ w _ c.roots-roots.ensures in
    search rules

pub returns : goal.returns
returns c = left_written _ (reads_formed _ _ c.args.left.now.reads) _ _ c.types-types.ensures c.roots-roots.ensures _ _ _ (c.write_colours.ensures _ (λ x k h e. search rules))
