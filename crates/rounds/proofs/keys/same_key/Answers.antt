-- `rounds::keys::same_key` meets its contract: colours are compared first, then places. Assumes nothing.
use mathlib.Core.Path.{◌∙◌}
use Rattle.rounds.proofs.Laws.Keys.{alike_differ, alike_counted}
use Rattle.rounds.proofs.keys.same_key.Goals as goal

pub returns-then-own-other-clause-answer : goal.returns-then-own-other-clause-answer
returns-then-own-other-clause-answer c = alike_differ c.args.cells c.args.board.now c.args.x c.args.y c.colour_of-own.result c.colour_of-other.result c.colour_of-own.ensures c.colour_of-other.ensures c.if-own-other.true

pub returns-clause-answer : goal.returns-clause-answer
returns-clause-answer c = c.same_places.ensures.answer ∙ alike_counted c.args.cells c.args.board.now c.args.x c.args.y c.colour_of-own.result c.colour_of-other.result c.colour_of-own.ensures c.colour_of-other.ensures c.if-own-other.false
