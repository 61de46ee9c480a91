use native.Mathlib.Omega.{arith}
use Rattle.rounds.proofs.numbers.same_line.Invariants.{done, stop, more}
use Rattle.rounds.proofs.numbers.same_line.Goals as goal

pub returns-then-x-y : goal.returns-then-x-y
returns-then-x-y c = stop c.args.board.now c.args.p c.args.q c.args.arity (omega arith) (omega arith) _ c.loop-j.invariant c.loop-j-test.true _ _ c.colour_of-x.ensures c.colour_of-y.ensures c.if-x-y.true

pub loop-j-preserved : goal.loop-j-preserved
loop-j-preserved c = more c.args.board.now c.args.p c.args.q c.args.arity (omega arith) (omega arith) _ c.loop-j.invariant c.loop-j-test.true _ _ c.colour_of-x.ensures c.colour_of-y.ensures c.if-x-y.false

pub returns : goal.returns
returns c = done c.args.board.now c.args.p c.args.q c.args.arity (omega arith) (omega arith) _ c.loop-j.invariant c.loop-j-test.false
