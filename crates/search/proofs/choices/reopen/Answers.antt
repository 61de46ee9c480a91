use Prim.Native.Nat.{◌+◌, ◌-◌}
use mathlib.Core.Path.{◌≡◌}
use native.Mathlib.Omega.{arith}
use Rattle.stored.proofs.Laws.Reading.{size_is}
use Rattle.search.proofs.Laws.Choices.{closed_found, closed_more}
use Rattle.search.proofs.choices.reopen.Goals as goal

pub returns-then-y-n : goal.returns-then-y-n
returns-then-y-n c =
    let e : c.loop-latest.latest - 1 + 1 ≡ c.loop-latest.latest = omega arith in
    rw e (closed_found c.loop-latest.invariant c.loop-latest-test.true _ _ c.candidate-y.ensures (size_is _ _ c.args.right.now.reads) c.if-y-n.true)

pub loop-latest-preserved : goal.loop-latest-preserved
loop-latest-preserved c = closed_more c.loop-latest.invariant c.loop-latest-test.true _ _ c.candidate-y.ensures (size_is _ _ c.args.right.now.reads) c.if-y-n.false
