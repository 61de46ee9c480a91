use Rattle.search.proofs.pairs.write_pairs_under.Goals.{then-is_rep, else-is_rep}
use Rattle.search.proofs.pairs.write_pairs_under.Invariants.{start, pair, none}
use Rattle.search.proofs.pairs.write_pairs_under.Goals as goal

pub loop-x-init : goal.loop-x-init
loop-x-init c = start _ _ _ _ c.requires

pub loop-x-preserved : goal.loop-x-preserved
loop-x-preserved c =
    elim c.if-is_rep.branch [
      | then-is_rep w ↦ pair c.loop-x.invariant c.loop-x-test.true c.is_rep.ensures w.if-is_rep.true w.look-y.ensures w.look-z.ensures w.out-is w.n-is
      | else-is_rep w ↦ none c.loop-x.invariant c.loop-x-test.true c.is_rep.ensures w.if-is_rep.false w.out-is w.n-is
    ]
