use Rattle.rounds.proofs.counts.counts_in.Goals.{then-is_rep, else-is_rep}
use mathlib.Core.Path.{refl}
use native.Mathlib.Omega.{arith}
use Rattle.rounds.proofs.Laws.Counts.{counts_none}
use Rattle.rounds.proofs.counts.counts_in.Invariants.{start, an_alias, below, not_full, a_rep}
use Rattle.rounds.proofs.counts.counts_in.Goals as goal

pub loop-x-init : goal.loop-x-init
loop-x-init c = start _ _ _ c.requires (counts_none _ refl)

pub bounds-table-k : goal.bounds-table-k
bounds-table-k c = below _ _ _ _ c.loop-x.invariant c.loop-x-test.true _ c.is_rep.ensures c.if-is_rep.true _ c.colour_at-k.ensures

pub overflow_add-table : goal.overflow_add-table
overflow_add-table c = omega (arith, not_full _ _ _ _ c.loop-x.invariant c.loop-x-test.true _ c.is_rep.ensures c.if-is_rep.true _ c.colour_at-k.ensures)

pub bounds-table-k-then-is_rep : goal.bounds-table-k-then-is_rep
bounds-table-k-then-is_rep c = below _ _ _ _ c.loop-x.invariant c.loop-x-test.true _ c.is_rep.ensures c.if-is_rep.true _ c.colour_at-k.ensures

pub loop-x-preserved : goal.loop-x-preserved
loop-x-preserved c =
    elim c.if-is_rep.branch [
      | then-is_rep w ↦ a_rep _ _ _ _ c.loop-x.invariant c.loop-x-test.true _ c.is_rep.ensures w.if-is_rep.true _ w.colour_at-k.ensures _ w.table-is
      | else-is_rep w ↦ an_alias _ _ _ _ c.loop-x.invariant c.loop-x-test.true _ c.is_rep.ensures w.if-is_rep.false _ w.table-is
    ]
