use native.Mathlib.Omega.{arith}
use Rattle.rounds.proofs.Laws.Numbering.{still_listed, still_empty}
use Rattle.rounds.proofs.numbers.number_cells.Invariants.{start, done, fits, small, few_rows, more}
use Rattle.rounds.proofs.numbers.number_cells.Goals as goal

pub loop-k-init : goal.loop-k-init
loop-k-init c =
    let b = c.args.both.now in
    let p = c.requires in
    start _ _ _ _ _ _ (b.left.reads, b.right.reads, b.one_signature) p.0 p.1 p.2 p.3

pub overflow_add-rows : goal.overflow_add-rows
overflow_add-rows c = omega (arith, few_rows _ _ _ _ _ _ _ _ _ c.loop-k.invariant c.loop-k-test.true)

pub number_relation-requires : goal.number_relation-requires
number_relation-requires c = (still_listed _ _ _ _ _ _ c.loop-k.invariant.numbering, fits _ _ _ _ _ _ _ _ _ c.loop-k.invariant c.loop-k-test.true, still_empty _ _ _ _ _ _ c.loop-k.invariant.numbering)

pub overflow_mul-at : goal.overflow_mul-at
overflow_mul-at c = omega (arith, small _ _ _ _ _ _ _ _ _ c.loop-k.invariant c.loop-k-test.true)

pub overflow_add-at : goal.overflow_add-at
overflow_add-at c = omega (arith, small _ _ _ _ _ _ _ _ _ c.loop-k.invariant c.loop-k-test.true)

pub loop-k-preserved : goal.loop-k-preserved
loop-k-preserved c = more _ _ _ _ _ _ _ _ _ c.loop-k.invariant c.loop-k-test.true _ c.number_relation.ensures.numbers c.number_relation.ensures.kept

pub returns-clause-numbers : goal.returns-clause-numbers
returns-clause-numbers c = done _ _ _ _ _ _ _ _ _ c.loop-k.invariant c.loop-k-test.false
