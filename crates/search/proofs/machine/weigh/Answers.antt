-- `search::machine::weigh` meets its contract: two tests, and the choice that a stable round opens. Assumes nothing.
use mathlib.Core.Path.{refl}
use native.Mathlib.Omega.{arith}
use borrow.Author.Tests.{not-true, not-false}
use Rattle.stored.proofs.Laws.Reading.{reads_formed}
use Rattle.search.proofs.Laws.Refine.{weighed_dead, weighed_again, weighed_stable}
use Rattle.search.proofs.machine.weigh.Goals as goal

pub returns-then-not-balance : goal.returns-then-not-balance
returns-then-not-balance c = record { weighed = weighed_dead _ _ _ _ _ _ c.count_both-balance.ensures.equal _ _ (not-true _ c.if-not-balance.true); kept = (refl, refl, refl) }

pub returns-then-balance-before : goal.returns-then-balance-before
returns-then-balance-before c = record { weighed = weighed_again _ _ _ _ _ _ c.count_both-balance.ensures.equal _ _ (not-false _ c.if-not-balance.false) _ c.count_both-balance.ensures.count c.if-balance-before.true; kept = (refl, refl, refl) }

pub settle-requires : goal.settle-requires
settle-requires c =
    let p = c.requires in
    (p.0, omega (arith, p.1, (reads_formed _ _ c.args.both.now.right.reads).few_elements), c.count_both-balance.ensures.count, p.4, p.5, c.count_both-balance.ensures.table)

pub returns : goal.returns
returns c = record { weighed = weighed_stable _ _ _ _ _ _ c.count_both-balance.ensures.equal _ _ (not-false _ c.if-not-balance.false) _ c.count_both-balance.ensures.count c.if-balance-before.false c.requires.1 c.settle.ensures.settled _ c.settle.ensures.count; kept = c.settle.ensures.kept }
