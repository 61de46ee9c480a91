use mathlib.Core.Path.{sym, ◌∙◌, ap}
use Rattle.std.proofs.lemmas.Result.{err_from_is_err_and}
use Rattle.lists.specs.Numbers.{sum}
use Rattle.stored.specs.File.{held}
use Rattle.stored.proofs.Laws.Reading.{reads_formed}
use Rattle.rows.proofs.Laws.Pairs.{pair_by_types}
use Rattle.search.proofs.pairs.pairs_hold.Invariants.{done, bad, more}
use Rattle.search.proofs.pairs.pairs_hold.Goals as goal

pub pair_at-requires : goal.pair_at-requires
pair_at-requires c =
    let e = c.types-types.ensures in
    let f = c.types-other_types.ensures in
    (rw e (reads_formed _ _ c.args.left.now.reads).few_types, rw f (reads_formed _ _ c.args.right.now.reads).few_types, c.size-n.ensures ∙ ap sum (sym e), c.size-other_n.ensures ∙ ap sum (sym f), c.loop-place-test.true)

pub returns-in_err-pair_at : goal.returns-in_err-pair_at
returns-in_err-pair_at c =
    let p = err_from_is_err_and c.from_residual.result c.from_residual.ensures.1 in
    rw (p.1, p.2) (bad c.loop-place.invariant c.loop-place-test.true _ (sym (pair_by_types (held c.args.left.now) (held c.args.right.now) _ _ c.types-types.ensures c.types-other_types.ensures c.in_err-pair_at.ensures)))

pub loop-place-preserved : goal.loop-place-preserved
loop-place-preserved c = more c.loop-place.invariant c.loop-place-test.true (sym (pair_by_types (held c.args.left.now) (held c.args.right.now) _ _ c.types-types.ensures c.types-other_types.ensures c.in_ok-pair_at.ensures))

pub returns : goal.returns
returns c = done c.loop-place.invariant c.loop-place-test.false
