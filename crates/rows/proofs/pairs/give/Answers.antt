use Rattle.rows.proofs.pairs.give.Goals.{In_ok-pair_at}
use mathlib.Core.Path.{sym, ◌∙◌, ap}
use native.Mathlib.Omega.{arith}
use Rattle.std.proofs.lemmas.Result.{err_from_is_err_and}
use Rattle.lists.specs.Numbers.{sum}
use Rattle.stored.specs.File.{held}
use Rattle.stored.proofs.Laws.Reading.{reads_formed}
use Rattle.rows.proofs.Laws.Pairs.{pair_by_types}
use Rattle.rows.proofs.pairs.give.Invariants.{GoodPair, good_pair, done, bad, stop, more}
use Rattle.rows.proofs.pairs.give.Goals as goal

good : (c : In_ok-pair_at) → GoodPair (held c.args.source.now) (held c.args.target.now) c.roots-roots.result.now c.roots-other_roots.result.now c.args.pairs.now c.loop-place.place
good c = good_pair _ _ (reads_formed _ _ c.args.source.now.reads) (reads_formed _ _ c.args.target.now.reads) _ _ c.roots-roots.ensures c.roots-other_roots.ensures _ _ c.loop-place-test.true (pair_by_types (held c.args.source.now) (held c.args.target.now) _ _ c.types-types.ensures c.types-other_types.ensures c.in_ok-pair_at.ensures)

pub pair_at-requires : goal.pair_at-requires
pair_at-requires c =
    let e = c.types-types.ensures in
    let f = c.types-other_types.ensures in
    (rw e (reads_formed _ _ c.args.source.now.reads).few_types, rw f (reads_formed _ _ c.args.target.now.reads).few_types, c.size-n.ensures ∙ ap sum (sym e), c.size-other_n.ensures ∙ ap sum (sym f), c.loop-place-test.true)

pub returns-in_err-pair_at : goal.returns-in_err-pair_at
returns-in_err-pair_at c =
    let p = err_from_is_err_and c.from_residual.result c.from_residual.ensures.1 in
    rw (p.1, p.2) (bad _ _ _ _ _ _ c.loop-place.invariant c.loop-place-test.true _ (sym (pair_by_types (held c.args.source.now) (held c.args.target.now) _ _ c.types-types.ensures c.types-other_types.ensures c.in_err-pair_at.ensures)))

pub bounds-roots-pairs : goal.bounds-roots-pairs
bounds-roots-pairs c = (good (goal.at.bounds-roots-pairs c).In_ok-pair_at).left_inside

pub bounds-other_roots-pairs : goal.bounds-other_roots-pairs
bounds-other_roots-pairs c = (good (goal.at.bounds-other_roots-pairs c).In_ok-pair_at).right_inside

pub conflict-requires : goal.conflict-requires
conflict-requires c = omega (arith, (good (goal.at.conflict-requires c).In_ok-pair_at).root_known, c.loop-place.invariant.long, c.requires)

pub returns-then-conflict : goal.returns-then-conflict
returns-then-conflict c = stop _ _ _ _ _ _ c.loop-place.invariant c.loop-place-test.true _ _ (good (goal.at.returns-then-conflict c).In_ok-pair_at) _ c.conflict.ensures c.if-conflict.true

pub bounds-images-x : goal.bounds-images-x
bounds-images-x c = omega (arith, (good (goal.at.bounds-images-x c).In_ok-pair_at).root_known, c.loop-place.invariant.long, c.requires)

pub loop-place-preserved : goal.loop-place-preserved
loop-place-preserved c = more _ _ _ _ _ _ c.loop-place.invariant c.loop-place-test.true _ _ (good (goal.at.loop-place-preserved c).In_ok-pair_at) _ c.conflict.ensures c.if-conflict.false

pub returns : goal.returns
returns c = done _ _ _ _ _ _ c.loop-place.invariant (omega arith)
