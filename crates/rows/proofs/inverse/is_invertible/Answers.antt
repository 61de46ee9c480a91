-- `rows::inverse::is_invertible` meets its contract: each return is one case of `invertible`. Assumes nothing.
use mathlib.Core.Path.{sym, ◌∙◌}
use Rattle.stored.proofs.Laws.Reading.{reads_formed}
use Rattle.rows.proofs.Laws.Given.{few_roots}
use Rattle.rows.proofs.Laws.Outcome.{holds, fails}
use Rattle.rows.proofs.Laws.Inverse.{onto_handed, not_one_to_one, not_onto, by_counts}
use Rattle.rows.proofs.inverse.is_invertible.Goals as goal

pub returns-then-not-one_to_one : goal.returns-then-not-one_to_one
returns-then-not-one_to_one c = sym (not_one_to_one _ _ _ (fails c.one_to_one.ensures c.if-not-one_to_one.true-raw))

pub is_onto-requires : goal.is_onto-requires
is_onto-requires c = few_roots (reads_formed _ _ c.args.target.now.reads) c.roots.ensures

pub returns-then-not-is_onto : goal.returns-then-not-is_onto
returns-then-not-is_onto c =
    let handed = onto_handed (reads_formed _ _ c.args.target.now.reads) c.roots.ensures _ in
    sym (not_onto _ _ _ (holds c.one_to_one.ensures c.if-not-one_to_one.false-raw) (fails (c.is_onto.ensures ∙ handed) c.if-not-is_onto.true-raw))

pub returns : goal.returns
returns c =
    let handed = onto_handed (reads_formed _ _ c.args.target.now.reads) c.roots.ensures _ in
    c.same_counts.ensures ∙ sym (by_counts _ _ _ (holds c.one_to_one.ensures c.if-not-one_to_one.false-raw) (holds (c.is_onto.ensures ∙ handed) c.if-not-is_onto.false-raw))
