use Prim.Native.Nat.{◌<◌}
use mathlib.Core.Path.{◌≡◌, sym, ap, ◌∙◌}
use mathlib.Core.Bool.{not}
use native.Mathlib.Omega.{arith}
use lib.ListN.{length}
use Rattle.lists.proofs.Laws.First.{lowest_passed, lowest_found, lowest_over}
use Rattle.stored.specs.File.{held}
use Rattle.stored.proofs.Laws.Reading.{reads_formed}
use Rattle.rows.proofs.Laws.Rows.{lowest_unkept, kept_handed, as_many, like_columns}
use Rattle.rows.proofs.Laws.Canonical.{formed_at, rows_ascend, plain_rows}
use Rattle.rows.proofs.rows.first_unkept.Goals as goal

pub rows-others-requires : goal.rows-others-requires
rows-others-requires c = omega (arith, as_many (held c.args.source.now) (held c.args.target.now) c.requires)

pub rows_among-requires : goal.rows_among-requires
rows_among-requires c =
    let a = held c.args.source.now in
    let b = held c.args.target.now in
    let h = c.loop-k-test.true in
    let inside : c.loop-k.k < length a.relations = omega arith in
    let other : c.loop-k.k < length b.relations = omega (arith, as_many a b c.requires) in
    let formed = reads_formed _ _ c.args.target.now.reads in (
      omega (arith, c.rows-rows.ensures.arity, (formed_at a (reads_formed _ _ c.args.source.now.reads) _ inside).small_arity),
      c.rows-others.ensures.arity ∙ ap length (sym (like_columns a b c.requires _)) ∙ sym c.rows-rows.ensures.arity,
      rows_ascend b formed _ other _ c.rows-others.ensures.rows,
      plain_rows b _ other _ c.rows-others.ensures.rows _ c.roots-roots.ensures _ c.is_canonical-plain.ensures,
    )

pub returns-then-not-rows_among : goal.returns-then-not-rows_among
returns-then-not-rows_among c =
    let answer = kept_handed _ _ _ _ _ _ _ c.rows-rows.ensures.rows c.rows-others.ensures.rows c.roots-roots.ensures _ c.rows_among.ensures in
    lowest_found c.loop-k.invariant (omega arith) (ap not (answer ∙ c.if-not-rows_among.true)) ∙ lowest_unkept _ _ _

pub loop-k-preserved : goal.loop-k-preserved
loop-k-preserved c =
    let answer = kept_handed _ _ _ _ _ _ _ c.rows-rows.ensures.rows c.rows-others.ensures.rows c.roots-roots.ensures _ c.rows_among.ensures in
    lowest_passed c.loop-k.invariant (omega arith) (ap not (answer ∙ c.if-not-rows_among.false))

pub returns : goal.returns
returns c =
    let k : c.relations.result ≡ c.loop-k.k = omega arith in
    k ∙ lowest_over c.loop-k.invariant (omega arith) ∙ lowest_unkept _ _ _
