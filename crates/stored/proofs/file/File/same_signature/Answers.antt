use mathlib.Core.Path.{sym, ◌∙◌, ap}
use mathlib.Core.Bool.{not}
use mathlib.Core.List.{[]}
use native.Mathlib.Omega.{arith}
use lib.ListN.{length}
use Rattle.lists.proofs.Laws.Every.{pairs_passed, pairs_failed, pairs_over}
use Rattle.stored.proofs.Laws.Signature.{types_apart, relations_apart, as_columns, columns_from, columns_compared, signature_length}
use Rattle.stored.specs.File.{held}
use Rattle.stored.proofs.file.File.same_signature.Goals as goal

pub returns-then-types : goal.returns-then-types
returns-then-types c = types_apart _ _ (λ e. c.if-types.true (ap length c.types.ensures ∙ e ∙ sym (ap length c.types-2.ensures)))

pub returns-then-relations : goal.returns-then-relations
returns-then-relations c = relations_apart _ _ (cc c.if-types.false) (λ e. c.if-relations.true (c.relations.ensures ∙ e ∙ sym c.relations-2.ensures))

pub loop-k-init : goal.loop-k-init
loop-k-init c = columns_from _ _ (cc c.if-relations.false)

pub returns-then-ne : goal.returns-then-ne
returns-then-ne c =
    pairs_failed c.loop-k.invariant [] [] (omega (arith, signature_length (held c.args.self.now))) (columns_compared _ _ _ _ _ _ c.columns.ensures c.columns-in-loop-k.ensures c.ne.ensures ∙ ap not c.if-ne.true)
    ∙ as_columns _ _ (cc c.if-types.false)

pub loop-k-preserved : goal.loop-k-preserved
loop-k-preserved c =
    pairs_passed c.loop-k.invariant [] [] (omega (arith, signature_length (held c.args.self.now))) (columns_compared _ _ _ _ _ _ c.columns.ensures c.columns-in-loop-k.ensures c.ne.ensures ∙ ap not c.if-ne.false)

pub returns : goal.returns
returns c = pairs_over c.loop-k.invariant (omega (arith, signature_length (held c.args.self.now))) ∙ as_columns _ _ (cc c.if-types.false)
