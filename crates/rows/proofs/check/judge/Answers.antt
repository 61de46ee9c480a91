-- `rows::check::judge` meets its contract: each return is one case of images that were given. Assumes nothing.
use Prim.Native.Nat.{ℕ, ◌<◌, ◌≤◌}
use mathlib.Core.Path.{◌≡◌, sym, ◌∙◌, ap}
use mathlib.Core.List.{List}
use native.Mathlib.Omega.{arith}
use lib.ListN.{length}
use Rattle.std.proofs.Common.{Ok, Err}
use Rattle.lists.specs.First.{lowest}
use Rattle.stored.specs.declared.refusal.Refusal.TheVariants.{ImageMissing, RelationNotKept}
use Rattle.stored.specs.Model.{Model, size}
use Rattle.stored.proofs.Laws.Reading.{reads_formed}
use Rattle.stored.proofs.Laws.WellFormed.{WellFormed}
use Rattle.rows.specs.declared.answer.Ended.TheVariants as ended
use Rattle.rows.specs.Rows.{first_unkept}
use Rattle.rows.specs.Answer.{answer_of}
use Rattle.rows.specs.Check.{is_missing, first_missing, judged}
use Rattle.rows.proofs.Laws.Given.{roots_counted}
use Rattle.rows.proofs.Laws.Answer.{answer_accepted, answer_refused}
use Rattle.rows.proofs.Laws.Check.{missing_first, judged_missing, judged_unkept, judged_accepted}
use Rattle.rows.proofs.check.judge.Goals as goal

module _ (a b : Model) (f : List ℕ) (formed : WellFormed a) (roots : List ℕ) (w : roots ≡ a.roots) (m : ℕ) (e : m ≡ lowest (is_missing roots f) 0 (length roots)) (n : ℕ) (q : n ≡ size a) where
  is_missing_lem : m ≡ first_missing a f
  is_missing_lem = (rw w at e) ∙ missing_first a f formed.roots_length

  missing : m < n → Err (ImageMissing (record { 0 = m })) ≡ answer_of (judged a b f)
  missing h =
      ap (λ (x : ℕ). Err (ImageMissing (record { 0 = x }))) is_missing_lem
      ∙ sym (answer_refused _ _ (judged_missing a b f (omega (arith, is_missing_lem))))

  module _ (h : n ≤ m) (u : ℕ) (is-unkept : u ≡ first_unkept a b f) (r : ℕ) (d : r ≡ length a.relations) where
    none_missing : size a ≤ first_missing a f
    none_missing = omega (arith, is_missing_lem)

    not_kept : u < r → Err (RelationNotKept (record { 0 = u })) ≡ answer_of (judged a b f)
    not_kept g =
        ap (λ (x : ℕ). Err (RelationNotKept (record { 0 = x }))) is-unkept
        ∙ sym (answer_refused _ _ (judged_unkept a b f none_missing (omega (arith, is-unkept))))

    kept : r ≤ u → Ok ended.Accepted ≡ answer_of (judged a b f)
    kept g = sym (answer_accepted _ _ (judged_accepted a b f none_missing (omega (arith, is-unkept))))

pub first_missing-missing-requires : goal.first_missing-missing-requires
first_missing-missing-requires c = c.requires.1 ∙ sym (roots_counted (reads_formed _ _ c.args.source.now.reads) c.roots.ensures)

pub overflow_cast-result : goal.overflow_cast-result
overflow_cast-result c = omega (arith, c.size.ensures, c.if-missing-size.true, (reads_formed _ _ c.args.source.now.reads).few_elements)

pub returns-then-missing-size : goal.returns-then-missing-size
returns-then-missing-size c = missing _ _ _ (reads_formed _ _ c.args.source.now.reads) _ c.roots.ensures _ c.first_missing-missing.ensures _ c.size.ensures c.if-missing-size.true

pub overflow_cast-result-then-relation-relations : goal.overflow_cast-result-then-relation-relations
overflow_cast-result-then-relation-relations c = omega (arith, c.relations.ensures, c.if-relation-relations.true, (reads_formed _ _ c.args.source.now.reads).few_relations)

pub returns-then-relation-relations : goal.returns-then-relation-relations
returns-then-relation-relations c =
    not_kept _ _ _ (reads_formed _ _ c.args.source.now.reads) _ c.roots.ensures _ c.first_missing-missing.ensures _ c.size.ensures c.if-missing-size.false _ c.unkept-relation.ensures _ c.relations.ensures c.if-relation-relations.true

pub returns : goal.returns
returns c =
    kept _ _ _ (reads_formed _ _ c.args.source.now.reads) _ c.roots.ensures _ c.first_missing-missing.ensures _ c.size.ensures c.if-missing-size.false _ c.unkept-relation.ensures _ c.relations.ensures c.if-relation-relations.false
