use Prim.Native.Nat.{ℕ, ◌<◌}
use mathlib.Core.Path.{◌≡◌, refl, sym, ap, ◌∙◌}
use mathlib.Core.Bool.{Bool, true}
use mathlib.Core.List.{List, map}
use native.Mathlib.Omega.{arith}
use lib.ListN.{length}
use Rattle.lists.proofs.Laws.Numbers.{up_from_lem, up_passed, up_failed, up_over}
use Rattle.stored.specs.declared.matched.Matched.{Matched}
use Rattle.stored.specs.Model.{Model, relation_at}
use Rattle.stored.specs.Canonical.{canonical}
use Rattle.stored.specs.File.{held}
use Rattle.stored.proofs.Laws.Reading.{reads_formed}
use Rattle.rows.specs.Rows.{through, rows_kept}
use Rattle.rows.proofs.Laws.Rows.{as_many, like_columns}
use Rattle.rows.proofs.Laws.Canonical.{formed_at, rows_ascend, plain_rows}
use Rattle.search.specs.Machine.{closes}
use Rattle.search.specs.Find.{alike}
use Rattle.search.proofs.Laws.Closing.{into, not_into, into_closes}
use Rattle.search.proofs.Theorems.Onto.{AlikeModels}
use Rattle.search.proofs.closing.closes.Goals as goal

-- two matched files whose models are canonical and alike
models : (m : Matched) → canonical (held m.left) ≡ true → canonical (held m.right) ≡ true → alike (held m.left) (held m.right) ≡ true → AlikeModels (held m.left) (held m.right)
models m p q e = record { left_formed = reads_formed _ _ m.left.reads; right_formed = reads_formed _ _ m.right.reads; left_plain = p; right_plain = q; one_signature = m.one_signature; are_alike = e }

-- the answer for the rows of relation k as they are handed on
answered :
    (a b : Model) (f : List ℕ) (k : ℕ) (rows others : List (List ℕ)) (roots : List ℕ) → rows ≡ (relation_at a k).rows → others ≡ (relation_at b k).rows → map (through roots) others ≡ others → (r : Bool)
    → r ≡ rows_kept f rows (map (through roots) others) → into a b f k ≡ r
answered a b f k rows others roots p q w r e = sym (rw (p, q) at (e ∙ ap (rows_kept f rows) w))

pub loop-k-init : goal.loop-k-init
loop-k-init c = up_from_lem _ _

pub rows-others-requires : goal.rows-others-requires
rows-others-requires c = let b = c.args.both.now in omega (arith, as_many (held b.left) (held b.right) b.one_signature)

pub rows_among-requires : goal.rows_among-requires
rows_among-requires c =
    let b = c.args.both.now in
    let inside : c.loop-k.k < length (held b.left).relations = omega arith in
    let other : c.loop-k.k < length (held b.right).relations = omega (arith, as_many (held b.left) (held b.right) b.one_signature) in (
      omega (arith, c.rows-rows.ensures.arity, (formed_at (held b.left) (reads_formed _ _ b.left.reads) _ inside).small_arity),
      c.rows-others.ensures.arity ∙ ap length (sym (like_columns (held b.left) (held b.right) b.one_signature _)) ∙ sym c.rows-rows.ensures.arity,
      rows_ascend (held b.right) (reads_formed _ _ b.right.reads) _ other _ c.rows-others.ensures.rows,
      plain_rows (held b.right) _ other _ c.rows-others.ensures.rows _ c.roots-roots.ensures _ (sym c.requires.1),
    )

pub returns-then-not-rows_among : goal.returns-then-not-rows_among
unfolding closes
returns-then-not-rows_among c =
    let b = c.args.both.now in
    let other : c.loop-k.k < length (held b.right).relations = omega (arith, as_many (held b.left) (held b.right) b.one_signature) in
    let plain = plain_rows (held b.right) _ other _ c.rows-others.ensures.rows _ c.roots-roots.ensures _ (sym c.requires.1) refl in
    let told = answered (held b.left) (held b.right) c.args.map.now c.loop-k.k _ _ _ c.rows-rows.ensures.rows c.rows-others.ensures.rows plain _ c.rows_among.ensures in
    up_failed c.loop-k.invariant (omega arith) (not_into _ _ _ _ (told ∙ c.if-not-rows_among.true))

pub loop-k-preserved : goal.loop-k-preserved
loop-k-preserved c =
    let b = c.args.both.now in
    let p = c.requires in
    let other : c.loop-k.k < length (held b.right).relations = omega (arith, as_many (held b.left) (held b.right) b.one_signature) in
    let plain = plain_rows (held b.right) _ other _ c.rows-others.ensures.rows _ c.roots-roots.ensures _ (sym p.1) refl in
    let told = answered (held b.left) (held b.right) c.args.map.now c.loop-k.k _ _ _ c.rows-rows.ensures.rows c.rows-others.ensures.rows plain _ c.rows_among.ensures in
    up_passed c.loop-k.invariant (omega arith) (into_closes _ _ _ _ (models b p.0 p.1 p.2) p.3 (told ∙ c.if-not-rows_among.false))

pub returns : goal.returns
unfolding closes
returns c = up_over c.loop-k.invariant (omega arith)
