use Prim.Native.Nat.{ℕ, ◌<◌}
use mathlib.Core.Path.{◌≡◌, sym, ◌∙◌}
use mathlib.Core.Bool.{Bool, true}
use mathlib.Core.List.{List, map}
use native.Mathlib.Omega.{arith}
use borrow.Author.Tests.{eq-eqb, ne_eqb}
use lib.ListN.{length}
use Rattle.lists.specs.First.{firsts}
use Rattle.lists.specs.Order.{same_row, ascending}
use Rattle.lists.proofs.Laws.Numbers.{up_passed, up_failed, up_over}
use Rattle.stored.specs.Model.{Model, relation_at}
use Rattle.stored.specs.Canonical.{canonical}
use Rattle.stored.specs.File.{held}
use Rattle.stored.proofs.Laws.Reading.{reads_formed}
use Rattle.stored.proofs.Laws.WellFormed.{WellFormed}
use Rattle.rows.specs.Rows.{through, normal_rows, normal_count}
use Rattle.rows.specs.Maps.{same_count, same_counts}
use Rattle.rows.proofs.Laws.Rows.{as_many}
use Rattle.rows.proofs.Laws.Canonical.{rows_ascend, plain_rows}
use Rattle.rows.proofs.inverse.same_counts.Goals as goal

-- relation k of a model, as it is handed on
module _ (m : Model) (k : ℕ) (rows : List (List ℕ)) (e : rows ≡ (relation_at m k).rows) (roots : List ℕ) (w : roots ≡ m.roots) where
  -- it ascends, and is its own normal form where the model is canonical
  handed : WellFormed m → k < length m.relations → (plain : Bool) → plain ≡ canonical m → (ascending rows ≡ true) × (plain ≡ true → map (through roots) rows ≡ rows)
  handed formed h plain q = (rows_ascend m formed k h rows e, plain_rows m k h rows e roots w plain q)

  -- how many normalised rows are counted
  counts : (n : ℕ) → n ≡ length (firsts same_row (map (through roots) rows)) → n ≡ normal_count m (relation_at m k)
  unfolding normal_count normal_rows
  counts n f = rw (e, w) at f

pub rows_counted-n-requires : goal.rows_counted-n-requires
rows_counted-n-requires c = handed _ _ _ c.rows.ensures.rows _ c.roots-roots.ensures (reads_formed _ _ c.args.source.now.reads) (omega arith) _ c.is_canonical-plain.ensures

pub rows-requires-in-loop-k : goal.rows-requires-in-loop-k
rows-requires-in-loop-k c = omega (arith, as_many (held c.args.source.now) (held c.args.target.now) c.requires)

pub rows_counted-other_n-requires : goal.rows_counted-other_n-requires
rows_counted-other_n-requires c =
    handed _ _ _ c.rows-in-loop-k.ensures.rows _ c.roots-other_roots.ensures (reads_formed _ _ c.args.target.now.reads) (omega (arith, as_many (held c.args.source.now) (held c.args.target.now) c.requires)) _ c.is_canonical-other_plain.ensures

pub returns-then-n-other_n : goal.returns-then-n-other_n
unfolding same_counts same_count
returns-then-n-other_n c =
    let e = counts _ _ _ c.rows.ensures.rows _ c.roots-roots.ensures _ c.rows_counted-n.ensures in
    let f = counts _ _ _ c.rows-in-loop-k.ensures.rows _ c.roots-other_roots.ensures _ c.rows_counted-other_n.ensures in
    up_failed c.loop-k.invariant (omega arith) (ne_eqb _ _ (λ q. c.if-n-other_n.true (e ∙ q ∙ sym f)))

pub loop-k-preserved : goal.loop-k-preserved
unfolding same_count
loop-k-preserved c =
    let e = counts _ _ _ c.rows.ensures.rows _ c.roots-roots.ensures _ c.rows_counted-n.ensures in
    let f = counts _ _ _ c.rows-in-loop-k.ensures.rows _ c.roots-other_roots.ensures _ c.rows_counted-other_n.ensures in
    up_passed c.loop-k.invariant (omega arith) (eq-eqb _ _ (sym e ∙ c.if-n-other_n.false ∙ f))

pub returns : goal.returns
unfolding same_counts
returns c = up_over c.loop-k.invariant (omega arith)
