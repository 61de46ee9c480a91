-- `rounds::numbers::number_relation` meets its contract: its rows are numbered by buckets, and the heads of these emptied again; where it has no columns there are no cells. Assumes nothing.
use Rattle.rounds.proofs.numbers.number_relation.Goals.{then-arity-eq2, else-arity-eq2}
use Prim.Native.Nat.{ℕ, ◌+◌, ◌-◌, ◌*◌, ◌<◌, ◌≤◌}
use mathlib.Core.Path.{◌≡◌, refl, sym, ◌∙◌, ap, subst}
use mathlib.Core.Logic.{by_cases}
use mathlib.Core.List.{List}
use native.Mathlib.Omega.{arith}
use native.Mathlib.Decide.{dec_le}
use lib.ListN.{get_or}
use Rattle.rounds.specs.Board.{number_start, count_start, link_start, buckets_for, row_numbers_at, cells_on, position_of, Listed, NumbersAt, Bucketing, Cleared, Renumbered, Empty}
use Rattle.rounds.proofs.Laws.Listed.{cells_around, listed_around, position_small}
use Rattle.rounds.proofs.Laws.Buckets.{buckets_fit}
use Rattle.rounds.proofs.Laws.Numbers.{numbers_long}
use Rattle.rounds.proofs.numbers.number_relation.Goals as goal

module _ (cells base arity rows : ℕ) (old : List ℕ) (listed : Listed cells old) where
  -- no cells, nothing to do
  module _ (none : arity ≤ 0) where
    no_numbers : NumbersAt cells base (row_numbers_at base arity rows old) old
    no_numbers i h =
        let e : arity ≡ 0 = omega (arith, none) in
        let z : rows * arity ≡ rows * 0 = ap (λ (n : ℕ). rows * n) e in
        absurd (omega (arith, h, numbers_long base arity rows old, z))

    unchanged : Renumbered cells base old old
    unchanged = record { length_kept = refl; below = λ i h. refl; counts_kept = λ i h l. refl; above = λ i h. refl; numbers_kept = λ c h. refl }

  module _ (buckets : ℕ) (is : buckets ≡ buckets_for rows) (fits : base + rows * arity ≤ cells) (empty : Empty count_start old) (w : List ℕ) (b : Bucketing cells base (buckets_for rows) old w) where
    few : buckets ≤ 4096
    few = omega (arith, is, buckets_fit rows 0)

    module _ (v : List ℕ) (k : Cleared buckets w v) where
      same_cells : cells_on cells w ≡ cells_on cells old
      same_cells = cells_around cells old w listed b.length_kept b.below (λ i h l. b.above i h)

      still_cells : cells_on cells v ≡ cells_on cells w
      still_cells =
          cells_around cells w v (listed_around cells old w listed b.length_kept b.below (λ i h l. b.above i h)) k.length_kept (λ i h. k.below i (omega (arith, h))) (λ i h l. k.above i (omega (arith, h, few)))

      place_low : (c : ℕ) → c < cells → number_start + position_of (cells_on cells old) c < count_start
      place_low c h = omega (arith, position_small cells old listed c h, listed.few)

      numbered : NumbersAt cells base (row_numbers_at base arity rows old) w → NumbersAt cells base (row_numbers_at base arity rows old) v
      numbered n i h =
          ap (λ (es : List ℕ). get_or v (number_start + position_of es (base + i)) 0) (still_cells ∙ same_cells)
          ∙ k.below (number_start + position_of (cells_on cells old) (base + i)) (place_low (base + i) (omega (arith, h, numbers_long base arity rows old, fits)))
          ∙ ap (λ (es : List ℕ). get_or w (number_start + position_of es (base + i)) 0) (sym same_cells)
          ∙ n i h

      -- the heads are 0 as before
      counts : (i : ℕ) → count_start ≤ i → i < link_start → get_or v i 0 ≡ get_or old i 0
      counts i h l =
          by_cases (dec_le (count_start + buckets) i)
          (λ m. k.above i m ∙ b.counts_kept i (omega (arith, m, is)) l)
          (λ m.
          let e : count_start + (i - count_start) ≡ i = omega (arith, h) in
          rw e at (k.cleared (i - count_start) (omega (arith, m, h)) ∙ sym (empty (i - count_start) (omega (arith, h, l)))))

      renumbered : Renumbered cells base old v
      renumbered = record {
        length_kept = k.length_kept ∙ b.length_kept;
        below = λ i h. k.below i (omega (arith, h)) ∙ b.below i h;
        counts_kept = counts;
        above = λ i h. k.above i (omega (arith, h, few)) ∙ b.above i h;
        numbers_kept = λ c h. k.below (number_start + position_of (cells_on cells old) c) (place_low c (omega (arith, h, fits))) ∙ b.numbers_kept c h;
      }

-- what numbering the rows gives
abbrev Numbered : ℕ → ℕ → ℕ → ℕ → List ℕ → List ℕ → Type 0
Numbered cells base arity rows old w = NumbersAt cells base (row_numbers_at base arity rows old) w × Bucketing cells base (buckets_for rows) old w

numbered_as : (cells base arity width rows : ℕ) (old w v : List ℕ) → arity ≡ width → v ≡ w → Numbered cells base width rows old w → Numbered cells base arity rows old v
numbered_as cells base arity width rows old w v e f d =
    subst (λ (t : List ℕ). Numbered cells base arity rows old t) (sym f) (subst (λ (n : ℕ). Numbered cells base n rows old w) (sym e) d)

pub clear_heads-requires : goal.clear_heads-requires
clear_heads-requires c = (c.if-arity-eq2.auto.board ∙ c.requires.0.room, omega (arith, c.buckets_for-buckets.ensures, buckets_fit c.args.rows 0))

pub returns-after-arity-eq2 : goal.returns-after-arity-eq2
returns-after-arity-eq2 c =
    let p = c.requires in
    let r : Numbered c.args.cells c.args.base c.args.arity c.args.rows c.args.board.now c.if-arity-eq2.board =
    elim c.if-arity-eq2.branch [ then-arity-eq2 w ↦ numbered_as _ _ _ _ _ _ _ _ w.if-arity-eq2.true w.board-is (w.number_rows.ensures.numbers, w.number_rows.ensures.kept) | else-arity-eq2 w ↦ numbered_as _ _ _ _ _ _ _ _ refl w.board-is (w.number_rows-else-arity-eq2.ensures.numbers, w.number_rows-else-arity-eq2.ensures.kept) ]
    in
    record { numbers = numbered _ _ _ _ _ p.0 _ c.buckets_for-buckets.ensures p.1 p.2 _ r.1 _ c.clear_heads.ensures r.0; kept = renumbered _ _ _ _ _ p.0 _ c.buckets_for-buckets.ensures p.1 p.2 _ r.1 _ c.clear_heads.ensures }

pub returns-else-arity-gt0 : goal.returns-else-arity-gt0
returns-else-arity-gt0 c = record { numbers = no_numbers _ _ _ _ _ c.requires.0 c.if-arity-gt0.false; kept = unchanged _ _ _ c.args.rows _ c.requires.0 c.if-arity-gt0.false }
