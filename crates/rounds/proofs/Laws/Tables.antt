-- A table of counts: what is known before each turn of the loops that count a segment's numbers up, take them off, and empty the table again; and of the loop that sums their cubes. Assumes nothing.
use Prim.Native.Nat.{ℕ, suc, ◌+◌, ◌*◌, ◌-◌, ◌<◌, ◌≤◌}
use mathlib.Core.Path.{◌≡◌, refl, sym, ◌∙◌, ap, ap₂}
use mathlib.Core.Logic.{by_cases}
use mathlib.Core.List.{List, [], ◌∷◌}
use native.Mathlib.Omega.{arith}
use native.Mathlib.Decide.{ℕ_discrete}
use borrow.Author.Tests.{eq-eqb}
use lib.Dec.{eqb}
use lib.ListN.{length, get_or, take, drop, set, length-set}
use lib.Seq.{get_or-set_same, get_or-set_other, drop-cons}
use Rattle.lists.specs.Every.{how_many}
use Rattle.lists.proofs.Laws.Part.{length_part, get_d_part}
use Rattle.lists.proofs.Laws.Counting.{how_many_none, how_many_yes, how_many_fits}
use Rattle.rounds.specs.Board.{number_start, count_start, segment, mark_end, mark_of_numbers, Segment, Empty, Counts, OnlyTable}
use Rattle.rounds.proofs.Laws.Bags.{count_other, mark_none, mark_more, mark_small}

only_none : (w : List ℕ) → OnlyTable count_start w w
only_none w = record { length_kept = refl; below = λ i h. refl; above = λ i h. refl }

only_set : (w₀ w : List ℕ) (n v : ℕ) → OnlyTable count_start w₀ w → n < 4096 → OnlyTable count_start w₀ (set w (count_start + n) v)
only_set w₀ w n v o h = record {
  length_kept = length-set w (count_start + n) v ∙ o.length_kept;
  below = λ i l. get_or-set_other w (count_start + n) i v 0 (λ e. omega (arith, e, l)) ∙ o.below i l;
  above = λ i l. get_or-set_other w (count_start + n) i v 0 (λ e. omega (arith, e, l, h)) ∙ o.above i l;
}

-- a segment, number by number
module _ (from end : ℕ) (w : List ℕ) (s : Segment from end w) where
  pub segment_long : length (segment from end w) ≡ end - from
  segment_long = length_part w (number_start + from) (end - from) (omega (arith, s.room, s.order, s.few))

  pub segment_entries : (i : ℕ) → i < length (segment from end w) → get_or (segment from end w) i 0 < 4096
  segment_entries i h =
      let e : number_start + from + i ≡ number_start + (from + i) = omega arith in
      omega (arith, get_d_part w (number_start + from) (end - from) i 0 (omega (arith, h, segment_long)), ap (λ (k : ℕ). get_or w k 0) e, s.low (from + i) (omega arith) (omega (arith, h, segment_long, s.order)))

  pub segment_mark : mark_of_numbers (segment from end w) < mark_end
  segment_mark = omega (arith, mark_small (segment from end w) segment_entries, segment_long, s.few)

segment_over : (i end : ℕ) (w : List ℕ) → end ≤ i → segment i end w ≡ []
segment_over i end w h = let e : end - i ≡ 0 = omega (arith, h) in rw e refl

segment_here : (i end : ℕ) (w : List ℕ) → i < end → number_start + i < length w → segment i end w ≡ get_or w (number_start + i) 0 ∷ segment (i + 1) end w
segment_here i end w h k =
    let e : end - i ≡ suc (end - (i + 1)) = omega (arith, h) in
    let d : suc (number_start + i) ≡ number_start + (i + 1) = omega arith in
    ap₂ (λ (n : ℕ) (t : List ℕ). take n t) e (drop-cons w (number_start + i) 0 k) ∙ ap (λ (j : ℕ). get_or w (number_start + i) 0 ∷ take (end - (i + 1)) (drop j w)) d

-- a loop along a segment that changes the table alone
pub record Along (w₀ : List ℕ) (from end : ℕ) (w : List ℕ) (i : ℕ) : Type 0 where
  pub on : Segment from end w₀
  pub low : from ≤ i
  pub high : i ≤ end
  pub only : OnlyTable count_start w₀ w

along_start : (w : List ℕ) (from end : ℕ) → Segment from end w → Along w from end w from
along_start w from end s = record { on = s; low = omega arith; high = s.order; only = only_none w }

module _ (w₀ : List ℕ) (from end : ℕ) (w : List ℕ) (i : ℕ) (a : Along w₀ from end w i) where
  long : length w ≡ 20736
  long = a.only.length_kept ∙ a.on.room

  rest_over : (n : ℕ) → end ≤ i → how_many (eqb n) (segment i end w₀) ≡ 0
  rest_over n h = ap (how_many (eqb n)) (segment_over i end w₀ h) ∙ how_many_none (eqb n)

  module _ (h : i < end) where
    abbrev met : ℕ
    met = get_or w (number_start + i) 0

    met_kept : get_or w (number_start + i) 0 ≡ get_or w₀ (number_start + i) 0
    met_kept = a.only.below (number_start + i) (omega (arith, h, a.on.few))

    pub met_small : get_or w (number_start + i) 0 < 4096
    met_small = omega (arith, met_kept, a.on.low i a.low h)

    pub met_room : number_start + i < length w
    met_room = omega (arith, h, a.on.few, long)

    pub table_room : count_start + get_or w (number_start + i) 0 < length w
    table_room = omega (arith, met_small, long)

    rest_here : segment i end w₀ ≡ get_or w (number_start + i) 0 ∷ segment (i + 1) end w₀
    rest_here = segment_here i end w₀ h (omega (arith, h, a.on.few, a.on.room)) ∙ ap (λ (n : ℕ). n ∷ segment (i + 1) end w₀) (sym met_kept)

    -- counts of what is left, at the number met and at others
    rest_same : (n : ℕ) → n ≡ met → how_many (eqb n) (segment i end w₀) ≡ suc (how_many (eqb n) (segment (i + 1) end w₀))
    rest_same n e = ap (how_many (eqb n)) rest_here ∙ how_many_yes (eqb n) met (segment (i + 1) end w₀) (eq-eqb n met e)

    rest_other : (n : ℕ) → (n ≡ met → ⊥) → how_many (eqb n) (segment i end w₀) ≡ how_many (eqb n) (segment (i + 1) end w₀)
    rest_other n e = ap (how_many (eqb n)) rest_here ∙ count_other n met (segment (i + 1) end w₀) e

    -- after the entry of the number met was written
    module _ (v : ℕ) where
      along_more : Along w₀ from end (set w (count_start + met) v) (i + 1)
      along_more = record { on = a.on; low = omega (arith, a.low); high = omega (arith, h); only = only_set w₀ w met v a.only met_small }

      entry_same : (n : ℕ) → n ≡ met → get_or (set w (count_start + met) v) (count_start + n) 0 ≡ v
      entry_same n e = ap (λ (k : ℕ). get_or (set w (count_start + met) v) (count_start + k) 0) e ∙ get_or-set_same w (count_start + met) v 0 table_room

      entry_other : (n : ℕ) → (n ≡ met → ⊥) → get_or (set w (count_start + met) v) (count_start + n) 0 ≡ get_or w (count_start + n) 0
      entry_other n e = get_or-set_other w (count_start + met) (count_start + n) v 0 (λ u. e (omega (arith, u)))

-- counting up
pub record Counting (w₀ : List ℕ) (from end : ℕ) (w : List ℕ) (i : ℕ) : Type 0 where
  pub along : Along w₀ from end w i
  pub counted : (n : ℕ) → n < 4096 → get_or w (count_start + n) 0 + how_many (eqb n) (segment i end w₀) ≡ how_many (eqb n) (segment from end w₀)

pub counting_start : (w : List ℕ) (from end : ℕ) → Segment from end w → Empty count_start w → Counting w from end w from
counting_start w from end s z = record { along = along_start w from end s; counted = λ n h. omega (arith, z n h) }

module _ (w₀ : List ℕ) (from end : ℕ) (w : List ℕ) (i : ℕ) (k : Counting w₀ from end w i) where
  pub counting_over : end ≤ i → Counts count_start (segment from end w₀) w
  counting_over h n l = omega (arith, k.counted n l, rest_over _ _ _ _ _ k.along n h)

  module _ (h : i < end) where
    pub count_small : get_or w (count_start + get_or w (number_start + i) 0) 0 + 1 ≤ 65535
    count_small =
        let n = get_or w (number_start + i) 0 in
        omega (arith, k.counted n (met_small _ _ _ _ _ k.along h), how_many_fits (eqb n) (segment from end w₀), segment_long from end w₀ k.along.on, k.along.on.few)

    pub counting_more : Counting w₀ from end (set w (count_start + get_or w (number_start + i) 0) (get_or w (count_start + get_or w (number_start + i) 0) 0 + 1)) (i + 1)
    counting_more = record { along = along_more _ _ _ _ _ k.along h _; counted = after }
      where
        after : (n : ℕ) → n < 4096 → get_or (set w (count_start + get_or w (number_start + i) 0) (get_or w (count_start + get_or w (number_start + i) 0) 0 + 1)) (count_start + n) 0 + how_many (eqb n) (segment (i + 1) end w₀) ≡ how_many (eqb n) (segment from end w₀)
        after n l = by_cases (ℕ_discrete n (get_or w (number_start + i) 0))
            (λ e. omega (arith, entry_same _ _ _ _ _ k.along h (get_or w (count_start + get_or w (number_start + i) 0) 0 + 1) n e, ap (λ (j : ℕ). get_or w (count_start + j) 0) e, k.counted n l, rest_same _ _ _ _ _ k.along h n e))
            (λ e. omega (arith, entry_other _ _ _ _ _ k.along h (get_or w (count_start + get_or w (number_start + i) 0) 0 + 1) n e, k.counted n l, rest_other _ _ _ _ _ k.along h n e))

-- taking off
pub record Lowering (w₀ : List ℕ) (from end : ℕ) (w : List ℕ) (i : ℕ) : Type 0 where
  pub along : Along w₀ from end w i
  pub taken : (n : ℕ) → n < 4096 → get_or w (count_start + n) 0 + how_many (eqb n) (segment from end w₀) ≡ get_or w₀ (count_start + n) 0 + how_many (eqb n) (segment i end w₀)
  pub fewer : (n : ℕ) → n < 4096 → get_or w (count_start + n) 0 ≤ get_or w₀ (count_start + n) 0

pub lowering_start : (w : List ℕ) (from end : ℕ) → Segment from end w → Lowering w from end w from
lowering_start w from end s = record { along = along_start w from end s; taken = λ n h. refl; fewer = λ n h. omega arith }

module _ (w₀ : List ℕ) (from end : ℕ) (w : List ℕ) (i : ℕ) (k : Lowering w₀ from end w i) where
  pub lowering_over : end ≤ i → (n : ℕ) → n < 4096 → get_or w (count_start + n) 0 + how_many (eqb n) (segment from end w₀) ≡ get_or w₀ (count_start + n) 0
  lowering_over h n l = omega (arith, k.taken n l, rest_over _ _ _ _ _ k.along n h)

  module _ (h : i < end) where
    pub lowering_failed : get_or w (count_start + get_or w (number_start + i) 0) 0 ≡ 0 → (n : ℕ) × (n < 4096) × (get_or w₀ (count_start + n) 0 < how_many (eqb n) (segment from end w₀))
    lowering_failed z =
        let n = get_or w (number_start + i) 0 in
        let l = met_small _ _ _ _ _ k.along h in
        (n, l, omega (arith, z, k.taken n l, rest_same _ _ _ _ _ k.along h n refl))

    pub lowering_more :
        (get_or w (count_start + get_or w (number_start + i) 0) 0 ≡ 0 → ⊥)
        → Lowering w₀ from end (set w (count_start + get_or w (number_start + i) 0) (get_or w (count_start + get_or w (number_start + i) 0) 0 - 1)) (i + 1)
    lowering_more z = record { along = along_more _ _ _ _ _ k.along h _; taken = after; fewer = less }
      where
        after : (n : ℕ) → n < 4096 → get_or (set w (count_start + get_or w (number_start + i) 0) (get_or w (count_start + get_or w (number_start + i) 0) 0 - 1)) (count_start + n) 0 + how_many (eqb n) (segment from end w₀) ≡ get_or w₀ (count_start + n) 0 + how_many (eqb n) (segment (i + 1) end w₀)
        after n l = by_cases (ℕ_discrete n (get_or w (number_start + i) 0))
            (λ e. omega (arith, z, entry_same _ _ _ _ _ k.along h (get_or w (count_start + get_or w (number_start + i) 0) 0 - 1) n e, ap (λ (j : ℕ). get_or w (count_start + j) 0) e, k.taken n l, rest_same _ _ _ _ _ k.along h n e))
            (λ e. omega (arith, entry_other _ _ _ _ _ k.along h (get_or w (count_start + get_or w (number_start + i) 0) 0 - 1) n e, k.taken n l, rest_other _ _ _ _ _ k.along h n e))

        less : (n : ℕ) → n < 4096 → get_or (set w (count_start + get_or w (number_start + i) 0) (get_or w (count_start + get_or w (number_start + i) 0) 0 - 1)) (count_start + n) 0 ≤ get_or w₀ (count_start + n) 0
        less n l = by_cases (ℕ_discrete n (get_or w (number_start + i) 0))
            (λ e. omega (arith, entry_same _ _ _ _ _ k.along h (get_or w (count_start + get_or w (number_start + i) 0) 0 - 1) n e, ap (λ (j : ℕ). get_or w (count_start + j) 0) e, k.fewer n l))
            (λ e. omega (arith, entry_other _ _ _ _ _ k.along h (get_or w (count_start + get_or w (number_start + i) 0) 0 - 1) n e, k.fewer n l))

-- emptying
pub record Emptying (w₀ : List ℕ) (from end : ℕ) (w : List ℕ) (i : ℕ) : Type 0 where
  pub along : Along w₀ from end w i
  pub emptied : (n : ℕ) → n < 4096 → how_many (eqb n) (segment i end w₀) ≡ 0 → get_or w (count_start + n) 0 ≡ 0

pub emptying_start :
    (w : List ℕ) (from end : ℕ) → Segment from end w → ((n : ℕ) → n < 4096 → how_many (eqb n) (segment from end w) ≡ 0 → get_or w (count_start + n) 0 ≡ 0) → Emptying w from end w from
emptying_start w from end s z = record { along = along_start w from end s; emptied = z }

module _ (w₀ : List ℕ) (from end : ℕ) (w : List ℕ) (i : ℕ) (k : Emptying w₀ from end w i) where
  pub emptying_over : end ≤ i → Empty count_start w
  emptying_over h n l = k.emptied n l (rest_over _ _ _ _ _ k.along n h)

  module _ (h : i < end) where
    pub emptying_more : Emptying w₀ from end (set w (count_start + get_or w (number_start + i) 0) 0) (i + 1)
    emptying_more = record { along = along_more _ _ _ _ _ k.along h _; emptied = after }
      where
        after : (n : ℕ) → n < 4096 → how_many (eqb n) (segment (i + 1) end w₀) ≡ 0 → get_or (set w (count_start + get_or w (number_start + i) 0) 0) (count_start + n) 0 ≡ 0
        after n l q = by_cases (ℕ_discrete n (get_or w (number_start + i) 0))
            (λ e. entry_same _ _ _ _ _ k.along h 0 n e)
            (λ e. entry_other _ _ _ _ _ k.along h 0 n e ∙ k.emptied n l (rest_other _ _ _ _ _ k.along h n e ∙ q))

-- summing cubes
pub record Summing (w : List ℕ) (from end sum i : ℕ) : Type 0 where
  pub on : Segment from end w
  pub low : from ≤ i
  pub summed : sum + mark_of_numbers (segment i end w) ≡ mark_of_numbers (segment from end w)

pub summing_start : (w : List ℕ) (from end : ℕ) → Segment from end w → Summing w from end 0 from
summing_start w from end s = record { on = s; low = omega arith; summed = omega arith }

module _ (w : List ℕ) (from end sum i : ℕ) (k : Summing w from end sum i) where
  pub summing_over : end ≤ i → sum ≡ mark_of_numbers (segment from end w)
  summing_over h = omega (arith, k.summed, ap mark_of_numbers (segment_over i end w h), mark_none)

  module _ (h : i < end) where
    pub sum_room : number_start + i < length w
    sum_room = omega (arith, h, k.on.few, k.on.room)

    pub sum_small : get_or w (number_start + i) 0 < 4096
    sum_small = k.on.low i k.low h

    here : mark_of_numbers (segment i end w) ≡ get_or w (number_start + i) 0 * get_or w (number_start + i) 0 * get_or w (number_start + i) 0 + 1 + mark_of_numbers (segment (i + 1) end w)
    here = ap mark_of_numbers (segment_here i end w h sum_room) ∙ mark_more (get_or w (number_start + i) 0) (segment (i + 1) end w)

    pub sum_fits : sum + (get_or w (number_start + i) 0 * get_or w (number_start + i) 0 * get_or w (number_start + i) 0 + 1) < mark_end
    sum_fits = omega (arith, here, k.summed, segment_mark from end w k.on)

    pub summing_more : Summing w from end (sum + (get_or w (number_start + i) 0 * get_or w (number_start + i) 0 * get_or w (number_start + i) 0 + 1)) (i + 1)
    summing_more = record { on = k.on; low = omega (arith, k.low); summed = omega (arith, here, k.summed) }
