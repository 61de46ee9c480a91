-- Keys compared by counting up and down: what is left of a board whose table was used, and what the counts say. Being alike is symmetric and transitive, and those alike have one mark and bucket. Assumes
-- nothing.
use Prim.Native.Nat.{ℕ, ◌+◌, ◌-◌, ◌<◌, ◌≤◌}
use mathlib.Core.Path.{◌≡◌, refl, sym, ◌∙◌, ap, ap₂}
use mathlib.Core.Logic.{◌⊎◌, inl, inr, by_cases}
use mathlib.Core.Bool.{true, false, false≢true}
use mathlib.Core.List.{List, Memᴰ}
use native.Mathlib.Omega.{arith}
use native.Mathlib.Decide.{dec_le, ℕ_discrete}
use borrow.Author.Tests.{eq-eqb, ne_eqb, eqb-true}
use lib.Dec.{eqb}
use lib.ListN.{length, get_or}
use lib.Seq.{ext_get_or}
use Rattle.lists.specs.Every.{how_many}
use Rattle.lists.proofs.Laws.Tests.{split}
use Rattle.lists.proofs.Laws.Every.{mem_place}
use Rattle.lists.proofs.Laws.Part.{get_d_part}
use Rattle.lists.proofs.Laws.Counting.{how_many_some}
use Rattle.rounds.specs.Colours.{colour_at}
use Rattle.rounds.specs.Board.{number_start, count_start, link_start, same_numbers, colours_on, places_on, segment, alike_on, mark_on, mark_bucket, bucket_on, Segment, Empty, Counts, OnlyTable}
use Rattle.rounds.proofs.Laws.Bags.{mark_zero, counts_mark, counts_length, even_counts, numbers_counts, counts_numbers}
use Rattle.rounds.proofs.Laws.Tables.{segment_long, segment_entries}

-- a board whose table alone was changed
module _ (w v : List ℕ) (o : OnlyTable count_start w v) where
  only_segment : (from end : ℕ) → Segment from end w → Segment from end v
  only_segment from end s = record {
    room = o.length_kept ∙ s.room;
    order = s.order;
    few = s.few;
    low = λ i h k. let e = o.below (number_start + i) (omega (arith, k, s.few)) in omega (arith, e, s.low i h k);
  }

  only_numbers : (from end : ℕ) → Segment from end w → segment from end v ≡ segment from end w
  only_numbers from end s =
      ext_get_or 0 (segment from end v) (segment from end w) (long_v ∙ sym (segment_long from end w s)) (λ i h. by_place i (omega (arith, h, long_v)))
    where
      long_v : length (segment from end v) ≡ end - from
      long_v = segment_long from end v (only_segment from end s)

      by_place : (i : ℕ) → i < end - from → get_or (segment from end v) i 0 ≡ get_or (segment from end w) i 0
      by_place i h =
          get_d_part v (number_start + from) (end - from) i 0 h ∙ o.below (number_start + from + i) (omega (arith, h, s.few)) ∙ sym (get_d_part w (number_start + from) (end - from) i 0 h)

  -- with the table empty before and after nothing was changed
  as_before : Empty count_start w → Empty count_start v → v ≡ w
  as_before z y = ext_get_or 0 v w o.length_kept (λ i _. by_cases (dec_le count_start i) (λ l. by_cases (dec_le link_start i) (o.above i) (λ h. inside i l h)) (λ h. o.below i (omega (arith, h))))
    where
      inside : (i : ℕ) → count_start ≤ i → (link_start ≤ i → ⊥) → get_or v i 0 ≡ get_or w i 0
      inside i l h =
          let e : count_start + (i - count_start) ≡ i = omega (arith, l) in
          rw e at (y (i - count_start) (omega (arith, h, l)) ∙ sym (z (i - count_start) (omega (arith, h, l))))

only_both : (u v w : List ℕ) → OnlyTable count_start u v → OnlyTable count_start v w → OnlyTable count_start u w
only_both u v w h k = record { length_kept = k.length_kept ∙ h.length_kept; below = λ i l. k.below i l ∙ h.below i l; above = λ i l. k.above i l ∙ h.above i l }

-- segments of different lengths don't have each number as often
lengths_tell : (p q : List ℕ) → (length p ≡ length q → ⊥) → false ≡ same_numbers p q
lengths_tell p q d = go (split (same_numbers p q))
  where
    go : (same_numbers p q ≡ true) ⊎ (same_numbers p q ≡ false) → false ≡ same_numbers p q
    go (inl e) = absurd (d (counts_length p q (numbers_counts p q e)))
    go (inr e) = sym e

-- a board on which x's numbers were counted up
module _ (w : List ℕ) (from end from' end' : ℕ) (s : Segment from end w) (s' : Segment from' end' w) (even : end - from ≡ end' - from') (empty : Empty count_start w)
    (w₁ : List ℕ) (c₁ : Counts count_start (segment from end w) w₁) (o₁ : OnlyTable count_start w w₁) where
  abbrev mine : List ℕ
  mine = segment from end w

  abbrev others : List ℕ
  others = segment from' end' w

  other_there : (n : ℕ) → how_many (eqb n) (segment from' end' w₁) ≡ how_many (eqb n) others
  other_there n = ap (how_many (eqb n)) (only_numbers w w₁ o₁ from' end' s')

  -- a number from 4096 on stands nowhere
  none_large : (p : List ℕ) → ((i : ℕ) → i < length p → get_or p i 0 < 4096) → (n : ℕ) → 4096 ≤ n → how_many (eqb n) p ≡ 0
  none_large p h n l = by_cases (ℕ_discrete (how_many (eqb n) p) 0) (λ e. e) (λ d. absurd (some (how_many_some (eqb n) p (positive (how_many (eqb n) p) d))))
    where
      positive : (k : ℕ) → (k ≡ 0 → ⊥) → 0 < k
      positive k d = by_cases (dec_le k 0) (λ u. absurd (d (omega (arith, u)))) (λ u. omega (arith, u))

      some : (x : ℕ) × Memᴰ x p × (eqb n x ≡ true) → ⊥
      some r = let q = mem_place p r.0 r.1 in omega (arith, l, eqb-true n r.0 r.2, q.2, h q.0 q.1)

  module _ (w₂ : List ℕ) (o₂ : OnlyTable count_start w₁ w₂) where
    -- enough of each
    module _ (t : (n : ℕ) → n < 4096 → get_or w₂ (count_start + n) 0 + how_many (eqb n) (segment from' end' w₁) ≡ get_or w₁ (count_start + n) 0) where
      left_over : (n : ℕ) → n < 4096 → get_or w₂ (count_start + n) 0 + how_many (eqb n) others ≡ how_many (eqb n) mine
      left_over n h = omega (arith, t n h, other_there n, c₁ n h)

      fits : (n : ℕ) → how_many (eqb n) others ≤ how_many (eqb n) mine
      fits n = by_cases (dec_le 4096 n) (λ l. omega (arith, none_large others (segment_entries from' end' w s') n l)) (λ l. omega (arith, left_over n (omega (arith, l))))

      counts_even : (n : ℕ) → how_many (eqb n) others ≡ how_many (eqb n) mine
      counts_even = even_counts others mine fits (segment_long from end w s ∙ even ∙ sym (segment_long from' end' w s'))

      enough_same : true ≡ same_numbers mine others
      enough_same = sym (counts_numbers mine others (λ n. sym (counts_even n)))

      enough_kept : w₂ ≡ w
      enough_kept = as_before w w₂ (only_both w w₁ w₂ o₁ o₂) empty (λ n h. omega (arith, left_over n h, counts_even n))

    -- too few of one
    missing_differ : (n : ℕ) × (n < 4096) × (get_or w₁ (count_start + n) 0 < how_many (eqb n) (segment from' end' w₁)) → false ≡ same_numbers mine others
    missing_differ m = go (split (same_numbers mine others))
      where
        go : (same_numbers mine others ≡ true) ⊎ (same_numbers mine others ≡ false) → false ≡ same_numbers mine others
        go (inl e) = absurd (omega (arith, m.2, c₁ m.0 m.1, other_there m.0, numbers_counts mine others e m.0))
        go (inr e) = sym e

    lowered_segment : Segment from end w₂
    lowered_segment = only_segment w w₂ (only_both w w₁ w₂ o₁ o₂) from end s

    lowered_counts : ((n : ℕ) → n < 4096 → get_or w₂ (count_start + n) 0 ≤ get_or w₁ (count_start + n) 0) → (n : ℕ) → n < 4096 → how_many (eqb n) (segment from end w₂) ≡ 0 → get_or w₂ (count_start + n) 0 ≡ 0
    lowered_counts f n h z = omega (arith, f n h, c₁ n h, z, ap (how_many (eqb n)) (only_numbers w w₂ (only_both w w₁ w₂ o₁ o₂) from end s))

    cleared_kept : (w₃ : List ℕ) → Empty count_start w₃ → OnlyTable count_start w₂ w₃ → w₃ ≡ w
    cleared_kept w₃ z o₃ = as_before w w₃ (only_both w w₂ w₃ (only_both w w₁ w₂ o₁ o₂) o₃) empty z

-- colours decide first
module _ (cells : ℕ) (w : List ℕ) (x y own other : ℕ) (e : own ≡ colour_at (colours_on w) x) (f : other ≡ colour_at (colours_on w) y) where
  pub alike_differ : (own ≡ other → ⊥) → false ≡ alike_on cells w x y
  unfolding alike_on
  alike_differ n = rw (ne_eqb (colour_at (colours_on w) x) (colour_at (colours_on w) y) (λ q. n (e ∙ q ∙ sym f)), alike_on) refl

  pub alike_counted : own ≡ other → same_numbers (places_on cells w x) (places_on cells w y) ≡ alike_on cells w x y
  unfolding alike_on
  alike_counted q = rw (eq-eqb (colour_at (colours_on w) x) (colour_at (colours_on w) y) (sym e ∙ q ∙ f), alike_on) refl

-- alike exactly where the colours are and each number stands as often
module _ (cells : ℕ) (w : List ℕ) (x y : ℕ) where
  pub alike_colour : alike_on cells w x y ≡ true → colour_at (colours_on w) x ≡ colour_at (colours_on w) y
  unfolding alike_on
  alike_colour h = go (split (eqb (colour_at (colours_on w) x) (colour_at (colours_on w) y)))
    where
      go : (eqb (colour_at (colours_on w) x) (colour_at (colours_on w) y) ≡ true) ⊎ (eqb (colour_at (colours_on w) x) (colour_at (colours_on w) y) ≡ false) → colour_at (colours_on w) x ≡ colour_at (colours_on w) y
      go (inl e) = eqb-true _ _ e
      go (inr e) = absurd (false≢true (rw (e, alike_on) at h))

  alike_counts : alike_on cells w x y ≡ true → (n : ℕ) → how_many (eqb n) (places_on cells w x) ≡ how_many (eqb n) (places_on cells w y)
  alike_counts h = numbers_counts _ _ (alike_counted cells w x y _ _ refl refl (alike_colour h) ∙ h)

  make_alike : colour_at (colours_on w) x ≡ colour_at (colours_on w) y → ((n : ℕ) → how_many (eqb n) (places_on cells w x) ≡ how_many (eqb n) (places_on cells w y)) → alike_on cells w x y ≡ true
  make_alike e h = sym (alike_counted cells w x y _ _ refl refl e) ∙ counts_numbers _ _ h

  pub alike_mark : alike_on cells w x y ≡ true → mark_on cells w x ≡ mark_on cells w y
  alike_mark h = counts_mark _ _ (alike_counts h)

  pub alike_bucket : alike_on cells w x y ≡ true → bucket_on cells w x ≡ bucket_on cells w y
  alike_bucket h = ap₂ mark_bucket (alike_mark h) (alike_colour h)

  -- with no places the colour decides
  pub lone_alike : mark_on cells w x ≡ 0 → mark_on cells w y ≡ 0 → colour_at (colours_on w) x ≡ colour_at (colours_on w) y → alike_on cells w x y ≡ true
  lone_alike h k e = make_alike e (λ n. ap (how_many (eqb n)) (mark_zero _ h ∙ sym (mark_zero _ k)))

  pub marks_tell : (mark_on cells w x ≡ mark_on cells w y → ⊥) → false ≡ alike_on cells w x y
  marks_tell d = go (split (alike_on cells w x y))
    where
      go : (alike_on cells w x y ≡ true) ⊎ (alike_on cells w x y ≡ false) → false ≡ alike_on cells w x y
      go (inl e) = absurd (d (alike_mark e))
      go (inr e) = sym e

  pub buckets_tell : (bucket_on cells w x ≡ bucket_on cells w y → ⊥) → alike_on cells w x y ≡ false
  buckets_tell d = go (split (alike_on cells w x y))
    where
      go : (alike_on cells w x y ≡ true) ⊎ (alike_on cells w x y ≡ false) → alike_on cells w x y ≡ false
      go (inl e) = absurd (d (alike_bucket e))
      go (inr e) = e

pub alike_sym : (cells : ℕ) (w : List ℕ) (x y : ℕ) → alike_on cells w x y ≡ true → alike_on cells w y x ≡ true
alike_sym cells w x y h = make_alike cells w y x (sym (alike_colour cells w x y h)) (λ n. sym (alike_counts cells w x y h n))

pub alike_trans : (cells : ℕ) (w : List ℕ) (x y z : ℕ) → alike_on cells w x y ≡ true → alike_on cells w y z ≡ true → alike_on cells w x z ≡ true
alike_trans cells w x y z h k =
    make_alike cells w x z (alike_colour cells w x y h ∙ alike_colour cells w y z k) (λ n. alike_counts cells w x y h n ∙ alike_counts cells w y z k n)

-- two segments on a board with an empty table
module _ (w : List ℕ) (from end from' end' : ℕ) (p : Segment from end w × Segment from' end' w × Empty count_start w) where
  pub pair_uneven : (end - from ≡ end' - from' → ⊥) → false ≡ same_numbers (segment from end w) (segment from' end' w)
  pair_uneven d = lengths_tell (segment from end w) (segment from' end' w) (λ e. d (sym (segment_long from end w p.0) ∙ e ∙ segment_long from' end' w p.1))

  module _ (even : end - from ≡ end' - from') (w₁ : List ℕ) (c₁ : Counts count_start (segment from end w) w₁ × OnlyTable count_start w w₁) where
    pub pair_other : Segment from' end' w₁
    pair_other = only_segment w w₁ c₁.1 from' end' p.1

    module _ (w₂ : List ℕ) (o₂ : OnlyTable count_start w₁ w₂) where
      pub pair_enough :
          ((n : ℕ) → n < 4096 → get_or w₂ (count_start + n) 0 + how_many (eqb n) (segment from' end' w₁) ≡ get_or w₁ (count_start + n) 0)
          → (true ≡ same_numbers (segment from end w) (segment from' end' w)) × (w₂ ≡ w)
      pair_enough t = (
        enough_same w from end from' end' p.0 p.1 even p.2 w₁ c₁.0 c₁.1 w₂ o₂ t,
        enough_kept w from end from' end' p.0 p.1 even p.2 w₁ c₁.0 c₁.1 w₂ o₂ t,
      )

      pub pair_missing : (n : ℕ) × (n < 4096) × (get_or w₁ (count_start + n) 0 < how_many (eqb n) (segment from' end' w₁)) → false ≡ same_numbers (segment from end w) (segment from' end' w)
      pair_missing m = missing_differ w from end from' end' p.0 p.1 even p.2 w₁ c₁.0 c₁.1 w₂ o₂ m

      pub pair_mine : Segment from end w₂
      pair_mine = lowered_segment w from end from' end' p.0 p.1 even p.2 w₁ c₁.0 c₁.1 w₂ o₂

      pub pair_counts :
          ((n : ℕ) → n < 4096 → get_or w₂ (count_start + n) 0 ≤ get_or w₁ (count_start + n) 0) → (n : ℕ) → n < 4096 → how_many (eqb n) (segment from end w₂) ≡ 0 → get_or w₂ (count_start + n) 0 ≡ 0
      pair_counts = lowered_counts w from end from' end' p.0 p.1 even p.2 w₁ c₁.0 c₁.1 w₂ o₂

      pub pair_cleared : (w₃ : List ℕ) → Empty count_start w₃ × OnlyTable count_start w₂ w₃ → w₃ ≡ w
      pair_cleared w₃ z = cleared_kept w from end from' end' p.0 p.1 even p.2 w₁ c₁.0 c₁.1 w₂ o₂ w₃ z.0 z.1
