-- Counts: after a round a side has no fewer colours than before; where the counts are equal, the left colours after it are 0, 1, .. without a gap, as
-- many as the palette has keys. Assumes nothing.
use Prim.Native.Nat.{ℕ, ◌<◌, ◌≤◌, zero-le}
use mathlib.Core.Path.{◌≡◌, refl, sym, ◌∙◌, ap, subst}
use mathlib.Core.Logic.{◌⊎◌, inl, inr}
use mathlib.Core.Bool.{true}
use mathlib.Core.List.Memᴰ
use mathlib.Core.List.{List, [], ◌++◌, map, Memᴰ}
use native.Mathlib.Omega.{arith}
use borrow.Author.Tests.{eqb-true, eq-eqb}
use lib.Dec.{eqb}
use lib.ListN.{length, get_or}
use Rattle.lists.specs.Every.{how_many}
use Rattle.lists.specs.First.{first_at, firsts}
use Rattle.lists.specs.Numbers.{up_from}
use Rattle.lists.proofs.Laws.Every.{get_d_mem}
use Rattle.lists.proofs.Laws.Numbers.{length-up_from, up_from_mem, mem_up_from}
use Rattle.lists.proofs.Laws.Sets.{mem_map, map_mem, firsts_distinct, mem_firsts, firsts_mem}
use Rattle.stored.specs.Model.{Model}
use Rattle.rounds.specs.Colours.{colour_at}
use Rattle.rounds.specs.Keys.{Key, key_of, same_key}
use Rattle.rounds.specs.Round.{reps, Sides, palette, round, colours_of, colour_count, equal_counts}
use Rattle.lists.proofs.Laws.Counting.{distinct_fits, up_from_distinct, finer_more, class_place}
use Rattle.rounds.proofs.Laws.Counts.{counted_there, there_counted, equal_everywhere}
use Rattle.rounds.proofs.Theorems.Keys.{Side, on_left, on_right, model_on, colours_on, RepOn, key_refl, key_sym, number_known, round_at}
use Rattle.rounds.proofs.Theorems.Refining.{left_refines, right_refines}

module _ (a b : Model) (c : Sides) where
  pub left_count_grows : colour_count a c.left ≤ colour_count a (round a b c).left
  unfolding colour_count colours_of
  left_count_grows = finer_more (colour_at c.left) (colour_at (round a b c).left) (reps a) (left_refines a b c)

  pub right_count_grows : colour_count b c.right ≤ colour_count b (round a b c).right
  unfolding colour_count colours_of
  right_count_grows = finer_more (colour_at c.right) (colour_at (round a b c).right) (reps b) (right_refines a b c)

-- colours of representatives, and the other way round
module _ (m : Model) (colours : List ℕ) where
  pub colour_there : (x : ℕ) → Memᴰ x (reps m) → Memᴰ (colour_at colours x) (colours_of m colours)
  unfolding colours_of
  colour_there x n = map_mem (colour_at colours) (reps m) x n

  pub colour_of : (k : ℕ) → Memᴰ k (colours_of m colours) → (x : ℕ) × Memᴰ x (reps m) × (k ≡ colour_at colours x)
  unfolding colours_of
  colour_of k n = mem_map (colour_at colours) (reps m) k n

  -- how many colours there are, if they are the numbers below n
  pub count_exact : (n : ℕ) → ((k : ℕ) → Memᴰ k (colours_of m colours) → k < n) → ((k : ℕ) → k < n → Memᴰ k (colours_of m colours)) → colour_count m colours ≡ n
  unfolding colour_count
  count_exact n below every =
      let most = distinct_fits found (up_from 0 n) (firsts_distinct eqb eqb-true itself all_of) found_below in
      let least = distinct_fits (up_from 0 n) found (up_from_distinct 0 n) below_found in
      omega (arith, most, least, length-up_from 0 n)
    where
      itself : (x : ℕ) → eqb x x ≡ true
      itself x = eq-eqb x x refl

      all_of : List ℕ
      all_of = colours_of m colours

      found : List ℕ
      found = firsts eqb all_of

      found_below : (k : ℕ) → Memᴰ k found → Memᴰ k (up_from 0 n)
      found_below k i = up_from_mem 0 n k zero-le (omega (arith, below k (mem_firsts eqb all_of k i)))

      below_found : (k : ℕ) → Memᴰ k (up_from 0 n) → Memᴰ k found
      below_found k i = firsts_mem eqb eqb-true itself all_of k (every k (omega (arith, (mem_up_from 0 n k i).1)))

-- equal counts hold of every colour, whether it is there or not
module _ (a b : Model) (c : Sides) (equal : equal_counts a b c ≡ true) where
  pub equal_at : (k : ℕ) → how_many (eqb k) (colours_of a c.left) ≡ how_many (eqb k) (colours_of b c.right)
  unfolding equal_counts
  equal_at = equal_everywhere (colours_of a c.left) (colours_of b c.right) equal

  -- a colour of the right side is one of the left
  pub right_left : (k : ℕ) → Memᴰ k (colours_of b c.right) → Memᴰ k (colours_of a c.left)
  right_left k m = counted_there k (colours_of a c.left) (omega (arith, equal_at k, there_counted k (colours_of b c.right) m))

module _ (a b : Model) (c : Sides) where
  -- the colours that a side has after the round
  abbrev pub colours_after : Side → List ℕ
  colours_after s = colours_of (model_on a b s) (colours_on (round a b c) s)

  pub below_palette : (s : Side) (k : ℕ) → Memᴰ k (colours_after s) → k < length (palette a b c)
  below_palette s k m =
      let o = colour_of (model_on a b s) (colours_on (round a b c) s) k m in
      omega (arith, o.2, round_at a b c s o.0 o.1, number_known a b c s o.0 o.1)

  -- every number of the palette is given, on the left or on the right
  abbrev keys_on : Side → List Key
  keys_on s = map (key_of (model_on a b s) (colours_on c s)) (reps (model_on a b s))

  given_by_lem : (s : Side) (k : ℕ) (z : Key) → first_at (same_key z) (palette a b c) ≡ k → Memᴰ z (keys_on s) → Memᴰ k (colours_after s)
  given_by_lem s k z its m =
      let o = mem_map (key_of (model_on a b s) (colours_on c s)) (reps (model_on a b s)) z m in
      let e : colour_at (colours_on (round a b c) s) o.0 ≡ k =
      round_at a b c s o.0 o.1 ∙ ap (λ (w : Key). first_at (same_key w) (palette a b c)) (sym o.2) ∙ its
      in
      subst (λ (v : ℕ). Memᴰ v (colours_after s)) e (colour_there (model_on a b s) (colours_on (round a b c) s) o.0 o.1)

  pub all_given : (k : ℕ) → k < length (palette a b c) → Memᴰ k (colours_after on_left) ⊎ Memᴰ k (colours_after on_right)
  unfolding palette
  all_given k h = go (Memᴰ.append_cases left_keys (mem_firsts same_key (left_keys ++ right_keys) z (get_d_mem (firsts same_key (left_keys ++ right_keys)) k none h)))
    where
      left_keys : List Key
      left_keys = map (key_of a c.left) (reps a)

      right_keys : List Key
      right_keys = map (key_of b c.right) (reps b)

      none : Key
      none = record { own = 0; places = [] }

      z : Key
      z = get_or (firsts same_key (left_keys ++ right_keys)) k none

      its : first_at (same_key z) (palette a b c) ≡ k
      its = class_place same_key key_refl key_sym (left_keys ++ right_keys) k none h

      go : Memᴰ z left_keys ⊎ Memᴰ z right_keys → Memᴰ k (colours_after on_left) ⊎ Memᴰ k (colours_after on_right)
      go (inl m) = inl (given_by_lem on_left k z its m)
      go (inr m) = inr (given_by_lem on_right k z its m)

  module _ (equal : equal_counts a b (round a b c) ≡ true) where
    pub all_left : (k : ℕ) → k < length (palette a b c) → Memᴰ k (colours_after on_left)
    all_left k h = go (all_given k h)
      where
        go : Memᴰ k (colours_after on_left) ⊎ Memᴰ k (colours_after on_right) → Memᴰ k (colours_after on_left)
        go (inl m) = m
        go (inr m) = right_left a b (round a b c) equal k m

    -- the left colours are as many as the palette has keys
    pub left_count : colour_count a (round a b c).left ≡ length (palette a b c)
    left_count = count_exact a (round a b c).left (length (palette a b c)) (below_palette on_left) all_left

    -- so that every colour of either side is below their number: that number is no colour yet
    pub colour_below : (s : Side) (x : ℕ) → RepOn a b c s x → colour_at (colours_on (round a b c) s) x < colour_count a (round a b c).left
    colour_below s x m = omega (arith, left_count, round_at a b c s x m, number_known a b c s x m)

    pub colour_left : (k : ℕ) → k < colour_count a (round a b c).left → Memᴰ k (colours_after on_left)
    colour_left k h = all_left k (omega (arith, left_count))
