-- Small colours: those of a round are below 128 where the two sides have no more than 128 elements together, and a colour below 128 may be given to an
-- element of small ones. Assumes nothing.
use Prim.Native.Nat.{ℕ, ◌+◌, ◌<◌, ◌≤◌}
use mathlib.Core.Path.{◌≡◌, sym, ap, subst}
use mathlib.Core.Logic.{◌⊎◌, inl, inr, by_cases}
use mathlib.Core.Bool.{true}
use mathlib.Core.List.Memᴰ
use mathlib.Core.List.{List, ◌++◌, Memᴰ}
use native.Mathlib.Omega.{arith}
use native.Mathlib.Decide.{ℕ_discrete, dec_le}
use lib.ListN.{length, set, length-set, length-map, length-append, get_or-eq_default}
use lib.Seq.{get_or-set_same, get_or-set_other}
use Rattle.lists.specs.Numbers.{up_from}
use Rattle.lists.proofs.Laws.Counting.{distinct_fits, up_from_distinct}
use Rattle.lists.proofs.Laws.Different.{keep_fits}
use Rattle.lists.proofs.Laws.Numbers.{length-up_from, mem_up_from}
use Rattle.stored.specs.Model.{Model, size, is_rep}
use Rattle.rounds.specs.Colours.{no_colour, colour_at}
use Rattle.rounds.specs.Round.{reps, Sides, palette, round, colours_of}
use Rattle.rounds.specs.Parts.{are_small}
use Rattle.rounds.proofs.Laws.Counts.{small_below, below_small}
use Rattle.rounds.proofs.Theorems.Keys.{Side, on_left, on_right, reps_kept}
use Rattle.rounds.proofs.Theorems.Counts.{colour_there, colour_of, colours_after, below_palette, all_given}

module _ (m : Model) (colours : List ℕ) where
  colours_few : length (colours_of m colours) ≤ size m
  unfolding colours_of
  colours_few =
      omega (arith, length-map (reps m) (colour_at colours), ap length (reps_kept m), keep_fits (is_rep m) (up_from 0 (size m)), length-up_from 0 (size m))

  -- by the colours of the representatives
  pub small_each : ((x : ℕ) → Memᴰ x (reps m) → colour_at colours x < 128) → are_small (colours_of m colours) ≡ true
  small_each f =
      below_small (colours_of m colours)
      (λ k n. let o = colour_of m colours k n in subst (λ (v : ℕ). v < 128) (sym o.2) (f o.0 o.1))

  module _ (small : are_small (colours_of m colours) ≡ true) where
    pub each_small : (x : ℕ) → Memᴰ x (reps m) → colour_at colours x < 128
    each_small x n = small_below (colours_of m colours) small (colour_at colours x) (colour_there m colours x n)

-- a colour given to an element
pub set_small : (m : Model) (colours : List ℕ) (i v : ℕ) → v < 128 → are_small (colours_of m colours) ≡ true → are_small (colours_of m (set colours i v)) ≡ true
set_small m colours i v h small = small_each m (set colours i v) (λ x n. by_cases (ℕ_discrete x i) (given x n) (other x n))
  where
    other : (x : ℕ) → Memᴰ x (reps m) → (x ≡ i → ⊥) → colour_at (set colours i v) x < 128
    other x n d = omega (arith, get_or-set_other colours i x v no_colour d, each_small m colours small x n)

    given : (x : ℕ) → Memᴰ x (reps m) → x ≡ i → colour_at (set colours i v) x < 128
    given x n e =
        by_cases (dec_le (length colours) i)
        (λ l. omega (arith, h, e, each_small m colours small x n, ap (colour_at colours) e, ap (colour_at (set colours i v)) e, get_or-eq_default colours no_colour {n = i} l, get_or-eq_default (set colours i v) no_colour {n = i} (omega (arith, l, length-set colours i v))))
        (λ l. omega (arith, h, ap (colour_at (set colours i v)) e, get_or-set_same colours i v no_colour (omega (arith, l))))

-- a round
module _ (a b : Model) (c : Sides) where
  -- each key is that of a representative on the left or on the right
  palette_few : length (palette a b c) ≤ size a + size b
  palette_few =
      omega
      (arith, distinct_fits (up_from 0 (length (palette a b c))) (lefts ++ rights) (up_from_distinct 0 (length (palette a b c))) given, length-up_from 0 (length (palette a b c)), length-append lefts rights, colours_few a (round a b c).left, colours_few b (round a b c).right)
    where
      lefts : List ℕ
      lefts = colours_after a b c on_left

      rights : List ℕ
      rights = colours_after a b c on_right

      on_side : (k : ℕ) → Memᴰ k lefts ⊎ Memᴰ k rights → Memᴰ k (lefts ++ rights)
      on_side k (inl m) = Memᴰ.append_left rights m
      on_side k (inr m) = Memᴰ.append_right lefts m

      given : (k : ℕ) → Memᴰ k (up_from 0 (length (palette a b c))) → Memᴰ k (lefts ++ rights)
      given k m = on_side k (all_given a b c k (omega (arith, (mem_up_from 0 (length (palette a b c)) k m).1)))

  pub round_small : size a + size b ≤ 128 → (s : Side) → are_small (colours_after a b c s) ≡ true
  round_small h s = below_small (colours_after a b c s) (λ k m. omega (arith, h, palette_few, below_palette a b c s k m))
