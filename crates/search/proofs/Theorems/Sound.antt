-- Sound: what a run finds takes the left representatives one to one onto the right ones and the rows of each relation into those of its counterpart and onto them, and is 255 at aliases.
-- Assumes nothing; that the right model has no more relations than the left one is a hypothesis.
use Prim.Native.Nat.{ℕ, suc, ◌<◌, ◌≤◌}
use mathlib.Core.Path.{◌≡◌, sym, ◌∙◌, ap, subst}
use mathlib.Core.Logic.{by_cases}
use mathlib.Core.Bool.{Bool, true, false, ◌&&◌}
use mathlib.Core.List.{List, [], Memᴰ}
use native.Mathlib.Omega.{arith}
use native.Mathlib.Decide.{dec_le}
use borrow.Author.Tests.{eqb-true, eq-eqb}
use lib.ListN.{length, get_or-eq_default}
use lib.Dec.{eqb}
use Rattle.std.specs.Prelude.{None}
use Rattle.lists.specs.First.{lowest}
use Rattle.lists.proofs.Laws.Tests.{and_left, and_right, and_both}
use Rattle.lists.proofs.Laws.First.{lowest_passes}
use Rattle.lists.proofs.Laws.Entries.{length_entries, entry_at_lem}
use Rattle.stored.specs.Model.{Model, size, is_rep}
use Rattle.stored.specs.Canonical.{canonical}
use Rattle.stored.proofs.Laws.WellFormed.{WellFormed}
use Rattle.rows.proofs.Theorems.Among.{entry_of}
use Rattle.rounds.specs.Colours.{colour_at}
use Rattle.rounds.specs.Round.{reps, Sides, round, equal_counts}
use Rattle.rounds.specs.Classes.{smallest_open}
use Rattle.rounds.proofs.Theorems.Keys.{reps_below_lem, reps_rep, rep_reps}
use Rattle.rounds.proofs.Theorems.Alive.{Carries}
use Rattle.rounds.proofs.Theorems.Carrying.{CarriesSets, sets_carry}
use Rattle.rounds.proofs.Theorems.Single.{TellsApart, lowest_reached, stable_round, single_left, single_right, same_right, same_left}
use Rattle.search.specs.Machine.{refine, image_of, map_of, closes, found, run}
use Rattle.search.specs.Partners.{Partners}
use Rattle.search.specs.Find.{searched}
use Rattle.search.specs.Closing.{OneToOne}
use Rattle.search.proofs.Theorems.Closing.{closes_into, closes_onto}
use Rattle.search.proofs.Theorems.Steps.{SingleStable, Closed, found_closed, searched_closed}

module _ (a b : Model) (c : Sides) where
  pub map_length : length (map_of a b c) ≡ size a
  unfolding map_of
  map_length = length_entries (image_of a b c) (size a)

  pub map_alias : (x : ℕ) → is_rep a x ≡ false → entry_of (map_of a b c) x ≡ 255
  unfolding map_of image_of
  map_alias x h =
      by_cases (dec_le (suc x) (size a)) (λ l. entry_at_lem (image_of a b c) (size a) x 255 l ∙ rw (h, image_of)) (λ l. get_or-eq_default (map_of a b c) 255 (omega (arith, map_length)))

  -- an element of its colour, or none
  abbrev pub of_colour : ℕ → ℕ → Bool
  of_colour x y = is_rep b y && eqb (colour_at c.right y) (colour_at c.left x)

  pub map_rep : (x : ℕ) → Memᴰ x (reps a) → entry_of (map_of a b c) x ≡ lowest (of_colour x) 0 (size b)
  unfolding map_of image_of
  map_rep x m = entry_at_lem (image_of a b c) (size a) x 255 (reps_below_lem a x m) ∙ rw (reps_rep a x m, image_of)

  pub same_colour : (x y : ℕ) → of_colour x y ≡ true → colour_at c.right y ≡ colour_at c.left x
  same_colour x y h = eqb-true (colour_at c.right y) (colour_at c.left x) (and_right (is_rep b y) (eqb (colour_at c.right y) (colour_at c.left x)) h)

  -- where the image is a representative, it has the colour of the element
  pub image_colour : (x : ℕ) → Memᴰ x (reps a) → Memᴰ (entry_of (map_of a b c) x) (reps b) → colour_at c.right (entry_of (map_of a b c) x) ≡ colour_at c.left x
  image_colour x m n =
      let e = map_rep x m in
      let l : lowest (of_colour x) 0 (size b) < size b = subst (λ (v : ℕ). v < size b) e (reps_below_lem b (entry_of (map_of a b c) x) n) in
      subst (λ (v : ℕ). colour_at c.right v ≡ colour_at c.left x) (sym e) (same_colour x (lowest (of_colour x) 0 (size b)) (lowest_passes (of_colour x) 0 (size b) (omega arith)))

-- colours that pair off the representatives of both sides
record Matching (a b : Model) (c : Sides) : Type 0 where
  apart_left : TellsApart a c.left
  apart_right : TellsApart b c.right
  to_right : (x : ℕ) → Memᴰ x (reps a) → (y : ℕ) × Memᴰ y (reps b) × (colour_at c.right y ≡ colour_at c.left x)
  to_left : (y : ℕ) → Memᴰ y (reps b) → (x : ℕ) × Memᴰ x (reps a) × (colour_at c.left x ≡ colour_at c.right y)

settled_matching : (a b : Model) (c : Sides) → SingleStable a b c → Matching a b c
settled_matching a b c s = subst (Matching a b) r.0 (record {
  apart_left = single_left a b s.before r.1 single;
  apart_right = single_right a b s.before r.1 single;
  to_right = same_right a b (round a b s.before) r.1;
  to_left = same_left a b (round a b s.before) r.1;
})
  where
    r : (round a b s.before ≡ c) × (equal_counts a b (round a b s.before) ≡ true)
    r = stable_round a b s.before c s.was_stable

    single : smallest_open a (round a b s.before).left ≡ None
    single = subst (λ (d : Sides). smallest_open a d.left ≡ None) (sym r.0) s.was_single

module _ (a b : Model) (c : Sides) (matching : Matching a b c) where
  map_to_rep : (x : ℕ) → Memᴰ x (reps a) → Memᴰ (entry_of (map_of a b c) x) (reps b)
  map_to_rep x m =
      let o = matching.to_right x m in
      let passes = and_both (is_rep b o.0) (eqb (colour_at c.right o.0) (colour_at c.left x)) (reps_rep b o.0 o.1) (eq-eqb _ _ o.2) in
      let r = lowest_reached (of_colour a b c x) (size b) o.0 (reps_below_lem b o.0 o.1) passes in
      let y = lowest (of_colour a b c x) 0 (size b) in
      subst (λ (v : ℕ). Memᴰ v (reps b)) (sym (map_rep a b c x m)) (rep_reps b y r.0 (and_left (is_rep b y) (eqb (colour_at c.right y) (colour_at c.left x)) r.1))

  map_colour : (x : ℕ) → Memᴰ x (reps a) → colour_at c.right (entry_of (map_of a b c) x) ≡ colour_at c.left x
  map_colour x m = image_colour a b c x m (map_to_rep x m)

  map_one_to_one : (x y : ℕ) → Memᴰ x (reps a) → Memᴰ y (reps a) → entry_of (map_of a b c) x ≡ entry_of (map_of a b c) y → x ≡ y
  map_one_to_one x y m n e = matching.apart_left x y m n (sym (map_colour x m) ∙ ap (colour_at c.right) e ∙ map_colour y n)

  map_onto : (y : ℕ) → Memᴰ y (reps b) → (x : ℕ) × Memᴰ x (reps a) × (entry_of (map_of a b c) x ≡ y)
  map_onto y n =
      let o = matching.to_left y n in
      (o.0, o.1, matching.apart_right (entry_of (map_of a b c) o.0) y (map_to_rep o.0 o.1) n (map_colour o.0 o.1 ∙ o.2))

-- the map of stable single colours is one to one
pub settled_one_to_one : (a b : Model) (c : Sides) → SingleStable a b c → OneToOne a (map_of a b c)
settled_one_to_one a b c s = map_one_to_one a b c (settled_matching a b c s)

-- a map as it is found
pub record Sound (a b : Model) (g : List ℕ) : Type 0 where
  pub its_length : length g ≡ size a
  pub at_alias : (x : ℕ) → is_rep a x ≡ false → entry_of g x ≡ 255
  pub carries : CarriesSets a b (entry_of g)

module _ (a b : Model) (relations_fit : length b.relations ≤ length a.relations) where
  map_sound : (c : Sides) → SingleStable a b c → closes a b (map_of a b c) ≡ true → Sound a b (map_of a b c)
  map_sound c s passed = record {
    its_length = map_length a b c;
    at_alias = map_alias a b c;
    carries = record {
      to_rep = map_to_rep a b c matching;
      keeps_apart = map_one_to_one a b c matching;
      onto = map_onto a b c matching;
      rows_into = closes_into a b (map_of a b c) passed;
      rows_onto = closes_onto a b (map_of a b c) passed relations_fit;
    };
  }
    where
      matching : Matching a b c
      matching = settled_matching a b c s

  pub closed_sound : (g : List ℕ) → Closed a b g → Sound a b g
  closed_sound g h = subst (Sound a b) (sym h.is_map_lem) (map_sound h.sides h.settled (subst (λ (f : List ℕ). closes a b f ≡ true) h.is_map_lem h.passed))

  -- what a run finds
  pub found_sound : (w fuel left used : ℕ) (c : Sides) (u : ℕ) (g : List ℕ) → run fuel w a b left used (refine c []) ≡ found u g → Sound a b g
  found_sound w fuel left used c u g e = closed_sound g (found_closed a b w fuel left used c u g e)

  pub searched_sound : (budget : ℕ) (p : Partners) (u : ℕ) (g : List ℕ) → searched a b budget p ≡ found u g → Sound a b g
  searched_sound budget p u g e = closed_sound g (searched_closed a b budget p u g e)

  -- between well formed models, the left one canonical, it carries the left model onto the right one
  pub sound_carries : WellFormed a → WellFormed b → canonical a ≡ true → (g : List ℕ) → Sound a b g → Carries a b (entry_of g)
  sound_carries left_formed right_formed plain g h = sets_carry a b (entry_of g) left_formed right_formed plain h.carries
