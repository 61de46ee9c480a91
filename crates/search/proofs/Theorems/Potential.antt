-- The potential of a state: what its colours may still take, and for each open choice the candidates to be looked at and what those of its colour may take. Every step takes one unit and
-- lowers the potential by one or more. Assumes nothing.
use Prim.Native.Nat.{ℕ, suc, ◌+◌, ◌*◌, ◌-◌, ◌≤◌}
use mathlib.Core.Path.{◌≡◌, refl, sym, ◌∙◌, ap, subst}
use mathlib.Core.Logic.{◌⊎◌, inl, inr}
use mathlib.Core.Bool.{Bool, true, false}
use mathlib.Core.List.{List, [], ◌∷◌}
use native.Mathlib.Omega.{arith}
use native.Mathlib.Nat.{mul-le-mul, suc-mul}
use lib.ListN.{length, set}
use lib.Dec.{eqb}
use Rattle.std.specs.Prelude.{Option, None, Some}
use Rattle.lists.specs.Every.{how_many}
use Rattle.lists.proofs.Laws.Tests.{split}
use Rattle.lists.proofs.Laws.Counting.{how_many_none, how_many_yes, how_many_no}
use Rattle.stored.specs.Model.{Model}
use Rattle.rounds.specs.Colours.{colour_at}
use Rattle.rounds.specs.Round.{reps, Sides, Outcome, dead, stable, again, colour_count, round_outcome}
use Rattle.rounds.specs.Classes.{smallest_open, lowest_of}
use Rattle.rounds.proofs.Theorems.Classes.{count_fits, again_raises, stable_keeps, open_below, trial_raises}
use Rattle.rounds.proofs.Theorems.Members.{class_room, as_many_right}
use Rattle.search.specs.Machine.{Choice, State, refine, close, choose, done, Step, there, nowhere, takes}
use Rattle.search.specs.Machine.{map_of, closes, choice_at, after_stable, after_round, after_closing, gone_on, tried, try_candidate, next_choice, step}
use Rattle.search.proofs.Theorems.Numbers.{units_lacking, lacking_more, lacking_step, lacking_two, lacking_grows}

-- whether a candidate has the colour of a choice
unfoldable pub wanted : Choice → ℕ → Bool
wanted e y = eqb (colour_at e.sides.right y) e.old

-- the next choice, by the candidates left of the latest
next_looks : (e : Choice) (y : ℕ) (ys : List ℕ) (choices : List Choice) → e.rest ≡ y ∷ ys → next_choice (e ∷ choices) ≡ takes 1 (try_candidate e y ys choices)
unfolding next_choice
next_looks e y ys choices q = ap (λ (r : List ℕ). elim r as (λ x. Step) [ [] ↦ next_choice choices | z ∷ zs ↦ takes 1 (try_candidate e z zs choices) ]) q

next_closes : (e : Choice) (choices : List Choice) → e.rest ≡ [] → next_choice (e ∷ choices) ≡ next_choice choices
unfolding next_choice
next_closes e choices q = ap (λ (r : List ℕ). elim r as (λ x. Step) [ [] ↦ next_choice choices | z ∷ zs ↦ takes 1 (try_candidate e z zs choices) ]) q

module _ (a : Model) where
  -- what left colours may take
  unfoldable pub colours_take : List ℕ → ℕ
  colours_take left = units_lacking (length (reps a)) (length (reps a) - colour_count a left)

  -- what a candidate of the colour of a choice may take
  unfoldable pub candidate_takes : Choice → ℕ
  candidate_takes e = colours_take (set e.sides.left e.element e.new)

  unfoldable pub choices_take : List Choice → ℕ
  choices_take [] = 0
  choices_take (e ∷ choices) = length e.rest + how_many (wanted e) e.rest * candidate_takes e + choices_take choices

  unfoldable pub potential : State → ℕ
  potential (refine c choices) = colours_take c.left + choices_take choices
  potential (close c choices) = 1 + choices_take choices
  potential (choose choices) = choices_take choices
  potential (done f) = 0

  -- a step that takes units takes them from the potential
  abbrev pub Lowers : ℕ → Step → Type 0
  Lowers n (there f) = Unit {0}
  Lowers n nowhere = Unit {0}
  Lowers n (takes u t) = (u ≡ 1) × (1 + potential t ≤ n)

  -- a candidate is looked at
  module _ (e : Choice) (y : ℕ) (ys : List ℕ) (choices : List Choice) where
    candidate_lowers : e.rest ≡ y ∷ ys → 1 + potential (try_candidate e y ys choices) ≤ choices_take (e ∷ choices)
    unfolding try_candidate choices_take potential gone_on tried candidate_takes wanted
    candidate_lowers q = by_colour (split (eqb (colour_at e.sides.right y) e.old))
      where
        by_colour : (eqb (colour_at e.sides.right y) e.old ≡ true) ⊎ (eqb (colour_at e.sides.right y) e.old ≡ false) → 1 + potential (try_candidate e y ys choices) ≤ choices_take (e ∷ choices)
        by_colour (inl t) = rw (t, try_candidate, q, choices_take, how_many_yes (wanted e) y ys t) (omega (arith, suc-mul (how_many (wanted e) ys) (candidate_takes e)))
        by_colour (inr t) = rw (t, try_candidate, q, choices_take, how_many_no (wanted e) y ys t) (omega arith)

  -- a choice that is used up has no potential
  used_up : (e : Choice) (choices : List Choice) → e.rest ≡ [] → choices_take (e ∷ choices) ≡ choices_take choices
  unfolding choices_take
  used_up e choices q =
      let x : length e.rest ≡ 0 = ap length q in
      let y : how_many (wanted e) e.rest * candidate_takes e ≡ 0 * candidate_takes e = ap (λ (n : ℕ). n * candidate_takes e) (ap (how_many (wanted e)) q ∙ how_many_none (wanted e)) in
      omega arith

  choice_lowers : (choices : List Choice) → Lowers (choices_take choices) (next_choice choices)
  choice_lowers [] = unfold next_choice in tt
  choice_lowers (e ∷ choices) = by_rest e.rest refl (choice_lowers choices)
    where
      by_rest : (ys : List ℕ) → e.rest ≡ ys → Lowers (choices_take choices) (next_choice choices) → Lowers (choices_take (e ∷ choices)) (next_choice (e ∷ choices))
      by_rest [] q ih = rw (next_closes e choices q, used_up e choices q) ih
      by_rest (y ∷ ys) q ih = subst (Lowers (choices_take (e ∷ choices))) (sym (next_looks e y ys choices q)) (refl, candidate_lowers e y ys choices q)

  closing_lowers : (f : List ℕ) (choices : List Choice) (t : Bool) → 1 + potential (after_closing choices f t) ≤ 1 + choices_take choices
  unfolding after_closing potential
  closing_lowers f choices true = omega arith
  closing_lowers f choices false = omega arith

  module _ (b : Model) (as_many : length (reps b) ≡ length (reps a)) where
    -- a stable round opens a choice: its class has at most one more member than colours are lacking, and a trial has one colour more
    module _ (c d : Sides) (k : ℕ) (is-stable : round_outcome a b c ≡ stable d) (is_open : smallest_open a d.left ≡ Some k) where
      abbrev lacking : ℕ
      lacking = length (reps a) - suc (colour_count a d.left)

      abbrev trial_takes : ℕ
      trial_takes = colours_take (set d.left (lowest_of a d.left k) (colour_count a d.left))

      abbrev candidates : ℕ
      candidates = how_many (λ (y : ℕ). eqb (colour_at d.right y) k) (reps b)

      trial_lacks : trial_takes ≡ units_lacking (length (reps a)) lacking
      unfolding colours_take
      trial_lacks = ap (λ (n : ℕ). units_lacking (length (reps a)) (length (reps a) - n)) (trial_raises a b c d is-stable k is_open)

      few_candidates : candidates ≤ suc (suc lacking)
      few_candidates = omega (arith, as_many_right a b c d is-stable k, class_room a d.left k, open_below a b c d is-stable k is_open)

      opened_takes : 1 + (length (reps b) + candidates * trial_takes) ≤ colours_take c.left
      unfolding colours_take
      opened_takes =
          let trials : candidates * trial_takes ≤ suc (suc lacking) * units_lacking (length (reps a)) lacking = mul-le-mul few_candidates (omega (arith, trial_lacks)) in
          let same : length (reps a) - colour_count a c.left ≡ suc lacking = omega (arith, stable_keeps a b c d is-stable, open_below a b c d is-stable k is_open) in
          rw same (omega (arith, trials, lacking_more (length (reps a)) lacking))

      opening_lowers : (choices : List Choice) → 1 + choices_take (choice_at a b d k ∷ choices) ≤ colours_take c.left + choices_take choices
      unfolding choices_take choice_at candidate_takes wanted
      opening_lowers choices = omega (arith, opened_takes)

    again_lowers : (c d : Sides) → round_outcome a b c ≡ again d → 1 + colours_take d.left ≤ colours_take c.left
    unfolding colours_take
    again_lowers c d e =
        let r = length (reps a) in
        let raised = again_raises a b c d e in
        let fits = count_fits a d.left in
        let j = r - suc (colour_count a c.left) in
        let same : r - colour_count a c.left ≡ suc j = omega arith in
        let fewer = lacking_grows r (r - colour_count a d.left) j (omega arith) in
        rw same (omega (arith, fewer, lacking_step r j))

    colours_two : (left : List ℕ) → 2 ≤ colours_take left
    unfolding colours_take
    colours_two left = lacking_two (length (reps a)) _

    round_lowers : (c : Sides) (choices : List Choice) (o : Outcome) → round_outcome a b c ≡ o → 1 + potential (after_round a b choices o) ≤ colours_take c.left + choices_take choices
    unfolding after_round after_stable potential
    round_lowers c choices dead e = omega (arith, colours_two c.left)
    round_lowers c choices (again d) e = omega (arith, again_lowers c d e)
    round_lowers c choices (stable d) e = by_class (smallest_open a d.left) refl
      where
        by_class : (o : Option ℕ) → smallest_open a d.left ≡ o → 1 + potential (after_stable a b d choices o) ≤ colours_take c.left + choices_take choices
        by_class None q = omega (arith, colours_two c.left)
        by_class (Some k) q = opening_lowers c d k e q choices

    -- every step
    pub step_lowers : (s : State) → Lowers (potential s) (step 1 a b s)
    unfolding step potential
    step_lowers (refine c choices) = (refl, round_lowers c choices (round_outcome a b c) refl)
    step_lowers (close c choices) = (refl, closing_lowers (map_of a b c) choices (closes a b (map_of a b c)))
    step_lowers (choose choices) = choice_lowers choices
    step_lowers (done f) = tt
