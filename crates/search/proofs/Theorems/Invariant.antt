-- Invariants of the machine: a property of states that each kind of step keeps holds of every state that is reached, of the map that a run finds, and, where a run ends with none, of no
-- open choice. Assumes nothing.
use Prim.Native.Nat.{ℕ, zero, suc, ◌+◌, ◌-◌}
use mathlib.Core.Path.{◌≡◌, refl, subst}
use mathlib.Core.Logic.{◌⊎◌, inl, inr}
use mathlib.Core.Bool.{Bool, true, false}
use mathlib.Core.List.{List, [], ◌∷◌}
use lib.Dec.{leb, eqb}
use borrow.Author.Tests.{leb-true, leb-false, eqb-true, eqb-false}
use Rattle.std.specs.Prelude.{Option, None, Some}
use Rattle.lists.proofs.Laws.Tests.{split}
use Rattle.stored.specs.Model.{Model}
use Rattle.rounds.specs.Colours.{colour_at}
use Rattle.rounds.specs.Round.{Sides, Outcome, dead, stable, again, round_outcome}
use Rattle.rounds.specs.Classes.{smallest_open}
use Rattle.search.specs.Machine.{Choice, State, refine, close, choose, done, Step, there, nowhere, takes}
use Rattle.search.specs.Machine.{map_of, closes, choice_at, after_stable, after_round, after_closing, gone_on, tried, try_candidate, next_choice, step, Reached, here, next, Ended, found, none, exhausted, run}
use Rattle.search.proofs.Laws.Run.{run_there, run_nowhere, run_takes, run_short, run_out}

-- a property of states that every kind of step keeps
pub record Kept (a b : Model) (Holds : State → Type 0) : Type 0 where
  pub dead_end : (c : Sides) (choices : List Choice) → Holds (refine c choices) → round_outcome a b c ≡ dead → Holds (choose choices)
  pub goes_on : (c d : Sides) (choices : List Choice) → Holds (refine c choices) → round_outcome a b c ≡ again d → Holds (refine d choices)
  pub opens :
      (c d : Sides) (k : ℕ) (choices : List Choice) → Holds (refine c choices) → round_outcome a b c ≡ stable d → smallest_open a d.left ≡ Some k → Holds (choose (choice_at a b d k ∷ choices))
  pub all_single_lem : (c d : Sides) (choices : List Choice) → Holds (refine c choices) → round_outcome a b c ≡ stable d → smallest_open a d.left ≡ None → Holds (close d choices)
  pub closing_passes : (c : Sides) (choices : List Choice) → Holds (close c choices) → closes a b (map_of a b c) ≡ true → Holds (done (map_of a b c))
  pub closing_fails : (c : Sides) (choices : List Choice) → Holds (close c choices) → closes a b (map_of a b c) ≡ false → Holds (choose choices)
  pub used_up : (e : Choice) (choices : List Choice) → Holds (choose (e ∷ choices)) → e.rest ≡ [] → Holds (choose choices)
  pub tries :
      (e : Choice) (y : ℕ) (ys : List ℕ) (choices : List Choice) → Holds (choose (e ∷ choices)) → e.rest ≡ y ∷ ys → colour_at e.sides.right y ≡ e.old
      → Holds (refine (tried e y) (gone_on e ys ∷ choices))
  pub passes_by :
      (e : Choice) (y : ℕ) (ys : List ℕ) (choices : List Choice) → Holds (choose (e ∷ choices)) → e.rest ≡ y ∷ ys → (colour_at e.sides.right y ≡ e.old → ⊥)
      → Holds (choose (gone_on e ys ∷ choices))

module _ (a b : Model) (Holds : State → Type 0) (kept : Kept a b Holds) where
  abbrev AfterStep : Step → Type 0
  AfterStep (there f) = Holds (done f)
  AfterStep nowhere = Holds (choose [])
  AfterStep (takes n s) = Holds s

  abbrev AtEnd : Ended → Type 0
  AtEnd (found u f) = Holds (done f)
  AtEnd (none u) = Holds (choose [])
  AtEnd (exhausted u) = Unit {0}

  after_round_lem : (c : Sides) (choices : List Choice) → Holds (refine c choices) → (o : Outcome) → round_outcome a b c ≡ o → Holds (after_round a b choices o)
  unfolding after_round after_stable
  after_round_lem c choices h dead e = kept.dead_end c choices h e
  after_round_lem c choices h (again d) e = kept.goes_on c d choices h e
  after_round_lem c choices h (stable d) e = by_class (smallest_open a d.left) refl
    where
      by_class : (o : Option ℕ) → smallest_open a d.left ≡ o → Holds (after_stable a b d choices o)
      by_class None q = kept.all_single_lem c d choices h e q
      by_class (Some k) q = kept.opens c d k choices h e q

  after_closing_lem : (c : Sides) (choices : List Choice) → Holds (close c choices) → (t : Bool) → closes a b (map_of a b c) ≡ t → Holds (after_closing choices (map_of a b c) t)
  unfolding after_closing
  after_closing_lem c choices h true e = kept.closing_passes c choices h e
  after_closing_lem c choices h false e = kept.closing_fails c choices h e

  after_candidate : (e : Choice) (y : ℕ) (ys : List ℕ) (choices : List Choice) → Holds (choose (e ∷ choices)) → e.rest ≡ y ∷ ys → Holds (try_candidate e y ys choices)
  unfolding try_candidate
  after_candidate e y ys choices h q = by_colour (split (eqb (colour_at e.sides.right y) e.old))
    where
      by_colour : (eqb (colour_at e.sides.right y) e.old ≡ true) ⊎ (eqb (colour_at e.sides.right y) e.old ≡ false) → Holds (try_candidate e y ys choices)
      by_colour (inl t) = rw (t, try_candidate) (kept.tries e y ys choices h q (eqb-true _ _ t))
      by_colour (inr t) = rw (t, try_candidate) (kept.passes_by e y ys choices h q (eqb-false _ _ t))

  after_choice : (choices : List Choice) → Holds (choose choices) → AfterStep (next_choice choices)
  unfolding next_choice
  after_choice [] h = h
  after_choice (e ∷ choices) h = by_rest e.rest refl (after_choice choices)
    where
      by_rest : (ys : List ℕ) → e.rest ≡ ys → (Holds (choose choices) → AfterStep (next_choice choices)) → AfterStep (next_choice (e ∷ choices))
      by_rest [] q ih = rw (q, next_choice) (ih (kept.used_up e choices h q))
      by_rest (y ∷ ys) q ih = rw (q, next_choice) (after_candidate e y ys choices h q)

  pub after_step : (w : ℕ) (s : State) → Holds s → AfterStep (step w a b s)
  unfolding step
  after_step w (refine c choices) h = after_round_lem c choices h (round_outcome a b c) refl
  after_step w (close c choices) h = after_closing_lem c choices h (closes a b (map_of a b c)) refl
  after_step w (choose choices) h = after_choice choices h
  after_step w (done f) h = h

  -- of every state that is reached
  pub when_reached : (w : ℕ) (start s : State) → Reached w a b start s → Holds start → Holds s
  when_reached w start s here h = h
  when_reached w start s (next p r n t e) h = subst AfterStep e (after_step w p (when_reached w start p r h))

  -- of what a run ends with
  pub at_end : (w fuel left used : ℕ) (s : State) → Holds s → AtEnd (run fuel w a b left used s)
  at_end w zero left used s h = by_step (step w a b s) refl (after_step w s h)
    where
      by_step : (x : Step) → step w a b s ≡ x → AfterStep (step w a b s) → AtEnd (run 0 w a b left used s)
      by_step (there f) e k = rw (run_there w a b 0 left used s f e) (subst AfterStep e k)
      by_step nowhere e k = rw (run_nowhere w a b 0 left used s e) (subst AfterStep e k)
      by_step (takes n t) e k = rw (run_out w a b left used n s t e) tt
  at_end w (suc fuel) left used s h = by_step (step w a b s) refl (after_step w s h) (at_end w fuel)
    where
      by_step : (x : Step) → step w a b s ≡ x → AfterStep (step w a b s) → ((l u : ℕ) (t : State) → Holds t → AtEnd (run fuel w a b l u t)) → AtEnd (run (suc fuel) w a b left used s)
      by_step (there f) e k ih = rw (run_there w a b (suc fuel) left used s f e) (subst AfterStep e k)
      by_step nowhere e k ih = rw (run_nowhere w a b (suc fuel) left used s e) (subst AfterStep e k)
      by_step (takes n t) e k ih = by_units (split (leb n left))
        where
          by_units : (leb n left ≡ true) ⊎ (leb n left ≡ false) → AtEnd (run (suc fuel) w a b left used s)
          by_units (inl q) = rw (run_takes w a b fuel left used n s t e (leb-true n left q)) (ih (left - n) (used + n) t (subst AfterStep e k))
          by_units (inr q) = rw (run_short w a b (suc fuel) left used n s t e (leb-false n left q)) tt

  pub when_found : (w fuel left used : ℕ) (s : State) → Holds s → (u : ℕ) (f : List ℕ) → run fuel w a b left used s ≡ found u f → Holds (done f)
  when_found w fuel left used s h u f e = subst AtEnd e (at_end w fuel left used s h)

  pub when_none : (w fuel left used : ℕ) (s : State) → Holds s → (u : ℕ) → run fuel w a b left used s ≡ none u → Holds (choose [])
  when_none w fuel left used s h u e = subst AtEnd e (at_end w fuel left used s h)

-- found comes only from a state that is done, and a run that finds reaches it
module _ (w : ℕ) (a b : Model) where
  abbrev OnlyDone : State → Step → Type 0
  OnlyDone s (there f) = s ≡ done f
  OnlyDone s nowhere = Unit {0}
  OnlyDone s (takes n t) = Unit {0}

  choices_not_there : (s : State) (choices : List Choice) → OnlyDone s (next_choice choices)
  unfolding next_choice
  choices_not_there s [] = tt
  choices_not_there s (e ∷ choices) = by_rest e.rest refl (choices_not_there s choices)
    where
      by_rest : (ys : List ℕ) → e.rest ≡ ys → OnlyDone s (next_choice choices) → OnlyDone s (next_choice (e ∷ choices))
      by_rest [] q ih = rw (q, next_choice) ih
      by_rest (y ∷ ys) q ih = rw (q, next_choice) tt

  only_done : (s : State) → OnlyDone s (step w a b s)
  unfolding step
  only_done (refine c choices) = tt
  only_done (close c choices) = tt
  only_done (choose choices) = choices_not_there (choose choices) choices
  only_done (done f) = refl

  pub there_when_done : (s : State) (f : List ℕ) → step w a b s ≡ there f → s ≡ done f
  there_when_done s f e = subst (OnlyDone s) e (only_done s)

  module _ (start : State) where
    abbrev FoundReached : Ended → Type 0
    FoundReached (found u f) = Reached w a b start (done f)
    FoundReached (none u) = Unit {0}
    FoundReached (exhausted u) = Unit {0}

    end_reached : (fuel left used : ℕ) (s : State) → Reached w a b start s → FoundReached (run fuel w a b left used s)
    end_reached zero left used s r = by_step (step w a b s) refl
      where
        by_step : (x : Step) → step w a b s ≡ x → FoundReached (run 0 w a b left used s)
        by_step (there f) e = rw (run_there w a b 0 left used s f e) (subst (Reached w a b start) (there_when_done s f e) r)
        by_step nowhere e = rw (run_nowhere w a b 0 left used s e) tt
        by_step (takes n t) e = rw (run_out w a b left used n s t e) tt
    end_reached (suc fuel) left used s r = by_step (step w a b s) refl (end_reached fuel)
      where
        by_step : (x : Step) → step w a b s ≡ x → ((l u : ℕ) (t : State) → Reached w a b start t → FoundReached (run fuel w a b l u t)) → FoundReached (run (suc fuel) w a b left used s)
        by_step (there f) e ih = rw (run_there w a b (suc fuel) left used s f e) (subst (Reached w a b start) (there_when_done s f e) r)
        by_step nowhere e ih = rw (run_nowhere w a b (suc fuel) left used s e) tt
        by_step (takes n t) e ih = by_units (split (leb n left))
          where
            by_units : (leb n left ≡ true) ⊎ (leb n left ≡ false) → FoundReached (run (suc fuel) w a b left used s)
            by_units (inl q) = rw (run_takes w a b fuel left used n s t e (leb-true n left q)) (ih (left - n) (used + n) t (next s r n t e))
            by_units (inr q) = rw (run_short w a b (suc fuel) left used n s t e (leb-false n left q)) tt

    pub found_reached : (fuel left used u : ℕ) (f : List ℕ) → run fuel w a b left used start ≡ found u f → Reached w a b start (done f)
    found_reached fuel left used u f e = subst FoundReached e (end_reached fuel left used start here)
