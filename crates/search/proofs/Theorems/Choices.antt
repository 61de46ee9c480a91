-- Open choices: each has more colours than the one below it and fewer than the left has representatives, so fewer are open at a time than there are left representatives, in
-- every state that is reached from colours with no open choice. Assumes nothing.
use Prim.Native.Nat.{ℕ, suc, ◌-◌, ◌<◌, ◌≤◌}
use mathlib.Core.Path.{◌≡◌}
use mathlib.Core.List.{List, [], ◌∷◌}
use native.Mathlib.Omega.{arith}
use lib.ListN.{length, set}
use Rattle.std.specs.Prelude.{Some}
use Rattle.stored.specs.Model.{Model}
use Rattle.rounds.specs.Round.{reps, Sides, stable, round_outcome, colour_count}
use Rattle.rounds.specs.Classes.{smallest_open}
use Rattle.rounds.proofs.Theorems.Classes.{again_raises, stable_keeps, open_some, open_below, trial_raises}
use Rattle.search.specs.Machine.{Choice, State, refine, close, choose, done, open_in, choice_at, gone_on, tried, Reached}
use Rattle.search.specs.Find.{start_from}
use Rattle.search.proofs.Theorems.Invariant.{Kept, when_reached}
use Rattle.search.proofs.Theorems.Steps.{Opened, just_opened, still_opened}

-- the latest open choice has fewer colours
abbrev pub Above : ℕ → List Choice → Type 0
Above n [] = Unit {0}
Above n (e ∷ choices) = e.new < n

above_more : (m n : ℕ) (choices : List Choice) → m ≤ n → Above m choices → Above n choices
above_more m n [] h k = tt
above_more m n (e ∷ choices) h k = omega arith

module _ (a b : Model) where
  -- what is known of an open choice and those below it
  pub record Risen (e : Choice) (below : List Choice) : Type 0 where
    pub opened : Opened a b e
    pub some : 1 ≤ e.new
    pub fewer : e.new < length (reps a)
    pub above : Above e.new below

  abbrev pub Rising : List Choice → Type 0
  Rising [] = Unit {0}
  Rising (e ∷ choices) = Risen e choices × Rising choices

  abbrev pub RisingState : State → Type 0
  RisingState (refine c choices) = Above (colour_count a c.left) choices × Rising choices
  RisingState (close c choices) = Rising choices
  RisingState (choose choices) = Rising choices
  RisingState (done f) = Unit {0}

  -- so many choices are open at most
  as_many_colours : (e : Choice) (choices : List Choice) → Rising (e ∷ choices) → length (e ∷ choices) ≤ e.new
  as_many_colours e [] h = h.0.some
  as_many_colours e (d ∷ choices) h = omega (arith, as_many_colours d choices h.1, h.0.above)

  pub open_fewer : (e : Choice) (choices : List Choice) → Rising (e ∷ choices) → length (e ∷ choices) < length (reps a)
  open_fewer e choices h = omega (arith, as_many_colours e choices h, h.0.fewer)

  pub open_at_most : (choices : List Choice) → Rising choices → length choices ≤ length (reps a) - 1
  open_at_most [] h = omega arith
  open_at_most (e ∷ choices) h = omega (arith, open_fewer e choices h)

  has_gone_on : (e : Choice) (y : ℕ) (ys : List ℕ) (choices : List Choice) → Risen e choices → e.rest ≡ y ∷ ys → Risen (gone_on e ys) choices
  unfolding gone_on
  has_gone_on e y ys choices h q = record { opened = still_opened a b e y ys h.opened q; some = h.some; fewer = h.fewer; above = h.above }

  just_risen :
      (c d : Sides) (k : ℕ) (choices : List Choice) → Above (colour_count a c.left) choices → round_outcome a b c ≡ stable d → smallest_open a d.left ≡ Some k
      → Risen (choice_at a b d k) choices
  unfolding choice_at
  just_risen c d k choices h e q = record {
    opened = just_opened a b c d k e q;
    some = open_some a b c d e k q;
    fewer = open_below a b c d e k q;
    above = above_more _ _ choices (omega (arith, stable_keeps a b c d e)) h;
  }

  -- a trial has one colour more, which is the new one
  pub trial_count : (e : Choice) (y : ℕ) → Opened a b e → colour_count a (tried e y).left ≡ suc e.new
  unfolding tried
  trial_count e y h =
      let raised = trial_raises a b h.before e.sides h.was_stable e.old h.was_open in
      let same : colour_count a (set e.sides.left e.element e.new) ≡ suc (colour_count a e.sides.left) = cc (h.its_element, h.its_new, raised) in
      omega (arith, same, h.its_new)

  trial_above : (e : Choice) (y : ℕ) (ys : List ℕ) (choices : List Choice) → Opened a b e → Above (colour_count a (tried e y).left) (gone_on e ys ∷ choices)
  unfolding gone_on
  trial_above e y ys choices h = omega (arith, trial_count e y h)

  pub rising_kept : Kept a b RisingState
  rising_kept = record {
    dead_end = λ c choices h e. h.1;
    goes_on = λ c d choices h e. (above_more _ _ choices (omega (arith, again_raises a b c d e)) h.0, h.1);
    opens = λ c d k choices h e q. (just_risen c d k choices h.0 e q, h.1);
    all_single_lem = λ c d choices h e q. h.1;
    closing_passes = λ c choices h e. tt;
    closing_fails = λ c choices h e. h;
    used_up = λ e choices h q. h.1;
    tries = λ e y ys choices h q t. (trial_above e y ys choices h.0.opened, (has_gone_on e y ys choices h.0 q, h.1));
    passes_by = λ e y ys choices h q t. (has_gone_on e y ys choices h.0 q, h.1);
  }

  -- of every state reached from colours with no open choice
  pub reached_rising : (w : ℕ) (c : Sides) (s : State) → Reached w a b (refine c []) s → RisingState s
  reached_rising w c s r = when_reached a b RisingState rising_kept w (refine c []) s r (tt, tt)

  -- so of those of such a state
  rising_open : (s : State) → RisingState s → Rising (open_in s)
  rising_open (refine c choices) h = h.1
  rising_open (close c choices) h = h
  rising_open (choose choices) h = h
  rising_open (done f) h = tt

  pub open_choices : (w : ℕ) (c : Sides) (s : State) → Reached w a b (refine c []) s → length (open_in s) ≤ length (reps a) - 1
  open_choices w c s r = open_at_most (open_in s) (rising_open s (reached_rising w c s r))

  -- as of every search
  pub open_choices_from_start : (w : ℕ) (f g : List ℕ) (s : State) → Reached w a b (start_from a b f g) s → length (open_in s) ≤ length (reps a) - 1
  unfolding start_from
  open_choices_from_start w f g s r = open_choices w _ s r
