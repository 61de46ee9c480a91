-- The laws of a run, by what its first step comes to, and what a step takes. Assumes nothing.
use Prim.Native.Nat.{ℕ, zero, suc, ◌+◌, ◌-◌, ◌<◌, ◌≤◌}
use mathlib.Core.Path.{◌≡◌, refl}
use mathlib.Core.List.{List, [], ◌∷◌}
use native.Mathlib.Omega.{arith}
use borrow.Author.Tests.{le-leb, lt-leb}
use Rattle.stored.specs.Model.{Model}
use Rattle.search.specs.Machine.{Choice, State, refine, close, choose, done, Step, there, nowhere, takes, next_choice, step, found, none, exhausted, run}

module _ (w : ℕ) (a b : Model) where
  pub run_there : (fuel left used : ℕ) (s : State) (f : List ℕ) → step w a b s ≡ there f → run fuel w a b left used s ≡ found used f
  unfolding run
  run_there zero left used s f e = rw (e, run)
  run_there (suc fuel) left used s f e = rw (e, run)

  pub run_nowhere : (fuel left used : ℕ) (s : State) → step w a b s ≡ nowhere → run fuel w a b left used s ≡ none used
  unfolding run
  run_nowhere zero left used s e = rw (e, run)
  run_nowhere (suc fuel) left used s e = rw (e, run)

  -- a step whose units are left
  pub run_takes : (fuel left used n : ℕ) (s t : State) → step w a b s ≡ takes n t → n ≤ left → run (suc fuel) w a b left used s ≡ run fuel w a b (left - n) (used + n) t
  unfolding run
  run_takes fuel left used n s t e h = rw (e, run, le-leb n left h)

  -- a step whose units are not left
  pub run_short : (fuel left used n : ℕ) (s t : State) → step w a b s ≡ takes n t → left < n → run fuel w a b left used s ≡ exhausted used
  unfolding run
  run_short zero left used n s t e h = rw (e, run)
  run_short (suc fuel) left used n s t e h = rw (e, run, lt-leb n left h)

  -- no fuel
  pub run_out : (left used n : ℕ) (s t : State) → step w a b s ≡ takes n t → run 0 w a b left used s ≡ exhausted used
  unfolding run
  run_out left used n s t e = rw (e, run)

-- what a step takes
abbrev pub TakesSome : Step → Type 0
TakesSome (there f) = Unit {0}
TakesSome nowhere = Unit {0}
TakesSome (takes n t) = 1 ≤ n

abbrev pub TakesOne : Step → Type 0
TakesOne (there f) = Unit {0}
TakesOne nowhere = Unit {0}
TakesOne (takes n t) = n ≡ 1

pub next_takes_one : (choices : List Choice) → TakesOne (next_choice choices)
unfolding next_choice
next_takes_one [] = tt
next_takes_one (e ∷ choices) = by_rest e.rest refl (next_takes_one choices)
  where
    by_rest : (ys : List ℕ) → e.rest ≡ ys → TakesOne (next_choice choices) → TakesOne (next_choice (e ∷ choices))
    by_rest [] q ih = rw (q, next_choice) ih
    by_rest (y ∷ ys) q ih = rw (q, next_choice) refl

-- with rounds of one unit every step takes one
pub step_takes_one : (a b : Model) (s : State) → TakesOne (step 1 a b s)
unfolding step
step_takes_one a b (refine c choices) = refl
step_takes_one a b (close c choices) = refl
step_takes_one a b (choose choices) = next_takes_one choices
step_takes_one a b (done f) = tt

one_is_some : (x : Step) → TakesOne x → TakesSome x
one_is_some (there f) h = tt
one_is_some nowhere h = tt
one_is_some (takes n t) h = omega arith

pub step_takes_some : (w : ℕ) (a b : Model) (s : State) → 1 ≤ w → TakesSome (step w a b s)
unfolding step
step_takes_some w a b (refine c choices) h = h
step_takes_some w a b (close c choices) h = omega arith
step_takes_some w a b (choose choices) h = one_is_some (next_choice choices) (next_takes_one choices)
step_takes_some w a b (done f) h = tt
