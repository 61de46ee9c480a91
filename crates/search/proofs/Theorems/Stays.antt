-- Stays: the fuel of a run does not matter, a decided run is the same under every larger budget, and with rounds of one unit every smaller budget is used up. Lifted to the calls.
-- Assumes nothing.
use Prim.Native.Nat.{ℕ, zero, suc, ◌+◌, ◌-◌, ◌<◌, ◌≤◌}
use mathlib.Core.Path.{◌≡◌, refl, sym, ◌∙◌, ap, subst}
use mathlib.Core.Logic.{◌⊎◌, inl, inr}
use mathlib.Core.Bool.{true, false}
use mathlib.Core.List.{List}
use native.Mathlib.Omega.{arith}
use lib.Dec.{leb}
use borrow.Author.Tests.{leb-true, leb-false}
use Rattle.lists.proofs.Laws.Tests.{split}
use Rattle.stored.specs.Model.{Model}
use Rattle.search.specs.Machine.{State, Step, there, nowhere, takes, step, Ended, found, none, exhausted, run}
use Rattle.search.proofs.Laws.Run.{run_there, run_nowhere, run_takes, run_short, run_out, TakesSome, TakesOne, step_takes_one, step_takes_some}

-- found or none
abbrev pub Decided : Ended → Type 0
Decided (found u f) = Unit {0}
Decided (none u) = Unit {0}
Decided (exhausted u) = ⊥

abbrev pub units_of : Ended → ℕ
units_of (found u f) = u
units_of (none u) = u
units_of (exhausted u) = u

-- from the units left on, the fuel changes nothing
module _ (w : ℕ) (a b : Model) (some : 1 ≤ w) where
  pub fuel_is_enough : (n m left used : ℕ) (s : State) → left ≤ n → left ≤ m → run n w a b left used s ≡ run m w a b left used s
  fuel_is_enough zero m left used s h k = by_step (step w a b s) refl (step_takes_some w a b s some)
    where
      by_step : (x : Step) → step w a b s ≡ x → TakesSome (step w a b s) → run 0 w a b left used s ≡ run m w a b left used s
      by_step (there f) e c = run_there w a b 0 left used s f e ∙ sym (run_there w a b m left used s f e)
      by_step nowhere e c = run_nowhere w a b 0 left used s e ∙ sym (run_nowhere w a b m left used s e)
      by_step (takes d t) e c =
          let z : 1 ≤ d = rw e at c in
          run_out w a b left used d s t e ∙ sym (run_short w a b m left used d s t e (omega arith))
  fuel_is_enough (suc n) zero left used s h k = by_step (step w a b s) refl (step_takes_some w a b s some)
    where
      by_step : (x : Step) → step w a b s ≡ x → TakesSome (step w a b s) → run (suc n) w a b left used s ≡ run 0 w a b left used s
      by_step (there f) e c = run_there w a b (suc n) left used s f e ∙ sym (run_there w a b 0 left used s f e)
      by_step nowhere e c = run_nowhere w a b (suc n) left used s e ∙ sym (run_nowhere w a b 0 left used s e)
      by_step (takes d t) e c =
          let z : 1 ≤ d = rw e at c in
          run_short w a b (suc n) left used d s t e (omega arith) ∙ sym (run_out w a b left used d s t e)
  fuel_is_enough (suc n) (suc m) left used s h k = by_step (step w a b s) refl (step_takes_some w a b s some) (fuel_is_enough n m)
    where
      by_step : (x : Step) → step w a b s ≡ x → TakesSome (step w a b s)
          → ((l u : ℕ) (t : State) → l ≤ n → l ≤ m → run n w a b l u t ≡ run m w a b l u t) → run (suc n) w a b left used s ≡ run (suc m) w a b left used s
      by_step (there f) e c ih = run_there w a b (suc n) left used s f e ∙ sym (run_there w a b (suc m) left used s f e)
      by_step nowhere e c ih = run_nowhere w a b (suc n) left used s e ∙ sym (run_nowhere w a b (suc m) left used s e)
      by_step (takes d t) e c ih = by_units (split (leb d left))
        where
          by_units : (leb d left ≡ true) ⊎ (leb d left ≡ false) → run (suc n) w a b left used s ≡ run (suc m) w a b left used s
          by_units (inl q) =
              let z : 1 ≤ d = rw e at c in
              let y = leb-true d left q in
              run_takes w a b n left used d s t e y ∙ ih (left - d) (used + d) t (omega arith) (omega arith) ∙ sym (run_takes w a b m left used d s t e y)
          by_units (inr q) =
              let y = leb-false d left q in
              run_short w a b (suc n) left used d s t e y ∙ sym (run_short w a b (suc m) left used d s t e y)

module _ (w : ℕ) (a b : Model) where
  -- a decided run takes the same steps with more fuel and more units left
  pub run_stays : (n m : ℕ) → n ≤ m → (left more used : ℕ) (s : State) → left ≤ more → Decided (run n w a b left used s) → run m w a b more used s ≡ run n w a b left used s
  run_stays zero m g left more used s h k = by_step (step w a b s) refl
    where
      by_step : (x : Step) → step w a b s ≡ x → run m w a b more used s ≡ run 0 w a b left used s
      by_step (there f) e = run_there w a b m more used s f e ∙ sym (run_there w a b 0 left used s f e)
      by_step nowhere e = run_nowhere w a b m more used s e ∙ sym (run_nowhere w a b 0 left used s e)
      by_step (takes d t) e = absurd (subst Decided (run_out w a b left used d s t e) k)
  run_stays (suc n) zero g left more used s h k = absurd (omega arith)
  run_stays (suc n) (suc m) g left more used s h k = by_step (step w a b s) refl (run_stays n m (omega arith))
    where
      by_step : (x : Step) → step w a b s ≡ x
          → ((l o u : ℕ) (t : State) → l ≤ o → Decided (run n w a b l u t) → run m w a b o u t ≡ run n w a b l u t) → run (suc m) w a b more used s ≡ run (suc n) w a b left used s
      by_step (there f) e ih = run_there w a b (suc m) more used s f e ∙ sym (run_there w a b (suc n) left used s f e)
      by_step nowhere e ih = run_nowhere w a b (suc m) more used s e ∙ sym (run_nowhere w a b (suc n) left used s e)
      by_step (takes d t) e ih = by_units (split (leb d left))
        where
          by_units : (leb d left ≡ true) ⊎ (leb d left ≡ false) → run (suc m) w a b more used s ≡ run (suc n) w a b left used s
          by_units (inl q) =
              let y = leb-true d left q in
              let x = run_takes w a b n left used d s t e y in
              run_takes w a b m more used d s t e (omega arith) ∙ ih (left - d) (more - d) (used + d) t (omega arith) (subst Decided x k) ∙ sym x
          by_units (inr q) = absurd (subst Decided (run_short w a b (suc n) left used d s t e (leb-false d left q)) k)

  -- no run uses more than is left
  pub units_fit : (n left used : ℕ) (s : State) → units_of (run n w a b left used s) ≤ used + left
  units_fit zero left used s = by_step (step w a b s) refl
    where
      by_step : (x : Step) → step w a b s ≡ x → units_of (run 0 w a b left used s) ≤ used + left
      by_step (there f) e = omega (arith, ap units_of (run_there w a b 0 left used s f e))
      by_step nowhere e = omega (arith, ap units_of (run_nowhere w a b 0 left used s e))
      by_step (takes d t) e = omega (arith, ap units_of (run_out w a b left used d s t e))
  units_fit (suc n) left used s = by_step (step w a b s) refl (units_fit n)
    where
      by_step : (x : Step) → step w a b s ≡ x → ((l u : ℕ) (t : State) → units_of (run n w a b l u t) ≤ u + l) → units_of (run (suc n) w a b left used s) ≤ used + left
      by_step (there f) e ih = omega (arith, ap units_of (run_there w a b (suc n) left used s f e))
      by_step nowhere e ih = omega (arith, ap units_of (run_nowhere w a b (suc n) left used s e))
      by_step (takes d t) e ih = by_units (split (leb d left))
        where
          by_units : (leb d left ≡ true) ⊎ (leb d left ≡ false) → units_of (run (suc n) w a b left used s) ≤ used + left
          by_units (inl q) =
              let y = leb-true d left q in
              omega (arith, ap units_of (run_takes w a b n left used d s t e y), ih (left - d) (used + d) t)
          by_units (inr q) = omega (arith, ap units_of (run_short w a b (suc n) left used d s t e (leb-false d left q)))

-- a run that is exhausted with rounds of one unit has used all that was left
abbrev AllUsed : ℕ → Ended → Type 0
AllUsed total (found u f) = Unit {0}
AllUsed total (none u) = Unit {0}
AllUsed total (exhausted u) = u ≡ total

module _ (a b : Model) where
  run_all_used : (n left used : ℕ) (s : State) → left ≤ n → AllUsed (used + left) (run n 1 a b left used s)
  run_all_used zero left used s h = by_step (step 1 a b s) refl
    where
      by_step : (x : Step) → step 1 a b s ≡ x → AllUsed (used + left) (run 0 1 a b left used s)
      by_step (there f) e = rw (run_there 1 a b 0 left used s f e) tt
      by_step nowhere e = rw (run_nowhere 1 a b 0 left used s e) tt
      by_step (takes d t) e = rw (run_out 1 a b left used d s t e) (omega arith)
  run_all_used (suc n) left used s h = by_step (step 1 a b s) refl (step_takes_one a b s) (run_all_used n)
    where
      by_step : (x : Step) → step 1 a b s ≡ x → TakesOne (step 1 a b s)
          → ((l u : ℕ) (t : State) → l ≤ n → AllUsed (u + l) (run n 1 a b l u t)) → AllUsed (used + left) (run (suc n) 1 a b left used s)
      by_step (there f) e c ih = rw (run_there 1 a b (suc n) left used s f e) tt
      by_step nowhere e c ih = rw (run_nowhere 1 a b (suc n) left used s e) tt
      by_step (takes d t) e c ih = by_units (split (leb d left))
        where
          one : d ≡ 1
          one = rw e at c

          by_units : (leb d left ≡ true) ⊎ (leb d left ≡ false) → AllUsed (used + left) (run (suc n) 1 a b left used s)
          by_units (inl q) =
              let y = leb-true d left q in
              let z : d ≡ 1 = one in
              let total : (used + d) + (left - d) ≡ used + left = omega arith in
              rw (run_takes 1 a b n left used d s t e y) (subst (λ (k : ℕ). AllUsed k (run n 1 a b (left - d) (used + d) t)) total (ih (left - d) (used + d) t (omega arith)))
          by_units (inr q) =
              let y = leb-false d left q in
              let z : d ≡ 1 = one in
              rw (run_short 1 a b (suc n) left used d s t e y) (omega arith)

-- a run with a whole budget
module _ (w : ℕ) (a b : Model) (s : State) where
  abbrev pub run_of : ℕ → Ended
  run_of budget = run budget w a b budget 0 s

  pub budget_stays : (budget larger : ℕ) → budget ≤ larger → Decided (run_of budget) → run_of larger ≡ run_of budget
  budget_stays budget larger h k = run_stays w a b budget larger h budget larger 0 s h k

  pub found_stays : (budget larger u : ℕ) (f : List ℕ) → budget ≤ larger → run_of budget ≡ found u f → run_of larger ≡ found u f
  found_stays budget larger u f h e = budget_stays budget larger h (rw e tt) ∙ e

  pub none_stays : (budget larger u : ℕ) → budget ≤ larger → run_of budget ≡ none u → run_of larger ≡ none u
  none_stays budget larger u h e = budget_stays budget larger h (rw e tt) ∙ e

  pub units_within : (budget : ℕ) → units_of (run_of budget) ≤ budget
  units_within budget = omega (arith, units_fit w a b budget budget 0 s)

-- the same with rounds of one unit
module _ (a b : Model) (s : State) where
  pub exhausted_exactly : (budget u : ℕ) → run_of 1 a b s budget ≡ exhausted u → u ≡ budget
  exhausted_exactly budget u e =
      let all : u ≡ 0 + budget = subst (AllUsed (0 + budget)) e (run_all_used a b budget budget 0 s (omega arith)) in
      omega arith

  pub below_exhausted : (budget smaller : ℕ) → Decided (run_of 1 a b s budget) → smaller < units_of (run_of 1 a b s budget) → run_of 1 a b s smaller ≡ exhausted smaller
  below_exhausted budget smaller k h = by_end (run_of 1 a b s smaller) refl
    where
      too_few : (e : Ended) → run_of 1 a b s smaller ≡ e → Decided e → ⊥
      too_few e q d =
          let within = units_within 1 a b s budget in
          let least = units_within 1 a b s smaller in
          let same = budget_stays 1 a b s smaller budget (omega arith) (rw q d) in
          omega (arith, ap units_of same)

      by_end : (e : Ended) → run_of 1 a b s smaller ≡ e → run_of 1 a b s smaller ≡ exhausted smaller
      by_end (found u f) q = absurd (too_few _ q tt)
      by_end (none u) q = absurd (too_few _ q tt)
      by_end (exhausted u) q = q ∙ ap exhausted (exhausted_exactly smaller u q)
