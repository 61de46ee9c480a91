-- Promise 3, Decides: with r classes on the left and a budget of the bound or more, find never answers 2, nor does find under a base; the bound fits 64 bits up to r = 19, and no further.
-- Assumes nothing.
use Prim.Native.Nat.{ℕ, zero, suc, ◌*◌, ◌<◌, ◌≤◌, max}
use mathlib.Core.Path.{◌≡◌, refl, sym, ap, subst}
use mathlib.Core.Logic.{by_cases}
use mathlib.Core.List.{List, ◌∷◌}
use native.Mathlib.Omega.{arith}
use native.Mathlib.Decide.{ℕ_discrete}
use native.Mathlib.Nat.{mul-le-mul_left, suc-mul}
use lib.ListN.{length}
use Rattle.stored.specs.Model.{Model}
use Rattle.stored.specs.Parse.{model, parse}
use Rattle.rounds.specs.Round.{reps}
use Rattle.search.specs.Answer.{Outcome, numbers, answer_of}
use Rattle.search.specs.Find.{find_files, under_files}
use Rattle.search.proofs.Laws.Answer.{exhausted_by}
use Rattle.search.proofs.Theorems.Budgets.{Settled}
use Rattle.search.proofs.Theorems.Bound.{Enough, files_settle, under_files_settle}
use Rattle.search.proofs.Theorems.Numbers.{search_bound}
use Rattle.promises.specs.Bound.{N, bound}
use Rattle.promises.specs.Calls.{find_says, under_says}
use Rattle.promises.proofs.Laws.{bound_search}

-- what is settled is not 2
not_exhausted : (o : Outcome) → Settled o → (carried : List ℕ) → numbers (answer_of o) ≡ 2 ∷ carried → ⊥
not_exhausted o settled carried e = let x = exhausted_by o carried e in subst Settled x.1 settled

enough_for : (s : List ℕ) (a : Model) (budget : ℕ) → parse s ≡ model a → bound (length (reps a)) ≤ budget → Enough s budget
enough_for s a budget p enough m q =
    let z : m ≡ a = cc in
    subst (λ (x : Model). search_bound (length (reps x)) ≤ budget) (sym z) (omega (arith, enough, bound_search (length (reps a))))

module _ (left : List ℕ) (a : Model) (holds : parse left ≡ model a) (budget : ℕ) (enough : bound (length (reps a)) ≤ budget) (out work carried : List ℕ) where
  pub decides : (right pairs : List ℕ) → find_says left right pairs budget out work ≡ 2 ∷ carried → ⊥
  decides right pairs =
      not_exhausted (find_files left right pairs budget (length out) (length work)) (files_settle left right pairs budget (length out) (length work) (enough_for left a budget holds enough)) carried

  pub decides_under : (base right toLeft toRight : List ℕ) → under_says base left right toLeft toRight budget out work ≡ 2 ∷ carried → ⊥
  decides_under base right toLeft toRight =
      not_exhausted (under_files base left right toLeft toRight budget (length out) (length work))
      (under_files_settle base left right toLeft toRight budget (length out) (length work) (enough_for left a budget holds enough)) carried

-- N grows
N_step : (r : ℕ) → N r ≤ N (suc r)
unfolding N
N_step zero = omega arith
N_step (suc r) = omega (arith, suc-mul (suc r) (N (suc r)))

N_grows : (r m : ℕ) → r ≤ m → N r ≤ N m
N_grows r zero h = let z : r ≡ 0 = omega arith in rw z (omega arith)
N_grows r (suc m) h = by_place (N_grows r m)
  where
    by_place : (r ≤ m → N r ≤ N m) → N r ≤ N (suc m)
    by_place ih = by_cases (ℕ_discrete r (suc m)) (λ q. rw q (omega arith)) (λ q. omega (arith, ih (omega arith), N_step m))

N_nineteen : N 19 ≡ 209020565553572000
unfolding N
N_nineteen = refl

-- "fits 64 bits up to r = 19"
pub bound_fits : (r : ℕ) → r ≤ 19 → bound r < 18446744073709551616
unfolding bound
bound_fits r h = omega (arith, h, mul-le-mul_left (2 * max r 1) (N_grows r 19 h), ap (λ (z : ℕ). 2 * max r 1 * z) N_nineteen)

pub bound_passes : 18446744073709551616 ≤ bound 20
unfolding bound N
bound_passes = omega arith
