-- Promise 4, Stays: a decided answer, 0 or 1 with its units and its map, is the same under every larger budget, and with a budget below the units used the answer is 2 with exactly that
-- many units and nothing is written; both of find with pairs and under a base. Assumes nothing.
use Prim.Native.Nat.{ℕ, zero, suc, ◌<◌, ◌≤◌}
use mathlib.Core.Path.{◌≡◌, refl, ◌∙◌, ap}
use mathlib.Core.List.{List, [], ◌∷◌}
use native.Mathlib.Omega.{arith}
use lib.ListN.{length}
use Rattle.search.specs.Machine.{Ended, found, none}
use Rattle.search.specs.Answer.{numbers, Outcome, ended, answer_of, written}
use Rattle.search.specs.Find.{find_files, under_files}
use Rattle.search.proofs.Laws.Answer.{found_by, none_by, exhausted_by, numbers_exhausted, written_exhausted}
use Rattle.search.proofs.Theorems.Stays.{Decided, units_of}
use Rattle.search.proofs.Theorems.Budgets.{Steady, files_steady, under_files_steady}
use Rattle.promises.specs.Calls.{find_says, find_writes, under_says, under_writes}

-- an answer of 0 or 1 is decided, with its units
record DecidedAs (o : Outcome) (u : ℕ) : Type 0 where
  end : Ended
  is_end : o ≡ ended end
  decided : Decided end
  its_units : units_of end ≡ u

decided_as : (o : Outcome) (n u : ℕ) → n ≤ 1 → numbers (answer_of o) ≡ n ∷ u ∷ [] → DecidedAs o u
decided_as o zero u h e = let x = found_by o u e in record { end = found u x.0; is_end = x.1; decided = tt; its_units = refl }
decided_as o (suc zero) u h e = record { end = none u; is_end = none_by o u e; decided = tt; its_units = refl }
decided_as o (suc (suc n)) u h e = absurd (omega arith)

-- of every steady call
module _ (call : ℕ → Outcome) (steady : Steady call) (budget n u : ℕ) (decided : n ≤ 1) (says : numbers (answer_of (call budget)) ≡ n ∷ u ∷ []) (out : List ℕ) where
  known : DecidedAs (call budget) u
  known = decided_as (call budget) n u decided says

  same : (larger : ℕ) → budget ≤ larger → call larger ≡ call budget
  same larger h = steady.stays budget larger h (rw known.is_end known.decided)

  call_stays : (larger : ℕ) → budget ≤ larger → (numbers (answer_of (call larger)) ≡ n ∷ u ∷ []) × (written (call larger) out ≡ written (call budget) out)
  call_stays larger h = (ap (λ (o : Outcome). numbers (answer_of o)) (same larger h) ∙ says, ap (λ (o : Outcome). written o out) (same larger h))

  call_below : (smaller : ℕ) → smaller < u → (numbers (answer_of (call smaller)) ≡ 2 ∷ smaller ∷ []) × (written (call smaller) out ≡ out)
  call_below smaller h =
      let e = steady.below budget known.end known.is_end known.decided smaller (omega (arith, h, known.its_units)) in
      (ap (λ (o : Outcome). numbers (answer_of o)) e ∙ numbers_exhausted smaller, ap (λ (o : Outcome). written o out) e ∙ written_exhausted smaller out)

-- find with pairs: the number n is 0 or 1
module _ (s t pairs : List ℕ) (budget : ℕ) (out work : List ℕ) (n u : ℕ) (decided : n ≤ 1) (says : find_says s t pairs budget out work ≡ n ∷ u ∷ []) where
  abbrev call : ℕ → Outcome
  call b = find_files s t pairs b (length out) (length work)

  pub stays :
      (larger : ℕ) → budget ≤ larger
      → (find_says s t pairs larger out work ≡ n ∷ u ∷ []) × (find_writes s t pairs larger out work ≡ find_writes s t pairs budget out work)
  stays larger h = call_stays call (files_steady s t pairs (length out) (length work)) budget n u decided says out larger h

  pub below_exhausted : (smaller : ℕ) → smaller < u → (find_says s t pairs smaller out work ≡ 2 ∷ smaller ∷ []) × (find_writes s t pairs smaller out work ≡ out)
  below_exhausted smaller h = call_below call (files_steady s t pairs (length out) (length work)) budget n u decided says out smaller h

-- and under a base
module _ (r s t f g : List ℕ) (budget : ℕ) (out work : List ℕ) (n u : ℕ) (decided : n ≤ 1) (says : under_says r s t f g budget out work ≡ n ∷ u ∷ []) where
  abbrev call_under : ℕ → Outcome
  call_under b = under_files r s t f g b (length out) (length work)

  pub stays_under :
      (larger : ℕ) → budget ≤ larger
      → (under_says r s t f g larger out work ≡ n ∷ u ∷ []) × (under_writes r s t f g larger out work ≡ under_writes r s t f g budget out work)
  stays_under larger h = call_stays call_under (under_files_steady r s t f g (length out) (length work)) budget n u decided says out larger h

  pub below_exhausted_under : (smaller : ℕ) → smaller < u → (under_says r s t f g smaller out work ≡ 2 ∷ smaller ∷ []) × (under_writes r s t f g smaller out work ≡ out)
  below_exhausted_under smaller h = call_below call_under (under_files_steady r s t f g (length out) (length work)) budget n u decided says out smaller h

-- "Exhausted is answered exactly when a unit is needed and all are used": 2 carries the budget
all_used : (call : ℕ → Outcome) → Steady call → (budget : ℕ) (carried : List ℕ) → numbers (answer_of (call budget)) ≡ 2 ∷ carried → numbers (answer_of (call budget)) ≡ 2 ∷ budget ∷ []
all_used call steady budget carried e =
    let x = exhausted_by (call budget) carried e in
    ap (λ (o : Outcome). numbers (answer_of o)) x.1 ∙ numbers_exhausted x.0 ∙ ap (λ (v : ℕ). 2 ∷ v ∷ []) (steady.exactly budget x.0 x.1)

pub exhausted_all : (s t pairs : List ℕ) (budget : ℕ) (out work carried : List ℕ) → find_says s t pairs budget out work ≡ 2 ∷ carried → find_says s t pairs budget out work ≡ 2 ∷ budget ∷ []
exhausted_all s t pairs budget out work = all_used (λ (b : ℕ). find_files s t pairs b (length out) (length work)) (files_steady s t pairs (length out) (length work)) budget

pub exhausted_all_under :
    (r s t f g : List ℕ) (budget : ℕ) (out work carried : List ℕ) → under_says r s t f g budget out work ≡ 2 ∷ carried → under_says r s t f g budget out work ≡ 2 ∷ budget ∷ []
exhausted_all_under r s t f g budget out work = all_used (λ (b : ℕ). under_files r s t f g b (length out) (length work)) (under_files_steady r s t f g (length out) (length work)) budget
