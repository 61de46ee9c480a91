-- What follows from promises 1 to 3: for canonical models of one signature, enough room and good pairs find with pairs answers 0, 1 or 2, never a refusal; and with a budget of the bound
-- it answers 0 where an isomorphism honours the pairs and 1 where none does. Assumes nothing.
use Prim.Native.Nat.{ℕ, ◌≤◌}
use mathlib.Core.Path.{◌≡◌, ◌∙◌, ap}
use mathlib.Core.List.{List, [], ◌∷◌}
use lib.ListN.{length}
use Rattle.stored.specs.Model.{Model}
use Rattle.rounds.specs.Round.{reps}
use Rattle.search.specs.Partners.{partners_of}
use Rattle.search.specs.Machine.{Ended, found, none, exhausted}
use Rattle.search.specs.Answer.{numbers, Outcome, ended, answer_of}
use Rattle.search.specs.Find.{searched, find_files}
use Rattle.search.proofs.Laws.Answer.{numbers_found, numbers_none, numbers_exhausted}
use Rattle.search.proofs.Laws.Find.{find_goes_on}
use Rattle.search.proofs.Laws.Files.{find_files_lem}
use Rattle.search.proofs.Theorems.Asked.{among_good}
use Rattle.promises.specs.Isomorphism.{Isomorphism, HonoursPairs}
use Rattle.promises.specs.Bound.{bound}
use Rattle.promises.specs.Calls.{find_says}
use Rattle.promises.specs.Asked.{WellAsked, Decision, is_found, is_none, is_exhausted}
use Rattle.promises.proofs.Laws.{known_good}
use Rattle.promises.proofs.Found as Found
use Rattle.promises.proofs.None.{none as never}
use Rattle.promises.proofs.Decides.{decides}

by_end : (o : Outcome) (e : Ended) → o ≡ ended e → Decision (numbers (answer_of o))
by_end o (found u f) q = is_found u (ap (λ (x : Outcome). numbers (answer_of x)) q ∙ numbers_found u f)
by_end o (none u) q = is_none u (ap (λ (x : Outcome). numbers (answer_of x)) q ∙ numbers_none u)
by_end o (exhausted u) q = is_exhausted u (ap (λ (x : Outcome). numbers (answer_of x)) q ∙ numbers_exhausted u)

module _ (s t pairs : List ℕ) (budget : ℕ) (out work : List ℕ) (a b : Model) (k : WellAsked s t pairs out work a b) where
  pub answers : Decision (find_says s t pairs budget out work)
  answers =
      by_end (find_files s t pairs budget (length out) (length work)) (searched a b budget (partners_of a b pairs))
      (find_files_lem s t pairs budget (length out) (length work) a b k.asked.left_held k.asked.right_held
      ∙ find_goes_on pairs budget (length out) (length work) a b k.has_room k.has_work k.asked.left_canonical k.asked.right_canonical k.asked.one_signature k.whole_pairs
      ∙ among_good a b pairs budget (known_good a b pairs k.asked.known_pairs))

  module _ (enough : bound (length (reps a)) ≤ budget) where
    pub finds_one : (h : ℕ → ℕ) → Isomorphism a b h → HonoursPairs a b pairs h → (u : ℕ) × (find_says s t pairs budget out work ≡ 0 ∷ u ∷ [])
    finds_one h i honours = by_decision answers
      where
        by_decision : Decision (find_says s t pairs budget out work) → (u : ℕ) × (find_says s t pairs budget out work ≡ 0 ∷ u ∷ [])
        by_decision (is_found u e) = (u, e)
        by_decision (is_none u e) = absurd (never s t pairs budget out work u e a b k.asked.left_held k.asked.right_held h i honours)
        by_decision (is_exhausted u e) = absurd (decides s a k.asked.left_held budget enough out work (u ∷ []) t pairs e)

    pub finds_none : ((h : ℕ → ℕ) → Isomorphism a b h → HonoursPairs a b pairs h → ⊥) → (u : ℕ) × (find_says s t pairs budget out work ≡ 1 ∷ u ∷ [])
    finds_none lacking = by_decision answers
      where
        by_decision : Decision (find_says s t pairs budget out work) → (u : ℕ) × (find_says s t pairs budget out work ≡ 1 ∷ u ∷ [])
        by_decision (is_none u e) = (u, e)
        by_decision (is_found u e) = let f = Found.found s t pairs budget out work u e a b k.asked.left_held k.asked.right_held in absurd (lacking _ f.wrote.isomorphism f.honours)
        by_decision (is_exhausted u e) = absurd (decides s a k.asked.left_held budget enough out work (u ∷ []) t pairs e)
