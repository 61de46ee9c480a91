-- Promise 7, Rounds: in every search that find or find under a base makes, each round that goes on raises the number of left colours, and open choices number r - 1 at most, none with
-- r = 0. An answer of 0, 1 or 2 comes from such a search, but for 1 with 0 units, where none is made. Assumes nothing.
use Prim.Native.Nat.{ℕ, zero, suc, ◌<◌, ◌≤◌, ◌-◌}
use mathlib.Core.Path.{◌≡◌, refl, sym, ◌∙◌, ap, subst}
use mathlib.Core.Logic.{◌⊎◌, inl, inr}
use mathlib.Core.Bool.{true, false}
use mathlib.Core.List.{List, [], ◌∷◌}
use native.Mathlib.Omega.{arith}
use lib.ListN.{length, get_or}
use Rattle.lists.proofs.Laws.Tests.{split}
use Rattle.stored.specs.Model.{Model}
use Rattle.stored.specs.Parse.{model, parse}
use Rattle.rounds.specs.Round.{reps, Sides, again, round_outcome, colour_count}
use Rattle.rounds.proofs.Theorems.Classes.{again_raises}
use Rattle.search.specs.Partners.{Partners, partners, clash, partners_of}
use Rattle.search.specs.Machine.{Choice, State, refine, open_in, Ended, found, none, exhausted}
use Rattle.search.specs.Answer.{numbers, Outcome, ended, answer_of}
use Rattle.search.specs.Find.{round_cost, alike, searched, find_among, pairs_under, find_files, under_files}
use Rattle.search.proofs.Laws.Answer.{found_by, none_by, exhausted_by, numbers_none}
use Rattle.search.proofs.Laws.Find.{searched_run}
use Rattle.search.proofs.Theorems.Asked.{among_ended, searched_clash, searched_unlike}
use Rattle.search.proofs.Theorems.Choices.{open_choices_from_start}
use Rattle.search.proofs.Theorems.Ends.{files_ended, under_ended}
use Rattle.promises.specs.Calls.{find_says, under_says}
use Rattle.promises.specs.Search.{Comes, Runs, NoneOrRuns}
use Rattle.promises.proofs.Laws.{of_models}
use Rattle.promises.proofs.UnderABase.{of_three}

-- the search of find with pairs; under a base the pairs are `pairs_under`
module _ (left right pairs : List ℕ) (a b : Model) where
  -- "Each round that goes on raises the number of left colours"
  pub rounds_raise :
      (before after : Sides) (choices : List Choice) → Comes left right pairs a b (refine before choices) → round_outcome a b before ≡ again after
      → colour_count a before.left < colour_count a after.left
  rounds_raise before after choices c e = again_raises a b before after e

  -- "for r of 1 or more open choices never exceed r−1"
  pub open_choices_few : (s : State) → Comes left right pairs a b s → length (open_in s) ≤ length (reps a) - 1
  open_choices_few s c = open_choices_from_start a b round_cost c.to_right c.to_left s c.reached

  -- "With r = 0 there are none."
  pub no_open_choice : (s : State) → Comes left right pairs a b s → length (reps a) ≡ 0 → length (open_in s) ≡ 0
  no_open_choice s c e = omega (arith, e, open_choices_few s c)

-- an answer of 0, 1 or 2 is not a refusal
ended_by : (o : Outcome) (n u : ℕ) → n ≤ 2 → numbers (answer_of o) ≡ n ∷ u ∷ [] → (e : Ended) × (o ≡ ended e)
ended_by o zero u h e = let x = found_by o u e in (found u x.0, x.1)
ended_by o (suc zero) u h e = (none u, none_by o u e)
ended_by o (suc (suc zero)) u h e = let x = exhausted_by o (u ∷ []) e in (exhausted x.0, x.1)
ended_by o (suc (suc (suc n))) u h e = absurd (omega arith)

-- where find among pairs ends it is a run of the search, or none with 0 units
among_runs : (a b : Model) (pairs : List ℕ) (budget : ℕ) (e : Ended) → find_among a b pairs budget ≡ ended e → (e ≡ none 0) ⊎ Runs pairs a b budget (ended e)
among_runs a b pairs budget e q = by_partners (partners_of a b pairs) refl
  where
    comes : searched a b budget (partners_of a b pairs) ≡ e
    comes = (among_ended a b pairs budget e q).1

    by_partners : (p : Partners) → partners_of a b pairs ≡ p → (e ≡ none 0) ⊎ Runs pairs a b budget (ended e)
    by_partners clash z = inl (sym comes ∙ ap (searched a b budget) z ∙ searched_clash a b budget)
    by_partners (partners f g) z = by_likeness (split (alike a b))
      where
        by_likeness : (alike a b ≡ true) ⊎ (alike a b ≡ false) → (e ≡ none 0) ⊎ Runs pairs a b budget (ended e)
        by_likeness (inr k) = inl (sym comes ∙ ap (searched a b budget) z ∙ searched_unlike a b budget f g k)
        by_likeness (inl k) = inr (record {
          to_right = f;
          to_left = g;
          partnered = z;
          comes_to = ap ended (sym comes ∙ ap (searched a b budget) z ∙ searched_run a b budget f g k);
        })

none_or_runs :
    (a b : Model) (pairs : List ℕ) (budget : ℕ) (o : Outcome) (n u : ℕ) (e : Ended) → numbers (answer_of o) ≡ n ∷ u ∷ [] → o ≡ ended e → find_among a b pairs budget ≡ ended e
    → NoneOrRuns pairs a b budget o n u
none_or_runs a b pairs budget o n u e says is q = by_case (among_runs a b pairs budget e q)
  where
    by_case : (e ≡ none 0) ⊎ Runs pairs a b budget (ended e) → NoneOrRuns pairs a b budget o n u
    by_case (inr r) = inr (subst (Runs pairs a b budget) (sym is) r)
    by_case (inl z) =
        let l : n ∷ u ∷ [] ≡ 1 ∷ 0 ∷ [] = sym says ∙ ap (λ (o : Outcome). numbers (answer_of o)) (is ∙ ap ended z) ∙ numbers_none 0 in
        inl (ap (λ (l : List ℕ). get_or l 0 0) l, ap (λ (l : List ℕ). get_or l 1 0) l)

-- what the calls answer with 0, 1 or 2
pub find_runs :
    (left right pairs : List ℕ) (budget : ℕ) (out work : List ℕ) (n u : ℕ) → n ≤ 2 → find_says left right pairs budget out work ≡ n ∷ u ∷ []
    → (a b : Model) → parse left ≡ model a → parse right ≡ model b → NoneOrRuns pairs a b budget (find_files left right pairs budget (length out) (length work)) n u
find_runs left right pairs budget out work n u h says =
    let o = find_files left right pairs budget (length out) (length work) in
    let x = ended_by o n u h says in
    let c = files_ended left right pairs budget (length out) (length work) x.0 x.1 in
    of_models left right c.left c.right (λ (a b : Model). NoneOrRuns pairs a b budget o n u)
    (none_or_runs c.left.its_model c.right.its_model pairs budget o n u x.0 says x.1 c.comes_to)

pub under_runs :
    (base left right toLeft toRight : List ℕ) (budget : ℕ) (out work : List ℕ) (n u : ℕ) → n ≤ 2 → under_says base left right toLeft toRight budget out work ≡ n ∷ u ∷ []
    → (o a b : Model) → parse base ≡ model o → parse left ≡ model a → parse right ≡ model b
    → NoneOrRuns (pairs_under toLeft toRight (reps o)) a b budget (under_files base left right toLeft toRight budget (length out) (length work)) n u
under_runs base left right toLeft toRight budget out work n u h says =
    let x = ended_by (under_files base left right toLeft toRight budget (length out) (length work)) n u h says in
    let c = under_ended base left right toLeft toRight budget (length out) (length work) x.0 x.1 in
    of_three base left right c.base c.left c.right
    (λ (o a b : Model). NoneOrRuns (pairs_under toLeft toRight (reps o)) a b budget (under_files base left right toLeft toRight budget (length out) (length work)) n u)
    (none_or_runs c.left.its_model c.right.its_model (pairs_under toLeft toRight (reps c.base.its_model)) budget
    (under_files base left right toLeft toRight budget (length out) (length work)) n u x.0 says x.1 c.comes_to)
