-- The states of a search, as find makes it between two files. `step` of crate `search` says how a round, a closing check and a candidate lead from a state to the next one.
use Rattle.std.specs.Prelude.{ℕ, ◌≡◌, ◌⊎◌, List}
use Rattle.stored.specs.Model.{Model}
use Rattle.stored.specs.Parse.{model, parse}
use Rattle.search.specs.Partners.{partners, partners_of}
use Rattle.search.specs.Machine.{State, Reached, run}
use Rattle.search.specs.Answer.{Outcome, ended}
use Rattle.search.specs.Find.{round_cost, start_from}

-- a state that the search between two files comes to, whatever the budget: no class is paired with two, and steps lead to the state from the first colours
pub record Comes (left right pairs : List ℕ) (a b : Model) (s : State) : Type 0 where
  pub left_held : parse left ≡ model a
  pub right_held : parse right ≡ model b
  pub to_right : List ℕ
  pub to_left : List ℕ
  pub partnered : partners_of a b pairs ≡ partners to_right to_left
  pub reached : Reached round_cost a b (start_from a b to_right to_left) s

-- an outcome is that of a run of this search, from the first colours, with a budget
pub record Runs (pairs : List ℕ) (a b : Model) (budget : ℕ) (o : Outcome) : Type 0 where
  pub to_right : List ℕ
  pub to_left : List ℕ
  pub partnered : partners_of a b pairs ≡ partners to_right to_left
  pub comes_to : o ≡ ended (run budget round_cost a b budget 0 (start_from a b to_right to_left))

-- an answer of n with u units is none with 0 units, or comes from such a run
abbrev pub NoneOrRuns : List ℕ → Model → Model → ℕ → Outcome → ℕ → ℕ → Type 0
NoneOrRuns pairs a b budget o n u = ((n ≡ 1) × (u ≡ 0)) ⊎ Runs pairs a b budget o
