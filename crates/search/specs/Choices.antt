-- How open choices stand in the lent work: 132 entries each, the first choice first. 64 for the left colours, 64 for the right, then the element, its colour, the new colour, and the first
-- right element not yet looked at.
use Rattle.std.specs.Prelude.{ℕ, zero, suc, ◌+◌, ◌-◌, ◌*◌, ◌<◌, ◌≤◌, ◌≡◌, Bool, true, false, List, [], ◌∷◌, length, get_or, take, drop, eqb}
use Rattle.lists.specs.Every.{keep}
use Rattle.lists.specs.First.{lowest}
use Rattle.lists.specs.Numbers.{up_from}
use Rattle.lists.specs.Part.{part, over}
use Rattle.stored.specs.Model.{Model, size, is_rep}
use Rattle.rounds.specs.Colours.{colour_at}
use Rattle.rounds.specs.Round.{Sides, colours_of, colour_count, outcome}
use Rattle.rounds.specs.Parts.{are_small}
use Rattle.rounds.specs.Board.{board_room}
use Rattle.search.specs.declared.machine.Phase.{Phase}
use Rattle.search.specs.declared.machine.Phase.TheVariants as phase
use Rattle.rounds.specs.Classes.{smallest_open}
use Rattle.search.specs.Answer.{work_room}
use Rattle.search.specs.Machine.{Choice, State, refine, close, choose, gone_on, tried, next_choice, after_stable, after_round}

-- where the choices start in the lent work, and how many entries are left for them
abbrev pub choices_start : ℕ
choices_start = 20736

-- the part of the lent work for the choices
abbrev pub choices_on : List ℕ → List ℕ
choices_on work = part work choices_start 12032

abbrev pub choice_length : ℕ
choice_length = 132

-- the right representatives from an element on
unfoldable pub reps_from : Model → ℕ → List ℕ
reps_from b y = keep (is_rep b) (up_from y (size b - y))

-- the first of them; where there is none, the number of elements, or the element where that is more
unfoldable pub candidate_from : Model → ℕ → ℕ
candidate_from b y = lowest (is_rep b) y (size b - y)

-- the choice of a number, counted from 0
unfoldable pub choice_in : Model → Model → List ℕ → ℕ → Choice
choice_in a b w i = record {
  sides = record { left = part w (i * choice_length) (size a); right = part w (i * choice_length + 64) (size b) };
  element = get_or w (i * choice_length + 128) 0;
  old = get_or w (i * choice_length + 129) 0;
  new = get_or w (i * choice_length + 130) 0;
  rest = reps_from b (get_or w (i * choice_length + 131) 0);
}

-- its next candidate
abbrev pub candidate_in : Model → List ℕ → ℕ → ℕ
candidate_in b w i = candidate_from b (get_or w (i * choice_length + 131) 0)

-- so many open choices, the latest first
unfoldable pub choices_in : Model → Model → List ℕ → ℕ → List Choice
choices_in a b w zero = []
choices_in a b w (suc i) = choice_in a b w i ∷ choices_in a b w i

-- the colours of both sides, of two rows of 64
unfoldable pub sides_in : Model → Model → List (List ℕ) → Sides
sides_in a b c = record { left = take (size a) (get_or c 0 []); right = take (size b) (get_or c 1 []) }

-- two rows of 64
abbrev pub Rows : List (List ℕ) → Type 0
Rows c = (length c ≡ 2) × (length (get_or c 0 []) ≡ 64) × (length (get_or c 1 []) ≡ 64)

-- colours of both sides that are below 128
abbrev pub SmallSides : Model → Model → Sides → Type 0
SmallSides a b c = (are_small (colours_of a c.left) ≡ true) × (are_small (colours_of b c.right) ≡ true)

-- the state of a phase, with its colours and its open choices
unfoldable pub state_of : Phase → Sides → List Choice → State
state_of phase.Refine c choices = refine c choices
state_of phase.Close c choices = close c choices
state_of phase.Choose c choices = choose choices

-- a map written where a check passes
unfoldable pub written_if : Bool → List ℕ → List ℕ → List ℕ
written_if true f out = over f out
written_if false f out = out

-- two states of the lent work that differ in the choices alone
abbrev pub OnlyChoices : List ℕ → List ℕ → Type 0
OnlyChoices w₀ w = (take board_room w ≡ take board_room w₀) × (length w ≡ length w₀) × (drop work_room w ≡ drop work_room w₀)

-- what a stable round leads to: the phase and the open choices before it and after it
pub record Settled (a : Model) (left right w₀ : List ℕ) (depth : ℕ) (due : Phase) (after : ℕ) (w : List ℕ) : Type 0 where
  pub settled : (b : Model) → size b ≡ length right
      → state_of due (record { left = left; right = right }) (choices_in a b w after) ≡ after_stable a b (record { left = left; right = right }) (choices_in a b w₀ depth) (smallest_open a left)
  pub within : after ≤ depth + 1

-- what the colours after a round lead to, where the left had so many before it: the phase, the open choices before and after, and, where another round is due, how many colours the left has
pub record Weighed (a b : Model) (c : Sides) (before : ℕ) (w₀ : List ℕ) (depth : ℕ) (due : Phase) (after count : ℕ) (w : List ℕ) : Type 0 where
  pub leads : state_of due c (choices_in a b w after) ≡ after_round a b (choices_in a b w₀ depth) (outcome a b before c)
  pub within : after ≤ depth + 1
  pub counted : due ≡ phase.Refine → count ≡ colour_count a c.left

-- a choice is opened above so many open ones: the work before it and after it
pub record Opened (w₀ : List ℕ) (depth : ℕ) (left right : List ℕ) (element old new : ℕ) (w : List ℕ) : Type 0 where
  pub opened : (a b : Model) → size a ≡ length left → size b ≡ length right
      → choices_in a b w (depth + 1) ≡ record { sides = record { left = left; right = right }; element = element; old = old; new = new; rest = reps_from b 0 } ∷ choices_in a b w₀ depth

-- of so many open choices, so many stay open: those above have no candidate left, and the latest of the rest has one
pub record Reopened (b : Model) (w : List ℕ) (depth stay : ℕ) : Type 0 where
  pub same : (a : Model) → next_choice (choices_in a b w depth) ≡ next_choice (choices_in a b w stay)
  pub within : stay ≤ depth
  pub goes : 1 ≤ stay → candidate_in b w (stay - 1) < size b

-- the next candidate of the latest of so many open choices is looked at: the work and the colours before it and after it, and whether it has the choice's colour
pub record Looked (b : Model) (n : ℕ) (w₀ : List ℕ) (depth : ℕ) (c₀ : List (List ℕ)) (w : List ℕ) (c : List (List ℕ)) (has : Bool) : Type 0 where
  pub has_gone_on : (a : Model) → size a ≡ n
      → choices_in a b w depth ≡ gone_on (choice_in a b w₀ (depth - 1)) (reps_from b (candidate_in b w₀ (depth - 1) + 1)) ∷ choices_in a b w₀ (depth - 1)
  pub tests : (a : Model) → has ≡ eqb (colour_at (choice_in a b w₀ (depth - 1)).sides.right (candidate_in b w₀ (depth - 1))) (choice_in a b w₀ (depth - 1)).old
  pub gives : has ≡ true → (a : Model) → size a ≡ n → sides_in a b c ≡ tried (choice_in a b w₀ (depth - 1)) (candidate_in b w₀ (depth - 1))
  pub long : has ≡ true → (length c ≡ 2) × (length (get_or c 0 []) ≡ 64) × (length (get_or c 1 []) ≡ 64)
  pub leaves : has ≡ false → c ≡ c₀
