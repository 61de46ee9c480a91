-- The search as a machine: rules 2 to 5, every step with the units it takes. "one unit for each round, candidate looked at and closing check".
use Rattle.std.specs.Prelude.{ℕ, zero, suc, ◌+◌, ◌-◌, ◌≡◌, Bool, true, false, ◌&&◌, List, [], ◌∷◌, map, length, set, leb, eqb, Option, None, Some}
use Rattle.lists.specs.Every.{all}
use Rattle.lists.specs.First.{lowest}
use Rattle.lists.specs.Numbers.{up_from}
use Rattle.stored.specs.Model.{Model, size, is_rep_in, is_rep, relation_at}
use Rattle.rows.specs.Rows.{through, has_row}
use Rattle.rounds.specs.Colours.{colour_at}
use Rattle.rounds.specs.Round.{reps, Sides, Outcome, dead, stable, again, colour_count, round_outcome}
use Rattle.rounds.specs.Classes.{smallest_open, lowest_of}
use Rattle.rounds.specs.Parts.{has_colour}

-- an open choice: the colours, the left element, its colour, the new colour, and the right representatives not yet looked at
pub record Choice : Type 0 where
  pub sides : Sides
  pub element : ℕ
  pub old : ℕ
  pub new : ℕ
  pub rest : List ℕ

pub data State : Type 0 where
  refine : Sides → List Choice → State
  close : Sides → List Choice → State
  choose : List Choice → State
  done : List ℕ → State

-- the open choices of a state, the latest first
abbrev pub open_in : State → List Choice
open_in (refine c choices) = choices
open_in (close c choices) = choices
open_in (choose choices) = choices
open_in (done f) = []

-- the answer is there, or a step takes so many units and leads on
pub data Step : Type 0 where
  there : List ℕ → Step
  nowhere : Step
  takes : ℕ → State → Step

-- "equal colours give the map"
unfoldable pub image_of : Model → Model → Sides → ℕ → ℕ
image_of a b c x = elim (is_rep a x) [ true ↦ lowest (λ (y : ℕ). is_rep b y && eqb (colour_at c.right y) (colour_at c.left x)) 0 (size b) | false ↦ 255 ]

-- the same by the representatives and the colours of both sides
unfoldable pub image_in : List ℕ → List ℕ → List ℕ → List ℕ → ℕ → ℕ
image_in roots roots' left right x = elim (is_rep_in roots x) [ true ↦ lowest (has_colour roots' right (colour_at left x)) 0 (length roots') | false ↦ 255 ]

unfoldable pub map_of : Model → Model → Sides → List ℕ
map_of a b c = map (image_of a b c) (up_from 0 (size a))

-- "a closing check compares every relation as a set"
unfoldable pub closes_at : Model → Model → List ℕ → ℕ → Bool
closes_at a b f k =
    all (λ (row : List ℕ). has_row row (relation_at b k).rows) (map (through f) (relation_at a k).rows)
    && all (λ (row : List ℕ). has_row row (map (through f) (relation_at a k).rows)) (relation_at b k).rows

unfoldable pub closes : Model → Model → List ℕ → Bool
closes a b f = all (closes_at a b f) (up_from 0 (length a.relations))

-- a choice is opened at a colour whose class has two or more members
unfoldable pub choice_at : Model → Model → Sides → ℕ → Choice
choice_at a b c k = record { sides = c; element = lowest_of a c.left k; old = k; new = colour_count a c.left; rest = reps b }

unfoldable pub after_stable : Model → Model → Sides → List Choice → Option ℕ → State
after_stable a b c choices None = close c choices
after_stable a b c choices (Some k) = choose (choice_at a b c k ∷ choices)

unfoldable pub after_round : Model → Model → List Choice → Outcome → State
after_round a b choices dead = choose choices
after_round a b choices (again c) = refine c choices
after_round a b choices (stable c) = after_stable a b c choices (smallest_open a c.left)

unfoldable pub after_closing : List Choice → List ℕ → Bool → State
after_closing choices f true = done f
after_closing choices f false = choose choices

-- a choice goes on with its candidates after the one looked at
unfoldable pub gone_on : Choice → List ℕ → Choice
gone_on e ys = record { sides = e.sides; element = e.element; old = e.old; new = e.new; rest = ys }

-- "each of that colour is tried by giving both a new colour"
unfoldable pub tried : Choice → ℕ → Sides
tried e y = record { left = set e.sides.left e.element e.new; right = set e.sides.right y e.new }

unfoldable pub try_candidate : Choice → ℕ → List ℕ → List Choice → State
try_candidate e y ys choices = elim (eqb (colour_at e.sides.right y) e.old) [
  | true ↦ refine (tried e y) (gone_on e ys ∷ choices)
  | false ↦ choose (gone_on e ys ∷ choices)
]

-- "After a dead end the latest open choice goes on."; a choice with no candidate left is closed for nothing
unfoldable pub next_choice : List Choice → Step
next_choice [] = nowhere
next_choice (e ∷ choices) = elim e.rest [ [] ↦ next_choice choices | y ∷ ys ↦ takes 1 (try_candidate e y ys choices) ]

-- a step, with the units that a round takes
unfoldable pub step : ℕ → Model → Model → State → Step
step round_cost a b (refine c choices) = takes round_cost (after_round a b choices (round_outcome a b c))
step round_cost a b (close c choices) = takes 1 (after_closing choices (map_of a b c) (closes a b (map_of a b c)))
step round_cost a b (choose choices) = next_choice choices
step round_cost a b (done f) = there f

-- the states that steps lead to from a state, as many as one likes
pub data Reached (round_cost : ℕ) (a b : Model) (start : State) : State → Type 0 where
  here : Reached round_cost a b start start
  next : (s : State) → Reached round_cost a b start s → (n : ℕ) (t : State) → step round_cost a b s ≡ takes n t → Reached round_cost a b start t

-- what a run comes to, with the units used
pub data Ended : Type 0 where
  found : ℕ → List ℕ → Ended
  none : ℕ → Ended
  exhausted : ℕ → Ended

-- "Exhausted is answered exactly when a unit is needed and all are used."
unfoldable pub run : ℕ → ℕ → Model → Model → ℕ → ℕ → State → Ended
run zero round_cost a b left used s = elim (step round_cost a b s) [
  | there f ↦ found used f
  | nowhere ↦ none used
  | takes n t ↦ exhausted used
]
run (suc fuel) round_cost a b left used s = elim (step round_cost a b s) [
  | there f ↦ found used f
  | nowhere ↦ none used
  | takes n t ↦ elim (leb n left) [ true ↦ run fuel round_cost a b (left - n) (used + n) t | false ↦ exhausted used ]
]
