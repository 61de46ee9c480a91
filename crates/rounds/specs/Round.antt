-- "New colours 0, 1, .. are given to keys by first appearance, left representatives ascending, then right."
use Rattle.std.specs.Prelude.{ℕ, Bool, true, false, List, ◌++◌, map, length, eqb}
use Rattle.lists.specs.Every.{all, keep, how_many}
use Rattle.lists.specs.First.{first_at, firsts}
use Rattle.lists.specs.Numbers.{up_from}
use Rattle.stored.specs.Model.{Model, size, is_rep}
use Rattle.rounds.specs.Colours.{no_colour, colour_at}
use Rattle.rounds.specs.Keys.{Key, key_of, same_key}

-- the representatives of a model, ascending
unfoldable pub reps : Model → List ℕ
reps m = keep (is_rep m) (up_from 0 (size m))

-- the colours of both sides
pub record Sides : Type 0 where
  pub left : List ℕ
  pub right : List ℕ

-- the keys of both sides in the order of their first appearance
unfoldable pub palette : Model → Model → Sides → List Key
palette a b c = firsts same_key (map (key_of a c.left) (reps a) ++ map (key_of b c.right) (reps b))

unfoldable pub new_colour : List Key → Model → List ℕ → ℕ → ℕ
new_colour keys m colours x = elim (is_rep m x) [ true ↦ first_at (same_key (key_of m colours x)) keys | false ↦ no_colour ]

unfoldable pub recoloured : List Key → Model → List ℕ → List ℕ
recoloured keys m colours = map (new_colour keys m colours) (up_from 0 (size m))

unfoldable pub round : Model → Model → Sides → Sides
round a b c = record { left = recoloured (palette a b c) a c.left; right = recoloured (palette a b c) b c.right }

-- the colours of a side's representatives, and how many different ones there are
unfoldable pub colours_of : Model → List ℕ → List ℕ
colours_of m colours = map (colour_at colours) (reps m)

unfoldable pub colour_count : Model → List ℕ → ℕ
colour_count m colours = length (firsts eqb (colours_of m colours))

-- "Unequal counts of any colour on the two sides: dead end. As many colours as the left had before the round: stable. Else another round."
unfoldable pub equal_counts : Model → Model → Sides → Bool
equal_counts a b c =
    all (λ (k : ℕ). eqb (how_many (eqb k) (colours_of a c.left)) (how_many (eqb k) (colours_of b c.right))) (colours_of a c.left ++ colours_of b c.right)

pub data Outcome : Type 0 where
  dead : Outcome
  stable : Sides → Outcome
  again : Sides → Outcome

-- what a round comes to, given how many colours the left had before it
unfoldable pub outcome : Model → Model → ℕ → Sides → Outcome
outcome a b before c = elim (equal_counts a b c) [
  | false ↦ dead
  | true ↦ elim (eqb (colour_count a c.left) before) [ true ↦ stable c | false ↦ again c ]
]

unfoldable pub round_outcome : Model → Model → Sides → Outcome
round_outcome a b c = outcome a b (colour_count a c.left) (round a b c)
