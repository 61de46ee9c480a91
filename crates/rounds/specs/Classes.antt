-- "Of the smallest left class with two or more members (ties: lowest colour) take the lowest element."
use Rattle.std.specs.Prelude.{ℕ, zero, suc, true, false, ◌&&◌, List, length, eqb, ltb, leb, Option, None, Some}
use Rattle.lists.specs.Every.{how_many}
use Rattle.lists.specs.First.{lowest}
use Rattle.stored.specs.Model.{Model, size, is_rep}
use Rattle.rounds.specs.declared.colour.Colour.{Colour}
use Rattle.rounds.specs.Colours.{colour_at}
use Rattle.rounds.specs.Round.{colours_of}

-- the number of a colour whose class has two or more members, if there is one
unfoldable pub open_of : Option Colour → Option ℕ
open_of None = None
open_of (Some k) = Some k.0

-- the smaller of two classes, the first of them where they are as large
unfoldable pub smaller : List ℕ → ℕ → Option ℕ → Option ℕ
smaller colours k None = Some k
smaller colours k (Some l) = elim (leb (how_many (eqb k) colours) (how_many (eqb l) colours)) [ true ↦ Some k | false ↦ Some l ]

-- of the colours k, k + 1, .., as many as asked for, that of the smallest class with two or more members
unfoldable pub smallest_from : List ℕ → ℕ → ℕ → Option ℕ
smallest_from colours k zero = None
smallest_from colours k (suc n) = elim (ltb (how_many (eqb k) colours) 2) [
  | true ↦ smallest_from colours (suc k) n
  | false ↦ smaller colours k (smallest_from colours (suc k) n)
]

-- after a round the left colours are 0, 1, ..
unfoldable pub smallest_open : Model → List ℕ → Option ℕ
smallest_open a left = smallest_from (colours_of a left) 0 (length (colours_of a left))

-- the lowest representative of a colour
unfoldable pub lowest_of : Model → List ℕ → ℕ → ℕ
lowest_of a left k = lowest (λ (x : ℕ). is_rep a x && eqb (colour_at left x) k) 0 (size a)
