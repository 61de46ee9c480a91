-- What functions on parts of a file answer: the first colours, the representatives and their colours by the types and the roots in place of a model,
-- and counts and classes by the lists of those colours.
use Rattle.std.specs.Prelude.{ℕ, ◌+◌, ◌≡◌, Bool, true, false, not, ◌&&◌, List, map, length, get_or, eqb, ltb, Option}
use Rattle.lists.specs.Every.{all, keep, how_many}
use Rattle.lists.specs.Numbers.{up_from}
use Rattle.stored.specs.Types.{type_in}
use Rattle.stored.specs.Model.{is_rep_in}
use Rattle.rounds.specs.Colours.{no_colour, colour_at, paired}
use Rattle.rounds.specs.Classes.{smaller}

-- the representatives below a number, ascending, and their colours
unfoldable pub reps_below : List ℕ → ℕ → List ℕ
reps_below roots n = keep (is_rep_in roots) (up_from 0 n)

unfoldable pub colours_below : List ℕ → List ℕ → ℕ → List ℕ
colours_below roots colours n = map (colour_at colours) (reps_below roots n)

-- the representatives of a side, and their colours
abbrev pub reps_in : List ℕ → List ℕ
reps_in roots = reps_below roots (length roots)

abbrev pub colours_in : List ℕ → List ℕ → List ℕ
colours_in roots colours = colours_below roots colours (length roots)

-- whether an element is a representative of a colour
unfoldable pub has_colour : List ℕ → List ℕ → ℕ → ℕ → Bool
has_colour roots colours k x = is_rep_in roots x && eqb (colour_at colours x) k

-- the first colour of a left element
unfoldable pub left_colour_in : List ℕ → List ℕ → List ℕ → ℕ → ℕ
left_colour_in types roots partners x = elim (is_rep_in roots x) [
  | false ↦ no_colour
  | true ↦ elim (paired partners x) [
    | true ↦ length types + how_many (paired partners) (up_from 0 x)
    | false ↦ type_in types x
  ]
]

-- the first colour of a right element
unfoldable pub right_colour_in : List ℕ → List ℕ → List ℕ → List ℕ → ℕ → ℕ
right_colour_in types roots left partners y = elim (is_rep_in roots y) [
  | false ↦ no_colour
  | true ↦ elim (paired partners y) [
    | true ↦ colour_at left (get_or partners y 255)
    | false ↦ type_in types y
  ]
]

-- whether colours are below 128, so that a table of 128 entries counts them: first colours are at most 16 types and 64 pairs, a round's at most the keys of 64
-- elements on each side
unfoldable pub are_small : List ℕ → Bool
are_small colours = all (λ (k : ℕ). ltb k 128) colours

-- a table of 128 entries that holds for each colour how often it stands among some
pub record CountsOf (table colours : List ℕ) : Type 0 where
  pub room : length table ≡ 128
  pub counts : (k : ℕ) → get_or table k 0 ≡ how_many (eqb k) colours

-- whether an entry of a table is not 0
unfoldable pub is_filled : List ℕ → ℕ → Bool
is_filled table k = not (eqb (get_or table k 0) 0)

-- the smallest open class of the colours from k on, given that of those after k
unfoldable pub smallest_with : List ℕ → ℕ → Option ℕ → Option ℕ
smallest_with colours k later = elim (ltb (how_many (eqb k) colours) 2) [ true ↦ later | false ↦ smaller colours k later ]
