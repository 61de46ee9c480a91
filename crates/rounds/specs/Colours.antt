-- "Colour of a representative: its type number. Distinct fixed pairs, ascending by left element, then get colours T, T+1, .. on both sides, T the
-- number of types." The colours of a side are a list over its elements; an alias has none.
use Rattle.std.specs.Prelude.{ℕ, ◌+◌, Bool, true, false, not, List, map, length, get_or, eqb}
use Rattle.lists.specs.Every.{how_many}
use Rattle.lists.specs.Numbers.{up_from}
use Rattle.stored.specs.Model.{Model, size, type_of, is_rep}

-- what stands for the colour of an alias
abbrev pub no_colour : ℕ
no_colour = 65535

abbrev pub colour_at : List ℕ → ℕ → ℕ
colour_at colours x = get_or colours x no_colour

-- whether an element has a partner, in a list of partners with 255 for none
unfoldable pub paired : List ℕ → ℕ → Bool
paired partners x = not (eqb (get_or partners x 255) 255)

-- the first colour of a left element, given the right partner of each
unfoldable pub left_colour : Model → List ℕ → ℕ → ℕ
left_colour a partners x = elim (is_rep a x) [
  | false ↦ no_colour
  | true ↦ elim (paired partners x) [
    | true ↦ length a.sizes + how_many (paired partners) (up_from 0 x)
    | false ↦ type_of a x
  ]
]

unfoldable pub left_colours : Model → List ℕ → List ℕ
left_colours a partners = map (left_colour a partners) (up_from 0 (size a))

-- the first colour of a right element, given the left partner of each: that of its partner
unfoldable pub right_colour : Model → List ℕ → List ℕ → ℕ → ℕ
right_colour b left partners y = elim (is_rep b y) [
  | false ↦ no_colour
  | true ↦ elim (paired partners y) [
    | true ↦ colour_at left (get_or partners y 255)
    | false ↦ type_of b y
  ]
]

unfoldable pub right_colours : Model → List ℕ → List ℕ → List ℕ
right_colours b left partners = map (right_colour b left partners) (up_from 0 (size b))
