-- "A pair list is bytes, element then image; aliases are taken to their representatives."
use Rattle.std.specs.Prelude.{ℕ, zero, suc, ◌+◌, ◌*◌, ◌/◌, Bool, true, false, ◌&&◌, not, List, length, get_or, set, eqb, ltb, Result, Ok, Err}
use Rattle.lists.specs.Numbers.{sum}
use Rattle.stored.specs.declared.refusal.Refusal.{Refusal}
use Rattle.stored.specs.declared.refusal.Refusal.TheVariants.{UnknownElement, TypesDiffer, ConflictingImages}
use Rattle.stored.specs.Types.{type_in}
use Rattle.stored.specs.Model.{Model, root_of}

-- how many pairs there are, and the two elements of the pair at a place
abbrev pub pair_count : List ℕ → ℕ
pair_count pairs = length pairs / 2

abbrev pub left_at : List ℕ → ℕ → ℕ
left_at pairs i = get_or pairs (2 * i) 0

abbrev pub right_at : List ℕ → ℕ → ℕ
right_at pairs i = get_or pairs (2 * i + 1) 0

-- a pair of two known elements of one type, or what is wrong with it: "each pair by 14 side 1, 14 side 2, 15"
unfoldable pub pair_in : List ℕ → List ℕ → List ℕ → ℕ → Result (Unit {0}) Refusal
pair_in sizes sizes' pairs i = elim (ltb (left_at pairs i) (sum sizes)) [
  | false ↦ Err (UnknownElement i 1)
  | true ↦ elim (ltb (right_at pairs i) (sum sizes')) [
    | false ↦ Err (UnknownElement i 2)
    | true ↦ elim (eqb (type_in sizes (left_at pairs i)) (type_in sizes' (right_at pairs i))) [ false ↦ Err (TypesDiffer i) | true ↦ Ok tt ]
  ]
]

abbrev pub pair_at : Model → Model → List ℕ → ℕ → Result (Unit {0}) Refusal
pair_at a b pairs i = pair_in a.sizes b.sizes pairs i

-- images given so far, or a refusal
pub data Given : Type 0 where
  images : List ℕ → Given
  refused : Refusal → Given

-- whether an image given so far is another than the one given now
unfoldable pub conflicts : List ℕ → ℕ → ℕ → Bool
conflicts f x y = not (eqb (get_or f x 255) 255) && not (eqb (get_or f x 255) y)

-- the images that the pairs from a place on give, with those given before
unfoldable pub give_from : ℕ → Model → Model → List ℕ → ℕ → List ℕ → Given
give_from zero a b pairs i f = images f
give_from (suc left) a b pairs i f = elim (pair_at a b pairs i) [
  | Err r ↦ refused r
  | Ok u ↦ elim (conflicts f (root_of a (left_at pairs i)) (root_of b (right_at pairs i))) [
    | true ↦ refused (ConflictingImages (record { 0 = root_of a (left_at pairs i) }))
    | false ↦ give_from left a b pairs (i + 1) (set f (root_of a (left_at pairs i)) (root_of b (right_at pairs i)))
  ]
]

-- what a reader of pairs answers, with the images that it leaves
unfoldable pub given_by : Result (Unit {0}) Refusal → List ℕ → Given
given_by (Ok u) f = images f
given_by (Err r) f = refused r
