-- Fixed pairs: 14 and 15 over the whole list; then "one element is paired with two" gives 1 with 0 units.
use Rattle.std.specs.Prelude.{ℕ, zero, suc, ◌+◌, ◌≡◌, Bool, true, false, ◌||◌, List, set, Result, Ok, Err}
use Rattle.stored.specs.Model.{Model, size, root_of}
use Rattle.stored.specs.declared.refusal.Refusal.{Refusal}
use Rattle.rows.specs.Pairs.{pair_count, left_at, right_at, pair_at, conflicts}
use Rattle.rows.specs.Check.{blank}

-- the first pair from a place on that is at fault, or none is
unfoldable pub pairs_from : ℕ → Model → Model → List ℕ → ℕ → Result (Unit {0}) Refusal
pairs_from zero a b pairs i = Ok tt
pairs_from (suc left) a b pairs i = elim (pair_at a b pairs i) [ Err r ↦ Err r | Ok u ↦ pairs_from left a b pairs (i + 1) ]

-- the partner of each element on either side, 255 for none; or one element is paired with two
pub data Partners : Type 0 where
  partners : List ℕ → List ℕ → Partners
  clash : Partners

unfoldable pub partners_from : ℕ → Model → Model → List ℕ → ℕ → List ℕ → List ℕ → Partners
partners_from zero a b pairs i f g = partners f g
partners_from (suc left) a b pairs i f g =
    elim (conflicts f (root_of a (left_at pairs i)) (root_of b (right_at pairs i)) || conflicts g (root_of b (right_at pairs i)) (root_of a (left_at pairs i))) [
      | true ↦ clash
      | false ↦ partners_from left a b pairs (i + 1) (set f (root_of a (left_at pairs i)) (root_of b (right_at pairs i))) (set g (root_of b (right_at pairs i)) (root_of a (left_at pairs i)))
    ]

unfoldable pub partners_of : Model → Model → List ℕ → Partners
partners_of a b pairs = partners_from (pair_count pairs) a b pairs 0 (blank (size a)) (blank (size b))

-- what a writer of partners answers, true where no element is paired with two, with the partners that it leaves
unfoldable pub partners_by : Bool → List ℕ → List ℕ → Partners
partners_by true f g = partners f g
partners_by false f g = clash

-- partners that good pairs give
abbrev pub PartnersOf : Model → Model → List ℕ → List ℕ → Type 0
PartnersOf a b f g = (pairs : List ℕ) × (pairs_from (pair_count pairs) a b pairs 0 ≡ Ok tt) × (partners_of a b pairs ≡ partners f g)
