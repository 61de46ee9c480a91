-- "A map is n bytes: at a representative the image's representative, at an alias 255."
use Rattle.std.specs.Prelude.{ℕ, Bool, true, false, ◌&&◌, not, ◌||◌, List, map, length, get_or, eqb, ltb}
use Rattle.lists.specs.Every.{all}
use Rattle.lists.specs.First.{first_at}
use Rattle.lists.specs.Numbers.{up_from}
use Rattle.stored.specs.Types.{type_in}
use Rattle.stored.specs.Model.{Model, size, is_rep_in, relation_at}
use Rattle.rows.specs.Rows.{through, normal_count, first_unkept}

-- "19 is answered exactly if the length is not n, an alias entry is not 255, a representative's entry is not a target representative of its
-- type, or a relation is not kept."
unfoldable pub entry_in : List ℕ → List ℕ → List ℕ → List ℕ → List ℕ → ℕ → Bool
entry_in sizes roots sizes' roots' f x = elim (is_rep_in roots x) [
  | true ↦ is_rep_in roots' (get_or f x 255) && eqb (type_in sizes' (get_or f x 255)) (type_in sizes x)
  | false ↦ eqb (get_or f x 255) 255
]

abbrev pub entry_holds : Model → Model → List ℕ → ℕ → Bool
entry_holds a b f x = entry_in a.sizes a.roots b.sizes b.roots f x

unfoldable pub is_map : Model → Model → List ℕ → Bool
is_map a b f =
    eqb (length f) (size a)
    && (all (entry_holds a b f) (up_from 0 (size a))
    && eqb (first_unkept a b f) (length a.relations))

-- each representative to itself
unfoldable pub identity_entry : List ℕ → ℕ → ℕ
identity_entry roots x = elim (is_rep_in roots x) [ true ↦ x | false ↦ 255 ]

unfoldable pub identity_of : Model → List ℕ
identity_of m = map (identity_entry m.roots) (up_from 0 (size m))

-- one map, then another
unfoldable pub then_map : List ℕ → List ℕ → List ℕ
then_map f g = through g f

-- "The inverse exists exactly if the map is one to one and onto the classes and each relation has as many normalised rows on both sides."
-- One to one: each image stands in the map first where it is asked for
unfoldable pub alone : List ℕ → ℕ → Bool
alone f x = eqb (get_or f x 255) 255 || eqb (first_at (eqb (get_or f x 255)) f) x

unfoldable pub one_to_one : List ℕ → Bool
one_to_one f = all (alone f) (up_from 0 (length f))

-- onto: each target representative stands in the map
unfoldable pub reached : List ℕ → List ℕ → ℕ → Bool
reached roots f y = not (is_rep_in roots y) || ltb (first_at (eqb y) f) (length f)

unfoldable pub onto : Model → List ℕ → Bool
onto b f = all (reached b.roots f) (up_from 0 (size b))

unfoldable pub same_count : Model → Model → ℕ → Bool
same_count a b k = eqb (normal_count a (relation_at a k)) (normal_count b (relation_at b k))

unfoldable pub same_counts : Model → Model → Bool
same_counts a b = all (same_count a b) (up_from 0 (length a.relations))

unfoldable pub invertible : Model → Model → List ℕ → Bool
invertible a b f = one_to_one f && (onto b f && same_counts a b)

-- at a target representative the element whose image it is
unfoldable pub inverse_entry : List ℕ → List ℕ → ℕ → ℕ
inverse_entry roots f y = elim (is_rep_in roots y) [ true ↦ first_at (eqb y) f | false ↦ 255 ]

unfoldable pub inverse_of : Model → List ℕ → List ℕ
inverse_of b f = map (inverse_entry b.roots f) (up_from 0 (size b))
