-- The laws of maps: the rules for one entry and for a whole map, case by case. Assumes nothing.
use Prim.Native.Nat.{ℕ}
use mathlib.Core.Path.{◌≡◌}
use mathlib.Core.Bool.{true, false}
use mathlib.Core.List.{List}
use borrow.Author.Tests.{eq-eqb, ne_eqb}
use lib.Dec.{eqb}
use lib.ListN.{length, get_or}
use Rattle.lists.specs.Every.{all}
use Rattle.lists.specs.Numbers.{up_from}
use Rattle.stored.specs.Types.{type_in}
use Rattle.stored.specs.Model.{Model, size, is_rep_in}
use Rattle.rows.specs.Rows.{first_unkept}
use Rattle.rows.specs.Maps.{entry_in, entry_holds, is_map}

-- one entry
module _ (sizes roots sizes' roots' f : List ℕ) (x : ℕ) where
  pub entry_alias : is_rep_in roots x ≡ false → entry_in sizes roots sizes' roots' f x ≡ eqb (get_or f x 255) 255
  unfolding entry_in
  entry_alias e = rw (e, entry_in)

  module _ (e : is_rep_in roots x ≡ true) where
    pub entry_no_image : is_rep_in roots' (get_or f x 255) ≡ false → entry_in sizes roots sizes' roots' f x ≡ false
    unfolding entry_in
    entry_no_image k = rw (e, entry_in, k)

    pub entry_image : is_rep_in roots' (get_or f x 255) ≡ true → entry_in sizes roots sizes' roots' f x ≡ eqb (type_in sizes' (get_or f x 255)) (type_in sizes x)
    unfolding entry_in
    entry_image k = rw (e, entry_in, k)

-- a map
module _ (a b : Model) (f : List ℕ) where
  pub map_miscounted : (length f ≡ size a → ⊥) → is_map a b f ≡ false
  unfolding is_map
  map_miscounted h = rw (ne_eqb (length f) (size a) h)

  module _ (h : length f ≡ size a) where
    pub map_bad_entry : all (entry_holds a b f) (up_from 0 (length f)) ≡ false → is_map a b f ≡ false
    unfolding is_map
    map_bad_entry k = rw (eq-eqb (length f) (size a) h, ← h, k)

    pub map_entries : all (entry_holds a b f) (up_from 0 (length f)) ≡ true → is_map a b f ≡ eqb (first_unkept a b f) (length a.relations)
    unfolding is_map
    map_entries k = rw (eq-eqb (length f) (size a) h, ← h, k)
