-- What find looks for. A class is named by its representative; a function takes each class of the left model to a class of the right one.
use Rattle.std.specs.Prelude.{ℕ, ◌<◌, ◌≡◌, true, false, length, get_or, take}
use mathlib.Core.List.{List, [], ◌∷◌, map, Memᴰ}
use Rattle.lists.specs.Part.{over}
use Rattle.stored.specs.Model.{Model, size, type_of, root_of, is_rep, relation_at}
use Rattle.rows.specs.Pairs.{pair_count, left_at, right_at}
use Rattle.rounds.specs.Round.{reps}

-- "one to one and onto between the classes, keeps types .., and carries each relation exactly onto its counterpart"
pub record Isomorphism (a b : Model) (h : ℕ → ℕ) : Type 0 where
  pub to_class : (x : ℕ) → Memᴰ x (reps a) → Memᴰ (h x) (reps b)
  pub keeps_apart : (x y : ℕ) → Memᴰ x (reps a) → Memᴰ y (reps a) → h x ≡ h y → x ≡ y
  pub onto : (y : ℕ) → Memᴰ y (reps b) → (x : ℕ) × Memᴰ x (reps a) × (h x ≡ y)
  pub keeps_types : (x : ℕ) → Memᴰ x (reps a) → type_of b (h x) ≡ type_of a x
  pub rows_into : (k : ℕ) (row : List ℕ) → Memᴰ row (relation_at a k).rows → Memᴰ (map h row) (relation_at b k).rows
  pub rows_onto : (k : ℕ) (row : List ℕ) → Memᴰ row (relation_at b k).rows → Memᴰ row (map (map h) (relation_at a k).rows)

-- "A pair list is bytes, element then image; aliases are taken to their representatives."
abbrev pub HonoursPairs : Model → Model → List ℕ → (ℕ → ℕ) → Type 0
HonoursPairs a b pairs h = (j : ℕ) → j < pair_count pairs → h (root_of a (left_at pairs j)) ≡ root_of b (right_at pairs j)

-- "A map is n bytes: at a representative the image's representative, at an alias 255."
abbrev pub image_by : List ℕ → ℕ → ℕ
image_by f x = get_or f x 255

-- "to_left followed by the map is to_right, on every base class"
abbrev pub UnderBase : Model → List ℕ → List ℕ → (ℕ → ℕ) → Type 0
UnderBase o toLeft toRight h = (x : ℕ) → Memᴰ x (reps o) → h (image_by toLeft x) ≡ image_by toRight x

-- "On 0 the first n bytes hold the map and the rest are unchanged."
abbrev pub map_in : Model → List ℕ → List ℕ
map_in a out = take (size a) out

-- the output before and after a call that answers 0: an isomorphism stands in it, 255 exactly at aliases
pub record Wrote (a b : Model) (before after : List ℕ) : Type 0 where
  pub its_length : length (map_in a after) ≡ size a
  pub rest_unchanged : after ≡ over (map_in a after) before
  pub isomorphism : Isomorphism a b (image_by (map_in a after))
  pub at_alias : (x : ℕ) → is_rep a x ≡ false → image_by (map_in a after) x ≡ 255
  pub only_at_alias : (x : ℕ) → is_rep a x ≡ true → image_by (map_in a after) x ≡ 255 → ⊥

-- what find with pairs promises of its output
pub record FoundMap (a b : Model) (pairs before after : List ℕ) : Type 0 where
  pub wrote : Wrote a b before after
  pub honours : HonoursPairs a b pairs (image_by (map_in a after))

-- and what find under a base does
pub record FoundUnder (o a b : Model) (toLeft toRight before after : List ℕ) : Type 0 where
  pub wrote : Wrote a b before after
  pub under : UnderBase o toLeft toRight (image_by (map_in a after))

-- the pair list of a map: each of some elements with its image
unfoldable pub own_pairs : List ℕ → List ℕ → List ℕ
own_pairs f [] = []
own_pairs f (x ∷ xs) = x ∷ image_by f x ∷ own_pairs f xs
