-- What a call is given: the types and the roots of a file that was read, handed on by their ends, room in the output, and a map. Assumes nothing.
use Prim.Native.Nat.{ℕ, ◌+◌, ◌-◌, ◌<◌, ◌≤◌}
use mathlib.Core.Path.{◌≡◌, sym, ◌∙◌, ap}
use mathlib.Core.Bool.{true}
use mathlib.Core.List.{List}
use native.Mathlib.Omega.{arith}
use borrow.Author.Tests.{eqb-true}
use lib.Dec.{eqb}
use lib.ListN.{length}
use Rattle.lists.specs.Part.{part}
use Rattle.lists.proofs.Laws.Part.{part_ends}
use Rattle.lists.proofs.Laws.Tests.{and_left}
use Rattle.stored.specs.declared.layout.Layout.{Layout}
use Rattle.stored.specs.Limits.{max_types, max_elements}
use Rattle.stored.specs.Model.{Model, size}
use Rattle.stored.specs.Reading.{Reads, model_of}
use Rattle.stored.proofs.Laws.Reading.{reads_formed, size_is, types_part, roots_part}
use Rattle.stored.proofs.Laws.WellFormed.{WellFormed}
use Rattle.rows.specs.Maps.{is_map}

-- the types, as `&s[3..3 + types]`, and the roots, as `&s[roots..roots + size]`
abbrev pub types_in : List ℕ → Layout → List ℕ
types_in s l = part s 3 (3 + l.types - 3)

abbrev pub roots_in : List ℕ → Layout → List ℕ
roots_in s l = part s l.roots (l.roots + l.size - l.roots)

module _ (s : List ℕ) (l : Layout) (reads : Reads s l) where
  pub size_few : l.size ≤ max_elements
  size_few = omega (arith, size_is s l reads, (reads_formed s l reads).few_elements)

  pub types_between : types_in s l ≡ (model_of s).sizes
  types_between = part_ends s 3 l.types ∙ types_part s l reads

  pub types_few : length (types_in s l) ≤ max_types
  types_few = rw types_between (reads_formed s l reads).few_types

  pub roots_between : roots_in s l ≡ (model_of s).roots
  roots_between = part_ends s l.roots l.size ∙ roots_part s l reads

  pub roots_count : length (roots_in s l) ≡ size (model_of s)
  roots_count = ap length roots_between ∙ (reads_formed s l reads).roots_length

  pub roots_long : length (roots_in s l) ≡ l.size
  roots_long = roots_count ∙ sym (size_is s l reads)

  pub roots_few : length (roots_in s l) ≤ max_elements
  roots_few = omega (arith, roots_count, (reads_formed s l reads).few_elements)

  -- whether there is room for a byte for each element
  pub no_room : (room : ℕ) → room < l.size → room < size (model_of s)
  no_room room h = omega (arith, size_is s l reads)

  pub has_room : (room : ℕ) → l.size ≤ room → size (model_of s) ≤ room
  has_room room h = omega (arith, size_is s l reads)

-- room for as many bytes as a file has elements, which were counted
module _ {n m : ℕ} (e : n ≡ m) (room : ℕ) where
  pub cramped : room < n → room < m
  cramped h = omega arith

  pub roomy : n ≤ room → m ≤ room
  roomy h = omega arith

-- the roots of a model that is well formed, as they are handed on
module _ {m : Model} (formed : WellFormed m) {roots : List ℕ} (e : roots ≡ m.roots) where
  pub roots_counted : length roots ≡ size m
  roots_counted = ap length e ∙ formed.roots_length

  pub roots_fit : (room : ℕ) → size m ≤ room → length roots ≤ room
  roots_fit room h = omega (arith, roots_counted)

  pub few_roots : length roots ≤ max_elements
  few_roots = roots_fit max_elements formed.few_elements

-- a map has an entry for each element of the source
module _ (a b : Model) (f : List ℕ) (h : is_map a b f ≡ true) where
  pub map_length : length f ≡ size a
  unfolding is_map
  map_length = eqb-true _ _ (and_left (eqb (length f) (size a)) _ h)

  pub map_fits : (room : ℕ) → size a ≤ room → length f ≤ room
  map_fits room k = omega (arith, map_length)
