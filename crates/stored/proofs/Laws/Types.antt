-- The laws of Types: the rules case by case, the type of an element and the first elements from type t on. Assumes nothing.
use Prim.Native.Nat.{ℕ, ◌+◌, ◌-◌, ◌<◌, ◌≤◌}
use mathlib.Core.Path.{◌≡◌, refl, ap, ◌∙◌}
use mathlib.Core.Bool.{true, false}
use mathlib.Core.List.{List, [], ◌∷◌, ◌++◌}
use native.Mathlib.Omega.{arith}
use native.Mathlib.Numerals.{add-one}
use borrow.Author.Tests.{leb-true, le-leb, lt-leb}
use lib.Dec.{leb}
use lib.ListN.{length, get_or, drop, replicate, length-replicate, get_or-replicate, drop_of_length-le, get_or-append}
use lib.Seq.{drop-cons, get_or-append-add}
use Rattle.lists.specs.Numbers.{sum}
use Rattle.lists.proofs.Laws.Tests.{and_left, and_right}
use Rattle.stored.specs.Limits.{max_types, max_elements}
use Rattle.stored.specs.Types.{types_from, type_in, types_hold}
use Rattle.stored.specs.Layout.{firsts_from}

-- the rules
module _ (sizes : List ℕ) where
  pub types_many : max_types < length sizes → types_hold sizes ≡ false
  unfolding types_hold
  types_many h = rw (lt-leb (length sizes) max_types h)

  pub types_few : length sizes ≤ max_types → types_hold sizes ≡ leb (sum sizes) max_elements
  unfolding types_hold
  types_few h = rw (le-leb (length sizes) max_types h)

  pub types_length : types_hold sizes ≡ true → length sizes ≤ max_types
  unfolding types_hold
  types_length h = leb-true _ _ (and_left (leb (length sizes) max_types) (leb (sum sizes) max_elements) h)

  pub types_total : types_hold sizes ≡ true → sum sizes ≤ max_elements
  unfolding types_hold
  types_total h = leb-true _ _ (and_right (leb (length sizes) max_types) (leb (sum sizes) max_elements) h)

-- n times k, then others
module _ (n k : ℕ) (others : List ℕ) (i d : ℕ) where
  run_in : i < n → get_or (replicate n k ++ others) i d ≡ k
  run_in h = get_or-append (replicate n k) others d i (rw length-replicate h) ∙ get_or-replicate n i k d h

  run_past : n ≤ i → get_or (replicate n k ++ others) i d ≡ get_or others (i - n) d
  run_past h =
      let e : i ≡ length (replicate n k) + (i - n) = omega (arith, length-replicate n k) in
      ap (λ (j : ℕ). get_or (replicate n k ++ others) j d) e ∙ get_or-append-add (replicate n k) others (i - n) d

-- the type of the element that stands `left` places after the first of type t
unfoldable pub type_from : List ℕ → ℕ → ℕ → ℕ
type_from sizes t left = get_or (types_from t (drop t sizes)) left (length sizes)

pub type_start : (sizes : List ℕ) (x : ℕ) → type_from sizes 0 x ≡ type_in sizes x
unfolding type_from type_in
type_start sizes x = refl

module _ (sizes : List ℕ) (t left : ℕ) where
  types_next : t < length sizes → types_from t (drop t sizes) ≡ replicate (get_or sizes t 0) t ++ types_from (t + 1) (drop (t + 1) sizes)
  unfolding types_from
  types_next h = rw (drop-cons sizes t 0 h, add-one t)

  pub type_here : t < length sizes → left < get_or sizes t 0 → type_from sizes t left ≡ t
  unfolding type_from
  type_here h k = rw (types_next h) (run_in _ _ _ _ _ k)

  pub type_next : t < length sizes → get_or sizes t 0 ≤ left → type_from sizes t left ≡ type_from sizes (t + 1) (left - get_or sizes t 0)
  unfolding type_from
  type_next h k = rw (types_next h) (run_past _ _ _ _ _ k)

  pub type_end : length sizes ≤ t → type_from sizes t left ≡ length sizes
  unfolding type_from types_from
  type_end h = rw (drop_of_length-le sizes h)

-- the first elements
pub length_firsts : (x : ℕ) (sizes : List ℕ) → length (firsts_from x sizes) ≡ length sizes
unfolding firsts_from
length_firsts x [] = refl
length_firsts x (n ∷ sizes) = rw (length_firsts (x + n) sizes)

pub firsts_next : (sizes : List ℕ) (x t : ℕ) → t < length sizes → firsts_from x (drop t sizes) ≡ x ∷ firsts_from (x + get_or sizes t 0) (drop (t + 1) sizes)
unfolding firsts_from
firsts_next sizes x t h = rw (add-one t, drop-cons sizes t 0 h)

-- the cases of `type_from`
pub ruleset type_cases = (type_start, type_here, type_next, type_end)
