-- The laws of pair lists: one pair and one image case by case, and from a pair on. Assumes nothing.
use Prim.Native.Nat.{ℕ, suc, ◌+◌, ◌-◌, ◌*◌, ◌<◌, ◌≤◌}
use mathlib.Core.Path.{◌≡◌, refl, ◌∙◌, ap, ap₂}
use mathlib.Core.Bool.{true, false, not}
use mathlib.Core.Logic.{◌⊎◌, inl, inr}
use mathlib.Core.List.{List}
use native.Mathlib.Omega.{arith}
use borrow.Author.Tests.{lt-ltb, le-ltb, ltb-true, ltb-false, eq-eqb, ne_eqb}
use lib.Dec.{eqb, ltb}
use lib.ListN.{length, get_or, set}
use Rattle.std.proofs.Common.{Result, Ok, Err}
use Rattle.lists.specs.Numbers.{sum}
use Rattle.lists.proofs.Laws.Tests.{split}
use Rattle.stored.specs.declared.refusal.Refusal.{Refusal}
use Rattle.stored.specs.declared.refusal.Refusal.TheVariants.{UnknownElement, TypesDiffer, ConflictingImages}
use Rattle.stored.specs.Types.{type_in}
use Rattle.stored.specs.Model.{Model, root_of}
use Rattle.rows.specs.Pairs.{pair_count, left_at, right_at, pair_in, pair_at, images, refused, conflicts, give_from, given_by}

-- both elements of a pair stand in the list
pub pair_inside : (pairs : List ℕ) (i : ℕ) → i < pair_count pairs → 2 * i + 1 < length pairs
pair_inside pairs i h = omega arith

-- one pair
module _ (sizes sizes' pairs : List ℕ) (i : ℕ) where
  pub pair_left_unknown : sum sizes ≤ left_at pairs i → pair_in sizes sizes' pairs i ≡ Err (UnknownElement i 1)
  unfolding pair_in
  pair_left_unknown h = rw (le-ltb (left_at pairs i) (sum sizes) h, pair_in)

  module _ (l : left_at pairs i < sum sizes) where
    pub pair_right_unknown : sum sizes' ≤ right_at pairs i → pair_in sizes sizes' pairs i ≡ Err (UnknownElement i 2)
    unfolding pair_in
    pair_right_unknown h = rw (lt-ltb (left_at pairs i) (sum sizes) l, pair_in, le-ltb (right_at pairs i) (sum sizes') h)

    module _ (r : right_at pairs i < sum sizes') where
      pub pair_types_differ : (type_in sizes (left_at pairs i) ≡ type_in sizes' (right_at pairs i) → ⊥) → pair_in sizes sizes' pairs i ≡ Err (TypesDiffer i)
      unfolding pair_in
      pair_types_differ h = rw (lt-ltb (left_at pairs i) (sum sizes) l, pair_in, lt-ltb (right_at pairs i) (sum sizes') r, ne_eqb (type_in sizes (left_at pairs i)) (type_in sizes' (right_at pairs i)) h)

      pub pair_good : type_in sizes (left_at pairs i) ≡ type_in sizes' (right_at pairs i) → pair_in sizes sizes' pairs i ≡ Ok tt
      unfolding pair_in
      pair_good h = rw (lt-ltb (left_at pairs i) (sum sizes) l, pair_in, lt-ltb (right_at pairs i) (sum sizes') r, eq-eqb (type_in sizes (left_at pairs i)) (type_in sizes' (right_at pairs i)) h)

  -- both elements of a good pair are known
  pub pair_known : pair_in sizes sizes' pairs i ≡ Ok tt → (left_at pairs i < sum sizes) × (right_at pairs i < sum sizes')
  pair_known g = by_tests (split (ltb (left_at pairs i) (sum sizes))) (split (ltb (right_at pairs i) (sum sizes')))
    where
      not_bad : {X : Type 0} (r : Refusal) → pair_in sizes sizes' pairs i ≡ Err r → X
      not_bad r b = let z : ◌≡◌ {A = ℕ} 0 1 = cc in absurd (omega arith)

      by_tests : (ltb (left_at pairs i) (sum sizes) ≡ true) ⊎ (ltb (left_at pairs i) (sum sizes) ≡ false) → (ltb (right_at pairs i) (sum sizes') ≡ true) ⊎ (ltb (right_at pairs i) (sum sizes') ≡ false) → (left_at pairs i < sum sizes) × (right_at pairs i < sum sizes')
      by_tests (inl l) (inl r) = (ltb-true _ _ l, ltb-true _ _ r)
      by_tests (inl l) (inr r) = not_bad _ (pair_right_unknown (ltb-true _ _ l) (ltb-false _ _ r))
      by_tests (inr l) r = not_bad _ (pair_left_unknown (ltb-false _ _ l))

-- one pair of two models, by their types as they are handed on
pub pair_by_types : (a b : Model) (pairs : List ℕ) (i : ℕ) {types types' : List ℕ} {r : Result (Unit {0}) Refusal} → types ≡ a.sizes → types' ≡ b.sizes → r ≡ pair_in types types' pairs i → r ≡ pair_at a b pairs i
pair_by_types a b pairs i e f g = g ∙ ap₂ (λ (x y : List ℕ). pair_in x y pairs i) e f

-- one image
module _ (f : List ℕ) (x y : ℕ) where
  pub conflicts_none : get_or f x 255 ≡ 255 → conflicts f x y ≡ false
  unfolding conflicts
  conflicts_none e = rw (eq-eqb (get_or f x 255) 255 e)

  pub conflicts_given : (get_or f x 255 ≡ 255 → ⊥) → conflicts f x y ≡ not (eqb (get_or f x 255) y)
  unfolding conflicts
  conflicts_given n = rw (ne_eqb (get_or f x 255) 255 n)

-- from a pair on, with so many left
module _ (a b : Model) (pairs : List ℕ) (left i : ℕ) (f : List ℕ) where
  pub give_end : left ≤ 0 → give_from left a b pairs i f ≡ images f
  unfolding give_from
  give_end h = let e : left ≡ 0 = omega arith in rw e

  module _ (h : 0 < left) where
    pub give_bad : (r : Refusal) → pair_at a b pairs i ≡ Err r → give_from left a b pairs i f ≡ refused r
    unfolding give_from
    give_bad r p = let e : left ≡ suc (left - 1) = omega arith in rw (e, p, give_from)

    module _ (p : pair_at a b pairs i ≡ Ok tt) where
      pub give_conflict : conflicts f (root_of a (left_at pairs i)) (root_of b (right_at pairs i)) ≡ true → give_from left a b pairs i f ≡ refused (ConflictingImages (record { 0 = root_of a (left_at pairs i) }))
      unfolding give_from
      give_conflict q = let e : left ≡ suc (left - 1) = omega arith in rw (e, p, give_from, q)

      pub give_next : conflicts f (root_of a (left_at pairs i)) (root_of b (right_at pairs i)) ≡ false → give_from left a b pairs i f ≡ give_from (left - 1) a b pairs (i + 1) (set f (root_of a (left_at pairs i)) (root_of b (right_at pairs i)))
      unfolding give_from
      give_next q = let e : left ≡ suc (left - 1) = omega arith in ap (λ (n : ℕ). give_from n a b pairs i f) e ∙ rw (p, give_from, q)

-- what a reader answers
pub given_good : (f : List ℕ) → given_by (Ok tt) f ≡ images f
unfolding given_by
given_good f = refl

pub given_bad : (r : Refusal) (f : List ℕ) → given_by (Err r) f ≡ refused r
unfolding given_by
given_bad r f = refl
