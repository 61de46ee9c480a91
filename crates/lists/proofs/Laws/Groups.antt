-- Groups: numbering the classes of a list's members by first appearance, a member at a time; a number once given stays. Also the first place among images. Assumes nothing.
use Prim.Native.Nat.{suc, ◌<◌, ◌≤◌}
use mathlib.Core.Path.{◌≡◌, refl, sym, ◌∙◌, ap, ap₂}
use mathlib.Core.Logic.{◌⊎◌, inl, inr, by_cases}
use mathlib.Core.Bool.{Bool, true, false, not}
use mathlib.Core.List.Memᴰ
use mathlib.Core.List.{List, [], ◌∷◌, ◌++◌, map, append_assoc, Memᴰ}
use native.Mathlib.Omega.{arith}
use native.Mathlib.Decide.{dec_le}
use lib.ListN.{length, get_or}
use Rattle.lists.specs.Every.{any, keep}
use Rattle.lists.specs.First.{first_at, firsts}
use Rattle.lists.proofs.Laws.Tests.{split, same_test}
use Rattle.lists.proofs.Laws.Every.{any_mem, mem_any, get_d_mem, keep_append}
use Rattle.lists.proofs.Laws.First.{first_at_none, first_at_yes, first_at_no, first_at_within, first_at_passes}
use Rattle.lists.proofs.Laws.Firsts.{firsts_new, firsts_known}
use Rattle.lists.proofs.Laws.Sets.{mem_firsts}
use Rattle.lists.proofs.Laws.Counting.{class_known, same_class}

module _ {A : Type 0} (p : A → Bool) where
  -- what stands behind does not matter where something before it passes
  first_at_before : (xs ys : List A) → first_at p xs < length xs → first_at p (xs ++ ys) ≡ first_at p xs
  first_at_before [] ys l = absurd (omega arith)
  first_at_before (x ∷ xs) ys l = by_test (split (p x)) (first_at_before xs ys)
    where
      by_test : (p x ≡ true) ⊎ (p x ≡ false) → (first_at p xs < length xs → first_at p (xs ++ ys) ≡ first_at p xs) → first_at p (x ∷ xs ++ ys) ≡ first_at p (x ∷ xs)
      by_test (inl e) ih = first_at_yes p x (xs ++ ys) e ∙ sym (first_at_yes p x xs e)
      by_test (inr e) ih = first_at_no p x (xs ++ ys) e ∙ ap suc (ih (omega (arith, first_at_no p x xs e))) ∙ sym (first_at_no p x xs e)

  first_at_last : (xs : List A) (y : A) → length xs ≤ first_at p xs → p y ≡ true → first_at p (xs ++ y ∷ []) ≡ length xs
  first_at_last [] y l h = first_at_yes p y [] h
  first_at_last (x ∷ xs) y l h = by_test (split (p x)) (first_at_last xs y)
    where
      by_test : (p x ≡ true) ⊎ (p x ≡ false) → (length xs ≤ first_at p xs → p y ≡ true → first_at p (xs ++ y ∷ []) ≡ length xs) → first_at p (x ∷ xs ++ y ∷ []) ≡ suc (length xs)
      by_test (inl e) ih = absurd (omega (arith, first_at_yes p x xs e))
      by_test (inr e) ih = first_at_no p x (xs ++ y ∷ []) e ∙ ap suc (ih (omega (arith, first_at_no p x xs e)) h)

-- the first place of an image that passes is that of a member
pub first_at-map : {A B : Type 0} (p : B → Bool) (f : A → B) (xs : List A) → first_at p (map f xs) ≡ first_at (λ (x : A). p (f x)) xs
first_at-map p f [] = first_at_none p ∙ sym (first_at_none (λ x. p (f x)))
first_at-map p f (x ∷ xs) = by_test (split (p (f x))) (first_at-map p f xs)
  where
    by_test : (p (f x) ≡ true) ⊎ (p (f x) ≡ false) → first_at p (map f xs) ≡ first_at (λ y. p (f y)) xs → first_at p (f x ∷ map f xs) ≡ first_at (λ y. p (f y)) (x ∷ xs)
    by_test (inl e) ih = first_at_yes p (f x) (map f xs) e ∙ sym (first_at_yes (λ y. p (f y)) x xs e)
    by_test (inr e) ih = first_at_no p (f x) (map f xs) e ∙ ap suc ih ∙ sym (first_at_no (λ y. p (f y)) x xs e)

-- images that are equal at each member
pub map_alike : {A B : Type 0} (f g : A → B) (xs : List A) → ((x : A) → Memᴰ x xs → f x ≡ g x) → map f xs ≡ map g xs
map_alike f g [] h = refl
map_alike f g (x ∷ xs) h = ap₂ (λ y ys. y ∷ ys) (h x (Memᴰ.head refl)) (map_alike f g xs (λ y m. h y (Memᴰ.tail m)))

-- first appearances: those of a list's front stand in front
module _ {A : Type 0} (same : A → A → Bool) where
  pub firsts_none : firsts same [] ≡ []
  unfolding firsts
  firsts_none = refl

  firsts_front : (xs ys : List A) → (zs : List A) × (firsts same (xs ++ ys) ≡ firsts same xs ++ zs)
  unfolding firsts
  firsts_front [] ys = (firsts same ys, refl)
  firsts_front (x ∷ xs) ys =
      let r = firsts_front xs ys in
      let other : A → Bool = λ (y : A). not (same x y) in
      (keep other r.0, ap (λ (l : List A). x ∷ keep other l) r.1 ∙ ap (λ (l : List A). x ∷ l) (keep_append other (firsts same xs) r.0))

module _ {A : Type 0} (same : A → A → Bool) (rfl : (x : A) → same x x ≡ true) (symm : (x y : A) → same x y ≡ true → same y x ≡ true)
    (trns : (x y z : A) → same x y ≡ true → same y z ≡ true → same x z ≡ true) where
  either : (x y : A) → same x y ≡ same y x
  either x y = same_test (same x y) (same y x) (symm x y) (symm y x)

  -- a member is known exactly if its class has a number
  known : (xs : List A) (x : A) → first_at (same x) (firsts same xs) < length (firsts same xs) → any (same x) xs ≡ true
  known xs x l =
      let i = first_at (same x) (firsts same xs) in
      any_mem (same x) xs (get_or (firsts same xs) i x) (mem_firsts same xs _ (get_d_mem (firsts same xs) i x l)) (first_at_passes (same x) x (firsts same xs) l)

  unknown : (xs : List A) (x : A) → length (firsts same xs) ≤ first_at (same x) (firsts same xs) → any (same x) xs ≡ false
  unknown xs x l = by_test (split (any (same x) xs))
    where
      by_test : (any (same x) xs ≡ true) ⊎ (any (same x) xs ≡ false) → any (same x) xs ≡ false
      by_test (inr e) = e
      by_test (inl e) =
          let r = mem_any (same x) xs e in
          let k = class_known same rfl symm trns xs r.0 r.1 in
          absurd (omega (arith, k, same_class same rfl symm trns (firsts same xs) x r.0 r.2))

  module _ (xs : List A) (x : A) where
    pub known_firsts : first_at (same x) (firsts same xs) < length (firsts same xs) → firsts same (xs ++ x ∷ []) ≡ firsts same xs
    known_firsts l = firsts_known same either xs x (known xs x l)

    pub new_firsts : length (firsts same xs) ≤ first_at (same x) (firsts same xs) → firsts same (xs ++ x ∷ []) ≡ firsts same xs ++ x ∷ []
    new_firsts l = firsts_new same either xs x (unknown xs x l)

    -- the number of a member's class is told by the members before it: the number of those classes where it is new
    number_here : first_at (same x) (firsts same (xs ++ x ∷ [])) ≡ first_at (same x) (firsts same xs)
    number_here = by_cases (dec_le (length (firsts same xs)) (first_at (same x) (firsts same xs)))
        (λ l.
        ap (first_at (same x)) (new_firsts l)
        ∙ first_at_last (same x) (firsts same xs) x l (rfl x)
        ∙ (let e : length (firsts same xs) ≡ first_at (same x) (firsts same xs) = omega (arith, first_at_within (same x) (firsts same xs)) in e))
        (λ l. ap (first_at (same x)) (known_firsts (omega arith)))

    pub number_told : (ys : List A) → first_at (same x) (firsts same (xs ++ x ∷ ys)) ≡ first_at (same x) (firsts same xs)
    number_told ys =
        let r = firsts_front same (xs ++ x ∷ []) ys in
        ap (λ (zs : List A). first_at (same x) (firsts same zs)) (sym (append_assoc xs (x ∷ []) ys))
        ∙ ap (first_at (same x)) r.1
        ∙ first_at_before (same x) (firsts same (xs ++ x ∷ [])) r.0 (class_known same rfl symm trns (xs ++ x ∷ []) x (Memᴰ.append_right xs (Memᴰ.head refl)))
        ∙ number_here
