-- The laws of `all` and `pairwise`: their clauses as equations, from the front on and by members. Assumes nothing.
use Prim.Native.Nat.{ℕ, zero, suc, ◌<◌, ◌≤◌, ◌+◌}
use mathlib.Core.Path.{◌≡◌, refl, sym, ap, ◌∙◌}
use mathlib.Core.Logic.{◌⊎◌, inl, inr}
use mathlib.Core.Bool.{Bool, true, false}
use mathlib.Core.List.Memᴰ
use mathlib.Core.List.{List, [], ◌∷◌, ◌++◌, map, Memᴰ}
use native.Mathlib.Omega.{arith}
use native.Mathlib.Numerals.{add-one}
use lib.ListN.{length, get_or, take, drop, replicate, drop_of_length-le}
use lib.Seq.{drop-cons}
use Rattle.lists.specs.Every.{all, any, keep, pairwise}
use Rattle.lists.proofs.Laws.Tests.{split, clash}

module _ {A : Type 0} (p : A → Bool) where
  pub all_none : all p [] ≡ true
  unfolding all
  all_none = refl

  pub all_yes : (x : A) (xs : List A) → p x ≡ true → all p (x ∷ xs) ≡ all p xs
  unfolding all
  all_yes x xs e = rw (e, all)

  pub all_no : (x : A) (xs : List A) → p x ≡ false → all p (x ∷ xs) ≡ false
  unfolding all
  all_no x xs e = rw (e, all)

  -- from place i on
  pub all_next : (xs : List A) (i : ℕ) (d : A) → i < length xs → p (get_or xs i d) ≡ true → all p (drop i xs) ≡ all p (drop (i + 1) xs)
  all_next xs i d h e = rw (add-one i, drop-cons xs i d h) (all_yes (get_or xs i d) (drop (suc i) xs) e)

  pub all_stop : (xs : List A) (i : ℕ) (d : A) → i < length xs → p (get_or xs i d) ≡ false → all p (drop i xs) ≡ false
  all_stop xs i d h e = rw (drop-cons xs i d h) (all_no (get_or xs i d) (drop (suc i) xs) e)

  pub all_end : (xs : List A) (i : ℕ) → length xs ≤ i → all p (drop i xs) ≡ true
  all_end xs i h = rw (drop_of_length-le xs h) all_none

  pub all_mem : (xs : List A) → all p xs ≡ true → (x : A) → Memᴰ x xs → p x ≡ true
  all_mem [] h x m = absurd (Memᴰ.not-nil m)
  all_mem (y ∷ ys) h x m = go (split (p y)) (Memᴰ.cases_cons m) (all_mem ys)
    where
      go : (p y ≡ true) ⊎ (p y ≡ false) → (x ≡ y) ⊎ Memᴰ x ys → (all p ys ≡ true → (x : A) → Memᴰ x ys → p x ≡ true) → p x ≡ true
      go (inl e) (inl q) ih = rw q e
      go (inl e) (inr n) ih = ih (sym (all_yes y ys e) ∙ h) x n
      go (inr e) n ih = clash h (all_no y ys e)

  pub mem_all : (xs : List A) → ((x : A) → Memᴰ x xs → p x ≡ true) → all p xs ≡ true
  mem_all [] h = all_none
  mem_all (x ∷ xs) h = all_yes x xs (h x (Memᴰ.head refl)) ∙ mem_all xs (λ y m. h y (Memᴰ.tail m))

module _ {A B : Type 0} (p : A → B → Bool) where
  pub pairwise_none : pairwise p [] [] ≡ true
  unfolding pairwise
  pairwise_none = refl

  pub pairwise_yes : (x : A) (xs : List A) (y : B) (ys : List B) → p x y ≡ true → pairwise p (x ∷ xs) (y ∷ ys) ≡ pairwise p xs ys
  unfolding pairwise
  pairwise_yes x xs y ys e = rw (e, pairwise)

  pub pairwise_no : (x : A) (xs : List A) (y : B) (ys : List B) → p x y ≡ false → pairwise p (x ∷ xs) (y ∷ ys) ≡ false
  unfolding pairwise
  pairwise_no x xs y ys e = rw (e, pairwise)

  pub pairwise_lengths : (xs : List A) (ys : List B) → (length xs ≡ length ys → ⊥) → pairwise p xs ys ≡ false
  unfolding pairwise
  pairwise_lengths [] [] h = absurd (h refl)
  pairwise_lengths [] (y ∷ ys) h = refl
  pairwise_lengths (x ∷ xs) [] h = refl
  pairwise_lengths (x ∷ xs) (y ∷ ys) h = go (split (p x y)) (pairwise_lengths xs ys (λ e. h (omega arith)))
    where
      go : (p x y ≡ true) ⊎ (p x y ≡ false) → pairwise p xs ys ≡ false → pairwise p (x ∷ xs) (y ∷ ys) ≡ false
      go (inl e) k = pairwise_yes x xs y ys e ∙ k
      go (inr e) k = pairwise_no x xs y ys e

  -- from place i on
  module _ (xs : List A) (ys : List B) (i : ℕ) (d : A) (e : B) where
    pub pairwise_next : i < length xs → i < length ys → p (get_or xs i d) (get_or ys i e) ≡ true → pairwise p (drop i xs) (drop i ys) ≡ pairwise p (drop (i + 1) xs) (drop (i + 1) ys)
    pairwise_next h k q = rw (add-one i, drop-cons xs i d h, drop-cons ys i e k) (pairwise_yes (get_or xs i d) (drop (suc i) xs) (get_or ys i e) (drop (suc i) ys) q)

    pub pairwise_stop : i < length xs → i < length ys → p (get_or xs i d) (get_or ys i e) ≡ false → pairwise p (drop i xs) (drop i ys) ≡ false
    pairwise_stop h k q = rw (drop-cons xs i d h, drop-cons ys i e k) (pairwise_no (get_or xs i d) (drop (suc i) xs) (get_or ys i e) (drop (suc i) ys) q)

  pub pairwise_end : (xs : List A) (ys : List B) (i : ℕ) → length xs ≤ i → length ys ≤ i → pairwise p (drop i xs) (drop i ys) ≡ true
  pairwise_end xs ys i h k = rw (drop_of_length-le xs h, drop_of_length-le ys k) pairwise_none

-- Loops over an index i that answer false at the first member, or pair of members, that fails. What is known before each turn is one record: a loop's
-- invariant is `AllFrom p xs i`, and its needs cite the laws below.
module _ {A : Type 0} where
  -- the members from i on pass as all of them do
  pub record AllFrom (p : A → Bool) (xs : List A) (i : ℕ) : Type 0 where
    pub same : all p (drop i xs) ≡ all p xs

  pub all_from : (p : A → Bool) (xs : List A) → AllFrom p xs 0
  all_from p xs = record { same = refl }

  module _ {p : A → Bool} {xs : List A} {i : ℕ} (at : AllFrom p xs i) where
    pub all_passed : (d : A) → i < length xs → p (get_or xs i d) ≡ true → AllFrom p xs (i + 1)
    all_passed d h t = record { same = sym (all_next p xs i d h t) ∙ at.same }

    pub all_failed : (d : A) → i < length xs → p (get_or xs i d) ≡ false → false ≡ all p xs
    all_failed d h f = sym (all_stop p xs i d h f) ∙ at.same

    pub all_over : length xs ≤ i → true ≡ all p xs
    all_over h = sym (all_end p xs i h) ∙ at.same

module _ {A B : Type 0} where
  -- two lists of one length, whose members from i on pass as all of them do
  pub record PairsFrom (p : A → B → Bool) (xs : List A) (ys : List B) (i : ℕ) : Type 0 where
    pub lengths : length xs ≡ length ys
    pub same : pairwise p (drop i xs) (drop i ys) ≡ pairwise p xs ys

  pub pairs_from_lem : (p : A → B → Bool) (xs : List A) (ys : List B) → length xs ≡ length ys → PairsFrom p xs ys 0
  pairs_from_lem p xs ys l = record { lengths = l; same = refl }

  module _ {p : A → B → Bool} {xs : List A} {ys : List B} {i : ℕ} (at : PairsFrom p xs ys i) where
    pub pairs_passed : (d : A) (e : B) → i < length xs → p (get_or xs i d) (get_or ys i e) ≡ true → PairsFrom p xs ys (i + 1)
    pairs_passed d e h t = record { lengths = at.lengths; same = sym (pairwise_next p xs ys i d e h (omega (arith, at.lengths)) t) ∙ at.same }

    pub pairs_failed : (d : A) (e : B) → i < length xs → p (get_or xs i d) (get_or ys i e) ≡ false → false ≡ pairwise p xs ys
    pairs_failed d e h f = sym (pairwise_stop p xs ys i d e h (omega (arith, at.lengths)) f) ∙ at.same

    pub pairs_over : length xs ≤ i → true ≡ pairwise p xs ys
    pairs_over h = sym (pairwise_end p xs ys i h (omega (arith, at.lengths))) ∙ at.same

-- a test of two members that only equal ones pass, and a test that each passes with itself, carry over to lists
module _ {A : Type 0} (p : A → A → Bool) where
  pub pairwise_equal : ((x y : A) → p x y ≡ true → x ≡ y) → (xs ys : List A) → pairwise p xs ys ≡ true → xs ≡ ys
  unfolding pairwise
  pairwise_equal f [] [] h = refl
  pairwise_equal f [] (y ∷ ys) h = clash h refl
  pairwise_equal f (x ∷ xs) [] h = clash h refl
  pairwise_equal f (x ∷ xs) (y ∷ ys) h = go (split (p x y)) (pairwise_equal f xs ys)
    where
      go : (p x y ≡ true) ⊎ (p x y ≡ false) → (pairwise p xs ys ≡ true → xs ≡ ys) → x ∷ xs ≡ y ∷ ys
      go (inl e) ih = rw (f x y e, ih (sym (pairwise_yes p x xs y ys e) ∙ h))
      go (inr e) ih = clash h (pairwise_no p x xs y ys e)

  pub pairwise_refl : ((x : A) → p x x ≡ true) → (xs : List A) → pairwise p xs xs ≡ true
  pairwise_refl f [] = pairwise_none p
  pairwise_refl f (x ∷ xs) = pairwise_yes p x xs x xs (f x) ∙ pairwise_refl f xs

-- the laws of `any` and `keep`
module _ {A : Type 0} (p : A → Bool) where
  pub any_none : any p [] ≡ false
  unfolding any
  any_none = refl

  pub any_yes : (x : A) (xs : List A) → p x ≡ true → any p (x ∷ xs) ≡ true
  unfolding any
  any_yes x xs e = rw (e, any)

  pub any_no : (x : A) (xs : List A) → p x ≡ false → any p (x ∷ xs) ≡ any p xs
  unfolding any
  any_no x xs e = rw (e, any)

  pub any_mem : (xs : List A) (x : A) → Memᴰ x xs → p x ≡ true → any p xs ≡ true
  any_mem [] x m h = absurd (Memᴰ.not-nil m)
  any_mem (y ∷ ys) x m h = go (split (p y)) (Memᴰ.cases_cons m) (any_mem ys x)
    where
      go : (p y ≡ true) ⊎ (p y ≡ false) → (x ≡ y) ⊎ Memᴰ x ys → (Memᴰ x ys → p x ≡ true → any p ys ≡ true) → any p (y ∷ ys) ≡ true
      go (inl e) n ih = any_yes y ys e
      go (inr e) (inl q) ih = clash h (rw q e)
      go (inr e) (inr n) ih = any_no y ys e ∙ ih n h

  pub mem_any : (xs : List A) → any p xs ≡ true → (x : A) × Memᴰ x xs × (p x ≡ true)
  mem_any [] h = clash h any_none
  mem_any (y ∷ ys) h = go (split (p y)) (mem_any ys)
    where
      go : (p y ≡ true) ⊎ (p y ≡ false) → (any p ys ≡ true → (x : A) × Memᴰ x ys × (p x ≡ true)) → (x : A) × Memᴰ x (y ∷ ys) × (p x ≡ true)
      go (inl e) ih = (y, Memᴰ.head refl, e)
      go (inr e) ih = let r = ih (sym (any_no y ys e) ∙ h) in (r.0, Memᴰ.tail r.1, r.2)

  pub keep_none : keep p [] ≡ []
  unfolding keep
  keep_none = refl

  pub keep_yes : (x : A) (xs : List A) → p x ≡ true → keep p (x ∷ xs) ≡ x ∷ keep p xs
  unfolding keep
  keep_yes x xs e = rw (e, keep)

  pub keep_no : (x : A) (xs : List A) → p x ≡ false → keep p (x ∷ xs) ≡ keep p xs
  unfolding keep
  keep_no x xs e = rw (e, keep)

  pub keep_mem : (xs : List A) (y : A) → Memᴰ y xs → p y ≡ true → Memᴰ y (keep p xs)
  keep_mem [] y m h = absurd (Memᴰ.not-nil m)
  keep_mem (x ∷ xs) y m h = go (split (p x)) (Memᴰ.cases_cons m) (keep_mem xs y)
    where
      go : (p x ≡ true) ⊎ (p x ≡ false) → (y ≡ x) ⊎ Memᴰ y xs → (Memᴰ y xs → p y ≡ true → Memᴰ y (keep p xs)) → Memᴰ y (keep p (x ∷ xs))
      go (inl e) (inl q) ih = rw (keep_yes x xs e) (Memᴰ.head q)
      go (inl e) (inr n) ih = rw (keep_yes x xs e) (Memᴰ.tail (ih n h))
      go (inr e) (inl q) ih = clash h (rw q e)
      go (inr e) (inr n) ih = rw (keep_no x xs e) (ih n h)

  pub mem_keep : (xs : List A) (y : A) → Memᴰ y (keep p xs) → Memᴰ y xs × (p y ≡ true)
  mem_keep [] y m = absurd (Memᴰ.not-nil (rw keep_none at m))
  mem_keep (x ∷ xs) y m = go (split (p x)) (mem_keep xs y)
    where
      here : (p x ≡ true) → (y ≡ x) ⊎ Memᴰ y (keep p xs) → (Memᴰ y (keep p xs) → Memᴰ y xs × (p y ≡ true)) → Memᴰ y (x ∷ xs) × (p y ≡ true)
      here e (inl q) ih = (Memᴰ.head q, rw q e)
      here e (inr n) ih = let r = ih n in (Memᴰ.tail r.0, r.1)

      go : (p x ≡ true) ⊎ (p x ≡ false) → (Memᴰ y (keep p xs) → Memᴰ y xs × (p y ≡ true)) → Memᴰ y (x ∷ xs) × (p y ≡ true)
      go (inl e) ih = here e (Memᴰ.cases_cons (rw (keep_yes x xs e) at m)) ih
      go (inr e) ih = let r = ih (rw (keep_no x xs e) at m) in (Memᴰ.tail r.0, r.1)

-- a member of the second list passes with one of the first
module _ {A B : Type 0} (p : A → B → Bool) where
  pub pairwise_mem : (xs : List A) (ys : List B) → pairwise p xs ys ≡ true → (y : B) → Memᴰ y ys → (x : A) × (p x y ≡ true)
  unfolding pairwise
  pairwise_mem [] [] h y m = absurd (Memᴰ.not-nil m)
  pairwise_mem [] (z ∷ ys) h y m = clash h refl
  pairwise_mem (x ∷ xs) [] h y m = clash h refl
  pairwise_mem (x ∷ xs) (z ∷ ys) h y m = go (split (p x z)) (Memᴰ.cases_cons m) (pairwise_mem xs ys)
    where
      go : (p x z ≡ true) ⊎ (p x z ≡ false) → (y ≡ z) ⊎ Memᴰ y ys → (pairwise p xs ys ≡ true → (y : B) → Memᴰ y ys → (x : A) × (p x y ≡ true)) → (x : A) × (p x y ≡ true)
      go (inl e) (inl q) ih = (x, rw q e)
      go (inl e) (inr n) ih = ih (sym (pairwise_yes p x xs z ys e) ∙ h) y n
      go (inr e) n ih = clash h (pairwise_no p x xs z ys e)

-- what stands at a place is a member
pub get_d_mem : {A : Type 0} (xs : List A) (k : ℕ) (d : A) → k < length xs → Memᴰ (get_or xs k d) xs
get_d_mem [] k d h = absurd (omega arith)
get_d_mem (x ∷ xs) zero d h = Memᴰ.head refl
get_d_mem (x ∷ xs) (suc k) d h = Memᴰ.tail (get_d_mem xs k d (omega arith))

-- a test of some image is one of some member
pub any-map : {A B : Type 0} (p : B → Bool) (f : A → B) (xs : List A) → any p (map f xs) ≡ any (λ (x : A). p (f x)) xs
unfolding any
any-map p f [] = refl
any-map p f (x ∷ xs) = go (split (p (f x))) (any-map p f xs)
  where
    go : (p (f x) ≡ true) ⊎ (p (f x) ≡ false) → any p (map f xs) ≡ any (λ y. p (f y)) xs → any p (map f (x ∷ xs)) ≡ any (λ y. p (f y)) (x ∷ xs)
    go (inl e) ih = any_yes p (f x) (map f xs) e ∙ sym (any_yes (λ y. p (f y)) x xs e)
    go (inr e) ih = any_no p (f x) (map f xs) e ∙ ih ∙ sym (any_no (λ y. p (f y)) x xs e)

-- the members that pass, with one member more
module _ {A : Type 0} (p : A → Bool) where
  pub keep_more : (xs : List A) (x : A) → p x ≡ true → keep p (xs ++ x ∷ []) ≡ keep p xs ++ x ∷ []
  unfolding keep
  keep_more [] x t = rw (t, keep)
  keep_more (y ∷ ys) x t = go (split (p y)) (keep_more ys x t)
    where
      go : (p y ≡ true) ⊎ (p y ≡ false) → keep p (ys ++ x ∷ []) ≡ keep p ys ++ x ∷ [] → keep p (y ∷ ys ++ x ∷ []) ≡ keep p (y ∷ ys) ++ x ∷ []
      go (inl e) ih = rw (keep_yes p y (ys ++ x ∷ []) e, keep_yes p y ys e, ih)
      go (inr e) ih = rw (keep_no p y (ys ++ x ∷ []) e, keep_no p y ys e, ih)

  pub keep_past : (xs : List A) (x : A) → p x ≡ false → keep p (xs ++ x ∷ []) ≡ keep p xs
  unfolding keep
  keep_past [] x f = rw (f, keep)
  keep_past (y ∷ ys) x f = go (split (p y)) (keep_past ys x f)
    where
      go : (p y ≡ true) ⊎ (p y ≡ false) → keep p (ys ++ x ∷ []) ≡ keep p ys → keep p (y ∷ ys ++ x ∷ []) ≡ keep p (y ∷ ys)
      go (inl e) ih = rw (keep_yes p y (ys ++ x ∷ []) e, keep_yes p y ys e, ih)
      go (inr e) ih = rw (keep_no p y (ys ++ x ∷ []) e, keep_no p y ys e, ih)

  pub keep_append : (xs ys : List A) → keep p (xs ++ ys) ≡ keep p xs ++ keep p ys
  keep_append [] ys = ap (λ zs. zs ++ keep p ys) (sym (keep_none p))
  keep_append (x ∷ xs) ys = go (split (p x)) (keep_append xs ys)
    where
      go : (p x ≡ true) ⊎ (p x ≡ false) → keep p (xs ++ ys) ≡ keep p xs ++ keep p ys → keep p (x ∷ xs ++ ys) ≡ keep p (x ∷ xs) ++ keep p ys
      go (inl e) ih = rw (keep_yes p x (xs ++ ys) e, keep_yes p x xs e) (ap (λ zs. x ∷ zs) ih)
      go (inr e) ih = rw (keep_no p x (xs ++ ys) e, keep_no p x xs e) ih

-- inside a list it does not matter what stands for a member that is missing
pub get_d_inside : {A : Type 0} (xs : List A) (i : ℕ) (d e : A) → i < length xs → get_or xs i d ≡ get_or xs i e
get_d_inside xs i d e h = let p = drop-cons xs i d h in let q = drop-cons xs i e h in cc

-- a member of a list of numbers stands at some place
pub mem_place : (xs : List ℕ) (x : ℕ) → Memᴰ x xs → (i : ℕ) × (i < length xs) × (x ≡ get_or xs i 0)
mem_place [] x m = absurd (Memᴰ.not-nil m)
mem_place (y ∷ xs) x m = go (Memᴰ.cases_cons m) (mem_place xs x)
  where
    go : (x ≡ y) ⊎ Memᴰ x xs → (Memᴰ x xs → (i : ℕ) × (i < length xs) × (x ≡ get_or xs i 0)) → (i : ℕ) × (i < suc (length xs)) × (x ≡ get_or (y ∷ xs) i 0)
    go (inl e) ih = (0, omega arith, e)
    go (inr n) ih = let r = ih n in (suc r.0, omega (arith, r.1), r.2)

pub take-replicate : {A : Type 0} (n m : ℕ) (x : A) → n ≤ m → take n (replicate m x) ≡ replicate n x
take-replicate zero m x h = refl
take-replicate (suc n) zero x h = absurd (omega arith)
take-replicate (suc n) (suc m) x h = rw (take-replicate n m x (omega arith))

module _ {A : Type 0} (p : A → Bool) where
  pub all_append_yes : (xs ys : List A) → all p xs ≡ true → all p (xs ++ ys) ≡ all p ys
  all_append_yes [] ys h = refl
  all_append_yes (x ∷ xs) ys h = by_test (split (p x)) (all_append_yes xs ys)
    where
      by_test : (p x ≡ true) ⊎ (p x ≡ false) → (all p xs ≡ true → all p (xs ++ ys) ≡ all p ys) → all p (x ∷ xs ++ ys) ≡ all p ys
      by_test (inl e) ih = all_yes p x (xs ++ ys) e ∙ ih (sym (all_yes p x xs e) ∙ h)
      by_test (inr e) ih = clash h (all_no p x xs e)

  pub all_append_no : (xs ys : List A) → all p xs ≡ false → all p (xs ++ ys) ≡ false
  all_append_no [] ys h = clash (all_none p) h
  all_append_no (x ∷ xs) ys h = by_test (split (p x)) (all_append_no xs ys)
    where
      by_test : (p x ≡ true) ⊎ (p x ≡ false) → (all p xs ≡ false → all p (xs ++ ys) ≡ false) → all p (x ∷ xs ++ ys) ≡ false
      by_test (inl e) ih = all_yes p x (xs ++ ys) e ∙ ih (sym (all_yes p x xs e) ∙ h)
      by_test (inr e) ih = all_no p x (xs ++ ys) e

pub all_agree : {A : Type 0} (p q : A → Bool) (xs : List A) → ((x : A) → Memᴰ x xs → p x ≡ q x) → all p xs ≡ all q xs
all_agree p q [] h = all_none p ∙ sym (all_none q)
all_agree p q (x ∷ xs) h = by_test (split (p x)) (all_agree p q xs (λ y m. h y (Memᴰ.tail m)))
  where
    same : p x ≡ q x
    same = h x (Memᴰ.head refl)

    by_test : (p x ≡ true) ⊎ (p x ≡ false) → all p xs ≡ all q xs → all p (x ∷ xs) ≡ all q (x ∷ xs)
    by_test (inl e) ih = all_yes p x xs e ∙ ih ∙ sym (all_yes q x xs (sym same ∙ e))
    by_test (inr e) ih = all_no p x xs e ∙ sym (all_no q x xs (sym same ∙ e))
