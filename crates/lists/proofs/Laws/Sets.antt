-- Lists without repetition, and what counting shows of them: of two such lists of one length, one within the other, each holds the other.
-- Assumes nothing.
use Prim.Native.Nat.{suc, ◌≤◌}
use mathlib.Core.Path.{◌≡◌, refl, sym, ◌∙◌, ap}
use mathlib.Core.Logic.{◌⊎◌, inl, inr}
use mathlib.Core.Bool.{Bool, true, false, not}
use mathlib.Core.List.Memᴰ
use mathlib.Core.List.{List, [], ◌∷◌, map, Memᴰ}
use native.Mathlib.Omega.{arith}
use borrow.Author.Tests.{not-true}
use lib.ListN.{length}
use Rattle.lists.specs.Every.{keep}
use Rattle.lists.specs.First.{firsts}
use Rattle.lists.proofs.Laws.Tests.{split, clash}
use Rattle.lists.proofs.Laws.Every.{keep_none, keep_yes, keep_no, keep_mem, mem_keep}

module _ {A : Type 0} where
  -- no member stands twice
  abbrev pub Distinct : List A → Type 0
  Distinct [] = Unit {0}
  Distinct (x ∷ xs) = (Memᴰ x xs → ⊥) × Distinct xs

  -- a list without one of its members
  without : {x : A} (ys : List A) → Memᴰ x ys → (zs : List A) × (length ys ≡ suc (length zs)) × ((y : A) → Memᴰ y ys → (y ≡ x) ⊎ Memᴰ y zs)
  without [] m = absurd (Memᴰ.not-nil m)
  without {x} (z ∷ ys) m = go (Memᴰ.cases_cons m) (without ys)
    where
      found : x ≡ z → (y : A) → (y ≡ z) ⊎ Memᴰ y ys → (y ≡ x) ⊎ Memᴰ y ys
      found e y (inl q) = inl (q ∙ sym e)
      found e y (inr n) = inr n

      later : (zs : List A) → ((y : A) → Memᴰ y ys → (y ≡ x) ⊎ Memᴰ y zs) → (y : A) → (y ≡ z) ⊎ Memᴰ y ys → (y ≡ x) ⊎ Memᴰ y (z ∷ zs)
      later zs f y (inl q) = inr (Memᴰ.head q)
      later zs f y (inr n) = deeper (f y n)
        where
          deeper : (y ≡ x) ⊎ Memᴰ y zs → (y ≡ x) ⊎ Memᴰ y (z ∷ zs)
          deeper (inl q) = inl q
          deeper (inr k) = inr (Memᴰ.tail k)

      go : (x ≡ z) ⊎ Memᴰ x ys → (Memᴰ x ys → (zs : List A) × (length ys ≡ suc (length zs)) × ((y : A) → Memᴰ y ys → (y ≡ x) ⊎ Memᴰ y zs)) → (zs : List A) × (length (z ∷ ys) ≡ suc (length zs)) × ((y : A) → Memᴰ y (z ∷ ys) → (y ≡ x) ⊎ Memᴰ y zs)
      go (inl e) ih = (ys, refl, λ y n. found e y (Memᴰ.cases_cons n))
      go (inr k) ih = let r = ih k in (z ∷ r.0, ap suc r.1, λ y n. later r.0 r.2 y (Memᴰ.cases_cons n))

  -- a list without repetition within another that is no longer holds all of it
  pub covers : (xs ys : List A) → Distinct xs → ((x : A) → Memᴰ x xs → Memᴰ x ys) → length ys ≤ length xs → (y : A) → Memᴰ y ys → Memᴰ y xs
  covers [] [] d f l y m = m
  covers [] (z ∷ ys) d f l y m = absurd (omega arith)
  covers (x ∷ xs) ys d f l y m = go (without ys (f x (Memᴰ.head refl))) (covers xs)
    where
      not_first : (zs : List A) (z : A) → Memᴰ z xs → (z ≡ x) ⊎ Memᴰ z zs → Memᴰ z zs
      not_first zs z n (inl e) = absurd (d.0 (Memᴰ.cast (sym e) n))
      not_first zs z n (inr k) = k

      either : (zs : List A) → ((z : A) → Memᴰ z zs → Memᴰ z xs) → (y ≡ x) ⊎ Memᴰ y zs → Memᴰ y (x ∷ xs)
      either zs g (inl e) = Memᴰ.head e
      either zs g (inr k) = Memᴰ.tail (g y k)

      go : (zs : List A) × (length ys ≡ suc (length zs)) × ((y : A) → Memᴰ y ys → (y ≡ x) ⊎ Memᴰ y zs) → ((ys : List A) → Distinct xs → ((x : A) → Memᴰ x xs → Memᴰ x ys) → length ys ≤ length xs → (y : A) → Memᴰ y ys → Memᴰ y xs) → Memᴰ y (x ∷ xs)
      go r ih = either r.0 (ih r.0 d.1 (λ z n. not_first r.0 z n (r.2 z (f z (Memᴰ.tail n)))) (omega (arith, r.1))) (r.2 y m)

  pub keep_distinct : (p : A → Bool) (xs : List A) → Distinct xs → Distinct (keep p xs)
  keep_distinct p [] d = rw (keep_none p) tt
  keep_distinct p (x ∷ xs) d = go (split (p x)) (keep_distinct p xs d.1)
    where
      go : (p x ≡ true) ⊎ (p x ≡ false) → Distinct (keep p xs) → Distinct (keep p (x ∷ xs))
      go (inl e) ih = rw (keep_yes p x xs e) ((λ m. d.0 (mem_keep p xs x m).0), ih)
      go (inr e) ih = rw (keep_no p x xs e) ih

-- a member of an image is the image of a member, and the other way round
pub mem_map : {A B : Type 0} (f : A → B) (xs : List A) (y : B) → Memᴰ y (map f xs) → (x : A) × Memᴰ x xs × (y ≡ f x)
mem_map f [] y m = absurd (Memᴰ.not-nil m)
mem_map {A} f (x ∷ xs) y m = go (Memᴰ.cases_cons m) (mem_map f xs y)
  where
    go : (y ≡ f x) ⊎ Memᴰ y (map f xs) → (Memᴰ y (map f xs) → (z : A) × Memᴰ z xs × (y ≡ f z)) → (z : A) × Memᴰ z (x ∷ xs) × (y ≡ f z)
    go (inl e) ih = (x, Memᴰ.head refl, e)
    go (inr n) ih = let r = ih n in (r.0, Memᴰ.tail r.1, r.2)

-- the image of a list without repetition under a map that tells its members apart
pub map_distinct : {A B : Type 0} (f : A → B) (xs : List A) → ((x y : A) → Memᴰ x xs → Memᴰ y xs → f x ≡ f y → x ≡ y) → Distinct xs → Distinct (map f xs)
map_distinct f [] h d = tt
map_distinct f (x ∷ xs) h d = (
  (λ m. let r = mem_map f xs (f x) m in d.0 (Memᴰ.cast (h x r.0 (Memᴰ.head refl) (Memᴰ.tail r.1) r.2) r.1)),
  map_distinct f xs (λ y z m n e. h y z (Memᴰ.tail m) (Memᴰ.tail n) e) d.1,
)

pub map_mem : {A B : Type 0} (f : A → B) (xs : List A) (x : A) → Memᴰ x xs → Memᴰ (f x) (map f xs)
map_mem f [] x m = absurd (Memᴰ.not-nil m)
map_mem f (y ∷ xs) x m = go (Memᴰ.cases_cons m) (map_mem f xs x)
  where
    go : (x ≡ y) ⊎ Memᴰ x xs → (Memᴰ x xs → Memᴰ (f x) (map f xs)) → Memᴰ (f x) (f y ∷ map f xs)
    go (inl e) ih = Memᴰ.head (ap f e)
    go (inr n) ih = Memᴰ.tail (ih n)

-- first appearances are members
module _ {A : Type 0} (same : A → A → Bool) where
  pub mem_firsts : (xs : List A) (y : A) → Memᴰ y (firsts same xs) → Memᴰ y xs
  unfolding firsts
  mem_firsts [] y m = m
  mem_firsts (x ∷ xs) y m = go (Memᴰ.cases_cons m) (mem_firsts xs y)
    where
      go : (y ≡ x) ⊎ Memᴰ y (keep (λ (z : A). not (same x z)) (firsts same xs)) → (Memᴰ y (firsts same xs) → Memᴰ y xs) → Memᴰ y (x ∷ xs)
      go (inl e) ih = Memᴰ.head e
      go (inr n) ih = Memᴰ.tail (ih (mem_keep (λ (z : A). not (same x z)) (firsts same xs) y n).0)

-- first appearances, where only equal members are the same
module _ {A : Type 0} (same : A → A → Bool) (equal : (x y : A) → same x y ≡ true → x ≡ y) (itself : (x : A) → same x x ≡ true) where
  pub firsts_distinct : (xs : List A) → Distinct (firsts same xs)
  unfolding firsts
  firsts_distinct [] = tt
  firsts_distinct (x ∷ xs) = (
    (λ m. clash (itself x) (not-true _ (mem_keep (λ (y : A). not (same x y)) (firsts same xs) x m).1)),
    keep_distinct (λ (y : A). not (same x y)) (firsts same xs) (firsts_distinct xs),
  )

  pub firsts_mem : (xs : List A) (y : A) → Memᴰ y xs → Memᴰ y (firsts same xs)
  unfolding firsts
  firsts_mem [] y m = m
  firsts_mem (x ∷ xs) y m = go (Memᴰ.cases_cons m) (split (same x y)) (firsts_mem xs y)
    where
      go : (y ≡ x) ⊎ Memᴰ y xs → (same x y ≡ true) ⊎ (same x y ≡ false) → (Memᴰ y xs → Memᴰ y (firsts same xs)) → Memᴰ y (x ∷ keep (λ (z : A). not (same x z)) (firsts same xs))
      go (inl e) t ih = Memᴰ.head e
      go (inr n) (inl t) ih = Memᴰ.head (sym (equal x y t))
      go (inr n) (inr t) ih = Memᴰ.tail (keep_mem (λ (z : A). not (same x z)) (firsts same xs) y (ih n) (rw t))
