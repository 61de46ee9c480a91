-- Laws of counts, of the first members of classes, of lists with the same members up to order, and that a finer
-- numbering has no fewer numbers. Assumes nothing.
use Prim.Native.Nat.{ℕ, zero, suc, ◌+◌, ◌<◌, ◌≤◌, zero-le}
use mathlib.Core.Path.{◌≡◌, refl, sym, ◌∙◌, ap, ap₂, subst}
use mathlib.Core.Logic.{◌⊎◌, inl, inr, by_cases}
use mathlib.Core.Bool.{Bool, true, false, not}
use mathlib.Core.List.Memᴰ
use mathlib.Core.List.{List, [], ◌∷◌, ◌++◌, map, Memᴰ}
use mathlib.Core.List.Permᴰ
use mathlib.Core.List.{Permᴰ}
use native.Mathlib.Omega.{arith}
use native.Mathlib.Decide.{ℕ_discrete, dec_le}
use borrow.Author.Tests.{eqb-true, eqb-false, eq-eqb, ltb-true, lt-ltb, not-true}
use lib.Dec.{eqb}
use lib.ListN.{length, get_or, drop, length-map}
use Rattle.lists.specs.Every.{keep, how_many}
use Rattle.lists.specs.First.{first_at, firsts}
use Rattle.lists.specs.Numbers.{up_from}
use Rattle.lists.specs.Order.{row_before, ascending, ascending_from}
use Rattle.lists.proofs.Laws.Tests.{split, clash, same_test}
use Rattle.lists.proofs.Laws.Every.{keep_none, keep_yes, keep_no, keep_mem, mem_keep, get_d_mem}
use Rattle.lists.proofs.Laws.First.{first_at_none, first_at_yes, first_at_no, first_at_passes}
use Rattle.lists.proofs.Laws.Numbers.{mem_up_from}
use Rattle.lists.proofs.Laws.Order.{before_equal, before_differ, before_none, before_longer, before_shorter, ascending_from_yes, ascending_from_no, ascending_cons}
use Rattle.lists.proofs.Laws.Sets.{Distinct, covers, mem_map, map_mem, firsts_distinct, mem_firsts, firsts_mem}

module _ {A : Type 0} (p : A → Bool) where
  pub how_many_none : how_many p [] ≡ 0
  unfolding how_many
  how_many_none = refl

  pub how_many_yes : (x : A) (xs : List A) → p x ≡ true → how_many p (x ∷ xs) ≡ suc (how_many p xs)
  unfolding how_many
  how_many_yes x xs e = rw (e, how_many)

  pub how_many_no : (x : A) (xs : List A) → p x ≡ false → how_many p (x ∷ xs) ≡ how_many p xs
  unfolding how_many
  how_many_no x xs e = rw (e, how_many)

  pub how_many_append : (xs ys : List A) → how_many p (xs ++ ys) ≡ how_many p xs + how_many p ys
  how_many_append [] ys = omega (arith, how_many_none)
  how_many_append (x ∷ xs) ys = go (split (p x)) (how_many_append xs ys)
    where
      go : (p x ≡ true) ⊎ (p x ≡ false) → how_many p (xs ++ ys) ≡ how_many p xs + how_many p ys → how_many p (x ∷ xs ++ ys) ≡ how_many p (x ∷ xs) + how_many p ys
      go (inl e) ih = omega (arith, how_many_yes x (xs ++ ys) e, how_many_yes x xs e)
      go (inr e) ih = omega (arith, how_many_no x (xs ++ ys) e, how_many_no x xs e)

  -- counts that agree part by part agree
  pub how_many_parts : (xs ys vs ws : List A) → how_many p xs ≡ how_many p vs → how_many p ys ≡ how_many p ws → how_many p (xs ++ ys) ≡ how_many p (vs ++ ws)
  how_many_parts xs ys vs ws h k = omega (arith, how_many_append xs ys, how_many_append vs ws)

  -- where the count is not 0, some member passes
  pub how_many_some : (xs : List A) → 0 < how_many p xs → (x : A) × Memᴰ x xs × (p x ≡ true)
  how_many_some [] h = absurd (omega (arith, how_many_none))
  how_many_some (y ∷ ys) h = go (split (p y)) (how_many_some ys)
    where
      go : (p y ≡ true) ⊎ (p y ≡ false) → (0 < how_many p ys → (x : A) × Memᴰ x ys × (p x ≡ true)) → (x : A) × Memᴰ x (y ∷ ys) × (p x ≡ true)
      go (inl e) ih = (y, Memᴰ.head refl, e)
      go (inr e) ih = let r = ih (omega (arith, how_many_no y ys e)) in (r.0, Memᴰ.tail r.1, r.2)

  pub how_many_mem : (xs : List A) (x : A) → Memᴰ x xs → p x ≡ true → 0 < how_many p xs
  how_many_mem [] x m h = absurd (Memᴰ.not-nil m)
  how_many_mem (y ∷ ys) x m h = go (split (p y)) (Memᴰ.cases_cons m) (how_many_mem ys x)
    where
      go : (p y ≡ true) ⊎ (p y ≡ false) → (x ≡ y) ⊎ Memᴰ x ys → (Memᴰ x ys → p x ≡ true → 0 < how_many p ys) → 0 < how_many p (y ∷ ys)
      go (inl e) n ih = omega (arith, how_many_yes y ys e)
      go (inr e) (inl q) ih = clash h (rw q e)
      go (inr e) (inr n) ih = omega (arith, how_many_no y ys e, ih n h)

  -- where some member passes, the first place that passes is inside
  pub first_at_reached : (xs : List A) (x : A) → Memᴰ x xs → p x ≡ true → first_at p xs < length xs
  first_at_reached [] x m h = absurd (Memᴰ.not-nil m)
  first_at_reached (y ∷ ys) x m h = go (split (p y)) (Memᴰ.cases_cons m) (first_at_reached ys x)
    where
      go : (p y ≡ true) ⊎ (p y ≡ false) → (x ≡ y) ⊎ Memᴰ x ys → (Memᴰ x ys → p x ≡ true → first_at p ys < length ys) → first_at p (y ∷ ys) < suc (length ys)
      go (inl e) n ih = omega (arith, first_at_yes p y ys e)
      go (inr e) (inl q) ih = clash h (rw q e)
      go (inr e) (inr n) ih = omega (arith, first_at_no p y ys e, ih n h)

-- tests that agree on the members
module _ {A : Type 0} (p q : A → Bool) where
  pub first_at_agree : (xs : List A) → ((x : A) → Memᴰ x xs → p x ≡ q x) → first_at p xs ≡ first_at q xs
  first_at_agree [] h = first_at_none p ∙ sym (first_at_none q)
  first_at_agree (x ∷ xs) h = go (split (p x)) (h x (Memᴰ.head refl)) (first_at_agree xs (λ y m. h y (Memᴰ.tail m)))
    where
      go : (p x ≡ true) ⊎ (p x ≡ false) → p x ≡ q x → first_at p xs ≡ first_at q xs → first_at p (x ∷ xs) ≡ first_at q (x ∷ xs)
      go (inl e) k ih = first_at_yes p x xs e ∙ sym (first_at_yes q x xs (sym k ∙ e))
      go (inr e) k ih = first_at_no p x xs e ∙ ap suc ih ∙ sym (first_at_no q x xs (sym k ∙ e))

  pub how_many_agree : (xs : List A) → ((x : A) → Memᴰ x xs → p x ≡ q x) → how_many p xs ≡ how_many q xs
  how_many_agree [] h = how_many_none p ∙ sym (how_many_none q)
  how_many_agree (x ∷ xs) h = go (split (p x)) (h x (Memᴰ.head refl)) (how_many_agree xs (λ y m. h y (Memᴰ.tail m)))
    where
      go : (p x ≡ true) ⊎ (p x ≡ false) → p x ≡ q x → how_many p xs ≡ how_many q xs → how_many p (x ∷ xs) ≡ how_many q (x ∷ xs)
      go (inl e) k ih = how_many_yes p x xs e ∙ ap suc ih ∙ sym (how_many_yes q x xs (sym k ∙ e))
      go (inr e) k ih = how_many_no p x xs e ∙ ih ∙ sym (how_many_no q x xs (sym k ∙ e))

pub how_many-map : {A B : Type 0} (p : B → Bool) (f : A → B) (xs : List A) → how_many p (map f xs) ≡ how_many (λ (x : A). p (f x)) xs
how_many-map p f [] = how_many_none p ∙ sym (how_many_none (λ x. p (f x)))
how_many-map {A} p f (x ∷ xs) = go (split (p (f x))) (how_many-map p f xs)
  where
    through : A → Bool
    through x = p (f x)

    go : (p (f x) ≡ true) ⊎ (p (f x) ≡ false) → how_many p (map f xs) ≡ how_many through xs → how_many p (f x ∷ map f xs) ≡ how_many through (x ∷ xs)
    go (inl e) ih = how_many_yes p (f x) (map f xs) e ∙ ap suc ih ∙ sym (how_many_yes through x xs e)
    go (inr e) ih = how_many_no p (f x) (map f xs) e ∙ ih ∙ sym (how_many_no through x xs e)

-- an equivalence that computes: the first members of its classes, and the number of a class
module _ {A : Type 0} (same : A → A → Bool) (rfl : (x : A) → same x x ≡ true) (symm : (x y : A) → same x y ≡ true → same y x ≡ true)
    (trns : (x y z : A) → same x y ≡ true → same y z ≡ true → same x z ≡ true) where
  -- every member is the same as one of the first ones
  abbrev pub OneIn : A → List A → Type 0
  OneIn x ys = (y : A) × Memᴰ y ys × (same x y ≡ true)

  pub firsts_cover : (xs : List A) (x : A) → Memᴰ x xs → OneIn x (firsts same xs)
  unfolding firsts
  firsts_cover [] x m = absurd (Memᴰ.not-nil m)
  firsts_cover (z ∷ zs) x m = go (Memᴰ.cases_cons m) (firsts_cover zs x)
    where
      other : A → Bool
      other y = not (same z y)

      below : (r : OneIn x (firsts same zs)) → (same z r.0 ≡ true) ⊎ (same z r.0 ≡ false) → OneIn x (z ∷ keep other (firsts same zs))
      below r (inl e) = (z, Memᴰ.head refl, trns x r.0 z r.2 (symm z r.0 e))
      below r (inr e) = (r.0, Memᴰ.tail (keep_mem other (firsts same zs) r.0 r.1 (ap not e)), r.2)

      go : (x ≡ z) ⊎ Memᴰ x zs → (Memᴰ x zs → OneIn x (firsts same zs)) → OneIn x (z ∷ keep other (firsts same zs))
      go (inl q) ih = (z, Memᴰ.head refl, rw q (rfl z))
      go (inr n) ih = below (ih n) (split (same z (ih n).0))

  pub class_known : (xs : List A) (x : A) → Memᴰ x xs → first_at (same x) (firsts same xs) < length (firsts same xs)
  class_known xs x m = let r = firsts_cover xs x m in first_at_reached (same x) (firsts same xs) r.0 r.1 r.2

  pub same_class : (ps : List A) (x y : A) → same x y ≡ true → first_at (same x) ps ≡ first_at (same y) ps
  same_class ps x y h = first_at_agree (same x) (same y) ps (λ z m. same_test (same x z) (same y z) (λ k. trns y x z (symm x y h) k) (λ k. trns x y z h k))

  pub class_same : (ps : List A) (x y : A) → first_at (same x) ps < length ps → first_at (same x) ps ≡ first_at (same y) ps → same x y ≡ true
  class_same ps x y l e =
      let z = get_or ps (first_at (same x) ps) x in
      let u : same x z ≡ true = first_at_passes (same x) x ps l in
      let v : same y z ≡ true = rw e (first_at_passes (same y) x ps (rw (← e) l)) in
      trns x z y u (symm y z v)

-- the same members up to order: counts and membership are the same
pub perm_how_many : {A : Type 0} (p : A → Bool) {xs ys : List A} → Permᴰ xs ys → how_many p xs ≡ how_many p ys
perm_how_many p Permᴰ.nil = refl
perm_how_many {A} p (Permᴰ.cons {a = a} {b = b} {l₁ = xs} {l₂ = ys} e d) = go (split (p a)) (perm_how_many p d)
  where
    go : (p a ≡ true) ⊎ (p a ≡ false) → how_many p xs ≡ how_many p ys → how_many p (a ∷ xs) ≡ how_many p (b ∷ ys)
    go (inl h) ih = how_many_yes p a xs h ∙ ap suc ih ∙ sym (how_many_yes p b ys (rw e at h))
    go (inr h) ih = how_many_no p a xs h ∙ ih ∙ sym (how_many_no p b ys (rw e at h))
perm_how_many {A} p (Permᴰ.swap {a = a} {b = b} {a' = a'} {b' = b'} {l = l} e₁ e₂) =
    let both : (x y : A) → how_many p (x ∷ y ∷ l) ≡ how_many p (x ∷ []) + (how_many p (y ∷ []) + how_many p l) =
    λ x y. omega (arith, how_many_append p (x ∷ []) (y ∷ l), how_many_append p (y ∷ []) l)
    in
    rw (e₁, e₂) (omega (arith, both b' a', both a' b'))
perm_how_many p (Permᴰ.trans d₁ d₂) = perm_how_many p d₁ ∙ perm_how_many p d₂

pub perm_mem : {A : Type 0} {x : A} {xs ys : List A} → Permᴰ xs ys → Memᴰ x xs → Memᴰ x ys
perm_mem Permᴰ.nil m = m
perm_mem {A} {x} (Permᴰ.cons {a = a} {b = b} {l₁ = l₁} {l₂ = l₂} e d) m = go (Memᴰ.cases_cons m) (λ n. perm_mem d n)
  where
    go : (x ≡ a) ⊎ Memᴰ x l₁ → (Memᴰ x l₁ → Memᴰ x l₂) → Memᴰ x (b ∷ l₂)
    go (inl q) ih = Memᴰ.head (q ∙ e)
    go (inr n) ih = Memᴰ.tail (ih n)
perm_mem {A} {x} (Permᴰ.swap {a = a} {b = b} {a' = a'} {b' = b'} {l = l} e₁ e₂) m = go (Memᴰ.cases_cons m)
  where
    two : (x ≡ b) ⊎ Memᴰ x l → Memᴰ x (a' ∷ b' ∷ l)
    two (inl q) = Memᴰ.head (q ∙ e₂)
    two (inr n) = Memᴰ.tail (Memᴰ.tail n)

    go : (x ≡ a) ⊎ Memᴰ x (b ∷ l) → Memᴰ x (a' ∷ b' ∷ l)
    go (inl q) = Memᴰ.tail (Memᴰ.head (q ∙ e₁))
    go (inr n) = two (Memᴰ.cases_cons n)
perm_mem (Permᴰ.trans d₁ d₂) m = perm_mem d₂ (perm_mem d₁ m)

module _ {A : Type 0} where
  perm_distinct : {xs ys : List A} → Permᴰ xs ys → Distinct xs → Distinct ys
  perm_distinct Permᴰ.nil h = tt
  perm_distinct (Permᴰ.cons {a = a} {b = b} {l₁ = l₁} {l₂ = l₂} e d) h =
      (λ m. h.0 (perm_mem (Permᴰ.symm d) (subst (λ (v : A). Memᴰ v l₂) (sym e) m)), perm_distinct d h.1)
  perm_distinct (Permᴰ.swap {a = a} {b = b} {a' = a'} {b' = b'} {l = l} e₁ e₂) h =
      (λ m. at (Memᴰ.cases_cons m), (λ m. h.0 (Memᴰ.tail (subst (λ (v : A). Memᴰ v l) (sym e₁) m)), h.1.1))
    where
      at : (a' ≡ b') ⊎ Memᴰ a' l → ⊥
      at (inl q) = h.0 (Memᴰ.head (e₁ ∙ sym q ∙ sym e₂))
      at (inr m) = h.1.0 (subst (λ (v : A). Memᴰ v l) (sym e₂) m)
  perm_distinct (Permᴰ.trans d₁ d₂) h = perm_distinct d₂ (perm_distinct d₁ h)

  -- a member taken to the front
  to_front : {x : A} {ys : List A} → Memᴰ x ys → (zs : List A) × Permᴰ ys (x ∷ zs)
  to_front (Memᴰ.head {x = y} {xs = ys} e) = (ys, Permᴰ.cons (sym e) (Permᴰ.refl ys))
  to_front (Memᴰ.tail {x = y} {xs = ys} m) =
      let r = to_front m in (y ∷ r.0, Permᴰ.trans (Permᴰ.cons refl r.1) (Permᴰ.swap refl refl))

  -- two lists without repetition with the same members are the same up to order
  abbrev pub Inside : List A → List A → Type 0
  Inside xs ys = (x : A) → Memᴰ x xs → Memᴰ x ys

  pub same_members : (xs ys : List A) → Distinct xs → Distinct ys → Inside xs ys → Inside ys xs → Permᴰ xs ys
  same_members [] [] p q f g = Permᴰ.nil
  same_members [] (y ∷ ys) p q f g = absurd (Memᴰ.not-nil (g y (Memᴰ.head refl)))
  same_members (x ∷ xs) ys p q f g = Permᴰ.trans (Permᴰ.cons refl (same_members xs zs p.1 dz.1 to from)) (Permᴰ.symm d)
    where
      r : (zs : List A) × Permᴰ ys (x ∷ zs)
      r = to_front (f x (Memᴰ.head refl))

      zs : List A
      zs = r.0

      d : Permᴰ ys (x ∷ zs)
      d = r.1

      dz : Distinct (x ∷ zs)
      dz = perm_distinct d q

      to_at : (e : A) → Memᴰ e xs → (e ≡ x) ⊎ Memᴰ e zs → Memᴰ e zs
      to_at e m (inl k) = absurd (p.0 (subst (λ (v : A). Memᴰ v xs) k m))
      to_at e m (inr n) = n

      to : (e : A) → Memᴰ e xs → Memᴰ e zs
      to e m = to_at e m (Memᴰ.cases_cons (perm_mem d (f e (Memᴰ.tail m))))

      from_at : (e : A) → Memᴰ e zs → (e ≡ x) ⊎ Memᴰ e xs → Memᴰ e xs
      from_at e m (inl k) = absurd (dz.0 (subst (λ (v : A). Memᴰ v zs) k m))
      from_at e m (inr n) = n

      from : (e : A) → Memᴰ e zs → Memᴰ e xs
      from e m = from_at e m (Memᴰ.cases_cons (g e (perm_mem (Permᴰ.symm d) (Memᴰ.tail m))))

  -- a list without repetition is no longer than one that it lies within
  pub distinct_fits : (xs ys : List A) → Distinct xs → Inside xs ys → length xs ≤ length ys
  distinct_fits [] ys d f = zero-le
  distinct_fits (x ∷ xs) ys d f =
      by_cases (dec_le (suc (length xs)) (length ys)) (λ h. h)
      (λ h. absurd (d.0 (covers xs ys d.1 (λ z m. f z (Memᴰ.tail m)) (omega arith) x (f x (Memᴰ.head refl)))))

pub up_from_distinct : (i n : ℕ) → Distinct (up_from i n)
unfolding up_from
up_from_distinct i zero = tt
up_from_distinct i (suc n) = (λ m. let r = mem_up_from (suc i) n i m in omega arith, up_from_distinct (suc i) n)

-- how many different numbers there are: no fewer for a numbering that tells apart whatever another does
pub finer_more : (f g : ℕ → ℕ) (xs : List ℕ) → ((x y : ℕ) → Memᴰ x xs → Memᴰ y xs → g x ≡ g y → f x ≡ f y) → length (firsts eqb (map f xs)) ≤ length (firsts eqb (map g xs))
finer_more f g xs h = omega (arith, distinct_fits coarse (map coarser fine) (firsts_distinct eqb eqb-true itself (map f xs)) onto, length-map fine coarser)
  where
    itself : (x : ℕ) → eqb x x ≡ true
    itself x = eq-eqb x x refl

    coarse : List ℕ
    coarse = firsts eqb (map f xs)

    fine : List ℕ
    fine = firsts eqb (map g xs)

    numbered : ℕ → ℕ → Bool
    numbered k x = eqb (g x) k

    -- some member with the finer number, and from a finer number the coarser one
    someone : ℕ → ℕ
    someone k = get_or xs (first_at (numbered k) xs) 0

    coarser : ℕ → ℕ
    coarser k = f (someone k)

    back : (x : ℕ) → Memᴰ x xs → f x ≡ coarser (g x)
    back x m =
        let l = first_at_reached (numbered (g x)) xs x m (itself (g x)) in
        h x (someone (g x)) m (get_d_mem xs (first_at (numbered (g x)) xs) 0 l) (sym (eqb-true (g (someone (g x))) (g x) (first_at_passes (numbered (g x)) 0 xs l)))

    onto : (y : ℕ) → Memᴰ y coarse → Memᴰ y (map coarser fine)
    onto y m =
        let r = mem_map f xs y (mem_firsts eqb (map f xs) y m) in
        let n = map_mem coarser fine (g r.0) (firsts_mem eqb eqb-true itself (map g xs) (g r.0) (map_mem g xs r.0 r.1)) in
        subst (λ (v : ℕ). Memᴰ v (map coarser fine)) (sym (r.2 ∙ back r.0 r.1)) n

-- a function that is one to one on the entries of two rows is so on the rows
pub map_one : (f : ℕ → ℕ) (xs ys : List ℕ) → ((x y : ℕ) → Memᴰ x xs → Memᴰ y ys → f x ≡ f y → x ≡ y) → map f xs ≡ map f ys → xs ≡ ys
map_one f [] [] h e = refl
map_one f [] (y ∷ ys) h e = absurd (let z : ◌≡◌ {A = ℕ} 0 (suc (length (map f ys))) = ap length e in omega arith)
map_one f (x ∷ xs) [] h e = absurd (let z : ◌≡◌ {A = ℕ} (suc (length (map f xs))) 0 = ap length e in omega arith)
map_one f (x ∷ xs) (y ∷ ys) h e =
    ap₂ ◌∷◌ (h x y (Memᴰ.head refl) (Memᴰ.head refl) (ap (λ (l : List ℕ). get_or l 0 0) e))
    (map_one f xs ys (λ v w m n. h v w (Memᴰ.tail m) (Memᴰ.tail n)) (ap (λ (l : List ℕ). drop 1 l) e))

-- the order of rows is strict, so ascending rows are without repetition
before_itself : (xs : List ℕ) → row_before xs xs ≡ false
before_itself [] = before_none
before_itself (x ∷ xs) = before_equal x xs x xs refl ∙ before_itself xs

before_trans : (xs ys zs : List ℕ) → row_before xs ys ≡ true → row_before ys zs ≡ true → row_before xs zs ≡ true
before_trans [] [] zs h k = clash h before_none
before_trans [] (y ∷ ys) [] h k = clash k (before_longer y ys)
before_trans [] (y ∷ ys) (z ∷ zs) h k = before_shorter z zs
before_trans (x ∷ xs) [] zs h k = clash h (before_longer x xs)
before_trans (x ∷ xs) (y ∷ ys) [] h k = clash k (before_longer y ys)
before_trans (x ∷ xs) (y ∷ ys) (z ∷ zs) h k = go (split (eqb x y)) (split (eqb y z)) (before_trans xs ys zs)
  where
    first : eqb x y ≡ false → x < y
    first p = ltb-true x y (sym (before_differ x xs y ys (eqb-false x y p)) ∙ h)

    second : eqb y z ≡ false → y < z
    second q = ltb-true y z (sym (before_differ y ys z zs (eqb-false y z q)) ∙ k)

    at_once : x < z → row_before (x ∷ xs) (z ∷ zs) ≡ true
    at_once l = before_differ x xs z zs (λ e. omega arith) ∙ lt-ltb x z l

    go : (eqb x y ≡ true) ⊎ (eqb x y ≡ false) → (eqb y z ≡ true) ⊎ (eqb y z ≡ false) → (row_before xs ys ≡ true → row_before ys zs ≡ true → row_before xs zs ≡ true) → row_before (x ∷ xs) (z ∷ zs) ≡ true
    go (inl p) (inl q) ih =
        let e = eqb-true x y p in
        let d = eqb-true y z q in
        before_equal x xs z zs (e ∙ d) ∙ ih (sym (before_equal x xs y ys e) ∙ h) (sym (before_equal y ys z zs d) ∙ k)
    go (inl p) (inr q) ih = at_once (omega (arith, eqb-true x y p, second q))
    go (inr p) (inl q) ih = at_once (omega (arith, eqb-true y z q, first p))
    go (inr p) (inr q) ih = at_once (omega (arith, first p, second q))

-- what an ascending list says of its first two rows
ascending_front : (r q : List ℕ) (rs : List (List ℕ)) → ascending_from r (q ∷ rs) ≡ true → (row_before r q ≡ true) × (ascending_from q rs ≡ true)
ascending_front r q rs h = go (split (row_before r q))
  where
    go : (row_before r q ≡ true) ⊎ (row_before r q ≡ false) → (row_before r q ≡ true) × (ascending_from q rs ≡ true)
    go (inl e) = (e, sym (ascending_from_yes r q rs e) ∙ h)
    go (inr e) = clash h (ascending_from_no r q rs e)

ascending_all : (r : List ℕ) (rs : List (List ℕ)) → ascending_from r rs ≡ true → (q : List ℕ) → Memᴰ q rs → row_before r q ≡ true
ascending_all r [] h q m = absurd (Memᴰ.not-nil m)
ascending_all r (s ∷ rs) h q m = go (ascending_front r s rs h) (Memᴰ.cases_cons m) (ascending_all s rs)
  where
    go : (row_before r s ≡ true) × (ascending_from s rs ≡ true) → (q ≡ s) ⊎ Memᴰ q rs → (ascending_from s rs ≡ true → (q : List ℕ) → Memᴰ q rs → row_before s q ≡ true) → row_before r q ≡ true
    go f (inl e) ih = rw e f.0
    go f (inr n) ih = before_trans r s q f.0 (ih f.1 q n)

from_distinct : (r : List ℕ) (rs : List (List ℕ)) → ascending_from r rs ≡ true → Distinct (r ∷ rs)
from_distinct r [] h = ((λ m. Memᴰ.not-nil m), tt)
from_distinct r (q ∷ rs) h = ((λ m. clash (ascending_all r (q ∷ rs) h r m) (before_itself r)), from_distinct q rs (ascending_front r q rs h).1)

pub ascending_distinct : (rs : List (List ℕ)) → ascending rs ≡ true → Distinct rs
ascending_distinct [] h = tt
ascending_distinct (r ∷ rs) h = from_distinct r rs (sym (ascending_cons r rs) ∙ h)

-- the first members of classes are apart: each has its own place for its number
module _ {A : Type 0} (same : A → A → Bool) (rfl : (x : A) → same x x ≡ true) (symm : (x y : A) → same x y ≡ true → same y x ≡ true) where
  abbrev Apart : List A → Type 0
  Apart [] = Unit {0}
  Apart (x ∷ xs) = ((y : A) → Memᴰ y xs → same x y ≡ false) × Apart xs

  keep_apart : (p : A → Bool) (xs : List A) → Apart xs → Apart (keep p xs)
  keep_apart p [] h = rw (keep_none p) tt
  keep_apart p (x ∷ xs) h = go (split (p x)) (keep_apart p xs h.1)
    where
      go : (p x ≡ true) ⊎ (p x ≡ false) → Apart (keep p xs) → Apart (keep p (x ∷ xs))
      go (inl e) ih = rw (keep_yes p x xs e) ((λ y m. h.0 y (mem_keep p xs y m).0), ih)
      go (inr e) ih = rw (keep_no p x xs e) ih

  firsts_apart : (xs : List A) → Apart (firsts same xs)
  unfolding firsts
  firsts_apart [] = tt
  firsts_apart (x ∷ xs) = (
    (λ y m. not-true (same x y) (mem_keep (λ (y : A). not (same x y)) (firsts same xs) y m).1),
    keep_apart (λ (y : A). not (same x y)) (firsts same xs) (firsts_apart xs),
  )

  apart_place : (xs : List A) → Apart xs → (k : ℕ) (d : A) → k < length xs → first_at (same (get_or xs k d)) xs ≡ k
  apart_place [] h k d l = absurd (omega arith)
  apart_place (x ∷ xs) h zero d l = first_at_yes (same x) x xs (rfl x)
  apart_place (x ∷ xs) h (suc k) d l = first_at_no (same it) x xs (other (split (same it x))) ∙ ap suc (apart_place xs h.1 k d (omega arith))
    where
      it : A
      it = get_or xs k d

      other : (same it x ≡ true) ⊎ (same it x ≡ false) → same it x ≡ false
      other (inl q) = clash (symm it x q) (h.0 it (get_d_mem xs k d (omega arith)))
      other (inr q) = q

  pub class_place : (xs : List A) (k : ℕ) (d : A) → k < length (firsts same xs) → first_at (same (get_or (firsts same xs) k d)) (firsts same xs) ≡ k
  class_place xs = apart_place (firsts same xs) (firsts_apart xs)

-- a list has no more different members than members
pub different_fit : (xs : List ℕ) → length (firsts eqb xs) ≤ length xs
different_fit xs = distinct_fits (firsts eqb xs) xs (firsts_distinct eqb eqb-true itself xs) (mem_firsts eqb xs)
  where
    itself : (x : ℕ) → eqb x x ≡ true
    itself x = eq-eqb x x refl

-- of two that pass one is another than v
pub another : (p : ℕ → Bool) (v : ℕ) (xs : List ℕ) → Distinct xs → 2 ≤ how_many p xs → (x : ℕ) × Memᴰ x xs × (x ≡ v → ⊥) × (p x ≡ true)
another p v [] d h = absurd (omega (arith, how_many_none p))
another p v (y ∷ ys) d h = go (split (p y)) (another p v ys d.1)
  where
    later : (x : ℕ) × Memᴰ x ys × (x ≡ v → ⊥) × (p x ≡ true) → (x : ℕ) × Memᴰ x (y ∷ ys) × (x ≡ v → ⊥) × (p x ≡ true)
    later r = (r.0, Memᴰ.tail r.1, r.2, r.3)

    go : (p y ≡ true) ⊎ (p y ≡ false) → (2 ≤ how_many p ys → (x : ℕ) × Memᴰ x ys × (x ≡ v → ⊥) × (p x ≡ true)) → (x : ℕ) × Memᴰ x (y ∷ ys) × (x ≡ v → ⊥) × (p x ≡ true)
    go (inr e) ih = later (ih (omega (arith, how_many_no p y ys e)))
    go (inl e) ih =
        by_cases (ℕ_discrete y v)
        (λ q. let r = how_many_some p ys (omega (arith, how_many_yes p y ys e)) in
        later (r.0, r.1, (λ k. d.0 (subst (λ (z : ℕ). Memᴰ z ys) (k ∙ sym q) r.1)), r.2))
        (λ q. (y, Memᴰ.head refl, q, e))

-- no more pass than there are
pub how_many_fits : {A : Type 0} (p : A → Bool) (xs : List A) → how_many p xs ≤ length xs
how_many_fits p [] = omega (arith, how_many_none p)
how_many_fits p (x ∷ xs) = by_test (split (p x)) (how_many_fits p xs)
  where
    by_test : (p x ≡ true) ⊎ (p x ≡ false) → how_many p xs ≤ length xs → how_many p (x ∷ xs) ≤ suc (length xs)
    by_test (inl e) ih = omega (arith, how_many_yes p x xs e, ih)
    by_test (inr e) ih = omega (arith, how_many_no p x xs e, ih)
