-- What a pair list gives: each pair is good and has its image in the result, and every entry comes from a pair; or the first place that fails,
-- with what is wrong there. Assumes nothing.
use Prim.Native.Nat.{ℕ, zero, suc, ◌+◌, ◌<◌, ◌≤◌}
use mathlib.Core.Path.{◌≡◌, refl, sym, ◌∙◌, subst}
use mathlib.Core.Logic.{◌⊎◌, inl, inr, by_cases}
use mathlib.Core.Bool.{true, false}
use mathlib.Core.List.{List}
use native.Mathlib.Omega.{arith}
use native.Mathlib.Decide.{ℕ_discrete}
use borrow.Author.Tests.{eqb-true, eqb-false, ltb-true, eq-eqb, ltb-false}
use lib.ListN.{length, get_or, set, length-set}
use lib.Seq.{get_or-set_same, get_or-set_other}
use lib.Dec.{eqb, ltb}
use Rattle.std.proofs.Common.{Result, Ok, Err}
use Rattle.lists.proofs.Laws.Tests.{split, clash}
use Rattle.stored.specs.declared.refusal.Refusal.{Refusal}
use Rattle.stored.specs.declared.refusal.Refusal.TheVariants.{ConflictingImages}
use Rattle.stored.specs.Model.{Model, size, type_of, root_of}
use Rattle.stored.proofs.Laws.WellFormed.{WellFormed}
use Rattle.rows.specs.Pairs.{left_at, right_at, pair_at, Given, images, refused, conflicts, give_from}
use Rattle.rows.proofs.Laws.Pairs.{pair_left_unknown, pair_right_unknown, pair_types_differ, pair_good, conflicts_none, conflicts_given}

-- the class that a pair names, and the class that it means
abbrev pub named : Model → List ℕ → ℕ → ℕ
named a pairs i = root_of a (left_at pairs i)

abbrev pub meant : Model → List ℕ → ℕ → ℕ
meant b pairs i = root_of b (right_at pairs i)

-- a pair of two known elements of one type
pub record GoodPair (a b : Model) (pairs : List ℕ) (i : ℕ) : Type 0 where
  pub left_known : left_at pairs i < size a
  pub right_known : right_at pairs i < size b
  pub one_type : type_of a (left_at pairs i) ≡ type_of b (right_at pairs i)

module _ (a b : Model) (pairs : List ℕ) (i : ℕ) where
  pub good_pair : pair_at a b pairs i ≡ Ok tt → GoodPair a b pairs i
  good_pair e = left (split (ltb (left_at pairs i) (size a)))
    where
      wrong : {X : Type 0} {r : Refusal} → pair_at a b pairs i ≡ Err r → X
      wrong h = let z : ◌≡◌ {A = ℕ} 0 1 = cc in absurd (omega arith)

      types : left_at pairs i < size a → right_at pairs i < size b → (eqb (type_of a (left_at pairs i)) (type_of b (right_at pairs i)) ≡ true) ⊎ (eqb (type_of a (left_at pairs i)) (type_of b (right_at pairs i)) ≡ false) → GoodPair a b pairs i
      types l r (inl t) = record { left_known = l; right_known = r; one_type = eqb-true _ _ t }
      types l r (inr t) = wrong (pair_types_differ a.sizes b.sizes pairs i l r (eqb-false _ _ t))

      right : left_at pairs i < size a → (ltb (right_at pairs i) (size b) ≡ true) ⊎ (ltb (right_at pairs i) (size b) ≡ false) → GoodPair a b pairs i
      right l (inl t) = types l (ltb-true _ _ t) (split (eqb (type_of a (left_at pairs i)) (type_of b (right_at pairs i))))
      right l (inr t) = wrong (pair_right_unknown a.sizes b.sizes pairs i l (ltb-false _ _ t))

      left : (ltb (left_at pairs i) (size a) ≡ true) ⊎ (ltb (left_at pairs i) (size a) ≡ false) → GoodPair a b pairs i
      left (inl t) = right (ltb-true _ _ t) (split (ltb (right_at pairs i) (size b)))
      left (inr t) = wrong (pair_left_unknown a.sizes b.sizes pairs i (ltb-false _ _ t))

  pub is_good : GoodPair a b pairs i → pair_at a b pairs i ≡ Ok tt
  is_good g = pair_good a.sizes b.sizes pairs i g.left_known g.right_known g.one_type

  -- the clauses of `give_from`
  module _ (left : ℕ) (f : List ℕ) where
    pub give_bad : (r : Refusal) → pair_at a b pairs i ≡ Err r → give_from (suc left) a b pairs i f ≡ refused r
    unfolding give_from
    give_bad r e = rw (e, give_from)

    module _ (e : pair_at a b pairs i ≡ Ok tt) where
      pub give_conflict : conflicts f (named a pairs i) (meant b pairs i) ≡ true → give_from (suc left) a b pairs i f ≡ refused (ConflictingImages (record { 0 = named a pairs i }))
      unfolding give_from
      give_conflict c = rw (e, give_from, c)

      pub give_more : conflicts f (named a pairs i) (meant b pairs i) ≡ false → give_from (suc left) a b pairs i f ≡ give_from left a b pairs (i + 1) (set f (named a pairs i) (meant b pairs i))
      unfolding give_from
      give_more c = rw (e, give_from, c)

-- no conflict: nothing was given before, or the same
pub no_conflict : (f : List ℕ) (x y : ℕ) → conflicts f x y ≡ false → (get_or f x 255 ≡ 255 → ⊥) → get_or f x 255 ≡ y
no_conflict f x y h n = go (split (eqb (get_or f x 255) y))
  where
    go : (eqb (get_or f x 255) y ≡ true) ⊎ (eqb (get_or f x 255) y ≡ false) → get_or f x 255 ≡ y
    go (inl e) = eqb-true _ _ e
    go (inr e) = clash (conflicts_given f x y n ∙ rw e) h

-- the images g that the pairs from place i on, so many, give over images f
pub record Gave (a b : Model) (pairs : List ℕ) (count i : ℕ) (f g : List ℕ) : Type 0 where
  pub same_length : length g ≡ length f
  pub stays : (x : ℕ) → (get_or f x 255 ≡ 255 → ⊥) → get_or g x 255 ≡ get_or f x 255
  pub pairs_good : (j : ℕ) → i ≤ j → j < i + count → GoodPair a b pairs j × (get_or g (named a pairs j) 255 ≡ meant b pairs j)
  pub from_pairs : (x : ℕ) → (get_or g x 255 ≡ get_or f x 255) ⊎ ((j : ℕ) × (i ≤ j) × (j < i + count) × (x ≡ named a pairs j))

module _ (a b : Model) (wa : WellFormed a) (wb : WellFormed b) (pairs : List ℕ) where
  gave_none : (i : ℕ) (f : List ℕ) → Gave a b pairs 0 i f f
  gave_none i f = record { same_length = refl; stays = λ x n. refl; pairs_good = λ j l u. absurd (omega arith); from_pairs = λ x. inl refl }

  module _ (i : ℕ) (f : List ℕ) (len : length f ≡ size a) (good : GoodPair a b pairs i) (free : conflicts f (named a pairs i) (meant b pairs i) ≡ false) where
    below : named a pairs i < length f
    below = omega (arith, wa.root_known (left_at pairs i) good.left_known)

    is_image : meant b pairs i ≡ 255 → ⊥
    is_image e = omega (arith, wb.root_known (right_at pairs i) good.right_known, wb.few_elements)

    now_there : get_or (set f (named a pairs i) (meant b pairs i)) (named a pairs i) 255 ≡ meant b pairs i
    now_there = get_or-set_same f (named a pairs i) (meant b pairs i) 255 below

    gave_more : (count : ℕ) (g : List ℕ) → Gave a b pairs count (i + 1) (set f (named a pairs i) (meant b pairs i)) g → Gave a b pairs (suc count) i f g
    gave_more count g v = record {
      same_length = v.same_length ∙ length-set f (named a pairs i) (meant b pairs i);
      stays = λ x n. by_cases (ℕ_discrete x (named a pairs i)) (λ e. rw e (there ∙ sym (no_conflict f (named a pairs i) (meant b pairs i) free (rw e at n)))) (λ ne. let s = get_or-set_other f (named a pairs i) x (meant b pairs i) 255 ne in v.stays x (λ z. n (sym s ∙ z)) ∙ s);
      pairs_good = λ j l u. by_cases (ℕ_discrete j i) (λ e. rw e (good, there)) (λ ne. v.pairs_good j (omega arith) (omega arith));
      from_pairs = λ x. origin x (v.from_pairs x);
    }
      where
        there : get_or g (named a pairs i) 255 ≡ meant b pairs i
        there = v.stays (named a pairs i) (λ z. is_image (sym now_there ∙ z)) ∙ now_there

        origin : (x : ℕ) → (get_or g x 255 ≡ get_or (set f (named a pairs i) (meant b pairs i)) x 255) ⊎ ((j : ℕ) × (i + 1 ≤ j) × (j < i + 1 + count) × (x ≡ named a pairs j)) → (get_or g x 255 ≡ get_or f x 255) ⊎ ((j : ℕ) × (i ≤ j) × (j < i + suc count) × (x ≡ named a pairs j))
        origin x (inr p) = inr (p.0, omega (arith, p.1), omega (arith, p.2), p.3)
        origin x (inl e) = by_cases (ℕ_discrete x (named a pairs i)) (λ q. inr (i, omega arith, omega arith, q)) (λ ne. inl (e ∙ get_or-set_other f (named a pairs i) x (meant b pairs i) 255 ne))

-- what is wrong at the first place that fails: the pair itself, or another image given before
abbrev pub WrongAt : Model → Model → List ℕ → ℕ → List ℕ → Refusal → Type 0
WrongAt a b pairs j g r =
    (pair_at a b pairs j ≡ Err r) ⊎ (GoodPair a b pairs j × (conflicts g (named a pairs j) (meant b pairs j) ≡ true) × (r ≡ ConflictingImages (record { 0 = named a pairs j })))

-- the pairs before a place gave images g over f, and the pair there fails
pub record Failed (a b : Model) (pairs : List ℕ) (count i : ℕ) (f : List ℕ) (r : Refusal) : Type 0 where
  pub passed : ℕ
  pub within : passed < count
  pub sofar : List ℕ
  pub gave : Gave a b pairs passed i f sofar
  pub wrong : WrongAt a b pairs (i + passed) sofar r

abbrev pub GivenKnown : Model → Model → List ℕ → ℕ → ℕ → List ℕ → Given → Type 0
GivenKnown a b pairs count i f (images g) = Gave a b pairs count i f g
GivenKnown a b pairs count i f (refused r) = Failed a b pairs count i f r

module _ (a b : Model) (wa : WellFormed a) (wb : WellFormed b) (pairs : List ℕ) where
  failed_here : (count i : ℕ) (f : List ℕ) (r : Refusal) → WrongAt a b pairs i f r → Failed a b pairs (suc count) i f r
  failed_here count i f r w =
      record { passed = 0; within = omega arith; sofar = f; gave = gave_none a b wa wb pairs i f; wrong = subst (λ (j : ℕ). WrongAt a b pairs j f r) (let e : i ≡ i + 0 = omega arith in e) w }

  module _ (i : ℕ) (f : List ℕ) (len : length f ≡ size a) (good : GoodPair a b pairs i) (free : conflicts f (named a pairs i) (meant b pairs i) ≡ false) where
    failed_later : (count : ℕ) (r : Refusal) → Failed a b pairs count (i + 1) (set f (named a pairs i) (meant b pairs i)) r → Failed a b pairs (suc count) i f r
    failed_later count r v = record {
      passed = suc v.passed;
      within = omega (arith, v.within);
      sofar = v.sofar;
      gave = gave_more a b wa wb pairs i f len good free v.passed v.sofar v.gave;
      wrong = subst (λ (j : ℕ). WrongAt a b pairs j v.sofar r) (let e : i + 1 + v.passed ≡ i + suc v.passed = omega arith in e) v.wrong;
    }

    known_later : (count : ℕ) (x : Given) → GivenKnown a b pairs count (i + 1) (set f (named a pairs i) (meant b pairs i)) x → GivenKnown a b pairs (suc count) i f x
    known_later count (images g) v = gave_more a b wa wb pairs i f len good free count g v
    known_later count (refused r) v = failed_later count r v

  pub given_known : (count i : ℕ) (f : List ℕ) → length f ≡ size a → GivenKnown a b pairs count i f (give_from count a b pairs i f)
  unfolding give_from
  given_known zero i f len = gave_none a b wa wb pairs i f
  given_known (suc count) i f len = by_pair (pair_at a b pairs i) refl (given_known count)
    where
      by_conflict : pair_at a b pairs i ≡ Ok tt → (conflicts f (named a pairs i) (meant b pairs i) ≡ true) ⊎ (conflicts f (named a pairs i) (meant b pairs i) ≡ false) → ((i : ℕ) (f : List ℕ) → length f ≡ size a → GivenKnown a b pairs count i f (give_from count a b pairs i f)) → GivenKnown a b pairs (suc count) i f (give_from (suc count) a b pairs i f)
      by_conflict e (inl c) ih = rw (give_conflict a b pairs i count f e c) (failed_here count i f (ConflictingImages (record { 0 = named a pairs i })) (inr (good_pair a b pairs i e, c, refl)))
      by_conflict e (inr c) ih =
          rw (give_more a b pairs i count f e c)
          (known_later i f len (good_pair a b pairs i e) c count (give_from count a b pairs (i + 1) (set f (named a pairs i) (meant b pairs i)))
          (ih (i + 1) (set f (named a pairs i) (meant b pairs i)) (length-set f (named a pairs i) (meant b pairs i) ∙ len)))

      by_pair : (p : Result (Unit {0}) Refusal) → pair_at a b pairs i ≡ p → ((i : ℕ) (f : List ℕ) → length f ≡ size a → GivenKnown a b pairs count i f (give_from count a b pairs i f)) → GivenKnown a b pairs (suc count) i f (give_from (suc count) a b pairs i f)
      by_pair (Err r) e ih = rw (give_bad a b pairs i count f r e) (failed_here count i f r (inl e))
      by_pair (Ok u) e ih = by_conflict e (split (conflicts f (named a pairs i) (meant b pairs i))) ih

  -- good pairs that agree with one map F never conflict, and what they give agrees with F too
  abbrev pub AgreesWith : List ℕ → List ℕ → Type 0
  AgreesWith F f = (x : ℕ) → (get_or f x 255 ≡ 255 → ⊥) → get_or f x 255 ≡ get_or F x 255

  pub gives : (F : List ℕ) (count i : ℕ) (f : List ℕ) → length f ≡ size a → AgreesWith F f → ((j : ℕ) → i ≤ j → j < i + count → GoodPair a b pairs j × (get_or F (named a pairs j) 255 ≡ meant b pairs j)) → (g : List ℕ) × (give_from count a b pairs i f ≡ images g) × AgreesWith F g
  unfolding give_from
  gives F zero i f len ag good = (f, refl, ag)
  gives F (suc count) i f len ag good =
      let p = good i (omega arith) (omega arith) in
      let x = named a pairs i in
      let y = meant b pairs i in
      let free = agreed x y p.1 in
      let r = gives F count (i + 1) (set f x y) (length-set f x y ∙ len) (still p.0 p.1) (λ j l u. good j (omega arith) (omega arith)) in
      (r.0, give_more a b pairs i count f (is_good a b pairs i p.0) free ∙ r.1, r.2)
    where
      agreed : (x y : ℕ) → get_or F x 255 ≡ y → conflicts f x y ≡ false
      agreed x y e = by_cases (ℕ_discrete (get_or f x 255) 255) (λ z. conflicts_none f x y z) (λ n. conflicts_given f x y n ∙ rw (eq-eqb (get_or f x 255) y (ag x n ∙ e)))

      still : GoodPair a b pairs i → get_or F (named a pairs i) 255 ≡ meant b pairs i → AgreesWith F (set f (named a pairs i) (meant b pairs i))
      still good e x n =
          by_cases (ℕ_discrete x (named a pairs i))
          (λ q. rw q (get_or-set_same f (named a pairs i) (meant b pairs i) 255 (omega (arith, wa.root_known (left_at pairs i) good.left_known, len)) ∙ sym e))
          (λ ne. let s = get_or-set_other f (named a pairs i) x (meant b pairs i) 255 ne in s ∙ ag x (λ z. n (s ∙ z)))
