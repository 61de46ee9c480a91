-- Partners: the pairs are all good or the first bad one is told; good pairs give partners on both sides, each other's converse, exactly if no class is paired with two on either side,
-- and a clash means that one is. Assumes nothing.
use Prim.Native.Nat.{ℕ, zero, suc, ◌+◌, ◌<◌, ◌≤◌}
use mathlib.Core.Path.{◌≡◌, refl, sym, ◌∙◌, ap, subst}
use mathlib.Core.Logic.{◌⊎◌, inl, inr, by_cases}
use mathlib.Core.Bool.{true, false, not}
use mathlib.Core.List.{List}
use native.Mathlib.Omega.{arith}
use native.Mathlib.Decide.{ℕ_discrete}
use borrow.Author.Tests.{eq-eqb}
use lib.ListN.{length, get_or, set, length-set}
use lib.Seq.{get_or-set_same, get_or-set_other}
use Rattle.std.proofs.Common.{Result, Ok, Err}
use Rattle.lists.proofs.Laws.Tests.{split}
use Rattle.lists.proofs.Laws.Tests as tests
use Rattle.stored.specs.declared.refusal.Refusal.{Refusal}
use Rattle.stored.specs.Model.{Model, size}
use Rattle.stored.proofs.Laws.WellFormed.{WellFormed}
use Rattle.rows.specs.Pairs.{pair_count, left_at, right_at, pair_at, conflicts}
use Rattle.rows.specs.Check.{blank}
use Rattle.rows.proofs.Laws.Pairs.{conflicts_none, conflicts_given}
use Rattle.rows.proofs.Laws.Check.{length_blank}
use Rattle.rows.proofs.Theorems.Check.{blank_at}
use Rattle.rows.proofs.Theorems.Pairs.{named, meant, GoodPair, good_pair, is_good, no_conflict}
use Rattle.search.specs.Partners.{pairs_from, Partners, partners, clash, partners_from, partners_of}

-- every pair is good
abbrev pub AllGood : Model → Model → List ℕ → Type 0
AllGood a b pairs = (j : ℕ) → j < pair_count pairs → GoodPair a b pairs j

-- the first bad pair from a place on, so many left
pub record FirstBad (a b : Model) (pairs : List ℕ) (left i : ℕ) (r : Refusal) : Type 0 where
  pub place : ℕ
  pub from : i ≤ place
  pub within : place < i + left
  pub before : (j : ℕ) → i ≤ j → j < place → GoodPair a b pairs j
  pub bad : pair_at a b pairs place ≡ Err r

module _ (a b : Model) (pairs : List ℕ) where
  abbrev PairsKnown : ℕ → ℕ → Result (Unit {0}) Refusal → Type 0
  PairsKnown left i (Ok u) = (j : ℕ) → i ≤ j → j < i + left → GoodPair a b pairs j
  PairsKnown left i (Err r) = FirstBad a b pairs left i r

  one_more : (left i : ℕ) → GoodPair a b pairs i → (p : Result (Unit {0}) Refusal) → PairsKnown left (i + 1) p → PairsKnown (suc left) i p
  one_more left i g (Ok u) k = λ j l u. by_cases (ℕ_discrete j i) (λ e. subst (GoodPair a b pairs) (sym e) g) (λ ne. k j (omega arith) (omega arith))
  one_more left i g (Err r) k = record {
    place = k.place;
    from = omega (arith, k.from);
    within = omega (arith, k.within);
    before = λ j l u. by_cases (ℕ_discrete j i) (λ e. subst (GoodPair a b pairs) (sym e) g) (λ ne. k.before j (omega arith) u);
    bad = k.bad;
  }

  pairs_known : (left i : ℕ) → PairsKnown left i (pairs_from left a b pairs i)
  unfolding pairs_from
  pairs_known zero i = λ j l u. absurd (omega arith)
  pairs_known (suc left) i = by_pair (pair_at a b pairs i) refl (pairs_known left (i + 1))
    where
      by_pair : (p : Result (Unit {0}) Refusal) → pair_at a b pairs i ≡ p → PairsKnown left (i + 1) (pairs_from left a b pairs (i + 1)) → PairsKnown (suc left) i (pairs_from (suc left) a b pairs i)
      by_pair (Err r) e ih = rw (e, pairs_from) (record { place = i; from = omega arith; within = omega arith; before = λ j l u. absurd (omega arith); bad = e })
      by_pair (Ok u) e ih = rw (e, pairs_from) (one_more left i (good_pair a b pairs i e) (pairs_from left a b pairs (i + 1)) ih)

  pub all_good : pairs_from (pair_count pairs) a b pairs 0 ≡ Ok tt → AllGood a b pairs
  all_good e j l = subst (PairsKnown (pair_count pairs) 0) e (pairs_known (pair_count pairs) 0) j (omega arith) (omega arith)

  pub first_bad : (r : Refusal) → pairs_from (pair_count pairs) a b pairs 0 ≡ Err r → FirstBad a b pairs (pair_count pairs) 0 r
  first_bad r e = subst (PairsKnown (pair_count pairs) 0) e (pairs_known (pair_count pairs) 0)

  are_good_from : (left i : ℕ) → ((j : ℕ) → i ≤ j → j < i + left → GoodPair a b pairs j) → pairs_from left a b pairs i ≡ Ok tt
  unfolding pairs_from
  are_good_from zero i h = refl
  are_good_from (suc left) i h = rw (is_good a b pairs i (h i (omega arith) (omega arith)), pairs_from) (are_good_from left (i + 1) (λ j l u. h j (omega arith) (omega arith)))

  pub are_good : AllGood a b pairs → pairs_from (pair_count pairs) a b pairs 0 ≡ Ok tt
  are_good h = are_good_from (pair_count pairs) 0 (λ j l u. h j (omega arith))

-- two pairs with one class on a side and two on the other
abbrev pub Clashing : Model → Model → List ℕ → ℕ → ℕ → Type 0
Clashing a b pairs i j =
    ((named a pairs i ≡ named a pairs j) × (meant b pairs i ≡ meant b pairs j → ⊥)) ⊎ ((meant b pairs i ≡ meant b pairs j) × (named a pairs i ≡ named a pairs j → ⊥))

-- one class is paired with two, by the pairs before a place
pub record PairedTwice (a b : Model) (pairs : List ℕ) (count : ℕ) : Type 0 where
  pub one : ℕ
  pub other : ℕ
  pub one_within : one < count
  pub other_within : other < count
  pub clashing : Clashing a b pairs one other

-- the partners on both sides that the pairs before a place give
pub record Matched (a b : Model) (pairs : List ℕ) (i : ℕ) (f g : List ℕ) : Type 0 where
  pub left_long : length f ≡ size a
  pub right_long : length g ≡ size b
  pub to_meant : (j : ℕ) → j < i → get_or f (named a pairs j) 255 ≡ meant b pairs j
  pub to_named : (j : ℕ) → j < i → get_or g (meant b pairs j) 255 ≡ named a pairs j
  pub left_from_lem : (x : ℕ) → (get_or f x 255 ≡ 255 → ⊥) → (j : ℕ) × (j < i) × (x ≡ named a pairs j)
  pub right_from_lem : (y : ℕ) → (get_or g y 255 ≡ 255 → ⊥) → (j : ℕ) × (j < i) × (y ≡ meant b pairs j)

-- they are each other's converse
module _ (a b : Model) (pairs : List ℕ) (i : ℕ) (f g : List ℕ) (matched : Matched a b pairs i f g) where
  pub left_right : (x y : ℕ) → (y ≡ 255 → ⊥) → get_or f x 255 ≡ y → get_or g y 255 ≡ x
  left_right x y n e =
      let o = matched.left_from_lem x (λ z. n (sym e ∙ z)) in
      let m : meant b pairs o.0 ≡ y = sym (matched.to_meant o.0 o.1) ∙ ap (λ (v : ℕ). get_or f v 255) (sym o.2) ∙ e in
      ap (λ (v : ℕ). get_or g v 255) (sym m) ∙ matched.to_named o.0 o.1 ∙ sym o.2

  pub right_left : (x y : ℕ) → (x ≡ 255 → ⊥) → get_or g y 255 ≡ x → get_or f x 255 ≡ y
  right_left x y n e =
      let o = matched.right_from_lem y (λ z. n (sym e ∙ z)) in
      let m : named a pairs o.0 ≡ x = sym (matched.to_named o.0 o.1) ∙ ap (λ (v : ℕ). get_or g v 255) (sym o.2) ∙ e in
      ap (λ (v : ℕ). get_or f v 255) (sym m) ∙ matched.to_meant o.0 o.1 ∙ sym o.2

  -- and no class is paired with two
  pub not_twice : PairedTwice a b pairs i → ⊥
  not_twice t = by_side t.clashing
    where
      by_side : Clashing a b pairs t.one t.other → ⊥
      by_side (inl p) = p.1 (sym (matched.to_meant t.one t.one_within) ∙ ap (λ (v : ℕ). get_or f v 255) p.0 ∙ matched.to_meant t.other t.other_within)
      by_side (inr p) = p.1 (sym (matched.to_named t.one t.one_within) ∙ ap (λ (v : ℕ). get_or g v 255) p.0 ∙ matched.to_named t.other t.other_within)

-- a conflict: another was given before
was_given : (f : List ℕ) (x y : ℕ) → conflicts f x y ≡ true → (get_or f x 255 ≡ 255 → ⊥)
was_given f x y h e = tests.clash h (conflicts_none f x y e)

was_other : (f : List ℕ) (x y : ℕ) → conflicts f x y ≡ true → (get_or f x 255 ≡ y → ⊥)
was_other f x y h e = tests.clash h (conflicts_given f x y (was_given f x y h) ∙ ap not (eq-eqb (get_or f x 255) y e))

-- an image given without conflict
module _ (f : List ℕ) (x y : ℕ) (below : x < length f) (free : conflicts f x y ≡ false) where
  given_here : get_or (set f x y) x 255 ≡ y
  given_here = get_or-set_same f x y 255 below

  given_keeps : (v : ℕ) → (get_or f v 255 ≡ 255 → ⊥) → get_or (set f x y) v 255 ≡ get_or f v 255
  given_keeps v n =
      by_cases (ℕ_discrete v x)
      (λ e. subst (λ (u : ℕ). get_or (set f x y) u 255 ≡ get_or f u 255) (sym e) (given_here ∙ sym (no_conflict f x y free (λ z. n (ap (λ (u : ℕ). get_or f u 255) e ∙ z)))))
      (λ d. get_or-set_other f x v y 255 d)

  given_from : (v : ℕ) → (get_or (set f x y) v 255 ≡ 255 → ⊥) → (v ≡ x) ⊎ (get_or f v 255 ≡ 255 → ⊥)
  given_from v n = by_cases (ℕ_discrete v x) (λ e. inl e) (λ d. inr (λ z. n (get_or-set_other f x v y 255 d ∙ z)))

module _ (a b : Model) (wa : WellFormed a) (wb : WellFormed b) (pairs : List ℕ) where
  named_below : (j : ℕ) → GoodPair a b pairs j → named a pairs j < size a
  named_below j g = wa.root_known (left_at pairs j) g.left_known

  meant_below : (j : ℕ) → GoodPair a b pairs j → meant b pairs j < size b
  meant_below j g = wb.root_known (right_at pairs j) g.right_known

  pub named_is_known : (j : ℕ) → GoodPair a b pairs j → named a pairs j ≡ 255 → ⊥
  named_is_known j g e = omega (arith, named_below j g, wa.few_elements)

  pub meant_is_known : (j : ℕ) → GoodPair a b pairs j → meant b pairs j ≡ 255 → ⊥
  meant_is_known j g e = omega (arith, meant_below j g, wb.few_elements)

  nothing_matched : Matched a b pairs 0 (blank (size a)) (blank (size b))
  nothing_matched = record {
    left_long = length_blank (size a);
    right_long = length_blank (size b);
    to_meant = λ j l. absurd (omega arith);
    to_named = λ j l. absurd (omega arith);
    left_from_lem = λ x n. absurd (n (blank_at (size a) x));
    right_from_lem = λ y n. absurd (n (blank_at (size b) y));
  }

  module _ (good : AllGood a b pairs) where
    -- one more pair, without conflict on either side
    module _ (i : ℕ) (within : i < pair_count pairs) (f g : List ℕ) (matched : Matched a b pairs i f g) where
      left_below : named a pairs i < length f
      left_below = omega (arith, matched.left_long, named_below i (good i within))

      right_below : meant b pairs i < length g
      right_below = omega (arith, matched.right_long, meant_below i (good i within))

      module _ (free : conflicts f (named a pairs i) (meant b pairs i) ≡ false) (free' : conflicts g (meant b pairs i) (named a pairs i) ≡ false) where
        new_meant : (j : ℕ) → j < i + 1 → get_or (set f (named a pairs i) (meant b pairs i)) (named a pairs j) 255 ≡ meant b pairs j
        new_meant j l = by_cases (ℕ_discrete j i)
            (λ e. subst (λ (k : ℕ). get_or (set f (named a pairs i) (meant b pairs i)) (named a pairs k) 255 ≡ meant b pairs k) (sym e) (given_here f (named a pairs i) (meant b pairs i) left_below free))
            (λ d. let old = matched.to_meant j (omega arith) in
            given_keeps f (named a pairs i) (meant b pairs i) left_below free (named a pairs j) (λ z. meant_is_known j (good j (omega arith)) (sym old ∙ z)) ∙ old)

        new_named : (j : ℕ) → j < i + 1 → get_or (set g (meant b pairs i) (named a pairs i)) (meant b pairs j) 255 ≡ named a pairs j
        new_named j l = by_cases (ℕ_discrete j i)
            (λ e. subst (λ (k : ℕ). get_or (set g (meant b pairs i) (named a pairs i)) (meant b pairs k) 255 ≡ named a pairs k) (sym e) (given_here g (meant b pairs i) (named a pairs i) right_below free'))
            (λ d. let old = matched.to_named j (omega arith) in
            given_keeps g (meant b pairs i) (named a pairs i) right_below free' (meant b pairs j) (λ z. named_is_known j (good j (omega arith)) (sym old ∙ z)) ∙ old)

        new_left_from : (x : ℕ) → (x ≡ named a pairs i) ⊎ (get_or f x 255 ≡ 255 → ⊥) → (j : ℕ) × (j < i + 1) × (x ≡ named a pairs j)
        new_left_from x (inl e) = (i, omega arith, e)
        new_left_from x (inr n) = let o = matched.left_from_lem x n in (o.0, omega (arith, o.1), o.2)

        new_right_from : (y : ℕ) → (y ≡ meant b pairs i) ⊎ (get_or g y 255 ≡ 255 → ⊥) → (j : ℕ) × (j < i + 1) × (y ≡ meant b pairs j)
        new_right_from y (inl e) = (i, omega arith, e)
        new_right_from y (inr n) = let o = matched.right_from_lem y n in (o.0, omega (arith, o.1), o.2)

        one_matched : Matched a b pairs (i + 1) (set f (named a pairs i) (meant b pairs i)) (set g (meant b pairs i) (named a pairs i))
        one_matched = record {
          left_long = length-set f (named a pairs i) (meant b pairs i) ∙ matched.left_long;
          right_long = length-set g (meant b pairs i) (named a pairs i) ∙ matched.right_long;
          to_meant = new_meant;
          to_named = new_named;
          left_from_lem = λ x n. new_left_from x (given_from f (named a pairs i) (meant b pairs i) left_below free x n);
          right_from_lem = λ y n. new_right_from y (given_from g (meant b pairs i) (named a pairs i) right_below free' y n);
        }

      -- a conflict on either side
      left_twice : conflicts f (named a pairs i) (meant b pairs i) ≡ true → PairedTwice a b pairs (pair_count pairs)
      left_twice c =
          let o = matched.left_from_lem (named a pairs i) (was_given f (named a pairs i) (meant b pairs i) c) in
          let old = ap (λ (v : ℕ). get_or f v 255) o.2 ∙ matched.to_meant o.0 o.1 in
          record {
            one = o.0;
            other = i;
            one_within = omega (arith, o.1);
            other_within = within;
            clashing = inl (sym o.2, λ e. was_other f (named a pairs i) (meant b pairs i) c (old ∙ e));
          }

      right_twice : conflicts g (meant b pairs i) (named a pairs i) ≡ true → PairedTwice a b pairs (pair_count pairs)
      right_twice c =
          let o = matched.right_from_lem (meant b pairs i) (was_given g (meant b pairs i) (named a pairs i) c) in
          let old = ap (λ (v : ℕ). get_or g v 255) o.2 ∙ matched.to_named o.0 o.1 in
          record {
            one = o.0;
            other = i;
            one_within = omega (arith, o.1);
            other_within = within;
            clashing = inr (sym o.2, λ e. was_other g (meant b pairs i) (named a pairs i) c (old ∙ e));
          }

    abbrev PartnersKnown : Partners → Type 0
    PartnersKnown (partners f g) = Matched a b pairs (pair_count pairs) f g
    PartnersKnown clash = PairedTwice a b pairs (pair_count pairs)

    known_from : (left i : ℕ) (f g : List ℕ) → i + left ≡ pair_count pairs → Matched a b pairs i f g → PartnersKnown (partners_from left a b pairs i f g)
    unfolding partners_from
    known_from zero i f g e m = subst (λ (n : ℕ). Matched a b pairs n f g) (let q : i ≡ pair_count pairs = omega arith in q) m
    known_from (suc left) i f g e m =
        by_conflict (split (conflicts f (named a pairs i) (meant b pairs i))) (split (conflicts g (meant b pairs i) (named a pairs i)))
        (known_from left (i + 1) (set f (named a pairs i) (meant b pairs i)) (set g (meant b pairs i) (named a pairs i)) (omega arith))
      where
        within : i < pair_count pairs
        within = omega arith

        new_left : List ℕ
        new_left = set f (named a pairs i) (meant b pairs i)

        new_right : List ℕ
        new_right = set g (meant b pairs i) (named a pairs i)

        by_conflict :
            (conflicts f (named a pairs i) (meant b pairs i) ≡ true) ⊎ (conflicts f (named a pairs i) (meant b pairs i) ≡ false)
            → (conflicts g (meant b pairs i) (named a pairs i) ≡ true) ⊎ (conflicts g (meant b pairs i) (named a pairs i) ≡ false)
            → (Matched a b pairs (i + 1) new_left new_right → PartnersKnown (partners_from left a b pairs (i + 1) new_left new_right)) → PartnersKnown (partners_from (suc left) a b pairs i f g)
        by_conflict (inl c) d ih = rw (c, partners_from) (left_twice i within f g m c)
        by_conflict (inr c) (inl d) ih = rw (c, partners_from, d) (right_twice i within f g m d)
        by_conflict (inr c) (inr d) ih = rw (c, partners_from, d) (ih (one_matched i within f g m c d))

    partners_known : PartnersKnown (partners_of a b pairs)
    unfolding partners_of
    partners_known = known_from (pair_count pairs) 0 (blank (size a)) (blank (size b)) (omega arith) nothing_matched

    -- partners come from the pairs; a clash is one class paired with two
    pub are_matched : (f g : List ℕ) → partners_of a b pairs ≡ partners f g → Matched a b pairs (pair_count pairs) f g
    are_matched f g e = subst PartnersKnown e partners_known

    pub clash_twice : partners_of a b pairs ≡ clash → PairedTwice a b pairs (pair_count pairs)
    clash_twice e = subst PartnersKnown e partners_known

    -- and the other way round
    pub twice_clash : PairedTwice a b pairs (pair_count pairs) → partners_of a b pairs ≡ clash
    twice_clash t = by_result (partners_of a b pairs) refl
      where
        by_result : (p : Partners) → partners_of a b pairs ≡ p → partners_of a b pairs ≡ clash
        by_result clash e = e
        by_result (partners f g) e = absurd (not_twice a b pairs (pair_count pairs) f g (are_matched f g e) t)

    pub once_partners : (PairedTwice a b pairs (pair_count pairs) → ⊥) → (f : List ℕ) × (g : List ℕ) × (partners_of a b pairs ≡ partners f g)
    once_partners n = by_result (partners_of a b pairs) refl
      where
        by_result : (p : Partners) → partners_of a b pairs ≡ p → (f : List ℕ) × (g : List ℕ) × (partners_of a b pairs ≡ partners f g)
        by_result clash e = absurd (n (clash_twice e))
        by_result (partners f g) e = (f, g, e)
