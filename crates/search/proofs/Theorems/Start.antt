-- Start: with the partners that good pairs give, a function that takes the left representatives one to one into the right ones agrees with the first colours exactly if it keeps types and
-- honours the pairs. Assumes nothing; that both models have as many types is a hypothesis.
use Prim.Native.Nat.{ℕ, ◌+◌, ◌<◌}
use mathlib.Core.Path.{◌≡◌, refl, sym, ◌∙◌, ap, subst}
use mathlib.Core.Logic.{◌⊎◌, inl, inr, by_cases}
use mathlib.Core.List.{List, Memᴰ}
use native.Mathlib.Omega.{arith}
use native.Mathlib.Decide.{ℕ_discrete}
use lib.ListN.{length, get_or}
use Rattle.lists.specs.Every.{how_many}
use Rattle.lists.specs.Numbers.{up_from}
use Rattle.stored.specs.Model.{Model, type_of}
use Rattle.stored.proofs.Laws.WellFormed.{WellFormed}
use Rattle.stored.proofs.Laws.Representatives.{root_rep}
use Rattle.rows.specs.Pairs.{pair_count, left_at, right_at}
use Rattle.rows.proofs.Theorems.Pairs.{named, meant}
use Rattle.rounds.specs.Colours.{colour_at, paired, left_colours, right_colours}
use Rattle.rounds.specs.Round.{reps, Sides}
use Rattle.rounds.proofs.Theorems.Keys.{reps_below_lem, rep_reps}
use Rattle.rounds.proofs.Theorems.Alive.{Carries, Agrees}
use Rattle.rounds.proofs.Theorems.Carrying.{CarriesSets}
use Rattle.rounds.proofs.Theorems.Starting.{is_paired, left_free, left_paired, right_free, right_paired}
use Rattle.lists.proofs.Laws.Below.{below_tells}
use Rattle.search.proofs.Laws.Types.{type_below}
use Rattle.search.proofs.Theorems.Partners.{AllGood, Matched, right_left, meant_is_known}

-- the image of every representative is of its type
abbrev pub KeepsTypes : Model → Model → (ℕ → ℕ) → Type 0
KeepsTypes a b h = (x : ℕ) → Memᴰ x (reps a) → type_of b (h x) ≡ type_of a x

-- the class that each pair names goes to the class that it means
abbrev pub Honours : Model → Model → List ℕ → (ℕ → ℕ) → Type 0
Honours a b pairs h = (j : ℕ) → j < pair_count pairs → h (named a pairs j) ≡ meant b pairs j

-- what find looks for: a function that carries the left model onto the right one, keeps types and honours the pairs
pub record Wanted (a b : Model) (pairs : List ℕ) (h : ℕ → ℕ) : Type 0 where
  pub carries : CarriesSets a b h
  pub typed : KeepsTypes a b h
  pub honours : Honours a b pairs h

-- the first colours
abbrev pub first_sides : Model → Model → List ℕ → List ℕ → Sides
first_sides a b f g = record { left = left_colours a f; right = right_colours b (left_colours a f) g }

module _ (a b : Model) (wa : WellFormed a) (wb : WellFormed b) (pairs : List ℕ) (good : AllGood a b pairs) where
  pub named_rep : (j : ℕ) → j < pair_count pairs → Memᴰ (named a pairs j) (reps a)
  named_rep j l = rep_reps a (named a pairs j) (wa.root_known (left_at pairs j) (good j l).left_known) (root_rep a wa (left_at pairs j) (good j l).left_known)

  pub meant_rep : (j : ℕ) → j < pair_count pairs → Memᴰ (meant b pairs j) (reps b)
  meant_rep j l = rep_reps b (meant b pairs j) (wb.root_known (right_at pairs j) (good j l).right_known) (root_rep b wb (right_at pairs j) (good j l).right_known)

  -- the classes of a pair are of one type
  pub pair_typed : (j : ℕ) → j < pair_count pairs → type_of b (meant b pairs j) ≡ type_of a (named a pairs j)
  pair_typed j l = wb.root_type (right_at pairs j) (good j l).right_known ∙ sym (good j l).one_type ∙ sym (wa.root_type (left_at pairs j) (good j l).left_known)

  module _ (f g : List ℕ) (matched : Matched a b pairs (pair_count pairs) f g) where
    -- a function that keeps types and honours the pairs agrees with the first colours
    module _ (h : ℕ → ℕ) (to_rep : (x : ℕ) → Memᴰ x (reps a) → Memᴰ (h x) (reps b))
        (keeps_apart : (x y : ℕ) → Memᴰ x (reps a) → Memᴰ y (reps a) → h x ≡ h y → x ≡ y) (typed : KeepsTypes a b h) (honours : Honours a b pairs h) where
      image_free : (x : ℕ) → Memᴰ x (reps a) → get_or f x 255 ≡ 255 → get_or g (h x) 255 ≡ 255
      image_free x m e = by_cases (ℕ_discrete (get_or g (h x) 255) 255) (λ z. z) taken
        where
          taken : (get_or g (h x) 255 ≡ 255 → ⊥) → get_or g (h x) 255 ≡ 255
          taken n =
              let o = matched.right_from_lem (h x) n in
              let s : x ≡ named a pairs o.0 = keeps_apart x (named a pairs o.0) m (named_rep o.0 o.1) (o.2 ∙ sym (honours o.0 o.1)) in
              absurd (meant_is_known a b wa wb pairs o.0 (good o.0 o.1) (sym (matched.to_meant o.0 o.1) ∙ ap (λ (v : ℕ). get_or f v 255) (sym s) ∙ e))

      image_paired : (x : ℕ) → (get_or f x 255 ≡ 255 → ⊥) → get_or g (h x) 255 ≡ x
      image_paired x n =
          let o = matched.left_from_lem x n in
          let s : h x ≡ meant b pairs o.0 = ap h o.2 ∙ honours o.0 o.1 in
          ap (λ (v : ℕ). get_or g v 255) s ∙ matched.to_named o.0 o.1 ∙ sym o.2

      pub agrees_first : Agrees a h (first_sides a b f g)
      agrees_first x m = by_cases (ℕ_discrete (get_or f x 255) 255) free given
        where
          free : get_or f x 255 ≡ 255 → colour_at (right_colours b (left_colours a f) g) (h x) ≡ colour_at (left_colours a f) x
          free e = right_free b (left_colours a f) g (h x) (to_rep x m) (image_free x m e) ∙ typed x m ∙ sym (left_free a f x m e)

          given : (get_or f x 255 ≡ 255 → ⊥) → colour_at (right_colours b (left_colours a f) g) (h x) ≡ colour_at (left_colours a f) x
          given n =
              let e = image_paired x n in
              let k : get_or g (h x) 255 ≡ 255 → ⊥ = λ z. omega (arith, reps_below_lem a x m, wa.few_elements, sym e ∙ z) in
              right_paired b (left_colours a f) g (h x) (to_rep x m) k ∙ ap (colour_at (left_colours a f)) e

    -- a left and a right representative of one first colour: neither is paired and they are of one type, or they are a pair
    module _ (same_types : length a.sizes ≡ length b.sizes) where
      abbrev Alike : ℕ → ℕ → Type 0
      Alike x y = ((get_or f x 255 ≡ 255) × (type_of b y ≡ type_of a x)) ⊎ ((get_or f x 255 ≡ y) × (get_or f x 255 ≡ 255 → ⊥))

      module _ (x y : ℕ) (m : Memᴰ x (reps a)) (n : Memᴰ y (reps b)) (e : colour_at (right_colours b (left_colours a f) g) y ≡ colour_at (left_colours a f) x) where
        left_type : type_of a x < length a.sizes
        left_type = type_below a x (reps_below_lem a x m)

        right_type : type_of b y < length b.sizes
        right_type = type_below b y (reps_below_lem b y n)

        -- the left partner of y, where there is one
        module _ (k : get_or g y 255 ≡ 255 → ⊥) where
          partner_rep : Memᴰ (get_or g y 255) (reps a)
          partner_rep =
              let o = matched.right_from_lem y k in
              subst (λ (v : ℕ). Memᴰ v (reps a)) (sym (ap (λ (v : ℕ). get_or g v 255) o.2 ∙ matched.to_named o.0 o.1)) (named_rep o.0 o.1)

          partner_back : get_or f (get_or g y 255) 255 ≡ y
          partner_back = right_left a b pairs (pair_count pairs) f g matched (get_or g y 255) y k refl

          partner_paired : get_or f (get_or g y 255) 255 ≡ 255 → ⊥
          partner_paired z = omega (arith, reps_below_lem b y n, wb.few_elements, sym partner_back ∙ z)

          partner_colour : colour_at (left_colours a f) x ≡ length a.sizes + how_many (paired f) (up_from 0 (get_or g y 255))
          partner_colour = sym e ∙ right_paired b (left_colours a f) g y n k ∙ left_paired a f (get_or g y 255) partner_rep partner_paired

        same_colour : Alike x y
        same_colour = by_cases (ℕ_discrete (get_or f x 255) 255) left_is_free left_is_paired
          where
            left_is_free : get_or f x 255 ≡ 255 → Alike x y
            left_is_free p = by_cases (ℕ_discrete (get_or g y 255) 255)
                (λ q. inl (p, sym (right_free b (left_colours a f) g y n q) ∙ e ∙ left_free a f x m p))
                (λ k. absurd (omega (arith, left_type, sym (left_free a f x m p) ∙ partner_colour k)))

            left_is_paired : (get_or f x 255 ≡ 255 → ⊥) → Alike x y
            left_is_paired p = by_cases (ℕ_discrete (get_or g y 255) 255)
                (λ q. absurd (omega (arith, right_type, same_types, sym (right_free b (left_colours a f) g y n q) ∙ e ∙ left_paired a f x m p)))
                (λ k.
                let s = sym (left_paired a f x m p) ∙ partner_colour k in
                let t : x ≡ get_or g y 255 = below_tells (paired f) x (get_or g y 255) (is_paired f x p) (is_paired f (get_or g y 255) (partner_paired k)) (omega (arith, s)) in
                inr (ap (λ (v : ℕ). get_or f v 255) t ∙ partner_back k, p))

      -- a function that agrees with the first colours keeps types and honours the pairs
      module _ (h : ℕ → ℕ) (to_rep : (x : ℕ) → Memᴰ x (reps a) → Memᴰ (h x) (reps b)) (agrees : Agrees a h (first_sides a b f g)) where
        pub first_typed : KeepsTypes a b h
        first_typed x m = by_colour (same_colour x (h x) m (to_rep x m) (agrees x m))
          where
            by_colour : Alike x (h x) → type_of b (h x) ≡ type_of a x
            by_colour (inl p) = p.1
            by_colour (inr p) =
                let o = matched.left_from_lem x p.1 in
                let s : h x ≡ meant b pairs o.0 = sym p.0 ∙ ap (λ (v : ℕ). get_or f v 255) o.2 ∙ matched.to_meant o.0 o.1 in
                ap (type_of b) s ∙ pair_typed o.0 o.1 ∙ ap (type_of a) (sym o.2)

        pub first_honours : Honours a b pairs h
        first_honours j l = by_colour (same_colour (named a pairs j) (h (named a pairs j)) (named_rep j l) (to_rep (named a pairs j) (named_rep j l)) (agrees (named a pairs j) (named_rep j l)))
          where
            by_colour : Alike (named a pairs j) (h (named a pairs j)) → h (named a pairs j) ≡ meant b pairs j
            by_colour (inl p) = absurd (meant_is_known a b wa wb pairs j (good j l) (sym (matched.to_meant j l) ∙ p.0))
            by_colour (inr p) = sym p.0 ∙ matched.to_meant j l

    -- both for a function that carries
    pub carries_agrees : (h : ℕ → ℕ) → Carries a b h → KeepsTypes a b h → Honours a b pairs h → Agrees a h (first_sides a b f g)
    carries_agrees h c = agrees_first h c.to_rep c.keeps_apart

    pub agrees_carries : length a.sizes ≡ length b.sizes → (h : ℕ → ℕ) → Carries a b h → Agrees a h (first_sides a b f g) → KeepsTypes a b h × Honours a b pairs h
    agrees_carries t h c agrees = (first_typed t h c.to_rep agrees, first_honours t h c.to_rep agrees)
