-- What the calls answer with 0 is a map, as 19 would judge it; inverse answers 0 exactly for the maps that have one, and then each map undoes the
-- other. Assumes nothing.
use Prim.Native.Nat.{ℕ, ◌≤◌}
use mathlib.Core.Path.{◌≡◌, refl, sym, ◌∙◌, ap, subst}
use mathlib.Core.Logic.{◌⊎◌, inl, inr}
use mathlib.Core.Bool.{true, false, ◌&&◌}
use mathlib.Core.List.{List}
use lib.ListN.{length}
use lib.Dec.{ltb}
use Rattle.lists.proofs.Laws.Tests.{split, and_left}
use Rattle.stored.specs.Model.{Model, size}
use Rattle.stored.specs.Signature.{Signature, signature, same_signature}
use Rattle.stored.proofs.Laws.WellFormed.{WellFormed}
use Rattle.stored.proofs.Laws.Signature.{same_signature_lem, signature_length}
use Rattle.stored.proofs.Laws.Representatives.{entry_known}
use Rattle.rows.specs.Maps.{is_map, identity_of, then_map, invertible, inverse_of}
use Rattle.rows.specs.Answer.{Outcome, accepted, none, refused}
use Rattle.rows.specs.Identity.{identity_model}
use Rattle.rows.specs.Compose.{compose_maps, compose_models}
use Rattle.rows.specs.Inverse.{inverse_models}
use Rattle.rows.proofs.Laws.Inverse.{inverse_accepted, inverse_none as without-inverse}
use Rattle.rows.proofs.Theorems.Maps.{map_facts, facts_map, identity_map, then_map_lem}
use Rattle.rows.proofs.Theorems.Inverse.{inverse_map, then_inverse, inverse_then}

-- models of one signature have as many relations
pub same_relations : (a b : Model) → same_signature (signature a) (signature b) ≡ true → length a.relations ≡ length b.relations
same_relations a b h = sym (signature_length a) ∙ ap (λ (s : Signature). length s.columns) (same_signature_lem (signature a) (signature b) h) ∙ signature_length b

-- identity
module _ (m : Model) (w : WellFormed m) (room : ℕ) where
  abbrev IdentityKnown : Outcome → Type 0
  IdentityKnown (accepted g) = (g ≡ identity_of m) × (is_map m m g ≡ true)
  IdentityKnown none = ⊥
  IdentityKnown (refused r) = Unit {0}

  identity_known : IdentityKnown (identity_model room m)
  unfolding identity_model
  identity_known = go (split (ltb room (size m)))
    where
      go : (ltb room (size m) ≡ true) ⊎ (ltb room (size m) ≡ false) → IdentityKnown (identity_model room m)
      go (inl e) = rw (e, identity_model) tt
      go (inr e) = rw (e, identity_model) (refl, facts_map m m (identity_of m) (identity_map m w))

  pub identity_answers : (g : List ℕ) → identity_model room m ≡ accepted g → (g ≡ identity_of m) × (is_map m m g ≡ true)
  identity_answers g e = subst IdentityKnown e identity_known

-- compose
module _ (a b c : Model) (wa : WellFormed a) (wb : WellFormed b) (wc : WellFormed c) (f g : List ℕ) (room : ℕ) where
  abbrev ComposeKnown : Outcome → Type 0
  ComposeKnown (accepted h) = (h ≡ then_map f g) × (is_map a b f ≡ true) × (is_map b c g ≡ true) × (is_map a c h ≡ true)
  ComposeKnown none = ⊥
  ComposeKnown (refused r) = Unit {0}

  compose_known : ComposeKnown (compose_models f g room a b c)
  unfolding compose_models compose_maps
  compose_known = by_room (split (ltb room (size a)))
    where
      by_second : same_signature (signature a) (signature b) ≡ true → is_map a b f ≡ true → (is_map b c g ≡ true) ⊎ (is_map b c g ≡ false) → ComposeKnown (compose_maps f g a b c)
      by_second s p (inr q) = rw (p, compose_maps, q) tt
      by_second s p (inl q) = rw (p, compose_maps, q) (refl, p, q, facts_map a c (then_map f g) (then_map_lem a b c wa wb wc f g (map_facts a b f p) (map_facts b c g q) (same_relations a b s)))

      by_first : same_signature (signature a) (signature b) ≡ true → (is_map a b f ≡ true) ⊎ (is_map a b f ≡ false) → ComposeKnown (compose_maps f g a b c)
      by_first s (inr p) = rw (p, compose_maps) tt
      by_first s (inl p) = by_second s p (split (is_map b c g))

      by_signature : ltb room (size a) ≡ false → (same_signature (signature a) (signature b) && same_signature (signature b) (signature c) ≡ true) ⊎ (same_signature (signature a) (signature b) && same_signature (signature b) (signature c) ≡ false) → ComposeKnown (compose_models f g room a b c)
      by_signature p (inr q) = rw (p, compose_models, q) tt
      by_signature p (inl q) = rw (p, compose_models, q) (by_first (and_left (same_signature (signature a) (signature b)) _ q) (split (is_map a b f)))

      by_room : (ltb room (size a) ≡ true) ⊎ (ltb room (size a) ≡ false) → ComposeKnown (compose_models f g room a b c)
      by_room (inl p) = rw (p, compose_models) tt
      by_room (inr p) = by_signature p (split (same_signature (signature a) (signature b) && same_signature (signature b) (signature c)))

  pub compose_answers : (h : List ℕ) → compose_models f g room a b c ≡ accepted h → (h ≡ then_map f g) × (is_map a b f ≡ true) × (is_map b c g ≡ true) × (is_map a c h ≡ true)
  compose_answers h e = subst ComposeKnown e compose_known

-- inverse
module _ (a b : Model) (wa : WellFormed a) (wb : WellFormed b) (f : List ℕ) (room : ℕ) where
  abbrev InverseKnown : Outcome → Type 0
  InverseKnown (accepted g) = (g ≡ inverse_of b f) × (is_map a b f ≡ true) × (invertible a b f ≡ true) × (is_map b a g ≡ true) × (then_map f g ≡ identity_of a) × (then_map g f ≡ identity_of b)
  InverseKnown none = (is_map a b f ≡ true) × (invertible a b f ≡ false)
  InverseKnown (refused r) = Unit {0}

  inverse_known : InverseKnown (inverse_models f room a b)
  unfolding inverse_models
  inverse_known = by_room (split (ltb room (size b)))
    where
      by_inverse : ltb room (size b) ≡ false → same_signature (signature a) (signature b) ≡ true → is_map a b f ≡ true → (invertible a b f ≡ true) ⊎ (invertible a b f ≡ false) → InverseKnown (inverse_models f room a b)
      by_inverse p s m (inr i) = rw (p, inverse_models, s, m, i) (m, i)
      by_inverse p s m (inl i) =
          let k = map_facts a b f m in
          let known = entry_known a wa in
          rw (p, inverse_models, s, m, i) (
            refl,
            m,
            i,
            facts_map b a (inverse_of b f) (inverse_map a b wa wb f k known i (same_relations a b s)),
            then_inverse a b wa wb f k known i,
            inverse_then a b wa wb f k known i,
          )

      by_map : ltb room (size b) ≡ false → same_signature (signature a) (signature b) ≡ true → (is_map a b f ≡ true) ⊎ (is_map a b f ≡ false) → InverseKnown (inverse_models f room a b)
      by_map p s (inr m) = rw (p, inverse_models, s, m) tt
      by_map p s (inl m) = by_inverse p s m (split (invertible a b f))

      by_signature : ltb room (size b) ≡ false → (same_signature (signature a) (signature b) ≡ true) ⊎ (same_signature (signature a) (signature b) ≡ false) → InverseKnown (inverse_models f room a b)
      by_signature p (inr s) = rw (p, inverse_models, s) tt
      by_signature p (inl s) = by_map p s (split (is_map a b f))

      by_room : (ltb room (size b) ≡ true) ⊎ (ltb room (size b) ≡ false) → InverseKnown (inverse_models f room a b)
      by_room (inl p) = rw (p, inverse_models) tt
      by_room (inr p) = by_signature p (split (same_signature (signature a) (signature b)))

  pub inverse_answers : (g : List ℕ) → inverse_models f room a b ≡ accepted g → InverseKnown (accepted g)
  inverse_answers g e = subst InverseKnown e inverse_known

  pub inverse_none : inverse_models f room a b ≡ none → (is_map a b f ≡ true) × (invertible a b f ≡ false)
  inverse_none e = subst InverseKnown e inverse_known

  -- with room, one signature and a map, 0 is answered exactly if the map has an inverse
  module _ (p : size b ≤ room) (s : same_signature (signature a) (signature b) ≡ true) (m : is_map a b f ≡ true) where
    pub inverse_exists : invertible a b f ≡ true → inverse_models f room a b ≡ accepted (inverse_of b f)
    inverse_exists i = inverse_accepted f room a b p s m i

    pub inverse_lacks : invertible a b f ≡ false → inverse_models f room a b ≡ none
    inverse_lacks i = without-inverse f room a b p s m i
