-- What several rooms need: a file holds one model; an isomorphism and pairs of known elements as they are stated here are what the theory of the search speaks of; the two bounds are one. Assumes
-- nothing.
use Prim.Native.Nat.{ℕ, zero, suc, ◌+◌, ◌*◌, max}
use mathlib.Core.Path.{◌≡◌, sym, ◌∙◌, ap, ap₂, subst}
use mathlib.Core.Bool.{true, false}
use mathlib.Core.List.{List}
use native.Mathlib.Omega.{arith}
use lib.ListN.{length, take}
use Rattle.lists.specs.Part.{over}
use Rattle.lists.proofs.Laws.Over.{over_front}
use Rattle.stored.specs.Model.{Model, size, is_rep}
use Rattle.stored.specs.Parse.{model, parse}
use Rattle.stored.proofs.Laws.WellFormed.{WellFormed}
use Rattle.rounds.proofs.Theorems.Keys.{reps_below_lem}
use Rattle.rounds.proofs.Theorems.Carrying.{CarriesSets, known_reps}
use Rattle.search.proofs.Theorems.Partners.{AllGood}
use Rattle.search.proofs.Theorems.Start.{KeepsTypes}
use Rattle.search.proofs.Theorems.Sound.{Sound}
use Rattle.search.proofs.Theorems.Ends.{Holds}
use Rattle.search.proofs.Theorems.Numbers.{nodes, search_bound, nodes_zero, nodes_one, nodes_more, search_bound_lem}
use Rattle.promises.specs.Isomorphism.{Isomorphism, image_by, map_in, Wrote}
use Rattle.promises.specs.Bound.{N, bound}
use Rattle.promises.specs.Asked.{KnownPairs}

-- a file holds one model
pub one_model : (s : List ℕ) (h : Holds s) (a : Model) → parse s ≡ model a → h.its_model ≡ a
one_model s h a e = let p = h.parsed in let z : h.its_model ≡ a = cc in z

module _ (s t : List ℕ) (h : Holds s) (k : Holds t) (P : Model → Model → Type 0) where
  -- so what holds of the models that a call read holds of every model that its files hold
  pub of_models : P h.its_model k.its_model → (a b : Model) → parse s ≡ model a → parse t ≡ model b → P a b
  of_models p a b e q = subst (P a) (one_model t k b q) (subst (λ (m : Model). P m k.its_model) (one_model s h a e) p)

module _ (a b : Model) (h : ℕ → ℕ) where
  pub is_isomorphism : CarriesSets a b h → KeepsTypes a b h → Isomorphism a b h
  is_isomorphism c typed = record {
    to_class = c.to_rep;
    keeps_apart = c.keeps_apart;
    onto = c.onto;
    keeps_types = typed;
    rows_into = c.rows_into;
    rows_onto = c.rows_onto;
  }

  pub carries_sets : Isomorphism a b h → CarriesSets a b h
  carries_sets i = record { to_rep = i.to_class; keeps_apart = i.keeps_apart; onto = i.onto; rows_into = i.rows_into; rows_onto = i.rows_onto }

  pub types_kept : Isomorphism a b h → KeepsTypes a b h
  types_kept i = i.keeps_types

-- a map that was written over the front of the output stands in it
pub map_in_lem : (a : Model) (g before after : List ℕ) → length g ≡ size a → after ≡ over g before → map_in a after ≡ g
map_in_lem a g before after l e = ap₂ take (sym l) e ∙ over_front g before

module _ (a b : Model) (wa : WellFormed a) (wb : WellFormed b) (g before after : List ℕ) where
  pub wrote_map : Sound a b g → KeepsTypes a b (image_by g) → after ≡ over g before → Wrote a b before after
  wrote_map sound typed e =
      let z = sym (map_in_lem a g before after sound.its_length e) in
      record {
        its_length = subst (λ (f : List ℕ). length f ≡ size a) z sound.its_length;
        rest_unchanged = subst (λ (f : List ℕ). after ≡ over f before) z e;
        isomorphism = subst (λ (f : List ℕ). Isomorphism a b (image_by f)) z (is_isomorphism a b (image_by g) sound.carries typed);
        at_alias = subst (λ (f : List ℕ). (x : ℕ) → is_rep a x ≡ false → image_by f x ≡ 255) z sound.at_alias;
        only_at_alias = subst (λ (f : List ℕ). (x : ℕ) → is_rep a x ≡ true → image_by f x ≡ 255 → ⊥) z (λ x r n.
            omega (arith, wb.few_elements, reps_below_lem b (image_by g x) (sound.carries.to_rep x (known_reps a wa x r)), n));
      }

-- pairs of known elements with like types are the good pairs of the search's theory
module _ (a b : Model) (pairs : List ℕ) where
  pub good_known : AllGood a b pairs → KnownPairs a b pairs
  good_known good j l = let p = good j l in (p.left_known, p.right_known, p.one_type)

  pub known_good : KnownPairs a b pairs → AllGood a b pairs
  known_good known j l = let p = known j l in record { left_known = p.0; right_known = p.1; one_type = p.2 }

-- N and the bound are those of the search's theory
pub N_nodes : (r : ℕ) → N r ≡ nodes r
unfolding N
N_nodes zero = sym nodes_zero
N_nodes (suc zero) = sym nodes_one
N_nodes (suc (suc r)) = ap (λ (z : ℕ). 1 + suc (suc r) * z) (N_nodes (suc r)) ∙ nodes_more r

pub bound_search : (r : ℕ) → bound r ≡ search_bound r
unfolding bound
bound_search r = ap (λ (z : ℕ). 2 * max r 1 * z) (N_nodes r) ∙ search_bound_lem r
