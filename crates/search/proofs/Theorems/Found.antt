-- Found: what find finds between well formed models of one signature is sound, keeps types and honours every pair. Assumes nothing.
use Prim.Native.Nat.{ℕ, ◌≤◌}
use mathlib.Core.Path.{◌≡◌, refl, sym, ◌∙◌, ap}
use mathlib.Core.Logic.{◌⊎◌, inl, inr}
use mathlib.Core.Bool.{true, false}
use mathlib.Core.List.{List}
use native.Mathlib.Omega.{arith}
use lib.ListN.{length}
use Rattle.lists.proofs.Laws.Tests.{split}
use Rattle.stored.specs.Model.{Model}
use Rattle.stored.specs.Signature.{Signature, signature, same_signature}
use Rattle.stored.proofs.Laws.Signature.{same_signature_lem, signature_types, signature_length}
use Rattle.stored.proofs.Laws.WellFormed.{WellFormed}
use Rattle.rows.proofs.Theorems.Among.{entry_of}
use Rattle.rounds.proofs.Theorems.Alive.{Agrees}
use Rattle.search.specs.Partners.{Partners, partners, clash, partners_of}
use Rattle.search.specs.Machine.{Ended, found, none}
use Rattle.search.specs.Answer.{ended}
use Rattle.search.specs.Find.{round_cost, alike, searched, find_among}
use Rattle.search.proofs.Theorems.Sound.{Sound, searched_sound}
use Rattle.search.proofs.Theorems.Finer.{found_agrees}
use Rattle.search.proofs.Theorems.Partners.{AllGood, are_matched}
use Rattle.search.proofs.Theorems.Start.{KeepsTypes, Honours, Wanted, first_sides, first_typed, first_honours}
use Rattle.search.proofs.Theorems.Asked.{among_ended, searched_clash, searched_unlike, searched_alike}

-- models of one signature have as many types and as many relations
module _ (a b : Model) (one_signature : same_signature (signature a) (signature b) ≡ true) where
  pub same_types : length a.sizes ≡ length b.sizes
  same_types = sym (signature_types a) ∙ ap (λ (s : Signature). s.types) (same_signature_lem (signature a) (signature b) one_signature) ∙ signature_types b

  pub same_relations : length a.relations ≡ length b.relations
  same_relations =
      sym (signature_length a) ∙ ap (λ (s : Signature). length s.columns) (same_signature_lem (signature a) (signature b) one_signature) ∙ signature_length b

  relations_fit : length b.relations ≤ length a.relations
  relations_fit = omega (arith, same_relations)

none_not_found : {X : Type 0} (e : Ended) (u v : ℕ) (g : List ℕ) → e ≡ none v → e ≡ found u g → X
none_not_found e u v g p q = let z : ◌≡◌ {A = ℕ} 0 1 = cc in absurd (omega arith)

module _ (a b : Model) (one_signature : same_signature (signature a) (signature b) ≡ true) (budget u : ℕ) (g : List ℕ) where
  -- what a search with partners finds agrees with the first colours
  pub searched_agrees : (p q : List ℕ) → searched a b budget (partners p q) ≡ found u g → Agrees a (entry_of g) (first_sides a b p q)
  searched_agrees p q e = by_likeness (split (alike a b))
    where
      by_likeness : (alike a b ≡ true) ⊎ (alike a b ≡ false) → Agrees a (entry_of g) (first_sides a b p q)
      by_likeness (inl t) =
          found_agrees a b (first_sides a b p q) (relations_fit a b one_signature) round_cost budget budget 0 u g (sym (searched_alike a b budget p q t) ∙ e)
      by_likeness (inr t) = none_not_found (searched a b budget (partners p q)) u 0 g (searched_unlike a b budget p q t) e

  module _ (wa : WellFormed a) (wb : WellFormed b) (pairs : List ℕ) where
    abbrev Right : Type 0
    Right = Sound a b g × KeepsTypes a b (entry_of g) × Honours a b pairs (entry_of g)

    pub searched_right : AllGood a b pairs → searched a b budget (partners_of a b pairs) ≡ found u g → Sound a b g × KeepsTypes a b (entry_of g) × Honours a b pairs (entry_of g)
    searched_right good e = by_partners (partners_of a b pairs) refl
      where
        sound : Sound a b g
        sound = searched_sound a b (relations_fit a b one_signature) budget (partners_of a b pairs) u g e

        by_partners : (o : Partners) → partners_of a b pairs ≡ o → Right
        by_partners clash q = none_not_found (searched a b budget (partners_of a b pairs)) u 0 g (ap (searched a b budget) q ∙ searched_clash a b budget) e
        by_partners (partners p r) q =
            let matched = are_matched a b wa wb pairs good p r q in
            let agrees = searched_agrees p r (ap (searched a b budget) (sym q) ∙ e) in (
              sound,
              first_typed a b wa wb pairs good p r matched (same_types a b one_signature) (entry_of g) sound.carries.to_rep agrees,
              first_honours a b wa wb pairs good p r matched (same_types a b one_signature) (entry_of g) sound.carries.to_rep agrees,
            )

    pub found_right : find_among a b pairs budget ≡ ended (found u g) → Sound a b g × KeepsTypes a b (entry_of g) × Honours a b pairs (entry_of g)
    found_right e = let r = among_ended a b pairs budget (found u g) e in searched_right r.0 r.1

    -- so it is what find looks for
    pub found_wanted : find_among a b pairs budget ≡ ended (found u g) → Wanted a b pairs (entry_of g)
    found_wanted e = let r = found_right e in record { carries = r.0.carries; typed = r.1; honours = r.2 }
