-- Every call of the search is steady in its budget: what is decided or refused is the same under every larger budget, exhausted is answered with exactly the budget, and every budget
-- below the units that a decided answer used is exhausted. Assumes nothing.
use Prim.Native.Nat.{ℕ, ◌<◌, ◌≤◌, ◌%◌}
use mathlib.Core.Path.{◌≡◌, refl, sym, ◌∙◌, ap, subst}
use mathlib.Core.Logic.{◌⊎◌, inl, inr}
use mathlib.Core.Bool.{Bool, true, false, ◌&&◌, ◌||◌}
use mathlib.Core.List.{List}
use native.Mathlib.Omega.{arith}
use lib.ListN.{length}
use lib.Dec.{eqb, ltb}
use Rattle.std.proofs.Common.{Result, Ok, Err}
use Rattle.lists.proofs.Laws.Tests.{split}
use Rattle.stored.specs.declared.refusal.Refusal.{Refusal}
use Rattle.stored.specs.declared.refusal.Refusal.TheVariants.{NoRoom, NotCanonical, SignaturesDiffer, OddPairs, NotAMap, Malformed}
use Rattle.stored.specs.Model.{Model, size}
use Rattle.stored.specs.Parse.{Parsed, model, fault, parse}
use Rattle.stored.specs.Canonical.{canonical}
use Rattle.stored.specs.Signature.{signature, same_signature}
use Rattle.rows.specs.Pairs.{pair_count}
use Rattle.rows.specs.Maps.{is_map}
use Rattle.rows.specs.Files.{with_model}
use Rattle.rows.proofs.Laws.Files.{with_model_lem, with_model_fault}
use Rattle.rounds.specs.Round.{reps}
use Rattle.search.specs.Partners.{pairs_from, Partners, partners, clash, partners_of}
use Rattle.search.specs.Machine.{State, Ended, found, none, exhausted}
use Rattle.search.specs.Answer.{Outcome, ended, refused, work_room}
use Rattle.search.specs.Find.{alike, start_from, searched, find_paired, find_among, find_models, find_files, pairs_under, under_models, under_files}
use Rattle.search.proofs.Theorems.Stays.{Decided, units_of, run_of, budget_stays, exhausted_exactly, below_exhausted}

-- decided or refused
abbrev pub Settled : Outcome → Type 0
Settled (ended e) = Decided e
Settled (refused r) = Unit {0}

pub record Steady (call : ℕ → Outcome) : Type 0 where
  pub stays : (budget larger : ℕ) → budget ≤ larger → Settled (call budget) → call larger ≡ call budget
  pub exactly : (budget u : ℕ) → call budget ≡ ended (exhausted u) → u ≡ budget
  pub below : (budget : ℕ) (e : Ended) → call budget ≡ ended e → Decided e → (smaller : ℕ) → smaller < units_of e → call smaller ≡ ended (exhausted smaller)

-- what a steady call gives, answer by answer
module _ (call : ℕ → Outcome) (steady : Steady call) (budget larger : ℕ) (h : budget ≤ larger) where
  pub found_kept : (u : ℕ) (f : List ℕ) → call budget ≡ ended (found u f) → call larger ≡ ended (found u f)
  found_kept u f e = steady.stays budget larger h (rw e tt) ∙ e

  pub none_kept : (u : ℕ) → call budget ≡ ended (none u) → call larger ≡ ended (none u)
  none_kept u e = steady.stays budget larger h (rw e tt) ∙ e

  pub refusal_kept : (r : Refusal) → call budget ≡ refused r → call larger ≡ refused r
  refusal_kept r e = steady.stays budget larger h (rw e tt) ∙ e

-- a call that equals a steady one is steady
same_steady : (call other : ℕ → Outcome) → ((budget : ℕ) → call budget ≡ other budget) → Steady other → Steady call
same_steady call other same steady = record {
  stays = λ m n h k. same n ∙ steady.stays m n h (subst Settled (same m) k) ∙ sym (same m);
  exactly = λ m u e. steady.exactly m u (sym (same m) ∙ e);
  below = λ m x e d n l. same n ∙ steady.below m x (sym (same m) ∙ e) d n l;
}

-- a refusal is steady, and so is none with 0 units
refused_steady : (r : Refusal) → Steady (λ (budget : ℕ). refused r)
refused_steady r = record {
  stays = λ m n h k. refl;
  exactly = λ m u e. let z : ◌≡◌ {A = ℕ} 0 1 = cc in absurd (omega arith);
  below = λ m x e d n l. let z : ◌≡◌ {A = ℕ} 0 1 = cc in absurd (omega arith);
}

none_steady : Steady (λ (budget : ℕ). ended (none 0))
none_steady = record {
  stays = λ m n h k. refl;
  exactly = λ m u e. let z : ◌≡◌ {A = ℕ} 0 1 = cc in absurd (omega arith);
  below = λ m x e d n l. let z : none 0 ≡ x = cc in absurd (omega (arith, ap units_of z));
}

-- a run is steady
module _ (a b : Model) (s : State) where
  run_below : (budget : ℕ) (e : Ended) → ended (run_of 1 a b s budget) ≡ ended e → Decided e → (smaller : ℕ) → smaller < units_of e → run_of 1 a b s smaller ≡ exhausted smaller
  run_below budget e q d smaller l =
      let z : run_of 1 a b s budget ≡ e = cc in
      below_exhausted a b s budget smaller (rw z d) (rw z l)

  pub run_steady : Steady (λ (budget : ℕ). ended (run_of 1 a b s budget))
  run_steady = record {
    stays = λ m n h k. ap ended (budget_stays 1 a b s m n h k);
    exactly = λ m u e. let z : run_of 1 a b s m ≡ exhausted u = cc in exhausted_exactly a b s m u z;
    below = λ m x e d n l. ap ended (run_below m x e d n l);
  }

module _ (a b : Model) where
  pub searched_steady : (p : Partners) → Steady (λ (budget : ℕ). ended (searched a b budget p))
  unfolding searched
  searched_steady clash = none_steady
  searched_steady (partners f g) = by_likeness (split (alike a b))
    where
      by_likeness : (alike a b ≡ true) ⊎ (alike a b ≡ false) → Steady (λ (budget : ℕ). ended (searched a b budget (partners f g)))
      by_likeness (inl e) = same_steady _ _ (λ (budget : ℕ). rw (e, searched)) (run_steady a b (start_from a b f g))
      by_likeness (inr e) = same_steady _ _ (λ (budget : ℕ). rw (e, searched)) none_steady

  pub among_steady : (pairs : List ℕ) → Steady (find_among a b pairs)
  unfolding find_among find_paired
  among_steady pairs = by_pairs (pairs_from (pair_count pairs) a b pairs 0) refl
    where
      by_pairs : (p : Result (Unit {0}) Refusal) → pairs_from (pair_count pairs) a b pairs 0 ≡ p → Steady (find_among a b pairs)
      by_pairs (Err r) e = same_steady _ _ (λ (budget : ℕ). rw (e, find_among, find_paired)) (refused_steady r)
      by_pairs (Ok u) e = same_steady _ _ (λ (budget : ℕ). rw (e, find_among, find_paired)) (searched_steady (partners_of a b pairs))

  module _ (pairs : List ℕ) (room work : ℕ) where
    abbrev Models : ℕ → Outcome
    Models budget = find_models pairs budget room work a b

    pub models_steady : Steady (λ (budget : ℕ). find_models pairs budget room work a b)
    unfolding find_models
    models_steady = by_room (split (ltb room (size a) || ltb work work_room))
      where
        by_room : (ltb room (size a) || ltb work work_room ≡ true) ⊎ (ltb room (size a) || ltb work work_room ≡ false) → Steady Models
        by_room (inl e) = same_steady _ _ (λ (budget : ℕ). rw (e, find_models)) (refused_steady NoRoom)
        by_room (inr e) = by_left (split (canonical a))
          where
            by_left : (canonical a ≡ true) ⊎ (canonical a ≡ false) → Steady Models
            by_left (inr p) = same_steady _ _ (λ (budget : ℕ). rw (e, find_models, p)) (refused_steady (NotCanonical 1))
            by_left (inl p) = by_right (split (canonical b))
              where
                by_odd : canonical b ≡ true → same_signature (signature a) (signature b) ≡ true → (eqb (length pairs % 2) 0 ≡ true) ⊎ (eqb (length pairs % 2) 0 ≡ false) → Steady Models
                by_odd q s (inr o) = same_steady _ _ (λ (budget : ℕ). rw (e, find_models, p, q, s, o)) (refused_steady OddPairs)
                by_odd q s (inl o) = same_steady _ _ (λ (budget : ℕ). rw (e, find_models, p, q, s, o)) (among_steady pairs)

                by_signature : canonical b ≡ true → (same_signature (signature a) (signature b) ≡ true) ⊎ (same_signature (signature a) (signature b) ≡ false) → Steady Models
                by_signature q (inr s) = same_steady _ _ (λ (budget : ℕ). rw (e, find_models, p, q, s)) (refused_steady SignaturesDiffer)
                by_signature q (inl s) = by_odd q s (split (eqb (length pairs % 2) 0))

                by_right : (canonical b ≡ true) ⊎ (canonical b ≡ false) → Steady Models
                by_right (inr q) = same_steady _ _ (λ (budget : ℕ). rw (e, find_models, p, q)) (refused_steady (NotCanonical 2))
                by_right (inl q) = by_signature q (split (same_signature (signature a) (signature b)))

-- a call on a file is steady if it is on every model
file_steady : (k : ℕ) (go : ℕ → Model → Outcome) (s : List ℕ) → ((m : Model) → Steady (λ (budget : ℕ). go budget m)) → Steady (λ (budget : ℕ). with_model k refused (go budget) s)
file_steady k go s each = by_parse (parse s) refl
  where
    by_parse : (p : Parsed) → parse s ≡ p → Steady (λ (budget : ℕ). with_model k refused (go budget) s)
    by_parse (model m) e = same_steady _ _ (λ (budget : ℕ). with_model_lem k refused (go budget) s m e) (each m)
    by_parse (fault f) e = same_steady _ _ (λ (budget : ℕ). with_model_fault k refused (go budget) s f e) (refused_steady (Malformed k f))

pub files_steady : (s t pairs : List ℕ) (room work : ℕ) → Steady (λ (budget : ℕ). find_files s t pairs budget room work)
unfolding find_files
files_steady s t pairs room work =
    file_steady 1 (λ (budget : ℕ) (a : Model). with_model 2 refused (λ (b : Model). find_models pairs budget room work a b) t) s
    (λ (a : Model). file_steady 2 (λ (budget : ℕ) (b : Model). find_models pairs budget room work a b) t (λ (b : Model). models_steady a b pairs room work))

module _ (o a b : Model) (f g : List ℕ) (room work : ℕ) where
  abbrev Signatures : Bool
  Signatures = same_signature (signature o) (signature a) && same_signature (signature o) (signature b)

  abbrev Under : ℕ → Outcome
  Under budget = under_models f g budget room work o a b

  pub under_models_steady : Steady (λ (budget : ℕ). under_models f g budget room work o a b)
  unfolding under_models
  under_models_steady = by_room (split (ltb room (size a) || ltb work work_room))
    where
      by_room : (ltb room (size a) || ltb work work_room ≡ true) ⊎ (ltb room (size a) || ltb work work_room ≡ false) → Steady Under
      by_room (inl e) = same_steady _ _ (λ (budget : ℕ). rw (e, under_models)) (refused_steady NoRoom)
      by_room (inr e) = by_left (split (canonical a))
        where
          by_maps : canonical a ≡ true → canonical b ≡ true → Signatures ≡ true → (is_map o a f ≡ true) ⊎ (is_map o a f ≡ false) → (is_map o b g ≡ true) ⊎ (is_map o b g ≡ false) → Steady Under
          by_maps p q s (inr x) y = same_steady _ _ (λ (budget : ℕ). rw (e, under_models, p, q, s, x)) (refused_steady (NotAMap 1))
          by_maps p q s (inl x) (inr y) = same_steady _ _ (λ (budget : ℕ). rw (e, under_models, p, q, s, x, y)) (refused_steady (NotAMap 2))
          by_maps p q s (inl x) (inl y) = same_steady _ _ (λ (budget : ℕ). rw (e, under_models, p, q, s, x, y)) (among_steady a b (pairs_under f g (reps o)))

          by_signature : canonical a ≡ true → canonical b ≡ true → (Signatures ≡ true) ⊎ (Signatures ≡ false) → Steady Under
          by_signature p q (inr s) = same_steady _ _ (λ (budget : ℕ). rw (e, under_models, p, q, s)) (refused_steady SignaturesDiffer)
          by_signature p q (inl s) = by_maps p q s (split (is_map o a f)) (split (is_map o b g))

          by_right : canonical a ≡ true → (canonical b ≡ true) ⊎ (canonical b ≡ false) → Steady Under
          by_right p (inr q) = same_steady _ _ (λ (budget : ℕ). rw (e, under_models, p, q)) (refused_steady (NotCanonical 3))
          by_right p (inl q) = by_signature p q (split Signatures)

          by_left : (canonical a ≡ true) ⊎ (canonical a ≡ false) → Steady Under
          by_left (inr p) = same_steady _ _ (λ (budget : ℕ). rw (e, under_models, p)) (refused_steady (NotCanonical 2))
          by_left (inl p) = by_right p (split (canonical b))

pub under_files_steady : (r s t f g : List ℕ) (room work : ℕ) → Steady (λ (budget : ℕ). under_files r s t f g budget room work)
unfolding under_files
under_files_steady r s t f g room work =
    file_steady 1 (λ (budget : ℕ) (o : Model). with_model 2 refused (λ (a : Model). with_model 3 refused (λ (b : Model). under_models f g budget room work o a b) t) s) r
    (λ (o : Model). file_steady 2 (λ (budget : ℕ) (a : Model). with_model 3 refused (λ (b : Model). under_models f g budget room work o a b) t) s
    (λ (a : Model). file_steady 3 (λ (budget : ℕ) (b : Model). under_models f g budget room work o a b) t (λ (b : Model). under_models_steady o a b f g room work)))
