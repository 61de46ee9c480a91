-- Ends: where a call on files ends without a refusal, the files hold models, these are canonical and of one signature, and the call comes to find among its pairs; under a base both maps
-- are maps too. Assumes nothing.
use Prim.Native.Nat.{ℕ, ◌%◌}
use mathlib.Core.Path.{◌≡◌, refl, sym, ◌∙◌, subst}
use mathlib.Core.Logic.{◌⊎◌, inl, inr}
use mathlib.Core.Bool.{Bool, true, false, ◌&&◌, ◌||◌}
use mathlib.Core.List.{List}
use native.Mathlib.Omega.{arith}
use lib.Dec.{eqb, ltb}
use lib.ListN.{length}
use Rattle.lists.proofs.Laws.Tests.{split, and_left, and_right}
use Rattle.stored.specs.Model.{Model, size}
use Rattle.stored.specs.Canonical.{canonical}
use Rattle.stored.specs.Signature.{signature, same_signature}
use Rattle.stored.specs.Parse.{Parsed, model, fault, parse}
use Rattle.stored.proofs.Laws.Signature.{same_signature_lem, equal_signature}
use Rattle.stored.proofs.Laws.WellFormed.{WellFormed, well_formed}
use Rattle.rows.specs.Maps.{is_map}
use Rattle.rows.specs.Files.{with_model}
use Rattle.rows.proofs.Laws.Files.{with_model_lem, with_model_fault}
use Rattle.rounds.specs.Round.{reps}
use Rattle.search.specs.Machine.{Ended}
use Rattle.search.specs.Answer.{Outcome, ended, refused, work_room}
use Rattle.search.specs.Find.{find_among, find_models, find_files, pairs_under, under_models, under_files}

-- what holds of two models that are not refused
pub record Comparable (a b : Model) : Type 0 where
  pub left_canonical : canonical a ≡ true
  pub right_canonical : canonical b ≡ true
  pub one_signature : same_signature (signature a) (signature b) ≡ true

-- the model that a file holds
pub record Holds (s : List ℕ) : Type 0 where
  pub its_model : Model
  pub parsed : parse s ≡ model its_model

pub holds_formed : (s : List ℕ) (h : Holds s) → WellFormed h.its_model
holds_formed s h = well_formed s h.its_model h.parsed

-- a call on a file ends only where the file holds a model
module _ (k : ℕ) (go : Model → Outcome) (s : List ℕ) (e : Ended) where
  pub file_ended : with_model k refused go s ≡ ended e → (h : Holds s) × (go h.its_model ≡ ended e)
  file_ended q = by_parse (parse s) refl
    where
      by_parse : (p : Parsed) → parse s ≡ p → (h : Holds s) × (go h.its_model ≡ ended e)
      by_parse (model m) r = (record { its_model = m; parsed = r }, sym (with_model_lem k refused go s m r) ∙ q)
      by_parse (fault f) r = let w = with_model_fault k refused go s f r in let z : ◌≡◌ {A = ℕ} 0 1 = cc in absurd (omega arith)

module _ (a b : Model) (pairs : List ℕ) (budget room work : ℕ) where
  abbrev ModelsKnown : Outcome → Type 0
  ModelsKnown (ended e) = Comparable a b × (find_among a b pairs budget ≡ ended e)
  ModelsKnown (refused r) = Unit {0}

  among_known : Comparable a b → (o : Outcome) → find_among a b pairs budget ≡ o → ModelsKnown o
  among_known c (ended e) q = (c, q)
  among_known c (refused r) q = tt

  abbrev Test : Bool → Type 0
  Test t = (t ≡ true) ⊎ (t ≡ false)

  models_known : ModelsKnown (find_models pairs budget room work a b)
  unfolding find_models
  models_known =
      by_tests (split (ltb room (size a) || ltb work work_room)) (split (canonical a)) (split (canonical b)) (split (same_signature (signature a) (signature b))) (split (eqb (length pairs % 2) 0))
    where
      by_tests :
          Test (ltb room (size a) || ltb work work_room) → Test (canonical a) → Test (canonical b) → Test (same_signature (signature a) (signature b)) → Test (eqb (length pairs % 2) 0)
          → ModelsKnown (find_models pairs budget room work a b)
      by_tests (inl e) p q s o = rw (e, find_models) tt
      by_tests (inr e) (inr p) q s o = rw (e, find_models, p) tt
      by_tests (inr e) (inl p) (inr q) s o = rw (e, find_models, p, q) tt
      by_tests (inr e) (inl p) (inl q) (inr s) o = rw (e, find_models, p, q, s) tt
      by_tests (inr e) (inl p) (inl q) (inl s) (inr o) = rw (e, find_models, p, q, s, o) tt
      by_tests (inr e) (inl p) (inl q) (inl s) (inl o) =
          let c : Comparable a b = record { left_canonical = p; right_canonical = q; one_signature = s } in
          rw (e, find_models, p, q, s, o) (among_known c (find_among a b pairs budget) refl)

  pub models_ended : (e : Ended) → find_models pairs budget room work a b ≡ ended e → Comparable a b × (find_among a b pairs budget ≡ ended e)
  models_ended e q = subst ModelsKnown q models_known

-- a call on two files
pub record FilesEnded (s t pairs : List ℕ) (budget : ℕ) (e : Ended) : Type 0 where
  pub left : Holds s
  pub right : Holds t
  pub comparable : Comparable left.its_model right.its_model
  pub comes_to : find_among left.its_model right.its_model pairs budget ≡ ended e

pub files_ended : (s t pairs : List ℕ) (budget room work : ℕ) (e : Ended) → find_files s t pairs budget room work ≡ ended e → FilesEnded s t pairs budget e
unfolding find_files
files_ended s t pairs budget room work e q =
    let l = file_ended 1 (λ (a : Model). with_model 2 refused (λ (b : Model). find_models pairs budget room work a b) t) s e q in
    let r = file_ended 2 (λ (b : Model). find_models pairs budget room work l.0.its_model b) t e l.1 in
    let m = models_ended l.0.its_model r.0.its_model pairs budget room work e r.1 in
    record { left = l.0; right = r.0; comparable = m.0; comes_to = m.1 }

-- under a base
module _ (o a b : Model) (f g : List ℕ) (budget room work : ℕ) where
  abbrev Signatures : Bool
  Signatures = same_signature (signature o) (signature a) && same_signature (signature o) (signature b)

  abbrev UnderEnds : Ended → Type 0
  UnderEnds e = Comparable a b × (is_map o a f ≡ true) × (is_map o b g ≡ true) × (find_among a b (pairs_under f g (reps o)) budget ≡ ended e)

  abbrev UnderKnown : Outcome → Type 0
  UnderKnown (ended e) = UnderEnds e
  UnderKnown (refused r) = Unit {0}

  under_among : Comparable a b → is_map o a f ≡ true → is_map o b g ≡ true → (x : Outcome) → find_among a b (pairs_under f g (reps o)) budget ≡ x → UnderKnown x
  under_among c p q (ended e) r = (c, p, q, r)
  under_among c p q (refused x) r = tt

  both_signatures : Signatures ≡ true → same_signature (signature a) (signature b) ≡ true
  both_signatures s =
      let l = same_signature_lem (signature o) (signature a) (and_left (same_signature (signature o) (signature a)) (same_signature (signature o) (signature b)) s) in
      let r = same_signature_lem (signature o) (signature b) (and_right (same_signature (signature o) (signature a)) (same_signature (signature o) (signature b)) s) in
      equal_signature (signature a) (signature b) (sym l ∙ r)

  abbrev Either : Bool → Type 0
  Either t = (t ≡ true) ⊎ (t ≡ false)

  under_known : UnderKnown (under_models f g budget room work o a b)
  unfolding under_models
  under_known =
      by_tests (split (ltb room (size a) || ltb work work_room)) (split (canonical a)) (split (canonical b)) (split Signatures) (split (is_map o a f)) (split (is_map o b g))
    where
      by_tests :
          Either (ltb room (size a) || ltb work work_room) → Either (canonical a) → Either (canonical b) → Either Signatures → Either (is_map o a f) → Either (is_map o b g)
          → UnderKnown (under_models f g budget room work o a b)
      by_tests (inl e) p q s x y = rw (e, under_models) tt
      by_tests (inr e) (inr p) q s x y = rw (e, under_models, p) tt
      by_tests (inr e) (inl p) (inr q) s x y = rw (e, under_models, p, q) tt
      by_tests (inr e) (inl p) (inl q) (inr s) x y = rw (e, under_models, p, q, s) tt
      by_tests (inr e) (inl p) (inl q) (inl s) (inr x) y = rw (e, under_models, p, q, s, x) tt
      by_tests (inr e) (inl p) (inl q) (inl s) (inl x) (inr y) = rw (e, under_models, p, q, s, x, y) tt
      by_tests (inr e) (inl p) (inl q) (inl s) (inl x) (inl y) =
          let c : Comparable a b = record { left_canonical = p; right_canonical = q; one_signature = both_signatures s } in
          rw (e, under_models, p, q, s, x, y) (under_among c x y (find_among a b (pairs_under f g (reps o)) budget) refl)

  pub under_models_ended :
      (e : Ended) → under_models f g budget room work o a b ≡ ended e
      → Comparable a b × (is_map o a f ≡ true) × (is_map o b g ≡ true) × (find_among a b (pairs_under f g (reps o)) budget ≡ ended e)
  under_models_ended e q = subst UnderKnown q under_known

pub record UnderEnded (r s t f g : List ℕ) (budget : ℕ) (e : Ended) : Type 0 where
  pub base : Holds r
  pub left : Holds s
  pub right : Holds t
  pub comparable : Comparable left.its_model right.its_model
  pub left_map : is_map base.its_model left.its_model f ≡ true
  pub right_map : is_map base.its_model right.its_model g ≡ true
  pub comes_to : find_among left.its_model right.its_model (pairs_under f g (reps base.its_model)) budget ≡ ended e

pub under_ended : (r s t f g : List ℕ) (budget room work : ℕ) (e : Ended) → under_files r s t f g budget room work ≡ ended e → UnderEnded r s t f g budget e
unfolding under_files
under_ended r s t f g budget room work e q =
    let o = file_ended 1 (λ (o : Model). with_model 2 refused (λ (a : Model). with_model 3 refused (λ (b : Model). under_models f g budget room work o a b) t) s) r e q in
    let a = file_ended 2 (λ (a : Model). with_model 3 refused (λ (b : Model). under_models f g budget room work o.0.its_model a b) t) s e o.1 in
    let b = file_ended 3 (λ (b : Model). under_models f g budget room work o.0.its_model a.0.its_model b) t e a.1 in
    let m = under_models_ended o.0.its_model a.0.its_model b.0.its_model f g budget room work e b.1 in
    record { base = o.0; left = a.0; right = b.0; comparable = m.0; left_map = m.1; right_map = m.2; comes_to = m.3 }
