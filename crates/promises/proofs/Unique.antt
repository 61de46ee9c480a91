-- Promise 8, Uniqueness: for each public call, two answers that both meet its contract are one answer, with one output and, of the calls of the search, one state of the work. By a left
-- inverse of the numbers of an answer. Assumes nothing.
use Prim.Native.Nat.{ℕ, ◌-◌, ◌≤◌}
use mathlib.Core.Path.{◌≡◌, refl, sym, ◌∙◌, ap}
use mathlib.Core.List.{List, [], ◌∷◌}
use native.Mathlib.Omega.{arith}
use lib.ListN.{length, get_or, get_or-eq_default}
use Rattle.std.proofs.Common.{Result, Ok, Err}
use Rattle.stored.specs.declared.model.Element.{Element}
use Rattle.stored.specs.declared.refusal.Refusal.{Refusal}
use Rattle.stored.specs.declared.refusal.Refusal.TheVariants.{Malformed, NoRoom, NotCanonical, SignaturesDiffer, UnknownElement, TypesDiffer, ImageMissing, ConflictingImages, RelationNotKept, NotAMap, OddPairs}
use Rattle.stored.specs.Refusal as refusal
use Rattle.rows.specs.declared.answer.Ended.TheVariants as ended
use Rattle.rows.specs.Answer.{Answer, numbers, applied_numbers, Outcome, answer_of, written}
use Rattle.rows.specs.Check.{check_files}
use Rattle.rows.specs.Identity.{identity_file}
use Rattle.rows.specs.Apply.{apply_files}
use Rattle.rows.specs.Compose.{compose_files}
use Rattle.rows.specs.Inverse.{inverse_files}
use Rattle.std.specs.Prelude.{Ok, Err}
use Rattle.search.specs.declared.answer.Verdict.TheVariants as verdict
use Rattle.search.specs.Answer.{Answer as Search}
use Rattle.search.specs.Answer as found
use Rattle.search.specs.Find.{find_files, under_files}

-- the number itself stands first
abbrev number_of : List ℕ → ℕ
number_of l = get_or l 0 0

-- the refusal of some numbers
abbrev refusal_of : List ℕ → Refusal
refusal_of l = get_or (
    Malformed (get_or l 1 0) (record { offset = get_or l 2 0 })
    ∷ NoRoom
    ∷ NotCanonical (get_or l 1 0)
    ∷ SignaturesDiffer
    ∷ UnknownElement (get_or l 1 0) (get_or l 2 0)
    ∷ TypesDiffer (get_or l 1 0)
    ∷ ImageMissing (record { 0 = get_or l 1 0 })
    ∷ ConflictingImages (record { 0 = get_or l 1 0 })
    ∷ RelationNotKept (record { 0 = get_or l 1 0 })
    ∷ NotAMap (get_or l 1 0)
    ∷ OddPairs
    ∷ []
    ) (number_of l - 10) NoRoom

pub refusal_told : (r : Refusal) → (10 ≤ number_of (refusal.numbers r)) × (refusal_of (refusal.numbers r) ≡ r)
refusal_told (Malformed m f) = (omega arith, refl)
refusal_told NoRoom = (omega arith, refl)
refusal_told (NotCanonical m) = (omega arith, refl)
refusal_told SignaturesDiffer = (omega arith, refl)
refusal_told (UnknownElement p s) = (omega arith, refl)
refusal_told (TypesDiffer p) = (omega arith, refl)
refusal_told (ImageMissing e) = (omega arith, refl)
refusal_told (ConflictingImages e) = (omega arith, refl)
refusal_told (RelationNotKept k) = (omega arith, refl)
refusal_told (NotAMap m) = (omega arith, refl)
refusal_told OddPairs = (omega arith, refl)

-- so a refusal is told from ten other answers at most
refused_told :
    {A : Type 0} (others : List A) (refused : Refusal → A) (r : Refusal) → length others ≤ 10
    → get_or others (number_of (refusal.numbers r)) (refused (refusal_of (refusal.numbers r))) ≡ refused r
refused_told others refused r few = let told = refusal_told r in get_or-eq_default others (refused (refusal_of (refusal.numbers r))) (omega (arith, few, told.0)) ∙ ap refused told.1

-- the answers of the calls on maps, of apply, and of the search, by their numbers
abbrev answer_by : List ℕ → Answer
answer_by l = get_or (Ok ended.Accepted ∷ Ok ended.None ∷ []) (number_of l) (Err (refusal_of l))

pub answer_told : (r : Answer) → answer_by (numbers r) ≡ r
answer_told (Ok ended.Accepted) = refl
answer_told (Ok ended.None) = refl
answer_told (Err r) = refused_told (Ok ended.Accepted ∷ Ok ended.None ∷ []) (λ (x : Refusal). Err x) r (omega arith)

abbrev applied_by : List ℕ → Result Element Refusal
applied_by l = get_or (Ok (record { 0 = get_or l 1 0 }) ∷ []) (number_of l) (Err (refusal_of l))

pub applied_told : (r : Result Element Refusal) → applied_by (applied_numbers r) ≡ r
applied_told (Ok e) = refl
applied_told (Err r) = refused_told (Ok (record { 0 = get_or (refusal.numbers r) 1 0 }) ∷ []) (λ (x : Refusal). Err x) r (omega arith)

abbrev search_by : List ℕ → Search
search_by l = get_or (Ok (verdict.Found (get_or l 1 0)) ∷ Ok (verdict.None (get_or l 1 0)) ∷ Ok (verdict.Exhausted (get_or l 1 0)) ∷ []) (number_of l) (Err (refusal_of l))

pub search_told : (r : Search) → search_by (found.numbers r) ≡ r
search_told (Ok (verdict.Found u)) = refl
search_told (Ok (verdict.None u)) = refl
search_told (Ok (verdict.Exhausted u)) = refl
search_told (Err r) =
    let u = get_or (refusal.numbers r) 1 0 in
    refused_told (Ok (verdict.Found u) ∷ Ok (verdict.None u) ∷ Ok (verdict.Exhausted u) ∷ []) Err r (omega arith)

-- so equal numbers are of one answer
pub one_answer : (r q : Answer) → numbers r ≡ numbers q → r ≡ q
one_answer r q e = sym (answer_told r) ∙ ap answer_by e ∙ answer_told q

pub one_applied : (r q : Result Element Refusal) → applied_numbers r ≡ applied_numbers q → r ≡ q
one_applied r q e = sym (applied_told r) ∙ ap applied_by e ∙ applied_told q

pub one_search : (r q : Search) → found.numbers r ≡ found.numbers q → r ≡ q
one_search r q e = sym (search_told r) ∙ ap search_by e ∙ search_told q

-- the contract of a call on maps that comes to an outcome: what it answers and what it turns the output into
abbrev pub Meets : Outcome → List ℕ → Answer → List ℕ → Type 0
Meets o out r after = (numbers r ≡ numbers (answer_of o)) × (after ≡ written o out)

unique : (o : Outcome) (out : List ℕ) (r q : Answer) (after other : List ℕ) → Meets o out r after → Meets o out q other → (r ≡ q) × (after ≡ other)
unique o out r q after other m n = (one_answer r q (m.0 ∙ sym n.0), m.1 ∙ sym n.1)

-- and of a call of the search, with what it turns the work into
abbrev pub MeetsSearch : found.Outcome → List ℕ → List ℕ → Search → List ℕ → List ℕ → Type 0
MeetsSearch o out work r after left = (found.numbers r ≡ found.numbers (found.answer_of o)) × (after ≡ found.written o out) × (left ≡ found.worked o work)

unique_search :
    (o : found.Outcome) (out work : List ℕ) (r q : Search) (after other left rest : List ℕ) → MeetsSearch o out work r after left → MeetsSearch o out work q other rest
    → (r ≡ q) × (after ≡ other) × (left ≡ rest)
unique_search o out work r q after other left rest m n = (one_search r q (m.0 ∙ sym n.0), m.1 ∙ sym n.1, m.2 ∙ sym n.2)

-- one theorem for each call
module _ (out : List ℕ) (r q : Answer) (after other : List ℕ) where
  pub check_unique : (s t pairs : List ℕ) → Meets (check_files s t pairs (length out)) out r after → Meets (check_files s t pairs (length out)) out q other → (r ≡ q) × (after ≡ other)
  check_unique s t pairs = unique (check_files s t pairs (length out)) out r q after other

  pub identity_unique : (s : List ℕ) → Meets (identity_file s (length out)) out r after → Meets (identity_file s (length out)) out q other → (r ≡ q) × (after ≡ other)
  identity_unique s = unique (identity_file s (length out)) out r q after other

  pub compose_unique :
      (s t v f g : List ℕ) → Meets (compose_files s t v f g (length out)) out r after → Meets (compose_files s t v f g (length out)) out q other → (r ≡ q) × (after ≡ other)
  compose_unique s t v f g = unique (compose_files s t v f g (length out)) out r q after other

  pub inverse_unique : (s t f : List ℕ) → Meets (inverse_files s t f (length out)) out r after → Meets (inverse_files s t f (length out)) out q other → (r ≡ q) × (after ≡ other)
  inverse_unique s t f = unique (inverse_files s t f (length out)) out r q after other

pub apply_unique : (s t f : List ℕ) (x : ℕ) (r q : Result Element Refusal) → applied_numbers r ≡ applied_numbers (apply_files s t f x) → applied_numbers q ≡ applied_numbers (apply_files s t f x) → r ≡ q
apply_unique s t f x r q m n = one_applied r q (m ∙ sym n)

module _ (budget : ℕ) (out work : List ℕ) (r q : Search) (after other left rest : List ℕ) where
  pub find_with_pairs_unique :
      (s t pairs : List ℕ) → MeetsSearch (find_files s t pairs budget (length out) (length work)) out work r after left
      → MeetsSearch (find_files s t pairs budget (length out) (length work)) out work q other rest → (r ≡ q) × (after ≡ other) × (left ≡ rest)
  find_with_pairs_unique s t pairs = unique_search (find_files s t pairs budget (length out) (length work)) out work r q after other left rest

  pub find_unique :
      (s t : List ℕ) → MeetsSearch (find_files s t [] budget (length out) (length work)) out work r after left
      → MeetsSearch (find_files s t [] budget (length out) (length work)) out work q other rest → (r ≡ q) × (after ≡ other) × (left ≡ rest)
  find_unique s t = find_with_pairs_unique s t []

  pub find_under_unique :
      (o s t f g : List ℕ) → MeetsSearch (under_files o s t f g budget (length out) (length work)) out work r after left
      → MeetsSearch (under_files o s t f g budget (length out) (length work)) out work q other rest → (r ≡ q) × (after ≡ other) × (left ≡ rest)
  find_under_unique o s t f g = unique_search (under_files o s t f g budget (length out) (length work)) out work r q after other left rest
