-- The laws of an outcome's answer, output and work, case by case; and back: which outcome an answer of 0, 1 or 2 comes from. Assumes nothing.
use Prim.Native.Nat.{ℕ, ◌≤◌}
use mathlib.Core.Path.{◌≡◌, refl, ap}
use mathlib.Core.List.{List, [], ◌∷◌}
use native.Mathlib.Omega.{arith}
use lib.ListN.{get_or}
use Rattle.lists.specs.Part.{over}
use Rattle.stored.specs.declared.refusal.Refusal.{Refusal}
use Rattle.stored.specs.declared.refusal.Refusal.TheVariants.{Malformed, NoRoom, NotCanonical, SignaturesDiffer, UnknownElement, TypesDiffer, ImageMissing, ConflictingImages, RelationNotKept, NotAMap, OddPairs}
use Rattle.stored.specs.Refusal as refusal
use Rattle.search.specs.Machine.{found, none, exhausted}
use Rattle.search.specs.Answer.{numbers, Outcome, ended, refused, answer_of, written}

pub written_found : (u : ℕ) (f out : List ℕ) → written (ended (found u f)) out ≡ over f out
unfolding written
written_found u f out = refl

pub written_none : (u : ℕ) (out : List ℕ) → written (ended (none u)) out ≡ out
unfolding written
written_none u out = refl

pub written_exhausted : (u : ℕ) (out : List ℕ) → written (ended (exhausted u)) out ≡ out
unfolding written
written_exhausted u out = refl

pub numbers_found : (u : ℕ) (f : List ℕ) → numbers (answer_of (ended (found u f))) ≡ 0 ∷ u ∷ []
unfolding answer_of
numbers_found u f = refl

pub numbers_none : (u : ℕ) → numbers (answer_of (ended (none u))) ≡ 1 ∷ u ∷ []
unfolding answer_of
numbers_none u = refl

pub numbers_exhausted : (u : ℕ) → numbers (answer_of (ended (exhausted u))) ≡ 2 ∷ u ∷ []
unfolding answer_of
numbers_exhausted u = refl

-- the number itself stands first
abbrev pub first : List ℕ → ℕ
first l = get_or l 0 0

-- a refusal's number is 10 or more
pub refusal_high : (r : Refusal) → 10 ≤ first (refusal.numbers r)
refusal_high (Malformed m f) = omega arith
refusal_high NoRoom = omega arith
refusal_high (NotCanonical m) = omega arith
refusal_high SignaturesDiffer = omega arith
refusal_high (UnknownElement p s) = omega arith
refusal_high (TypesDiffer p) = omega arith
refusal_high (ImageMissing e) = omega arith
refusal_high (ConflictingImages e) = omega arith
refusal_high (RelationNotKept k) = omega arith
refusal_high (NotAMap m) = omega arith
refusal_high OddPairs = omega arith

-- 0 comes from found, 1 from none, 2 from exhausted
pub found_by : (o : Outcome) (u : ℕ) → numbers (answer_of o) ≡ 0 ∷ u ∷ [] → (f : List ℕ) × (o ≡ ended (found u f))
unfolding answer_of
found_by (ended (found v f)) u e = (f, ap (λ (l : List ℕ). ended (found (get_or l 1 0) f)) e)
found_by (ended (none v)) u e = absurd (omega (arith, ap first e))
found_by (ended (exhausted v)) u e = absurd (omega (arith, ap first e))
found_by (refused r) u e = absurd (omega (arith, refusal_high r, ap first e))

pub none_by : (o : Outcome) (u : ℕ) → numbers (answer_of o) ≡ 1 ∷ u ∷ [] → o ≡ ended (none u)
unfolding answer_of
none_by (ended (none v)) u e = ap (λ (l : List ℕ). ended (none (get_or l 1 0))) e
none_by (ended (found v f)) u e = absurd (omega (arith, ap first e))
none_by (ended (exhausted v)) u e = absurd (omega (arith, ap first e))
none_by (refused r) u e = absurd (omega (arith, refusal_high r, ap first e))

pub exhausted_by : (o : Outcome) (carried : List ℕ) → numbers (answer_of o) ≡ 2 ∷ carried → (u : ℕ) × (o ≡ ended (exhausted u))
unfolding answer_of
exhausted_by (ended (exhausted v)) l e = (v, refl)
exhausted_by (ended (found v f)) l e = absurd (omega (arith, ap first e))
exhausted_by (ended (none v)) l e = absurd (omega (arith, ap first e))
exhausted_by (refused r) l e = absurd (omega (arith, refusal_high r, ap first e))
