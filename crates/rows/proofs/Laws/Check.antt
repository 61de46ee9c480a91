-- The laws of check: an element without an image, images that were given, and check of two models, case by case. Assumes nothing.
use Prim.Native.Nat.{ℕ, ◌%◌, ◌<◌, ◌≤◌}
use mathlib.Core.Path.{◌≡◌, refl}
use mathlib.Core.Logic.{◌⊎◌, inl, inr}
use mathlib.Core.Bool.{true, false, and-true, and-false}
use mathlib.Core.List.{List}
use native.Mathlib.Omega.{arith}
use borrow.Author.Tests.{lt-ltb, le-ltb, ltb-true, ltb-false, eq-eqb, ne_eqb, eqb-true}
use lib.Dec.{eqb, ltb}
use lib.ListN.{length, get_or, take, length-replicate}
use Rattle.std.proofs.Common.{Ok}
use Rattle.lists.specs.First.{lowest}
use Rattle.lists.proofs.Laws.Tests.{split, and_left, and_right}
use Rattle.stored.specs.declared.refusal.Refusal.{Refusal}
use Rattle.stored.specs.declared.refusal.Refusal.TheVariants.{NoRoom, SignaturesDiffer, OddPairs, ImageMissing, RelationNotKept}
use Rattle.stored.specs.Model.{Model, size, is_rep_in}
use Rattle.stored.specs.Signature.{signature, same_signature}
use Rattle.rows.specs.Rows.{first_unkept}
use Rattle.rows.specs.Pairs.{pair_count, Given, images, give_from}
use Rattle.rows.specs.Pairs as pairs
use Rattle.rows.specs.declared.answer.Ended.{Ended}
use Rattle.rows.specs.Answer.{accepted, refused, answer_of}
use Rattle.rows.specs.Files.{with_two}
use Rattle.rows.specs.Check.{is_missing, first_missing, judged, judged_if, blank, check_models, check_files}
use Rattle.lists.proofs.Laws.Every.{take-replicate}
use Rattle.rows.proofs.Laws.Answer.{answer_refused}

-- one element
module _ (roots f : List ℕ) (x : ℕ) where
  pub missing_alias : is_rep_in roots x ≡ false → is_missing roots f x ≡ false
  unfolding is_missing
  missing_alias e = rw e

  pub missing_none : get_or f x 255 ≡ 255 → is_missing roots f x ≡ is_rep_in roots x
  unfolding is_missing
  missing_none e = rw (eq-eqb (get_or f x 255) 255 e) (and-true (is_rep_in roots x))

  pub missing_given : (get_or f x 255 ≡ 255 → ⊥) → is_missing roots f x ≡ false
  unfolding is_missing
  missing_given n = rw (ne_eqb (get_or f x 255) 255 n) (and-false (is_rep_in roots x))

  module _ (h : is_missing roots f x ≡ true) where
    pub missing_class : is_rep_in roots x ≡ true
    unfolding is_missing
    missing_class = and_left (is_rep_in roots x) (eqb (get_or f x 255) 255) h

    pub missing_image : get_or f x 255 ≡ 255
    unfolding is_missing
    missing_image = eqb-true _ _ (and_right (is_rep_in roots x) (eqb (get_or f x 255) 255) h)

-- the first of all, looked for among as many roots as there are elements
pub missing_first : (a : Model) (f : List ℕ) → length a.roots ≡ size a → lowest (is_missing a.roots f) 0 (length a.roots) ≡ first_missing a f
unfolding first_missing
missing_first a f e = rw e

-- no images yet
pub length_blank : (n : ℕ) → length (blank n) ≡ n
unfolding blank
length_blank n = length-replicate n 255

pub blank_front : (n m : ℕ) → n ≤ m → take n (blank m) ≡ blank n
unfolding blank
blank_front n m h = take-replicate n m 255 h

-- images that were given
module _ (a b : Model) (f : List ℕ) where
  pub judged_missing : first_missing a f < size a → judged a b f ≡ refused (ImageMissing (record { 0 = first_missing a f }))
  unfolding judged
  judged_missing h = rw (lt-ltb (first_missing a f) (size a) h, judged)

  module _ (g : size a ≤ first_missing a f) where
    pub judged_unkept : first_unkept a b f < length a.relations → judged a b f ≡ refused (RelationNotKept (record { 0 = first_unkept a b f }))
    unfolding judged
    judged_unkept h = rw (le-ltb (first_missing a f) (size a) g, judged, lt-ltb (first_unkept a b f) (length a.relations) h)

    pub judged_accepted : length a.relations ≤ first_unkept a b f → judged a b f ≡ accepted f
    unfolding judged
    judged_accepted h = rw (le-ltb (first_missing a f) (size a) g, judged, le-ltb (first_unkept a b f) (length a.relations) h)

  -- where they are not refused, they are the map
  pub judged_map : (x : Ended) → Ok x ≡ answer_of (judged a b f) → judged a b f ≡ accepted f
  judged_map x h = by_tests (split (ltb (first_missing a f) (size a))) (split (ltb (first_unkept a b f) (length a.relations)))
    where
      not_refused : (r : Refusal) → judged a b f ≡ refused r → judged a b f ≡ accepted f
      not_refused r e = let z = answer_refused (judged a b f) r e in let y : ◌≡◌ {A = ℕ} 0 1 = cc in absurd (omega arith)

      by_tests : (ltb (first_missing a f) (size a) ≡ true) ⊎ (ltb (first_missing a f) (size a) ≡ false) → (ltb (first_unkept a b f) (length a.relations) ≡ true) ⊎ (ltb (first_unkept a b f) (length a.relations) ≡ false) → judged a b f ≡ accepted f
      by_tests (inl m) u = not_refused _ (judged_missing (ltb-true _ _ m))
      by_tests (inr m) (inl u) = not_refused _ (judged_unkept (ltb-false _ _ m) (ltb-true _ _ u))
      by_tests (inr m) (inr u) = judged_accepted (ltb-false _ _ m) (ltb-false _ _ u)

-- images, or a refusal
module _ (a b : Model) (g : Given) where
  pub judged_images : (f : List ℕ) → g ≡ images f → judged_if a b g ≡ judged a b f
  unfolding judged_if
  judged_images f e = rw e

  pub judged_refused : (r : Refusal) → g ≡ pairs.refused r → judged_if a b g ≡ refused r
  unfolding judged_if
  judged_refused r e = rw e

-- check of two models
module _ (ps : List ℕ) (room : ℕ) (a b : Model) where
  pub check_no_room : room < size a → check_models ps room a b ≡ refused NoRoom
  unfolding check_models
  check_no_room h = rw (lt-ltb room (size a) h, check_models)

  module _ (fits : size a ≤ room) where
    pub check_signatures : same_signature (signature a) (signature b) ≡ false → check_models ps room a b ≡ refused SignaturesDiffer
    unfolding check_models
    check_signatures e = rw (le-ltb room (size a) fits, check_models, e)

    module _ (same : same_signature (signature a) (signature b) ≡ true) where
      pub check_odd : (length ps % 2 ≡ 0 → ⊥) → check_models ps room a b ≡ refused OddPairs
      unfolding check_models
      check_odd n = rw (le-ltb room (size a) fits, check_models, same, ne_eqb (length ps % 2) 0 n)

      pub check_even : length ps % 2 ≡ 0 → check_models ps room a b ≡ judged_if a b (give_from (pair_count ps) a b ps 0 (blank (size a)))
      unfolding check_models
      check_even e = rw (le-ltb room (size a) fits, check_models, same, eq-eqb (length ps % 2) 0 e)

-- check of two files
pub check_files_lem : (s t ps : List ℕ) (room : ℕ) → check_files s t ps room ≡ with_two refused (check_models ps room) s t
unfolding check_files
check_files_lem s t ps room = refl
