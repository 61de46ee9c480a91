-- "Check: two models and a pair list; the map, or why not." Order: 10, 11, 13, 20; then the pair list from its start, each pair by 14 side 1,
-- 14 side 2, 15, 17; then 16, 18; then 0.
use Rattle.std.specs.Prelude.{ℕ, ◌%◌, Bool, true, false, ◌&&◌, List, length, get_or, replicate, eqb, ltb}
use Rattle.lists.specs.First.{lowest}
use Rattle.stored.specs.declared.refusal.Refusal.TheVariants.{NoRoom, SignaturesDiffer, OddPairs, ImageMissing, RelationNotKept}
use Rattle.stored.specs.Model.{Model, size, is_rep_in}
use Rattle.stored.specs.Signature.{signature, same_signature}
use Rattle.rows.specs.Rows.{first_unkept}
use Rattle.rows.specs.Pairs.{pair_count, Given, images, give_from}
use Rattle.rows.specs.Pairs as pairs
use Rattle.rows.specs.Answer.{Outcome, accepted, refused}
use Rattle.rows.specs.Files.{with_two}

-- whether a representative has no image
unfoldable pub is_missing : List ℕ → List ℕ → ℕ → Bool
is_missing roots f x = is_rep_in roots x && eqb (get_or f x 255) 255

-- "image missing: lowest source representative without one"; the number of elements where each has one
unfoldable pub first_missing : Model → List ℕ → ℕ
first_missing a f = lowest (is_missing a.roots f) 0 (size a)

-- images that were given: every class must have one, every relation must be kept
unfoldable pub judged : Model → Model → List ℕ → Outcome
judged a b f = elim (ltb (first_missing a f) (size a)) [
  | true ↦ refused (ImageMissing (record { 0 = first_missing a f }))
  | false ↦ elim (ltb (first_unkept a b f) (length a.relations)) [
    | true ↦ refused (RelationNotKept (record { 0 = first_unkept a b f }))
    | false ↦ accepted f
  ]
]

unfoldable pub judged_if : Model → Model → Given → Outcome
judged_if a b (images f) = judged a b f
judged_if a b (pairs.refused r) = refused r

-- no images yet
unfoldable pub blank : ℕ → List ℕ
blank n = replicate n 255

unfoldable pub check_models : List ℕ → ℕ → Model → Model → Outcome
check_models pairs room a b = elim (ltb room (size a)) [
  | true ↦ refused NoRoom
  | false ↦ elim (same_signature (signature a) (signature b)) [
    | false ↦ refused SignaturesDiffer
    | true ↦ elim (eqb (length pairs % 2) 0) [
      | false ↦ refused OddPairs
      | true ↦ judged_if a b (give_from (pair_count pairs) a b pairs 0 (blank (size a)))
    ]
  ]
]

-- with an output of so many bytes
unfoldable pub check_files : List ℕ → List ℕ → List ℕ → ℕ → Outcome
check_files s t pairs room = with_two refused (check_models pairs room) s t
