-- "Inverse": the map back, or none. "Room: .. for inverse, the target's" n.
use Rattle.std.specs.Prelude.{ℕ, true, false, List, ltb}
use Rattle.stored.specs.declared.refusal.Refusal.TheVariants.{NoRoom, SignaturesDiffer, NotAMap}
use Rattle.stored.specs.Model.{Model, size}
use Rattle.stored.specs.Signature.{signature, same_signature}
use Rattle.rows.specs.Maps.{is_map, invertible, inverse_of}
use Rattle.rows.specs.Answer.{Outcome, accepted, none, refused}
use Rattle.rows.specs.Files.{with_two}

unfoldable pub inverse_models : List ℕ → ℕ → Model → Model → Outcome
inverse_models f room a b = elim (ltb room (size b)) [
  | true ↦ refused NoRoom
  | false ↦ elim (same_signature (signature a) (signature b)) [
    | false ↦ refused SignaturesDiffer
    | true ↦ elim (is_map a b f) [
      | false ↦ refused (NotAMap 1)
      | true ↦ elim (invertible a b f) [ false ↦ none | true ↦ accepted (inverse_of b f) ]
    ]
  ]
]

unfoldable pub inverse_files : List ℕ → List ℕ → List ℕ → ℕ → Outcome
inverse_files s t f room = with_two refused (inverse_models f room) s t
