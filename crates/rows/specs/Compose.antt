-- "Compose (`then`)": "the models are source, middle, target"; 10, 11, 13 if any two signatures differ, 19 for the first map that is none.
use Rattle.std.specs.Prelude.{ℕ, true, false, ◌&&◌, List, ltb}
use Rattle.stored.specs.declared.refusal.Refusal.TheVariants.{NoRoom, SignaturesDiffer, NotAMap}
use Rattle.stored.specs.Model.{Model, size}
use Rattle.stored.specs.Signature.{signature, same_signature}
use Rattle.rows.specs.Maps.{is_map, then_map}
use Rattle.rows.specs.Answer.{Outcome, accepted, refused}
use Rattle.rows.specs.Files.{with_model}

unfoldable pub compose_maps : List ℕ → List ℕ → Model → Model → Model → Outcome
compose_maps f g a b c = elim (is_map a b f) [
  | false ↦ refused (NotAMap 1)
  | true ↦ elim (is_map b c g) [ false ↦ refused (NotAMap 2) | true ↦ accepted (then_map f g) ]
]

unfoldable pub compose_models : List ℕ → List ℕ → ℕ → Model → Model → Model → Outcome
compose_models f g room a b c = elim (ltb room (size a)) [
  | true ↦ refused NoRoom
  | false ↦ elim (same_signature (signature a) (signature b) && same_signature (signature b) (signature c)) [
    | false ↦ refused SignaturesDiffer
    | true ↦ compose_maps f g a b c
  ]
]

unfoldable pub compose_files : List ℕ → List ℕ → List ℕ → List ℕ → List ℕ → ℕ → Outcome
compose_files s t u f g room =
    with_model 1 refused (λ (a : Model). with_model 2 refused (λ (b : Model). with_model 3 refused (λ (c : Model). compose_models f g room a b c) u) t) s
