-- "Apply": the image's representative of an element or an alias. "Apply to an unknown element gives 14, place 0, side 1." It lends no buffer, so
-- it never answers 11; 19 comes before 14.
use Rattle.std.specs.Prelude.{ℕ, true, false, List, get_or, ltb, Result, Ok, Err}
use Rattle.stored.specs.declared.model.Element.{Element}
use Rattle.stored.specs.declared.refusal.Refusal.{Refusal}
use Rattle.stored.specs.declared.refusal.Refusal.TheVariants.{SignaturesDiffer, NotAMap, UnknownElement}
use Rattle.stored.specs.Model.{Model, size, root_of}
use Rattle.stored.specs.Signature.{signature, same_signature}
use Rattle.rows.specs.Maps.{is_map}
use Rattle.rows.specs.Files.{with_two}

unfoldable pub apply_models : List ℕ → ℕ → Model → Model → Result Element Refusal
apply_models f x a b = elim (same_signature (signature a) (signature b)) [
  | false ↦ Err SignaturesDiffer
  | true ↦ elim (is_map a b f) [
    | false ↦ Err (NotAMap 1)
    | true ↦ elim (ltb x (size a)) [
      | false ↦ Err (UnknownElement 0 1)
      | true ↦ Ok (record { 0 = get_or f (root_of a x) 255 })
    ]
  ]
]

unfoldable pub apply_files : List ℕ → List ℕ → List ℕ → ℕ → Result Element Refusal
apply_files s t f x = with_two (λ (r : Refusal). Err r) (apply_models f x) s t
