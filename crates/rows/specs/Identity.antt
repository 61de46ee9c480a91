-- "Identity": each representative to itself.
use Rattle.std.specs.Prelude.{ℕ, true, false, List, ltb}
use Rattle.stored.specs.declared.refusal.Refusal.TheVariants.{NoRoom}
use Rattle.stored.specs.Model.{Model, size}
use Rattle.rows.specs.Maps.{identity_of}
use Rattle.rows.specs.Answer.{Outcome, accepted, refused}
use Rattle.rows.specs.Files.{with_model}

unfoldable pub identity_model : ℕ → Model → Outcome
identity_model room m = elim (ltb room (size m)) [ true ↦ refused NoRoom | false ↦ accepted (identity_of m) ]

unfoldable pub identity_file : List ℕ → ℕ → Outcome
identity_file s room = with_model 1 refused (identity_model room) s
