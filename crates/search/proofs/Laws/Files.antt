-- Find of two files is find of the models that they hold. Assumes nothing.
use Prim.Native.Nat.{ℕ}
use mathlib.Core.Path.{◌≡◌, ◌∙◌}
use mathlib.Core.List.{List}
use Rattle.stored.specs.Model.{Model}
use Rattle.stored.specs.Parse.{model, parse}
use Rattle.rows.specs.Files.{with_model}
use Rattle.rows.proofs.Laws.Files.{with_model_lem}
use Rattle.search.specs.Answer.{refused}
use Rattle.search.specs.Find.{find_models, find_files}

pub find_files_lem :
    (s t pairs : List ℕ) (budget room work : ℕ) (a b : Model) → parse s ≡ model a → parse t ≡ model b → find_files s t pairs budget room work ≡ find_models pairs budget room work a b
unfolding find_files
find_files_lem s t pairs budget room work a b p q =
    with_model_lem 1 refused (λ (a : Model). with_model 2 refused (λ (b : Model). find_models pairs budget room work a b) t) s a p
    ∙ with_model_lem 2 refused (λ (b : Model). find_models pairs budget room work a b) t b q
