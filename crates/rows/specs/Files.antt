-- The files of a call, numbered from 1: "10 malformed: model (from 1), offset of the field".
use Rattle.std.specs.Prelude.{ℕ, List, Result, Ok, Err}
use Rattle.stored.specs.declared.refusal.Refusal.{Refusal}
use Rattle.stored.specs.declared.refusal.Refusal.TheVariants.{Malformed}
use Rattle.stored.specs.Model.{Model}
use Rattle.stored.specs.Parse.{model, fault, parse}

-- goes on with the model that a file holds, or refuses the file
unfoldable pub with_model : {A : Type 0} → ℕ → (Refusal → A) → (Model → A) → List ℕ → A
with_model k refuse go s = elim (parse s) [ model m ↦ go m | fault f ↦ refuse (Malformed k f) ]

-- goes on with the models that two files hold
abbrev pub with_two : {A : Type 0} → (Refusal → A) → (Model → Model → A) → List ℕ → List ℕ → A
with_two refuse go s t = with_model 1 refuse (λ (a : Model). with_model 2 refuse (λ (b : Model). go a b) t) s

-- a file read, the k-th of a call: its model, or that it is malformed
unfoldable pub model_read : ℕ → List ℕ → Result Model Refusal
model_read k s = with_model k (λ (r : Refusal). Err r) (λ (m : Model). Ok m) s

-- two files read: their models, or the first of them that is malformed
unfoldable pub two_read : List ℕ → List ℕ → Result (Model × Model) Refusal
two_read s t = with_two (λ (r : Refusal). Err r) (λ (a b : Model). Ok (a, b)) s t
