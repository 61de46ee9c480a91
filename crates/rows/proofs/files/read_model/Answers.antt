-- `rows::files::read_model` meets its contract: a fault is passed on with the model's number. Assumes nothing.
use Prim.Native.Nat.{ℕ}
use mathlib.Core.Path.{◌≡◌, sym, ap, ◌∙◌}
use mathlib.Core.List.{List}
use Rattle.std.specs.Result.{MatchResult, IsErrAnd}
use Rattle.std.proofs.Common.{Result, Ok, Err, rules}
use Rattle.std.proofs.lemmas.Result.{err_from_is_err_and}
use Rattle.stored.specs.declared.file.File.{File}
use Rattle.stored.specs.declared.refusal.Fault.{Fault}
use Rattle.stored.specs.declared.refusal.Refusal.{Refusal}
use Rattle.stored.specs.declared.refusal.Refusal.TheVariants.{Malformed}
use Rattle.stored.specs.Parse.{model, fault, parse}
use Rattle.stored.specs.File.{held}
use Rattle.rows.specs.Files.{model_read}
use Rattle.rows.proofs.Laws.Files.{read_was, fault_was}
use Rattle.rows.proofs.files.read_model.Goals as goal

abbrev Read : ℕ → List ℕ → Result File Refusal → Type 0
Read k s r = MatchResult r (λ (file : File). model_read k s ≡ Ok (held file)) (λ (x : Refusal). model_read k s ≡ Err x)

module _ (k : ℕ) (s : List ℕ) (r : Result File Refusal) (told : Fault → Refusal → Type 0) (is_told : (f : Fault) (x : Refusal) → told f x → x ≡ Malformed k f) where
  by_reading : (q : Result File Fault) → MatchResult q (λ (file : File). parse s ≡ model (held file)) (λ (f : Fault). parse s ≡ fault f) → MatchResult q (λ (file : File). r ≡ Ok file) (λ (f : Fault). IsErrAnd r (told f)) → Read k s r
  by_reading (Ok file) e h = rw h (read_was k s (held file) e)
  by_reading (Err f) e h = let p = err_from_is_err_and r h in rw p.1 (fault_was k s f e ∙ ap Err (sym (is_told f p.0 p.2)))

pub returns : goal.returns
returns c = by_reading _ _ _ _ (λ f x h. search rules) _ c.read.ensures c.map_err.ensures.cases
