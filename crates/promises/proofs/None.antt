-- Promise 2, None: find with pairs answers 1 only if no isomorphism honours the pairs. Assumes nothing.
use Prim.Native.Nat.{ℕ}
use mathlib.Core.Path.{◌≡◌}
use mathlib.Core.List.{List, [], ◌∷◌}
use lib.ListN.{length}
use Rattle.stored.specs.Model.{Model}
use Rattle.stored.specs.Parse.{model, parse}
use Rattle.search.specs.Find.{find_files}
use Rattle.search.proofs.Laws.Answer.{none_by}
use Rattle.search.proofs.Theorems.Decides.{files_none}
use Rattle.promises.specs.Isomorphism.{Isomorphism, HonoursPairs}
use Rattle.promises.specs.Calls.{find_says}
use Rattle.promises.proofs.Laws.{of_models, carries_sets, types_kept}

pub none :
    (s t pairs : List ℕ) (budget : ℕ) (out work : List ℕ) (u : ℕ) → find_says s t pairs budget out work ≡ 1 ∷ u ∷ []
    → (a b : Model) → parse s ≡ model a → parse t ≡ model b → (h : ℕ → ℕ) → Isomorphism a b h → HonoursPairs a b pairs h → ⊥
none s t pairs budget out work u says =
    let c = files_none s t pairs budget (length out) (length work) u (none_by (find_files s t pairs budget (length out) (length work)) u says) in
    of_models s t c.call.left c.call.right (λ (a b : Model). (h : ℕ → ℕ) → Isomorphism a b h → HonoursPairs a b pairs h → ⊥)
    (λ h i honours. c.never h (record {
      carries = carries_sets c.call.left.its_model c.call.right.its_model h i;
      typed = types_kept c.call.left.its_model c.call.right.its_model h i;
      honours = honours;
    }))
