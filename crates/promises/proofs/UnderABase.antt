-- Promise 5, Under a base: what find under a base finds is an isomorphism with to_left followed by the map equal to to_right on every base class, and it answers 1 only if no isomorphism is
-- such. Assumes nothing.
use Prim.Native.Nat.{ℕ}
use mathlib.Core.Path.{◌≡◌, sym, ◌∙◌, ap, subst}
use mathlib.Core.List.{List, [], ◌∷◌}
use lib.ListN.{length}
use Rattle.stored.specs.Model.{Model}
use Rattle.stored.specs.Parse.{model, parse}
use Rattle.search.specs.Answer.{Outcome, written}
use Rattle.search.specs.Find.{under_files}
use Rattle.search.proofs.Laws.Answer.{found_by, none_by, written_found}
use Rattle.search.proofs.Theorems.Ends.{Comparable, Holds, holds_formed}
use Rattle.search.proofs.Theorems.Decides.{under_found, under_none}
use Rattle.promises.specs.Isomorphism.{Isomorphism, image_by, UnderBase, FoundUnder}
use Rattle.promises.specs.Calls.{under_says, under_writes}
use Rattle.promises.proofs.Laws.{one_model, of_models, map_in_lem, wrote_map, carries_sets, types_kept}

-- what holds of the three models that a call read holds of those that its files hold
pub of_three :
    (r s t : List ℕ) (o : Holds r) (h : Holds s) (k : Holds t) (P : Model → Model → Model → Type 0) → P o.its_model h.its_model k.its_model
    → (base a b : Model) → parse r ≡ model base → parse s ≡ model a → parse t ≡ model b → P base a b
of_three r s t o h k P p base a b e = of_models s t h k (P base) (subst (λ (m : Model). P m h.its_model k.its_model) (one_model r o base e) p) a b

module _ (r s t toLeft toRight : List ℕ) (budget : ℕ) (out work : List ℕ) (u : ℕ) where
  abbrev after : List ℕ
  after = under_writes r s t toLeft toRight budget out work

  pub found_under :
      under_says r s t toLeft toRight budget out work ≡ 0 ∷ u ∷ []
      → (o a b : Model) → parse r ≡ model o → parse s ≡ model a → parse t ≡ model b → FoundUnder o a b toLeft toRight out (under_writes r s t toLeft toRight budget out work)
  found_under says =
      let x = found_by (under_files r s t toLeft toRight budget (length out) (length work)) u says in
      let c = under_found r s t toLeft toRight budget (length out) (length work) u x.0 x.1 in
      let base = c.call.base in
      let left = c.call.left in
      let right = c.call.right in
      let stands = ap (λ (o : Outcome). written o out) x.1 ∙ written_found u x.0 out in
      let z = sym (map_in_lem left.its_model x.0 out after c.sound.its_length stands) in
      of_three r s t base left right (λ (o a b : Model). FoundUnder o a b toLeft toRight out after) (record {
        wrote = wrote_map left.its_model right.its_model (holds_formed s left) (holds_formed t right) x.0 out after c.sound c.typed stands;
        under = subst (λ (f : List ℕ). UnderBase base.its_model toLeft toRight (image_by f)) z c.under;
      })

  pub under_comparable :
      under_says r s t toLeft toRight budget out work ≡ 0 ∷ u ∷ []
      → (o a b : Model) → parse r ≡ model o → parse s ≡ model a → parse t ≡ model b → Comparable a b
  under_comparable says =
      let x = found_by (under_files r s t toLeft toRight budget (length out) (length work)) u says in
      let c = (under_found r s t toLeft toRight budget (length out) (length work) u x.0 x.1).call in
      of_three r s t c.base c.left c.right (λ (o a b : Model). Comparable a b) c.comparable

  pub none_under :
      under_says r s t toLeft toRight budget out work ≡ 1 ∷ u ∷ []
      → (o a b : Model) → parse r ≡ model o → parse s ≡ model a → parse t ≡ model b → (h : ℕ → ℕ) → Isomorphism a b h → UnderBase o toLeft toRight h → ⊥
  none_under says =
      let c = under_none r s t toLeft toRight budget (length out) (length work) u (none_by (under_files r s t toLeft toRight budget (length out) (length work)) u says) in
      of_three r s t c.call.base c.call.left c.call.right (λ (o a b : Model). (h : ℕ → ℕ) → Isomorphism a b h → UnderBase o toLeft toRight h → ⊥)
      (λ h i under. c.never h (record {
        carries = carries_sets c.call.left.its_model c.call.right.its_model h i;
        typed = types_kept c.call.left.its_model c.call.right.its_model h i;
        under = under;
      }))
