-- Promise 1, Found: if find with pairs answers 0, the map written is one to one and onto between the classes, keeps types and pairs, is 255 exactly at aliases, and carries each relation
-- exactly onto its counterpart. Nothing is asked of the input: where the files do not hold canonical models of one signature or the pairs are not good the number is not 0 (`found_only`),
-- nor is it where there is no room. Assumes nothing.
use Prim.Native.Nat.{ℕ}
use mathlib.Core.Path.{◌≡◌, sym, ◌∙◌, ap, subst}
use mathlib.Core.List.{List, [], ◌∷◌}
use lib.ListN.{length}
use Rattle.stored.specs.Model.{Model}
use Rattle.stored.specs.Parse.{model, parse}
use Rattle.search.specs.Machine as machine
use Rattle.search.specs.Answer.{Outcome, ended, written}
use Rattle.search.specs.Find.{find_files}
use Rattle.search.proofs.Laws.Answer.{found_by, written_found}
use Rattle.search.proofs.Theorems.Asked.{among_ended}
use Rattle.search.proofs.Theorems.Ends.{Comparable, holds_formed}
use Rattle.search.proofs.Theorems.Decides.{FoundInFiles, files_found}
use Rattle.promises.specs.Isomorphism.{HonoursPairs, image_by, FoundMap}
use Rattle.promises.specs.Calls.{find_says, find_writes}
use Rattle.promises.specs.Asked.{Asked}
use Rattle.promises.proofs.Laws.{of_models, map_in_lem, wrote_map, good_known}

module _ (s t pairs : List ℕ) (budget : ℕ) (out work : List ℕ) (u : ℕ) (says : find_says s t pairs budget out work ≡ 0 ∷ u ∷ []) where
  abbrev after : List ℕ
  after = find_writes s t pairs budget out work

  outcome : (f : List ℕ) × (find_files s t pairs budget (length out) (length work) ≡ ended (machine.found u f))
  outcome = found_by (find_files s t pairs budget (length out) (length work)) u says

  in_files : FoundInFiles s t pairs budget (length out) (length work) u outcome.0
  in_files = files_found s t pairs budget (length out) (length work) u outcome.0 outcome.1

  pub found : (a b : Model) → parse s ≡ model a → parse t ≡ model b → FoundMap a b pairs out (find_writes s t pairs budget out work)
  found =
      let g = outcome.0 in
      let c = in_files in
      let l = c.call.left in
      let r = c.call.right in
      let stands = ap (λ (o : Outcome). written o out) outcome.1 ∙ written_found u g out in
      let z = sym (map_in_lem l.its_model g out after c.sound.its_length stands) in
      of_models s t l r (λ (a b : Model). FoundMap a b pairs out after) (record {
        wrote = wrote_map l.its_model r.its_model (holds_formed s l) (holds_formed t r) g out after c.sound c.typed stands;
        honours = subst (λ (f : List ℕ). HonoursPairs l.its_model r.its_model pairs (image_by f)) z c.honours;
      })

  pub found_only : (a : Model) × (b : Model) × Asked s t pairs a b
  found_only =
      let c = in_files.call in
      let a = c.left.its_model in
      let b = c.right.its_model in (
        a,
        b,
        record {
          left_held = c.left.parsed;
          right_held = c.right.parsed;
          left_canonical = c.comparable.left_canonical;
          right_canonical = c.comparable.right_canonical;
          one_signature = c.comparable.one_signature;
          known_pairs = good_known a b pairs (among_ended a b pairs budget (machine.found u outcome.0) c.comes_to).0;
        },
      )

  pub found_comparable : (a b : Model) → parse s ≡ model a → parse t ≡ model b → Comparable a b
  found_comparable = let c = in_files.call in of_models s t c.left c.right Comparable c.comparable
