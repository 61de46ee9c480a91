-- `rounds::classes::smallest_in` meets its contract. The invariant: the answer is the smallest open class of the colours from k on. Assumes nothing.
use Prim.Native.Nat.{ℕ, suc, ◌-◌, ◌<◌, ◌≤◌}
use mathlib.Core.Path.{◌≡◌, sym, ◌∙◌, ap}
use mathlib.Core.List.{List, []}
use native.Mathlib.Omega.{arith}
use lib.ListN.{length, get_or}
use Rattle.std.specs.Prelude.{Option, None}
use Rattle.stored.specs.Limits.{max_elements}
use Rattle.rounds.specs.declared.colour.Colour.{Colour}
use Rattle.rounds.specs.Classes.{open_of, smallest_from}
use Rattle.rounds.specs.Parts.{reps_in, colours_in, CountsOf, smallest_with}
use Rattle.rounds.proofs.Laws.Classes.{open_none, with_single, from_none, from_more, colours_count}
use Rattle.rounds.proofs.Laws.Parts.{colours_fit}
use Rattle.rounds.proofs.classes.smallest_in.Given as goal

pub record Found (roots table : List ℕ) (answer : Option Colour) (k : ℕ) : Type 0 where
  pub few : length (reps_in roots) ≤ max_elements
  pub within : k ≤ length (reps_in roots)
  pub same : (colours : List ℕ) → CountsOf table (colours_in roots colours) → open_of answer ≡ smallest_from (colours_in roots colours) k (length (reps_in roots) - k)

pub start : (roots table : List ℕ) → length roots ≤ max_elements → (k : ℕ) → k ≡ length (reps_in roots) → Found roots table None k
start roots table h k e =
    let z : length (reps_in roots) - k ≡ 0 = omega arith in
    record {
      few = omega (arith, colours_fit roots [] (length roots), colours_count roots []);
      within = omega arith;
      same = λ colours counts. open_none ∙ sym (ap (smallest_from (colours_in roots colours) k) z ∙ from_none (colours_in roots colours) k);
    }

module _ (roots table : List ℕ) (answer : Option Colour) (k : ℕ) (i : Found roots table answer k) where
  pub done : k ≤ 0 → (colours : List ℕ) → CountsOf table (colours_in roots colours) → open_of answer ≡ smallest_from (colours_in roots colours) 0 (length (colours_in roots colours))
  done h colours counts =
      let e : k ≡ 0 = omega arith in
      let q : length (reps_in roots) - k ≡ length (colours_in roots colours) = omega (arith, colours_count roots colours) in
      i.same colours counts ∙ ap (smallest_from (colours_in roots colours) k) q ∙ ap (λ (v : ℕ). smallest_from (colours_in roots colours) v (length (colours_in roots colours))) e

  pub more : 0 < k → (next : Option Colour) → ((colours : List ℕ) → CountsOf table colours → open_of next ≡ smallest_with colours (k - 1) (open_of answer)) → Found roots table next (k - 1)
  more h next e =
      let q : length (reps_in roots) - (k - 1) ≡ suc (length (reps_in roots) - k) = omega (arith, i.within) in
      let z : k ≡ suc (k - 1) = omega arith in
      record {
        few = i.few;
        within = omega (arith, i.within);
        same = λ colours counts.
            e (colours_in roots colours) counts
            ∙ ap (smallest_with (colours_in roots colours) (k - 1))
            (i.same colours counts ∙ ap (λ (v : ℕ). smallest_from (colours_in roots colours) v (length (reps_in roots) - k)) z)
            ∙ sym (ap (smallest_from (colours_in roots colours) (k - 1)) q ∙ from_more (colours_in roots colours) (k - 1) (length (reps_in roots) - k));
      }

  -- a class with fewer than two members is passed over
  pub passed : 0 < k → get_or table (k - 1) 0 ≤ 1 → Found roots table answer (k - 1)
  passed h l = more h answer (λ colours counts. sym (with_single colours (k - 1) (open_of answer) (omega (arith, counts.counts (k - 1)))))

abbrev pub invariant-loop-k : goal.invariant-loop-k
invariant-loop-k l = Found l.roots l.table l.answer l.k
