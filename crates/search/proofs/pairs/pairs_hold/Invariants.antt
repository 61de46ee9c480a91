-- `search::pairs::pairs_hold` meets its contract. The invariant: the pairs from here on are judged as all pairs are. Assumes nothing.
use Prim.Native.Nat.{ℕ, ◌+◌, ◌-◌, ◌<◌, ◌≤◌}
use mathlib.Core.Path.{◌≡◌, sym, ◌∙◌}
use mathlib.Core.List.{List}
use native.Mathlib.Omega.{arith}
use Rattle.std.proofs.Common.{Ok, Err}
use Rattle.stored.specs.declared.refusal.Refusal.{Refusal}
use Rattle.stored.specs.Reading.{model_of}
use Rattle.rows.specs.Pairs.{pair_count, pair_at}
use Rattle.search.specs.Partners.{pairs_from}
use Rattle.search.proofs.Laws.Pairs.{pairs_end, pairs_bad, pairs_next}
use Rattle.search.proofs.pairs.pairs_hold.Given as goal

-- the pairs from a place on are judged as all pairs are
pub record Judging (s t pairs : List ℕ) (place : ℕ) : Type 0 where
  pub same : pairs_from (pair_count pairs - place) (model_of s) (model_of t) pairs place ≡ pairs_from (pair_count pairs) (model_of s) (model_of t) pairs 0

pub start : (s t pairs : List ℕ) → Judging s t pairs 0
start s t pairs = record { same = let e : pair_count pairs - 0 ≡ pair_count pairs = omega arith in rw e }

module _ {s t pairs : List ℕ} {place : ℕ} (i : Judging s t pairs place) where
  pub done : pair_count pairs ≤ place → Ok tt ≡ pairs_from (pair_count pairs) (model_of s) (model_of t) pairs 0
  done h = sym (pairs_end (model_of s) (model_of t) pairs (pair_count pairs - place) place (omega arith)) ∙ i.same

  module _ (h : place < pair_count pairs) where
    pub bad : (x : Refusal) → pair_at (model_of s) (model_of t) pairs place ≡ Err x → Err x ≡ pairs_from (pair_count pairs) (model_of s) (model_of t) pairs 0
    bad x e = sym (pairs_bad (model_of s) (model_of t) pairs (pair_count pairs - place) place (omega arith) x e) ∙ i.same

    pub more : pair_at (model_of s) (model_of t) pairs place ≡ Ok tt → Judging s t pairs (place + 1)
    more e = record { same = let k : pair_count pairs - (place + 1) ≡ pair_count pairs - place - 1 = omega arith in rw k (sym (pairs_next (model_of s) (model_of t) pairs (pair_count pairs - place) place (omega arith) e) ∙ i.same) }

abbrev pub invariant-loop-place : goal.invariant-loop-place
invariant-loop-place l = Judging l.left.bytes.now l.right.bytes.now l.pairs l.place
