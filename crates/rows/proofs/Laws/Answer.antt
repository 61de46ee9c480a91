-- The laws of an outcome's answer and output, case by case, for an outcome known by an equation. Assumes nothing.
use Prim.Native.Nat.{ℕ}
use mathlib.Core.Path.{◌≡◌, refl, sym, ap, ◌∙◌}
use mathlib.Core.List.{List}
use native.Mathlib.Omega.{arith}
use Rattle.std.proofs.Common.{Ok, Err}
use Rattle.lists.specs.Part.{over}
use Rattle.stored.specs.declared.refusal.Refusal.{Refusal}
use Rattle.rows.specs.declared.answer.Ended.TheVariants as ended
use Rattle.rows.specs.Answer.{Outcome, accepted, none, refused, answer_of, written}

module _ (o : Outcome) where
  module _ (f : List ℕ) (e : o ≡ accepted f) where
    pub answer_accepted : answer_of o ≡ Ok ended.Accepted
    unfolding answer_of
    answer_accepted = rw e

    pub written_accepted : (out : List ℕ) → written o out ≡ over f out
    unfolding written
    written_accepted out = rw e

  module _ (e : o ≡ none) where
    pub answer_none : answer_of o ≡ Ok ended.None
    unfolding answer_of
    answer_none = rw e

    pub written_none : (out : List ℕ) → written o out ≡ out
    unfolding written
    written_none out = rw e

  module _ (r : Refusal) (e : o ≡ refused r) where
    pub answer_refused : answer_of o ≡ Err r
    unfolding answer_of
    answer_refused = rw e

    pub written_refused : (out : List ℕ) → written o out ≡ out
    unfolding written
    written_refused out = rw e

  -- what answers a refusal is refused
  pub was_refused : (x : Refusal) → Err x ≡ answer_of o → o ≡ refused x
  was_refused x e = go o refl
    where
      go : (p : Outcome) → o ≡ p → o ≡ refused x
      go (accepted f) q = let w = answer_accepted f q in let z : ◌≡◌ {A = ℕ} 0 1 = cc in absurd (omega arith)
      go none q = let w = answer_none q in let z : ◌≡◌ {A = ℕ} 0 1 = cc in absurd (omega arith)
      go (refused r) q = let w = answer_refused r q in let v : x ≡ r = cc in q ∙ ap refused (sym v)

  -- what is not accepted leaves the output as it is
  pub written_other : (answer_of o ≡ Ok ended.Accepted → ⊥) → (out : List ℕ) → written o out ≡ out
  written_other n out = go o refl
    where
      go : (p : Outcome) → o ≡ p → written o out ≡ out
      go (accepted f) e = absurd (n (answer_accepted f e))
      go none e = written_none e out
      go (refused r) e = written_refused r e out

-- what a call answers and leaves in the output, together
module _ (o : Outcome) (out : List ℕ) where
  pub accepting : (f : List ℕ) → o ≡ accepted f → (Ok ended.Accepted ≡ answer_of o) × (over f out ≡ written o out)
  accepting f e = (sym (answer_accepted o f e), sym (written_accepted o f e out))

  pub finding_none : o ≡ none → (Ok ended.None ≡ answer_of o) × (out ≡ written o out)
  finding_none e = (sym (answer_none o e), sym (written_none o e out))

  pub refusing : (r : Refusal) → o ≡ refused r → (Err r ≡ answer_of o) × (out ≡ written o out)
  refusing r e = (sym (answer_refused o r e), sym (written_refused o r e out))
