-- What a call answers, writes and leaves in the work, for an outcome known by an equation: all three at once. Assumes nothing.
use Prim.Native.Nat.{ℕ}
use mathlib.Core.Path.{◌≡◌, refl, sym, ap, subst}
use mathlib.Core.List.{List}
use Rattle.stored.specs.declared.refusal.Refusal.{Refusal}
use Rattle.std.specs.Prelude.{Ok, Err}
use Rattle.search.specs.declared.answer.Verdict.TheVariants as verdict
use Rattle.search.specs.Machine.{Ended, none}
use Rattle.search.specs.Answer.{Answer, numbers, Outcome, ended, refused, answer_of, written, work_room, cleared, worked}

-- a call that answers r, turns the output `old` into `new` and the work `before` into `after`, by its outcome
abbrev pub Answers : Outcome → Answer → List ℕ → List ℕ → List ℕ → List ℕ → Type 0
Answers o r old new before after = (r ≡ answer_of o) × ((new ≡ written o old) × (after ≡ worked o before))

module _ (old before : List ℕ) where
  refuses_as : (r : Refusal) → Answers (refused r) (Err r) old old before before
  unfolding answer_of written worked
  refuses_as r = (refl, (refl, refl))

  none_as : (after : List ℕ) → after ≡ cleared work_room before → Answers (ended (none 0)) (Ok (verdict.None 0)) old old before after
  unfolding answer_of written worked
  none_as after w = (refl, (refl, w))

  ends_as : (e : Ended) (r : Answer) (new after : List ℕ) → (r ≡ answer_of (ended e)) × ((new ≡ written (ended e) old) × (after ≡ cleared work_room before)) → Answers (ended e) r old new before after
  unfolding worked
  ends_as e r new after w = w

  module _ (o : Outcome) where
    -- the outcome of another call that is made
    pub passes_on : (r : Answer) (new after : List ℕ) (p : Outcome) → o ≡ p → Answers p r old new before after → Answers o r old new before after
    passes_on r new after p e w = subst (λ (x : Outcome). Answers x r old new before after) (sym e) w

    pub refuses : (r : Refusal) → o ≡ refused r → Answers o (Err r) old old before before
    refuses r e = passes_on (Err r) old before (refused r) e (refuses_as r)

    pub gives_none : (after : List ℕ) → o ≡ ended (none 0) → after ≡ cleared work_room before → Answers o (Ok (verdict.None 0)) old old before after
    gives_none after e w = passes_on (Ok (verdict.None 0)) old after (ended (none 0)) e (none_as after w)

    -- a run that is made
    pub ends : (r : Answer) (new after : List ℕ) (e : Ended) → o ≡ ended e → (r ≡ answer_of (ended e)) × ((new ≡ written (ended e) old) × (after ≡ cleared work_room before)) → Answers o r old new before after
    ends r new after e q w = passes_on r new after (ended e) q (ends_as e r new after w)

    -- the numbers of the answer, as an export gives them
    pub by_numbers : (r : Answer) (new after : List ℕ) → Answers o r old new before after → (numbers r ≡ numbers (answer_of o)) × ((new ≡ written o old) × (after ≡ worked o before))
    by_numbers r new after w = (ap numbers w.0, w.1)
