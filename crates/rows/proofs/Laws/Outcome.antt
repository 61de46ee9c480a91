-- What a call answers and writes, for an outcome known by an equation: both at once. What a test answers that is called as `!test(..)`. Assumes nothing.
use Prim.Native.Nat.{ℕ}
use mathlib.Core.Path.{◌≡◌, sym, ◌∙◌, ap}
use mathlib.Core.Bool.{Bool, true, false, not}
use mathlib.Core.List.{List}
use borrow.Author.Tests.{not-true, not-false}
use Rattle.std.proofs.Common.{Ok, Err}
use Rattle.lists.specs.Part.{over}
use Rattle.stored.specs.declared.refusal.Refusal.{Refusal}
use Rattle.rows.specs.Answer.{Answer}
use Rattle.rows.specs.declared.answer.Ended.TheVariants as ended
use Rattle.rows.specs.Answer.{numbers, Outcome, accepted, none, refused, answer_of, written}
use Rattle.rows.proofs.Laws.Answer.{answer_accepted, written_accepted, answer_none, written_none, answer_refused, written_refused}

-- a call that answers r and turns the output `old` into `new`, by its outcome
abbrev pub Answers : Outcome → Answer → List ℕ → List ℕ → Type 0
Answers o r old new = (r ≡ answer_of o) × (new ≡ written o old)

module _ (o : Outcome) (old : List ℕ) where
  pub refuses : (r : Refusal) → o ≡ refused r → Answers o (Err r) old old
  refuses r e = (sym (answer_refused o r e), sym (written_refused o r e old))

  -- as another call was refused
  pub refuses_as : (a : Answer) (r : Refusal) → a ≡ Err r → o ≡ refused r → Answers o a old old
  refuses_as a r q e = (q ∙ sym (answer_refused o r e), sym (written_refused o r e old))

  pub gives_none : o ≡ none → Answers o (Ok ended.None) old old
  gives_none e = (sym (answer_none o e), sym (written_none o e old))

  pub accepts : (f new : List ℕ) → o ≡ accepted f → new ≡ over f old → Answers o (Ok ended.Accepted) old new
  accepts f new e w = (sym (answer_accepted o f e), w ∙ sym (written_accepted o f e old))

  -- the outcome of another call that is made
  pub passes_on : (r : Answer) (new : List ℕ) (p : Outcome) → o ≡ p → Answers p r old new → Answers o r old new
  passes_on r new p e w = (w.0 ∙ ap answer_of (sym e), w.1 ∙ ap (λ (x : Outcome). written x old) (sym e))

-- the numbers of the answer, as an export gives them
pub by_numbers : (o : Outcome) (r : Answer) (old new : List ℕ) → Answers o r old new → (numbers r ≡ numbers (answer_of o)) × (new ≡ written o old)
by_numbers o r old new w = (ap numbers w.0, w.1)

-- a test b that was called, with its answer r
module _ {r b : Bool} (e : r ≡ b) where
  pub holds : not r ≡ false → b ≡ true
  holds h = sym e ∙ not-false r h

  pub fails : not r ≡ true → b ≡ false
  fails h = sym e ∙ not-true r h
