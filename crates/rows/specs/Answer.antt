-- "Numbers answered": 0 accepted, with the image's representative for apply; 1 no inverse; or a refusal. "On 0 the first n bytes hold the map and
-- the rest are unchanged. On every other number the output is unchanged."
use Rattle.std.specs.Prelude.{ℕ, List, [], ◌∷◌, Result, Ok, Err}
use Rattle.lists.specs.Part.{over}
use Rattle.stored.specs.declared.refusal.Refusal.{Refusal}
use Rattle.stored.specs.Refusal as refusal
use Rattle.stored.specs.declared.model.Element.{Element}
use Rattle.rows.specs.declared.answer.Ended.{Ended}
use Rattle.rows.specs.declared.answer.Ended.TheVariants as ended

-- of a call that writes a map
abbrev pub Answer : Type 0
Answer = Result Ended Refusal

-- the number of an answer, then the values it carries
abbrev pub numbers : Answer → List ℕ
numbers (Ok ended.Accepted) = 0 ∷ []
numbers (Ok ended.None) = 1 ∷ []
numbers (Err r) = refusal.numbers r

abbrev pub applied_numbers : Result Element Refusal → List ℕ
applied_numbers (Ok e) = 0 ∷ e.0 ∷ []
applied_numbers (Err r) = refusal.numbers r

-- what a call that writes a map comes to
pub data Outcome : Type 0 where
  accepted : List ℕ → Outcome
  none : Outcome
  refused : Refusal → Outcome

-- its answer
unfoldable pub answer_of : Outcome → Answer
answer_of (accepted f) = Ok ended.Accepted
answer_of none = Ok ended.None
answer_of (refused r) = Err r

-- its output
unfoldable pub written : Outcome → List ℕ → List ℕ
written (accepted f) out = over f out
written none out = out
written (refused r) out = out
