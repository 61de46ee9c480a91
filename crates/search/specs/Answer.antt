-- "Numbers answered": 0 found, 1 none, 2 budget exhausted, each with the units used; or a refusal.
use Rattle.std.specs.Prelude.{ℕ, List, [], ◌∷◌, ◌++◌, drop, replicate, Result, Ok, Err}
use Rattle.lists.specs.Part.{over}
use Rattle.stored.specs.declared.refusal.Refusal.{Refusal}
use Rattle.stored.specs.Refusal as refusal
use Rattle.search.specs.declared.answer.Verdict.{Verdict}
use Rattle.search.specs.declared.answer.Verdict.TheVariants as verdict
use Rattle.search.specs.Machine.{Ended, found, none, exhausted}

abbrev pub Answer : Type 0
Answer = Result Verdict Refusal

abbrev pub numbers : Answer → List ℕ
numbers (Ok (verdict.Found u)) = 0 ∷ u ∷ []
numbers (Ok (verdict.None u)) = 1 ∷ u ∷ []
numbers (Ok (verdict.Exhausted u)) = 2 ∷ u ∷ []
numbers (Err r) = refusal.numbers r

-- what a call comes to
pub data Outcome : Type 0 where
  ended : Ended → Outcome
  refused : Refusal → Outcome

unfoldable pub answer_of : Outcome → Answer
answer_of (ended (found u f)) = Ok (verdict.Found u)
answer_of (ended (none u)) = Ok (verdict.None u)
answer_of (ended (exhausted u)) = Ok (verdict.Exhausted u)
answer_of (refused r) = Err r

-- "On 0 the first n bytes hold the map and the rest are unchanged. On every other number the output is unchanged."
unfoldable pub written : Outcome → List ℕ → List ℕ
written (ended (found u f)) out = over f out
written (ended (none u)) out = out
written (ended (exhausted u)) out = out
written (refused r) out = out

-- "Find needs 32,768 lent 16-bit work entries." "On 0, 1 and 2 of find the first 32,768 entries are zero, the rest unchanged; on a refusal all are
-- unchanged."
abbrev pub work_room : ℕ
work_room = 32768

unfoldable pub cleared : ℕ → List ℕ → List ℕ
cleared n work = replicate n 0 ++ drop n work

unfoldable pub worked : Outcome → List ℕ → List ℕ
worked (ended e) work = cleared work_room work
worked (refused r) work = work
