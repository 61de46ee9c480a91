-- What the functions that write a line say of it, and the room they need. The line itself is `line_of`, in `Line.antt`.
use Rattle.std.specs.Prelude.{ℕ, ◌+◌, ◌≡◌, List, ◌++◌, length, take, Ok, Err}
use Rattle.stored.specs.Model.{size}
use Rattle.stored.specs.Parse.{model, fault, parse}
use Rattle.search.specs.Answer.{Answer}
use Rattle.search.specs.declared.answer.Verdict.TheVariants as verdict

-- up to r the line holds what it held up to a place, then a text
pub record Added (line : List ℕ) (at : ℕ) (text : List ℕ) (r : ℕ) (after : List ℕ) : Type 0 where
  pub ends : r ≡ at + length text
  pub holds : take r after ≡ take at line ++ text

-- a number and two values, of 20 digits at most, and two spaces
abbrev pub numbers_room : ℕ
numbers_room = 62

-- the numbers, 64 entries of at most 20 digits with a space before each, and the line feed: no line is longer
abbrev pub line_room : ℕ
line_room = 1408

-- how many elements the model in a file has; 0 where the file holds none
unfoldable pub elements_in : List ℕ → ℕ
elements_in s = elim (parse s) [ model m ↦ size m | fault f ↦ 0 ]

-- how many entries the map of an answer has, by the file of the left model
unfoldable pub entries_of : Answer → List ℕ → ℕ
entries_of (Ok (verdict.Found u)) left = elements_in left
entries_of (Ok (verdict.None u)) left = 0
entries_of (Ok (verdict.Exhausted u)) left = 0
entries_of (Err r) left = 0
