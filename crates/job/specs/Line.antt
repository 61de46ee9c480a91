-- "It prints one line: the number, the carried values, on 0 the map, `-` for 255." Numbers are in decimal, with single spaces between them, and the line ends
-- with one line feed. The line is bytes: 10 is the line feed, 32 the space, 45 `-`, and 48 `0`.
use Rattle.std.specs.Prelude.{ℕ, zero, suc, ◌+◌, ◌/◌, ◌%◌, true, false, List, [], ◌∷◌, ◌++◌, map, eqb, ltb, Option, Some, None}
use Rattle.lists.specs.Part.{part}
use Rattle.search.specs.Machine.{found, none, exhausted}
use Rattle.search.specs.Answer.{Outcome, ended, refused, numbers, answer_of, work_room}
use Rattle.search.specs.Find.{find_files}
use Rattle.job.specs.declared.reader.Value.{Value}
use Rattle.job.specs.declared.job.Job.{Job}
use Rattle.job.specs.Job.{job_of}

-- the digits of a number that is below the fuel
unfoldable pub digits_of : ℕ → ℕ → List ℕ
digits_of zero n = []
digits_of (suc fuel) n = elim (ltb n 10) [ true ↦ (48 + n) ∷ [] | false ↦ digits_of fuel (n / 10) ++ ((48 + n % 10) ∷ []) ]

unfoldable pub decimal : ℕ → List ℕ
decimal n = digits_of (suc n) n

-- "`-` for 255"
unfoldable pub entry : ℕ → List ℕ
entry e = elim (eqb e 255) [ true ↦ 45 ∷ [] | false ↦ decimal e ]

-- words, a space before each
unfoldable pub spaced : List (List ℕ) → List ℕ
spaced [] = []
spaced (word ∷ words) = (32 ∷ word) ++ spaced words

-- numbers, single spaces between them
unfoldable pub listed : List ℕ → List ℕ
listed [] = []
listed (n ∷ ns) = decimal n ++ spaced (map decimal ns)

-- the line of an answer: its number and the values it carries, the entries of its map, and the line feed
unfoldable pub line_with : List ℕ → List ℕ → List ℕ
line_with ns f = listed ns ++ (spaced (map entry f) ++ (10 ∷ []))

-- "on 0 the map"
unfoldable pub map_found : Outcome → List ℕ
map_found (ended (found u f)) = f
map_found (ended (none u)) = []
map_found (ended (exhausted u)) = []
map_found (refused r) = []

-- the line of a call of find with pairs
unfoldable pub found_line : Outcome → List ℕ
found_line o = line_with (numbers (answer_of o)) (map_found o)

-- the bytes of a value
abbrev pub value_in : List ℕ → Value → List ℕ
value_in s v = part s v.start v.len

-- find has room for the map of 64 elements, and all the work it needs
abbrev pub map_room : ℕ
map_room = 64

-- the line that answers a job; 21 "job file broken (program)"
unfoldable pub answer_to : List ℕ → Option Job → List ℕ
answer_to s (Some job) = found_line (find_files (value_in s job.left) (value_in s job.right) (value_in s job.pairs) job.budget map_room work_room)
answer_to s None = line_with (21 ∷ []) []

unfoldable pub line_of : List ℕ → List ℕ
line_of s = answer_to s (job_of s)
