-- "Standard input holding 10 left, 11 right, 12 pairs, 13 eight-byte budget (high byte first), then End and nothing after, each once in this order, at most
-- 8,192 bytes; anything else is 21." The tags are hexadecimal: 10 to 13 are 16 to 19 here. Each step below reads one
-- field and goes on with the next; `job_of` is the first of them.
use Rattle.std.specs.Prelude.{ℕ, ◌+◌, ◌*◌, true, false, ◌&&◌, List, [], ◌∷◌, length, eqb, leb, Option, Some, None}
use Rattle.lists.specs.Part.{part}
use Rattle.job.specs.declared.reader.Value.{Value}
use Rattle.job.specs.declared.job.Job.{Job}
use Rattle.job.specs.Reader.{due_at}

abbrev pub max_job : ℕ
max_job = 8192

-- bytes as a number, high byte first, after what stands before them
unfoldable pub high_first : ℕ → List ℕ → ℕ
high_first n [] = n
high_first n (b ∷ bs) = high_first (n * 256 + b) bs

-- "then End and nothing after"
unfoldable pub end_from : List ℕ → Value → Value → Value → ℕ → ℕ → Option Job
end_from s left right pairs budget at = elim (due_at s 0 at) [
  | Some end ↦ elim (eqb end.value.len 0 && eqb end.past (length s)) [
    | true ↦ Some (record { left = left; right = right; pairs = pairs; budget = budget })
    | false ↦ None
  ]
  | None ↦ None
]

-- "13 eight-byte budget (high byte first)"
unfoldable pub budget_from : List ℕ → Value → Value → Value → ℕ → Option Job
budget_from s left right pairs at = elim (due_at s 19 at) [
  | Some budget ↦ elim (eqb budget.value.len 8) [
    | true ↦ end_from s left right pairs (high_first 0 (part s budget.value.start 8)) budget.past
    | false ↦ None
  ]
  | None ↦ None
]

-- "12 pairs"
unfoldable pub pairs_from : List ℕ → Value → Value → ℕ → Option Job
pairs_from s left right at = elim (due_at s 18 at) [ Some pairs ↦ budget_from s left right pairs.value pairs.past | None ↦ None ]

-- "11 right"
unfoldable pub right_from : List ℕ → Value → ℕ → Option Job
right_from s left at = elim (due_at s 17 at) [ Some right ↦ pairs_from s left right.value right.past | None ↦ None ]

-- "10 left"
unfoldable pub left_from : List ℕ → ℕ → Option Job
left_from s at = elim (due_at s 16 at) [ Some left ↦ right_from s left.value left.past | None ↦ None ]

-- "at most 8,192 bytes"
unfoldable pub job_of : List ℕ → Option Job
job_of s = elim (leb (length s) max_job) [ true ↦ left_from s 0 | false ↦ None ]
