-- What the calls say and write, as their contracts do: by the bytes of the files and the maps, the budget, the output and the work that are lent.
use Rattle.std.specs.Prelude.{ℕ, ◌≡◌, List, [], ◌∷◌, length}
use Rattle.lists.specs.Part.{over}
use Rattle.stored.specs.Model.{Model}
use Rattle.rows.specs.Answer as rows
use Rattle.rows.specs.Maps.{inverse_of}
use Rattle.rows.specs.Check.{check_files}
use Rattle.rows.specs.Inverse.{inverse_files}
use Rattle.search.specs.Answer.{numbers, answer_of, written}
use Rattle.search.specs.Find.{find_files, under_files}

-- find with pairs; find is the call without pairs
abbrev pub find_says : List ℕ → List ℕ → List ℕ → ℕ → List ℕ → List ℕ → List ℕ
find_says left right pairs budget out work = numbers (answer_of (find_files left right pairs budget (length out) (length work)))

abbrev pub find_writes : List ℕ → List ℕ → List ℕ → ℕ → List ℕ → List ℕ → List ℕ
find_writes left right pairs budget out work = written (find_files left right pairs budget (length out) (length work)) out

-- find under a base
abbrev pub under_says : List ℕ → List ℕ → List ℕ → List ℕ → List ℕ → ℕ → List ℕ → List ℕ → List ℕ
under_says base left right toLeft toRight budget out work = numbers (answer_of (under_files base left right toLeft toRight budget (length out) (length work)))

abbrev pub under_writes : List ℕ → List ℕ → List ℕ → List ℕ → List ℕ → ℕ → List ℕ → List ℕ → List ℕ
under_writes base left right toLeft toRight budget out work = written (under_files base left right toLeft toRight budget (length out) (length work)) out

-- check answers 0 for a pair list, and writes this map
abbrev pub Checks : List ℕ → List ℕ → List ℕ → List ℕ → List ℕ → Type 0
Checks left right pairs f out =
    (rows.numbers (rows.answer_of (check_files left right pairs (length out))) ≡ 0 ∷ []) × (rows.written (check_files left right pairs (length out)) out ≡ over f out)

-- inverse answers 0 for a map, and writes its inverse; b is the model that the right file holds
abbrev pub Inverts : List ℕ → List ℕ → Model → List ℕ → List ℕ → Type 0
Inverts left right b f out =
    (rows.numbers (rows.answer_of (inverse_files left right f (length out))) ≡ 0 ∷ []) × (rows.written (inverse_files left right f (length out)) out ≡ over (inverse_of b f) out)
