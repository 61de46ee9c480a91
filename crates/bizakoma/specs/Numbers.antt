-- "Numbers answered", as a C caller gets them: the number as the result, the values it carries in three lent places.
use Rattle.std.specs.Prelude.{ℕ, List, [], ◌∷◌, ◌++◌, get_or, take, drop}

-- the number of an answer
abbrev pub number_of : List ℕ → ℕ
number_of numbers = get_or numbers 0 0

-- the values it carries, with 0 in each place that is not used
abbrev pub carried_of : List ℕ → List ℕ
carried_of numbers = take 3 (drop 1 numbers ++ (0 ∷ 0 ∷ 0 ∷ []))
