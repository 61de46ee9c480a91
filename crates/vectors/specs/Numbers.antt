-- The number of an answer and the values it carries, as the list in which "Numbers answered" gives them.
use Rattle.std.specs.Prelude.{ℕ, List, [], ◌∷◌}
use Rattle.vectors.specs.declared.numbers.Carried.{Carried}
use Rattle.vectors.specs.declared.numbers.Carried.TheVariants.{Nothing, One, Two}
use Rattle.vectors.specs.declared.numbers.Numbers.{Numbers}

abbrev pub values : Carried → List ℕ
values Nothing = []
values (One value) = value ∷ []
values (Two value other) = value ∷ other ∷ []

abbrev pub listed : Numbers → List ℕ
listed n = n.number ∷ values n.carried
