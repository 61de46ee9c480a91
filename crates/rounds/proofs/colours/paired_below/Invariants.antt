-- `rounds::colours::paired_below` meets its contract. The invariant: n counts the elements below x that have a partner. Assumes nothing.
use Rattle.std.proofs.Common.{◌≡◌, ◌≤◌}
use Rattle.lists.specs.Every.{how_many}
use Rattle.lists.specs.Numbers.{up_from}
use Rattle.rounds.specs.Colours.{paired}
use Rattle.rounds.proofs.colours.paired_below.Given as goal

abbrev pub invariant-loop-x : goal.invariant-loop-x
invariant-loop-x l = (l.n ≤ l.x) × (l.n ≡ how_many (paired l.partners) (up_from 0 l.x))
