-- `rounds::colours::write_colours` meets its contract. The invariant: the colours of the elements below x are written over the front. Assumes nothing.
use Rattle.std.proofs.Common.{◌≡◌, ◌<◌, ℕ}
use Rattle.lists.proofs.Laws.Entries.{WrittenTo}
use Rattle.rounds.proofs.colours.write_colours.Given as goal

abbrev pub invariant-loop-x : goal.invariant-loop-x
invariant-loop-x g l = (f : ℕ → ℕ) → ((x k : ℕ) → x < l.count → goal.F-post g l.colour x k → k ≡ f x) → WrittenTo f l.count l.initial.out l.x l.out
