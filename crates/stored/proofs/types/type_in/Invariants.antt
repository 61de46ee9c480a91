-- `stored::types::type_in` meets its contract. The invariant: the element asked for stands `left` places after the first of type t. Assumes
-- nothing.
use mathlib.Core.Path.{◌≡◌}
use Rattle.stored.specs.Types.{type_in}
use Rattle.stored.proofs.Laws.Types.{type_from}
use Rattle.stored.proofs.types.type_in.Given as goal

abbrev pub invariant-loop-t : goal.invariant-loop-t
invariant-loop-t l = type_from l.types l.t l.left ≡ type_in l.types l.fn.e.0
