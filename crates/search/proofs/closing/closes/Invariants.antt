-- `search::closing::closes` meets its contract. The invariant: the relations from k on close where all do. Assumes nothing.
use lib.ListN.{length}
use Rattle.lists.proofs.Laws.Numbers.{UpFrom}
use Rattle.stored.specs.File.{held}
use Rattle.search.specs.Machine.{closes_at}
use Rattle.search.proofs.closing.closes.Given as goal

abbrev pub invariant-loop-k : goal.invariant-loop-k
invariant-loop-k l = UpFrom (closes_at (held l.both.left) (held l.both.right) l.map) (length (held l.both.left).relations) l.k
