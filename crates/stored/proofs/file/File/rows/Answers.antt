use Prim.Native.Nat.{ℕ, ◌*◌, ◌≤◌}
use mathlib.Core.Path.{◌≡◌}
use mathlib.Core.List.{List}
use native.Mathlib.Omega.{arith}
use lib.ListN.{length, drop}
use Rattle.lists.specs.Part.{rows_of}
use Rattle.lists.proofs.Laws.Part.{part_rest}
use Rattle.stored.proofs.Laws.Canonical.{RowsThere}
use Rattle.stored.proofs.Laws.File.{few, its_rows, its_arity}
use Rattle.stored.proofs.file.File.rows.Goals as goal

-- the rows, in the rest of the file
module _ (s : List ℕ) (rows : List (List ℕ)) (start a n : ℕ) (there : RowsThere s rows start a n) (cells : List ℕ) (back : cells ≡ drop start s) where
  room : n * a ≤ length cells
  room = rw (back, ← part_rest s start) there.inside

  same : rows_of a n cells ≡ rows
  same = rw (back, ← part_rest s start) there.same

pub offset_bounds-self-k : goal.offset_bounds-self-k
offset_bounds-self-k c = omega (arith, few _ _ c.args.self.now.reads _ c.requires)

pub bounds-self-k : goal.bounds-self-k
bounds-self-k c = few _ _ c.args.self.now.reads _ c.requires

pub rest-requires : goal.rest-requires
rest-requires c = (its_rows _ _ c.args.self.now.reads _ c.requires).begins

pub offset_bounds-self-k-2 : goal.offset_bounds-self-k-2
offset_bounds-self-k-2 c = omega (arith, few _ _ c.args.self.now.reads _ c.requires)

pub bounds-self-k-2 : goal.bounds-self-k-2
bounds-self-k-2 c = few _ _ c.args.self.now.reads _ c.requires

pub offset_bounds-self-k-3 : goal.offset_bounds-self-k-3
offset_bounds-self-k-3 c = omega (arith, few _ _ c.args.self.now.reads _ c.requires)

pub bounds-self-k-3 : goal.bounds-self-k-3
bounds-self-k-3 c = few _ _ c.args.self.now.reads _ c.requires

pub invariant_of-result : goal.invariant_of-result
invariant_of-result c = record { whole = room _ _ _ _ _ (its_rows _ _ c.args.self.now.reads _ c.requires) _ c.rest.ensures.same; bytes = c.rest.ensures.bytes }

pub returns-clause-arity : goal.returns-clause-arity
returns-clause-arity c = its_arity _ _ c.args.self.now.reads _ c.requires

pub returns-clause-rows : goal.returns-clause-rows
returns-clause-rows c = same _ _ _ _ _ (its_rows _ _ c.args.self.now.reads _ c.requires) _ c.rest.ensures.same
