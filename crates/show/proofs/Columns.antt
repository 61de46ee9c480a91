-- Where a relation's columns stand in a file that was read: just before the two bytes of its row count, which stand just before its rows. Assumes
-- nothing.
use Prim.Native.Nat.{ℕ, ◌+◌, ◌<◌, ◌≤◌}
use mathlib.Core.List.{List}
use native.Mathlib.Omega.{arith}
use lib.ListN.{length, get_or}
use Rattle.stored.specs.declared.layout.Layout.{Layout}
use Rattle.stored.specs.Reading.{Reads}
use Rattle.stored.proofs.Laws.Reading.{relation_there}

module _ (s : List ℕ) (l : Layout) (reads : Reads s l) (k : ℕ) (h : k < l.relations) where
  pub columns_before_rows : get_or l.arity k 0 + 2 ≤ get_or l.rows k 0
  columns_before_rows = let there = relation_there s l reads k h in omega (arith, there.is_arity, there.stands.after_columns)

  pub rows_inside : get_or l.rows k 0 ≤ length s
  rows_inside = let there = relation_there s l reads k h in omega (arith, there.stands.inside)
