-- `rounds::numbers::buckets_for` meets its contract, case by case. Assumes nothing.
use mathlib.Core.Path.{sym}
use native.Mathlib.Omega.{arith}
use Rattle.rounds.proofs.Laws.Buckets.{buckets_few, buckets_some, buckets_many}
use Rattle.rounds.proofs.numbers.buckets_for.Goals as goal

pub returns-then-rows-le64 : goal.returns-then-rows-le64
returns-then-rows-le64 c = sym (buckets_few _ 0 c.if-rows-le64.true)

pub returns-then-rows-le512 : goal.returns-then-rows-le512
returns-then-rows-le512 c = sym (buckets_some _ 0 (omega arith) c.if-rows-le512.true)

pub returns-else-rows-le512 : goal.returns-else-rows-le512
returns-else-rows-le512 c = sym (buckets_many _ 0 (omega arith))
