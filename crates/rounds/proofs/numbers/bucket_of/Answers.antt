-- `rounds::numbers::bucket_of` meets its contract. Assumes nothing.
use mathlib.Core.Path.{sym}
use native.Mathlib.Omega.{arith}
use Rattle.rounds.proofs.Laws.Buckets.{bucket_below, bucket_is}
use Rattle.rounds.proofs.numbers.bucket_of.Goals as goal

pub nonzero_rem-result : goal.nonzero_rem-result
nonzero_rem-result c = omega (arith, c.buckets_for.ensures, bucket_below c.args.rows c.args.code)

pub returns : goal.returns
returns c = rw (c.buckets_for.ensures) (sym (bucket_is c.args.rows c.args.code))
