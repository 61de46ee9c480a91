-- `vectors::main` is safe: the buffer is lent whole, by the law on the length of equal entries, since to count them one by one is too deep. Assumes nothing.
use Prim.Native.Nat.{ℕ}
use mathlib.Core.Path.{sym}
use lib.ListN.{length-replicate}
use Rattle.vectors.proofs.main.Goals as goal

pub slice_bounds-replay_input-end : goal.slice_bounds-replay_input-end
slice_bounds-replay_input-end c = sym (length-replicate {0} {A = ℕ} 1048576 0)
