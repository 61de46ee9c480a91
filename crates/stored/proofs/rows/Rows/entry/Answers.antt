use Prim.Native.Nat.{ℕ, ◌+◌, ◌*◌, ◌<◌, ◌≤◌}
use native.Mathlib.Omega.{arith}
use Rattle.stored.proofs.rows.Rows.entry.Goals as goal

inside : (i a c n : ℕ) → i < c → c * a ≤ n → i * a + a ≤ n
inside i a c n h k = grind arith

pub entry-requires : goal.entry-requires
entry-requires c = (inside _ _ _ _ c.requires.0 c.args.self.now.whole, c.requires.1)
