-- `rounds::numbers::first_line` meets its contract. The invariant: q leads to the last row in the bucket that is not yet passed, and the first row with the colours is not passed (`Walk`); the
-- measure is q, since a link leads to an earlier row. Assumes nothing.
use Prim.Native.Nat.{ℕ, ◌+◌, ◌*◌, ◌<◌, ◌≤◌}
use mathlib.Core.Path.{◌≡◌}
use mathlib.Core.List.{List}
use lib.ListN.{length, get_or}
use Rattle.rounds.specs.Board.{board_room, lines_on, bucket_at, Bucketed}
use Rattle.rounds.proofs.Laws.Buckets.{Sought, Walk}
use Rattle.rounds.proofs.numbers.first_line.Given as goal

-- what the function is called with
pub sought :
    (w : List ℕ) (base arity rows place p b : ℕ)
    → (length w ≡ board_room) × (1 ≤ arity) × (base + rows * arity ≤ 4096) × ((n : ℕ) → n < base + rows * arity → get_or w n 0 < 128) × (place < rows) × (p ≡ base + place * arity) × (b ≡ bucket_at rows (lines_on w base arity rows) place) × Bucketed base arity rows (lines_on w base arity rows) w place
    → Sought w base arity rows place p b
sought w base arity rows place p b s = record { room = s.0; wide = s.1; fits = s.2; known = s.3; within = s.4; is_p = s.5; is_b = s.6; bucketed = s.7 }

abbrev pub invariant-loop-q : goal.invariant-loop-q
invariant-loop-q l = Walk l.board l.base l.arity l.rows l.place l.p l.bucket l.q

abbrev pub decreases-loop-q : goal.decreases-loop-q
decreases-loop-q l = l.q
