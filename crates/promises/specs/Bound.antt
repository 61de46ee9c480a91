-- How many units are enough.
use Rattle.std.specs.Prelude.{ℕ, zero, suc, ◌+◌, ◌*◌, max}

-- "N(0) = N(1) = 1, N(r) = 1 + r·N(r−1)."
unfoldable pub N : ℕ → ℕ
N zero = 1
N (suc zero) = 1
N (suc (suc r)) = 1 + suc (suc r) * N (suc r)

-- "The bound 2·max(r,1)·N(r)"
unfoldable pub bound : ℕ → ℕ
bound r = 2 * max r 1 * N r
