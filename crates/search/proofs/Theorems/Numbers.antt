-- The numbers of the bound: how many nodes a search over r representatives can have, how many units a search that lacks j colours of r can take, and that the bound is enough for the
-- latter. Assumes nothing.
use Prim.Native.Nat.{ℕ, zero, suc, ◌+◌, ◌*◌, ◌-◌, ◌≤◌, max}
use mathlib.Core.Path.{◌≡◌, refl, sym, ◌∙◌, ap}
use mathlib.Core.Logic.{by_cases}
use native.Mathlib.Omega.{arith}
use native.Mathlib.Decide.{ℕ_discrete}
use native.Mathlib.Nat.{mul-le-mul_left, suc-mul, mul_assoc, mul_comm, mul-add}

-- N(0) = N(1) = 1, N(r) = 1 + r N(r - 1)
unfoldable pub nodes : ℕ → ℕ
nodes zero = 1
nodes (suc zero) = 1
nodes (suc (suc r)) = 1 + suc (suc r) * nodes (suc r)

-- the bound: 2 max(r, 1) N(r)
unfoldable pub search_bound : ℕ → ℕ
search_bound r = 2 * max r 1 * nodes r

-- the most units of a search that lacks j colours of r: a round and a closing check; or a round, r candidates looked at, and j + 1 searches that lack one colour less
unfoldable pub units_lacking : ℕ → ℕ → ℕ
units_lacking r zero = 2
units_lacking r (suc j) = 1 + r + suc (suc j) * units_lacking r j

pub nodes_zero : nodes 0 ≡ 1
unfolding nodes
nodes_zero = refl

pub nodes_one : nodes 1 ≡ 1
unfolding nodes
nodes_one = refl

pub nodes_more : (r : ℕ) → 1 + suc (suc r) * nodes (suc r) ≡ nodes (suc (suc r))
unfolding nodes
nodes_more r = refl

pub search_bound_lem : (r : ℕ) → 2 * max r 1 * nodes r ≡ search_bound r
unfolding search_bound
search_bound_lem r = refl

pub lacking_none : (r : ℕ) → units_lacking r 0 ≡ 2
unfolding units_lacking
lacking_none r = refl

pub lacking_more : (r j : ℕ) → 1 + r + suc (suc j) * units_lacking r j ≡ units_lacking r (suc j)
unfolding units_lacking
lacking_more r j = refl

-- a round that leaves one colour less to lack
pub lacking_step : (r j : ℕ) → 1 + units_lacking r j ≤ units_lacking r (suc j)
lacking_step r j = omega (arith, lacking_more r j, suc-mul (suc j) (units_lacking r j))

pub lacking_two : (r j : ℕ) → 2 ≤ units_lacking r j
lacking_two r zero = omega (arith, lacking_none r)
lacking_two r (suc j) = omega (arith, lacking_two r j, lacking_step r j)

pub lacking_grows : (r i j : ℕ) → i ≤ j → units_lacking r i ≤ units_lacking r j
lacking_grows r i zero h = let z : i ≡ 0 = omega arith in rw z (omega arith)
lacking_grows r i (suc j) h = by_place (lacking_grows r i j)
  where
    by_place : (i ≤ j → units_lacking r i ≤ units_lacking r j) → units_lacking r i ≤ units_lacking r (suc j)
    by_place ih = by_cases (ℕ_discrete i (suc j)) (λ q. rw q (omega arith)) (λ q. omega (arith, ih (omega arith), lacking_step r j))

exchange : (x y z : ℕ) → x * (y * z) ≡ y * (x * z)
exchange x y z = sym (mul_assoc x y z) ∙ ap (λ (t : ℕ). t * z) (mul_comm x y) ∙ mul_assoc y x z

-- each node takes 2 r units at most
pub lacking_nodes : (r j : ℕ) → 1 ≤ r → units_lacking r j ≤ 2 * r * nodes (suc j)
lacking_nodes r zero h = omega (arith, lacking_none r, ap (λ (z : ℕ). 2 * r * z) nodes_one)
lacking_nodes r (suc j) h =
    let each = mul-le-mul_left (suc (suc j)) (lacking_nodes r j h) in
    omega (arith, lacking_more r j, each, exchange (suc (suc j)) (2 * r) (nodes (suc j)), ap (λ (z : ℕ). 2 * r * z) (sym (nodes_more j)), mul-add (2 * r) 1 (suc (suc j) * nodes (suc j)))

-- a search that has a colour, if there is a representative, takes no more than the bound
pub bound_enough : (r d : ℕ) → (1 ≤ r → 1 ≤ d) → units_lacking r (r - d) ≤ search_bound r
unfolding search_bound
bound_enough zero d some =
    let z : 0 - d ≡ 0 = omega arith in
    rw (z, lacking_none 0) (omega (arith, ap (λ (t : ℕ). 2 * max 0 1 * t) nodes_zero))
bound_enough (suc j) d some =
    let fewer = lacking_grows (suc j) (suc j - d) j (omega (arith, some (omega arith))) in
    let larger : max (suc j) 1 ≡ suc j = omega arith in
    omega (arith, fewer, lacking_nodes (suc j) j (omega arith), ap (λ (t : ℕ). 2 * t * nodes (suc j)) larger)
