-- `rounds::classes::lowest_in` meets its contract: `find` answers the first that passes the test. Assumes nothing.
use Rattle.std.proofs.Common.{rules, arith, ◌≡◌, ℕ, ◌≤◌, ◌<◌, Bool, true, false, length, Option, None, Some, ◌∙◌}
use Rattle.std.proofs.lemmas.Iterator.{first_from_Range}
use Rattle.std.specs.Option.{MatchOption, unwrap_or}
use Prim.Native.Nat.{zero-le}
use borrow.Author.Tests.{tests}
use mathlib.Core.Logic.{by_cases}
use native.Mathlib.Decide.{dec_le}
use Rattle.lists.specs.First.{lowest}
use Rattle.lists.proofs.Laws.First.{lowest_none, lowest_passes, lowest_below}
use Rattle.lists.proofs.Laws.Tests.{clash}
use Rattle.rounds.specs.Parts.{has_colour}
use Rattle.rounds.proofs.classes.lowest_in.Goals as goal

-- the first that passes, or the number of all
lowest_is :
    (p : ℕ → Bool) (n : ℕ) (r : Option ℕ) →
    MatchOption r ((k : ℕ) → 0 ≤ k → k < n → p k ≡ false) (λ i. (0 ≤ i) × (i < n) × (p i ≡ true) × ((k : ℕ) → 0 ≤ k → k < i → p k ≡ false)) → unwrap_or r n ≡ lowest p 0 n
lowest_is p n None h = let k = lowest_none p 0 n (λ x l u. h x l (omega arith)) in omega arith
lowest_is p n (Some i) h =
    by_cases (dec_le i (lowest p 0 n))
    (λ a. by_cases (dec_le (lowest p 0 n) i) (λ b. omega arith) (λ b. clash h.2 (lowest_below p 0 n i zero-le (omega arith))))
    (λ a. clash (lowest_passes p 0 n (omega arith)) (h.3 (lowest p 0 n) zero-le (omega arith)))

pub returns : goal.returns
unfolding has_colour
returns c =
    let has = has_colour c.args.roots.now c.args.colours.now c.args.k in
    c.unwrap_or.ensures
    ∙ lowest_is has (length c.args.roots.now) c.find.result
    (first_from_Range _ _ _ _ (λ x. has x ≡ true) (λ x. has x ≡ false) c.find.ensures.ran (λ x q k. search (rules, tests)) (λ x q k. search (rules, tests)))
