-- `stored::types::first_elements` meets its contract. The invariant: the table holds the first t of the numbers to be listed, the rest of them
-- start with x, and each type added at most 255 to x. Assumes nothing.
use Prim.Native.Nat.{ℕ, ◌<◌, ◌≤◌, ◌+◌, ◌*◌}
use mathlib.Core.Path.{◌≡◌, refl, sym, ◌∙◌}
use mathlib.Core.List.{List, [], ◌∷◌, ◌++◌}
use native.Mathlib.Omega.{arith}
use native.Mathlib.Numerals.{add-one}
use lib.ListN.{length, get_or, take, drop, set, replicate}
use lib.Seq.{drop-cons, take-suc, take_all, length-take-le}
use Rattle.lists.specs.Part.{over}
use Rattle.lists.proofs.Laws.Over.{over_at_lem}
use Rattle.stored.specs.Limits.{max_types}
use Rattle.stored.specs.Layout.{table, firsts_from}
use Rattle.stored.proofs.Laws.Types.{length_firsts, firsts_next}
use Rattle.stored.proofs.types.first_elements.Given as goal

pub record Listed (types first : List ℕ) (x t : ℕ) : Type 0 where
  pub within : t ≤ length types
  pub small : x ≤ 255 * t
  pub so_far : first ≡ table (take t (firsts_from 0 types))
  pub rest : drop t (firsts_from 0 types) ≡ firsts_from x (drop t types)

pub start : (types : List ℕ) → Listed types (replicate 16 0) 0 0
unfolding table over
start types = record { within = omega arith; small = omega arith; so_far = refl; rest = refl }

module _ (types first : List ℕ) (x t : ℕ) (i : Listed types first x t) where
  module _ (h : t < length types) where
    pub long : t < length (firsts_from 0 types)
    long = omega (arith, length_firsts 0 types)

    -- the next to be listed is x
    pub next : get_or (firsts_from 0 types) t 0 ∷ drop (t + 1) (firsts_from 0 types) ≡ x ∷ firsts_from (x + get_or types t 0) (drop (t + 1) types)
    next = rw add-one (sym (drop-cons (firsts_from 0 types) t 0 long)) ∙ i.rest ∙ firsts_next types x t h

    pub one_more : take (t + 1) (firsts_from 0 types) ≡ take t (firsts_from 0 types) ++ x ∷ []
    one_more = let e : get_or (firsts_from 0 types) t 0 ≡ x = cc next in rw (add-one t, take-suc (firsts_from 0 types) t 0 long, e)

    pub written : length types ≤ max_types → set first t x ≡ table (take (t + 1) (firsts_from 0 types))
    unfolding table
    written few =
        let e : length (take t (firsts_from 0 types)) ≡ t = length-take-le t (firsts_from 0 types) (omega (arith, long)) in
        rw (i.so_far, one_more) (over_at_lem (take t (firsts_from 0 types)) (replicate 16 0) x t e (omega arith))

    pub more : length types ≤ max_types → get_or types t 0 < 256 → Listed types (set first t x) (x + get_or types t 0) (t + 1)
    more few k = record { within = omega arith; small = omega (arith, i.small); so_far = written few; rest = cc next }

  pub done : length types ≤ t → first ≡ table (firsts_from 0 types)
  done h = i.so_far ∙ rw (take_all t (firsts_from 0 types) (omega (arith, length_firsts 0 types)))

abbrev pub invariant-loop-t : goal.invariant-loop-t
invariant-loop-t l = Listed l.types l.first l.x l.t
