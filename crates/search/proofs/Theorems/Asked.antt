-- Asked: find among pairs refuses the first bad one, or all are good and it comes to what the search comes to; the search is a run from the first colours where the models are alike.
-- Assumes nothing.
use Prim.Native.Nat.{ℕ}
use mathlib.Core.Path.{◌≡◌, refl, subst}
use mathlib.Core.Bool.{true, false}
use mathlib.Core.List.{List, []}
use Rattle.std.proofs.Common.{Result, Ok, Err}
use Rattle.stored.specs.declared.refusal.Refusal.{Refusal}
use Rattle.stored.specs.Model.{Model}
use Rattle.rows.specs.Pairs.{pair_count}
use Rattle.search.specs.Partners.{pairs_from, partners, clash, partners_of}
use Rattle.search.specs.Machine.{refine, Ended, none, run}
use Rattle.search.specs.Answer.{Outcome, ended, refused}
use Rattle.search.specs.Find.{round_cost, alike, start_from, searched, find_paired, find_among}
use Rattle.search.proofs.Theorems.Partners.{AllGood, FirstBad, all_good, first_bad, are_good}
use Rattle.search.proofs.Theorems.Start.{first_sides}

module _ (a b : Model) (pairs : List ℕ) (budget : ℕ) where
  abbrev AmongKnown : Outcome → Type 0
  AmongKnown (ended e) = AllGood a b pairs × (searched a b budget (partners_of a b pairs) ≡ e)
  AmongKnown (refused r) = FirstBad a b pairs (pair_count pairs) 0 r

  among_known : AmongKnown (find_among a b pairs budget)
  unfolding find_among find_paired
  among_known = by_pairs (pairs_from (pair_count pairs) a b pairs 0) refl
    where
      by_pairs : (p : Result (Unit {0}) Refusal) → pairs_from (pair_count pairs) a b pairs 0 ≡ p → AmongKnown (find_paired a b pairs budget p)
      by_pairs (Ok u) e = (all_good a b pairs e, refl)
      by_pairs (Err r) e = first_bad a b pairs r e

  pub among_ended : (e : Ended) → find_among a b pairs budget ≡ ended e → AllGood a b pairs × (searched a b budget (partners_of a b pairs) ≡ e)
  among_ended e q = subst AmongKnown q among_known

  pub among_refused : (r : Refusal) → find_among a b pairs budget ≡ refused r → FirstBad a b pairs (pair_count pairs) 0 r
  among_refused r q = subst AmongKnown q among_known

  -- good pairs are not refused
  pub among_good : AllGood a b pairs → find_among a b pairs budget ≡ ended (searched a b budget (partners_of a b pairs))
  unfolding find_among find_paired
  among_good good = rw (are_good a b pairs good)

module _ (a b : Model) (budget : ℕ) where
  pub searched_clash : searched a b budget clash ≡ none 0
  unfolding searched
  searched_clash = refl

  module _ (f g : List ℕ) where
    pub searched_unlike : alike a b ≡ false → searched a b budget (partners f g) ≡ none 0
    unfolding searched
    searched_unlike e = rw (e, searched)

    pub searched_alike : alike a b ≡ true → searched a b budget (partners f g) ≡ run budget round_cost a b budget 0 (refine (first_sides a b f g) [])
    unfolding searched start_from
    searched_alike e = rw (e, searched)
