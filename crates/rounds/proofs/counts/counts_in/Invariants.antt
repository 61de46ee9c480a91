-- `rounds::counts::counts_in` meets its contract. The invariant: the table counts the colours of the representatives below x. Assumes nothing.
use Prim.Native.Nat.{ℕ, ◌+◌, ◌<◌, ◌≤◌}
use mathlib.Core.Path.{◌≡◌, sym, ◌∙◌, ap, subst}
use mathlib.Core.Bool.{Bool, true, false}
use mathlib.Core.List.{List, [], ◌∷◌, ◌++◌}
use native.Mathlib.Omega.{arith}
use lib.ListN.{length, get_or, set}
use Rattle.stored.specs.Limits.{max_elements}
use Rattle.stored.specs.Model.{is_rep_in}
use Rattle.rounds.specs.Colours.{colour_at}
use Rattle.rounds.specs.Parts.{colours_below, colours_in, are_small, CountsOf}
use Rattle.rounds.proofs.Laws.Parts.{colours_none, colours_rep, colours_alias, colours_fit, colour_there}
use Rattle.rounds.proofs.Laws.Counts.{small_below, count_fits, counts_more}
use Rattle.rounds.proofs.counts.counts_in.Given as goal

pub record Counted (roots colours table : List ℕ) (x : ℕ) : Type 0 where
  pub few : length roots ≤ max_elements
  pub small : are_small (colours_in roots colours) ≡ true
  pub within : x ≤ length roots
  pub so_far : CountsOf table (colours_below roots colours x)

pub start : (roots colours table : List ℕ) → (length roots ≤ max_elements) × (are_small (colours_in roots colours) ≡ true) → CountsOf table [] → Counted roots colours table 0
start roots colours table h c = record {
  few = h.0;
  small = h.1;
  within = omega arith;
  so_far = subst (CountsOf table) (sym (colours_none roots colours)) c;
}

module _ (roots colours table : List ℕ) (x : ℕ) (i : Counted roots colours table x) where
  pub done : length roots ≤ x → CountsOf table (colours_in roots colours)
  done h = let e : x ≡ length roots = omega (arith, i.within) in subst (λ (n : ℕ). CountsOf table (colours_below roots colours n)) e i.so_far

  -- whether x is a representative
  module _ (h : x < length roots) (b : Bool) (r : b ≡ is_rep_in roots x) where
    pub an_alias : b ≡ false → (table' : List ℕ) → table' ≡ table → Counted roots colours table' (x + 1)
    an_alias f table' q = record {
      few = i.few;
      small = i.small;
      within = omega arith;
      so_far = rw (q, colours_alias roots colours x (sym r ∙ f)) i.so_far;
    }

    -- its colour
    module _ (t : b ≡ true) (k : ℕ) (e : k ≡ colour_at colours x) where
      pub below : k < 128
      below = rw e (small_below (colours_in roots colours) i.small (colour_at colours x) (colour_there roots colours (length roots) x h (sym r ∙ t)))

      pub not_full : get_or table k 0 + 1 ≤ 255
      not_full = omega (arith, count_fits i.so_far k, colours_fit roots colours x, i.few)

      pub a_rep : (table' : List ℕ) → table' ≡ set table k (get_or table k 0 + 1) → Counted roots colours table' (x + 1)
      a_rep table' q = record {
        few = i.few;
        small = i.small;
        within = omega arith;
        so_far =
            rw q
            (subst (CountsOf (set table k (get_or table k 0 + 1)))
            (ap (λ (v : ℕ). colours_below roots colours x ++ v ∷ []) e ∙ sym (colours_rep roots colours x (sym r ∙ t))) (counts_more i.so_far k below));
      }

abbrev pub invariant-loop-x : goal.invariant-loop-x
invariant-loop-x l = Counted l.roots l.colours l.table l.x
