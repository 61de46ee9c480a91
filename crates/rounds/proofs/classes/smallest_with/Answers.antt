-- `rounds::classes::smallest_with` meets its contract: each return is one case of the definition. Assumes nothing.
use Prim.Native.Nat.{ℕ, ◌<◌, ◌≤◌}
use mathlib.Core.Path.{◌≡◌, sym, ◌∙◌, ap}
use mathlib.Core.List.{List}
use native.Mathlib.Omega.{arith}
use lib.Dec.{eqb}
use Rattle.std.specs.Prelude.{Option, None, Some}
use Rattle.lists.specs.Every.{how_many}
use Rattle.rounds.specs.declared.colour.Colour.{Colour}
use Rattle.rounds.specs.Classes.{open_of}
use Rattle.rounds.specs.Parts.{smallest_with}
use Rattle.rounds.proofs.Laws.Classes.{open_none, open_at_lem, with_single, with_only, with_first, with_later}
use Rattle.rounds.proofs.classes.smallest_with.Goals as goal

-- how many have the colour
module _ (colours : List ℕ) (v : Colour) (later : Option Colour) (n : ℕ) (e : n ≡ how_many (eqb v.0) colours) where
  single : n < 2 → open_of later ≡ smallest_with colours v.0 (open_of later)
  single h = sym (with_single colours v.0 (open_of later) (omega (arith, e)))

  module _ (h : 2 ≤ n) where
    two : 2 ≤ how_many (eqb v.0) colours
    two = omega (arith, e)

    only : later ≡ None → open_of (Some v) ≡ smallest_with colours v.0 (open_of later)
    only q = open_at_lem v ∙ sym (ap (λ (o : Option Colour). smallest_with colours v.0 (open_of o)) q ∙ ap (smallest_with colours v.0) open_none ∙ with_only colours v.0 two)

    -- the class found among the later colours
    module _ (other : Colour) (q : later ≡ Some other) (m : ℕ) (d : m ≡ how_many (eqb other.0) colours) where
      is_other : smallest_with colours v.0 (open_of later) ≡ smallest_with colours v.0 (Some other.0)
      is_other = ap (λ (o : Option Colour). smallest_with colours v.0 (open_of o)) q ∙ ap (smallest_with colours v.0) (open_at_lem other)

      first : n ≤ m → open_of (Some v) ≡ smallest_with colours v.0 (open_of later)
      first l = open_at_lem v ∙ sym (is_other ∙ with_first colours v.0 two other.0 (omega (arith, e, d)))

      after : m < n → open_of (Some other) ≡ smallest_with colours v.0 (open_of later)
      after l = open_at_lem other ∙ sym (is_other ∙ with_later colours v.0 two other.0 (omega (arith, e, d)))

pub returns-then-n-lt2 : goal.returns-then-n-lt2
returns-then-n-lt2 c colours counts = single colours (record { 0 = c.args.k }) _ _ (c.count_at-n.ensures ∙ counts.counts _) c.if-n-lt2.true

pub returns-then-n-other_n : goal.returns-then-n-other_n
returns-then-n-other_n c colours counts = first colours (record { 0 = c.args.k }) _ _ (c.count_at-n.ensures ∙ counts.counts _) c.if-n-lt2.false _ c.in-Some.is _ (c.count_at-other_n.ensures ∙ counts.counts _) c.if-n-other_n.true

pub returns-in-None : goal.returns-in-None
returns-in-None c colours counts = only colours (record { 0 = c.args.k }) _ _ (c.count_at-n.ensures ∙ counts.counts _) c.if-n-lt2.false c.in-None.is

pub returns-else-n-other_n : goal.returns-else-n-other_n
returns-else-n-other_n c colours counts = after colours (record { 0 = c.args.k }) _ _ (c.count_at-n.ensures ∙ counts.counts _) c.if-n-lt2.false _ c.in-Some.is _ (c.count_at-other_n.ensures ∙ counts.counts _) c.if-n-other_n.false
