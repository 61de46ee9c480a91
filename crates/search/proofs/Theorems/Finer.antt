-- Finer: at every state that is reached, representatives of equal colours on the two sides had equal colours at the start; so what a run finds agrees with the colours it started from.
-- Assumes nothing; that the right model has no more relations than the left one is a hypothesis of the last law.
use Prim.Native.Nat.{ℕ, ◌<◌, ◌≤◌}
use mathlib.Core.Path.{◌≡◌, refl, sym, ◌∙◌, ap, subst}
use mathlib.Core.Logic.{by_cases}
use mathlib.Core.Bool.{true}
use mathlib.Core.List.{List, [], ◌∷◌, Memᴰ}
use native.Mathlib.Omega.{arith}
use native.Mathlib.Decide.{ℕ_discrete}
use lib.ListN.{length, set}
use lib.Seq.{get_or-set_same, get_or-set_other}
use Rattle.std.specs.Prelude.{Some}
use Rattle.stored.specs.Model.{Model, size}
use Rattle.rows.proofs.Theorems.Among.{entry_of}
use Rattle.rounds.specs.Colours.{no_colour, colour_at}
use Rattle.rounds.specs.Round.{reps, Sides, round, stable, round_outcome, colour_count, equal_counts}
use Rattle.rounds.specs.Classes.{smallest_open}
use Rattle.rounds.proofs.Theorems.Keys.{on_left, on_right, reps_below_lem}
use Rattle.rounds.proofs.Theorems.Refining.{across_refines}
use Rattle.rounds.proofs.Theorems.Counts.{colour_below}
use Rattle.rounds.proofs.Theorems.Alive.{Agrees}
use Rattle.rounds.proofs.Theorems.Single.{open_lowest, stable_round, again_round, left_length, right_length}
use Rattle.search.specs.Machine.{Choice, State, refine, close, choose, done, map_of, choice_at, gone_on, tried, found, run}
use Rattle.search.proofs.Theorems.Invariant.{Kept, when_found}
use Rattle.search.proofs.Theorems.Sound.{image_colour, found_sound}

-- equal colours on the two sides were equal at the start
abbrev pub FinerThan : Model → Model → Sides → Sides → Type 0
FinerThan a b start c = (x y : ℕ) → Memᴰ x (reps a) → Memᴰ y (reps b) → colour_at c.left x ≡ colour_at c.right y → colour_at start.left x ≡ colour_at start.right y

-- colours as a round leaves them, all below a number
record Fresh (a b : Model) (c : Sides) (n : ℕ) : Type 0 where
  left_long : length c.left ≡ size a
  right_long : length c.right ≡ size b
  left_below : (x : ℕ) → Memᴰ x (reps a) → colour_at c.left x < n
  right_below : (y : ℕ) → Memᴰ y (reps b) → colour_at c.right y < n

record FinerChoice (a b : Model) (start : Sides) (e : Choice) : Type 0 where
  finer : FinerThan a b start e.sides
  fresh : Fresh a b e.sides e.new
  its_rep : Memᴰ e.element (reps a)
  its_colour : colour_at e.sides.left e.element ≡ e.old
  rest_reps : (y : ℕ) → Memᴰ y e.rest → Memᴰ y (reps b)

module _ (a b : Model) (start : Sides) where
  abbrev AllFiner : List Choice → Type 0
  AllFiner [] = Unit {0}
  AllFiner (e ∷ choices) = FinerChoice a b start e × AllFiner choices

  -- a map agrees with the start where it leads to representatives
  abbrev AgreesInside : List ℕ → Type 0
  AgreesInside g = (x : ℕ) → Memᴰ x (reps a) → Memᴰ (entry_of g x) (reps b) → colour_at start.right (entry_of g x) ≡ colour_at start.left x

  abbrev FinerState : State → Type 0
  FinerState (refine c choices) = FinerThan a b start c × AllFiner choices
  FinerState (close c choices) = FinerThan a b start c × AllFiner choices
  FinerState (choose choices) = AllFiner choices
  FinerState (done g) = AgreesInside g

  -- a round
  after_round_lem : (c d : Sides) → FinerThan a b start c → round a b c ≡ d → FinerThan a b start d
  after_round_lem c d h e = subst (λ (s : Sides). FinerThan a b start s) e (λ x y m n q. h x y m n (across_refines a b c x y m n q))

  after_fresh : (c d : Sides) → (round a b c ≡ d) × (equal_counts a b (round a b c) ≡ true) → Fresh a b d (colour_count a d.left)
  after_fresh c d r = subst (λ (s : Sides). Fresh a b s (colour_count a s.left)) r.0 (record {
    left_long = left_length a b c;
    right_long = right_length a b c;
    left_below = λ x m. colour_below a b c r.1 on_left x m;
    right_below = λ y m. colour_below a b c r.1 on_right y m;
  })

  finer_opened : (c d : Sides) (k : ℕ) → FinerThan a b start c → round_outcome a b c ≡ stable d → smallest_open a d.left ≡ Some k → FinerChoice a b start (choice_at a b d k)
  unfolding choice_at
  finer_opened c d k h e q =
      let r = stable_round a b c d e in
      let low = open_lowest a d.left k q in
      record { finer = after_round_lem c d h r.0; fresh = after_fresh c d r; its_rep = low.0; its_colour = low.1; rest_reps = λ y m. m }

  -- a candidate
  still_finer : (e : Choice) (y : ℕ) (ys : List ℕ) → FinerChoice a b start e → e.rest ≡ y ∷ ys → FinerChoice a b start (gone_on e ys)
  unfolding gone_on
  still_finer e y ys h q = record {
    finer = h.finer;
    fresh = h.fresh;
    its_rep = h.its_rep;
    its_colour = h.its_colour;
    rest_reps = λ z m. h.rest_reps z (subst (Memᴰ z) (sym q) (Memᴰ.tail m));
  }

  -- a new colour at an element and a candidate of one old colour
  module _ (c : Sides) (n x y : ℕ) (finer : FinerThan a b start c) (fresh : Fresh a b c n) (m : Memᴰ x (reps a)) (i : Memᴰ y (reps b)) where
    left_new : colour_at (set c.left x n) x ≡ n
    left_new = get_or-set_same c.left x n no_colour (omega (arith, fresh.left_long, reps_below_lem a x m))

    right_new : colour_at (set c.right y n) y ≡ n
    right_new = get_or-set_same c.right y n no_colour (omega (arith, fresh.right_long, reps_below_lem b y i))

    left_old : (v : ℕ) → (v ≡ x → ⊥) → colour_at (set c.left x n) v ≡ colour_at c.left v
    left_old v d = get_or-set_other c.left x v n no_colour d

    right_old : (v : ℕ) → (v ≡ y → ⊥) → colour_at (set c.right y n) v ≡ colour_at c.right v
    right_old v d = get_or-set_other c.right y v n no_colour d

    split_finer : colour_at c.left x ≡ colour_at c.right y → FinerThan a b start (record { left = set c.left x n; right = set c.right y n })
    split_finer old v w p q e = by_cases (ℕ_discrete v x) at_element elsewhere
      where
        Goal : Type 0
        Goal = colour_at start.left v ≡ colour_at start.right w

        at_element : v ≡ x → Goal
        at_element s = by_cases (ℕ_discrete w y) both only_left
          where
            both : w ≡ y → Goal
            both t = finer v w p q (ap (colour_at c.left) s ∙ old ∙ sym (ap (colour_at c.right) t))

            only_left : (w ≡ y → ⊥) → Goal
            only_left t =
                let z : n ≡ colour_at c.right w = sym left_new ∙ ap (colour_at (set c.left x n)) (sym s) ∙ e ∙ right_old w t in
                absurd (omega (arith, fresh.right_below w q))

        elsewhere : (v ≡ x → ⊥) → Goal
        elsewhere s = by_cases (ℕ_discrete w y) only_right neither
          where
            only_right : w ≡ y → Goal
            only_right t =
                let z : n ≡ colour_at c.left v = sym right_new ∙ ap (colour_at (set c.right y n)) (sym t) ∙ sym e ∙ left_old v s in
                absurd (omega (arith, fresh.left_below v p))

            neither : (w ≡ y → ⊥) → Goal
            neither t = finer v w p q (sym (left_old v s) ∙ e ∙ right_old w t)

  trial_finer : (e : Choice) (y : ℕ) (ys : List ℕ) → FinerChoice a b start e → e.rest ≡ y ∷ ys → colour_at e.sides.right y ≡ e.old → FinerThan a b start (tried e y)
  unfolding tried
  trial_finer e y ys h q t =
      split_finer e.sides e.new e.element y h.finer h.fresh h.its_rep (h.rest_reps y (subst (Memᴰ y) (sym q) (Memᴰ.head refl))) (h.its_colour ∙ sym t)

  closing_agrees : (c : Sides) → FinerThan a b start c → AgreesInside (map_of a b c)
  closing_agrees c h x m n = sym (h x (entry_of (map_of a b c) x) m n (sym (image_colour a b c x m n)))

  finer_kept : Kept a b FinerState
  finer_kept = record {
    dead_end = λ c choices h e. h.1;
    goes_on = λ c d choices h e. (after_round_lem c d h.0 (again_round a b c d e).0, h.1);
    opens = λ c d k choices h e q. (finer_opened c d k h.0 e q, h.1);
    all_single_lem = λ c d choices h e q. (after_round_lem c d h.0 (stable_round a b c d e).0, h.1);
    closing_passes = λ c choices h e. closing_agrees c h.0;
    closing_fails = λ c choices h e. h.1;
    used_up = λ e choices h q. h.1;
    tries = λ e y ys choices h q t. (trial_finer e y ys h.0 q t, (still_finer e y ys h.0 q, h.1));
    passes_by = λ e y ys choices h q t. (still_finer e y ys h.0 q, h.1);
  }

  -- what a run finds agrees with the colours it started from
  pub found_agrees :
      length b.relations ≤ length a.relations → (w fuel left used u : ℕ) (g : List ℕ) → run fuel w a b left used (refine start []) ≡ found u g → Agrees a (entry_of g) start
  found_agrees fit w fuel left used u g e x m =
      when_found a b FinerState finer_kept w fuel left used (refine start []) ((λ v z p q k. k), tt) u g e x m ((found_sound a b fit w fuel left used start u g e).carries.to_rep x m)
