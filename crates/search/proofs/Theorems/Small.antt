-- Small colours: the first colours with the partners that good pairs give are below 128, and where they are, so are the colours of every round that a run
-- comes to. Assumes nothing; that the models are well formed is a hypothesis.
use Prim.Native.Nat.{ℕ, ◌<◌}
use mathlib.Core.Path.{◌≡◌, ◌∙◌, ap, subst}
use mathlib.Core.Logic.{by_cases}
use mathlib.Core.List.{List, [], Memᴰ}
use native.Mathlib.Omega.{arith}
use native.Mathlib.Decide.{ℕ_discrete}
use lib.ListN.{length, get_or}
use Rattle.lists.specs.Numbers.{up_from}
use Rattle.lists.proofs.Laws.Counting.{how_many_fits}
use Rattle.lists.proofs.Laws.Different.{keep_fits}
use Rattle.lists.proofs.Laws.Numbers.{length-up_from}
use Rattle.stored.specs.Model.{Model, size, is_rep}
use Rattle.stored.proofs.Laws.WellFormed.{WellFormed}
use Rattle.rows.specs.Pairs.{pair_count}
use Rattle.rows.proofs.Theorems.Pairs.{named}
use Rattle.rounds.specs.Colours.{colour_at, paired, left_colours, right_colours}
use Rattle.rounds.specs.Round.{reps, Sides, round, stable, again, round_outcome}
use Rattle.rounds.proofs.Theorems.Keys.{on_left, on_right, reps_below_lem, reps_kept}
use Rattle.rounds.proofs.Theorems.Classes.{count_fits}
use Rattle.rounds.proofs.Theorems.Single.{stable_round, again_round}
use Rattle.rounds.proofs.Theorems.Small.{small_each, set_small, round_small}
use Rattle.rounds.proofs.Theorems.Starting.{left_free, left_paired, right_free, right_paired}
use Rattle.search.specs.Machine.{Choice, State, refine, close, choose, done, tried, Reached}
use Rattle.search.specs.Partners.{PartnersOf}
use Rattle.search.specs.Choices.{SmallSides}
use Rattle.search.proofs.Laws.Types.{type_below}
use Rattle.search.proofs.Theorems.Invariant.{Kept, when_reached}
use Rattle.search.proofs.Theorems.Steps.{Opened, AllOpened, just_opened, still_opened}
use Rattle.search.proofs.Theorems.Partners.{AllGood, Matched, all_good, are_matched}
use Rattle.search.proofs.Theorems.Start.{first_sides, named_rep}

module _ (a b : Model) (wa : WellFormed a) (wb : WellFormed b) where
  -- a round's
  pub after_round_lem : (c : Sides) → SmallSides a b (round a b c)
  after_round_lem c =
      (round_small a b c (omega (arith, wa.few_elements, wb.few_elements)) on_left, round_small a b c (omega (arith, wa.few_elements, wb.few_elements)) on_right)

  after_stable_lem : (c d : Sides) → round_outcome a b c ≡ stable d → SmallSides a b d
  after_stable_lem c d e = subst (SmallSides a b) (stable_round a b c d e).0 (after_round_lem c)

  after_again : (c d : Sides) → round_outcome a b c ≡ again d → SmallSides a b d
  after_again c d e = subst (SmallSides a b) (again_round a b c d e).0 (after_round_lem c)

  -- those of a candidate: the new colour is the number of colours of a round
  new_small : (e : Choice) → Opened a b e → e.new < 128
  new_small e h =
      omega (arith, h.its_new, count_fits a e.sides.left, ap length (reps_kept a), keep_fits (is_rep a) (up_from 0 (size a)), length-up_from 0 (size a), wa.few_elements)

  tried_small : (e : Choice) (y : ℕ) → Opened a b e → SmallSides a b (tried e y)
  unfolding tried
  tried_small e y h =
      let s = after_stable_lem h.before e.sides h.was_stable in
      (set_small a e.sides.left e.element e.new (new_small e h) s.0, set_small b e.sides.right y e.new (new_small e h) s.1)

  abbrev SmallState : State → Type 0
  SmallState (refine c choices) = SmallSides a b c × AllOpened a b choices
  SmallState (close c choices) = AllOpened a b choices
  SmallState (choose choices) = AllOpened a b choices
  SmallState (done f) = Unit {0}

  small_kept : Kept a b SmallState
  small_kept = record {
    dead_end = λ c choices h e. h.1;
    goes_on = λ c d choices h e. (after_again c d e, h.1);
    opens = λ c d k choices h e q. (just_opened a b c d k e q, h.1);
    all_single_lem = λ c d choices h e q. h.1;
    closing_passes = λ c choices h e. tt;
    closing_fails = λ c choices h e. h;
    used_up = λ e choices h q. h.1;
    tries = λ e y ys choices h q t. (tried_small e y h.0, (still_opened a b e y ys h.0 q, h.1));
    passes_by = λ e y ys choices h q t. (still_opened a b e y ys h.0 q, h.1);
  }

  -- of every round that is due, from small colours with no open choice
  pub reached_small : (w : ℕ) (start c : Sides) (choices : List Choice) → SmallSides a b start → Reached w a b (refine start []) (refine c choices) → SmallSides a b c
  reached_small w start c choices h r = (when_reached a b SmallState small_kept w (refine start []) (refine c choices) r (h, tt)).0

  -- the first colours: fewer than 16 types and 64 pairs
  module _ (pairs : List ℕ) (good : AllGood a b pairs) (f g : List ℕ) (matched : Matched a b pairs (pair_count pairs) f g) where
    left_first : (x : ℕ) → Memᴰ x (reps a) → colour_at (left_colours a f) x < 128
    left_first x m = by_cases (ℕ_discrete (get_or f x 255) 255) free given
      where
        free : get_or f x 255 ≡ 255 → colour_at (left_colours a f) x < 128
        free e = omega (arith, left_free a f x m e, type_below a x (reps_below_lem a x m), wa.few_types)

        given : (get_or f x 255 ≡ 255 → ⊥) → colour_at (left_colours a f) x < 128
        given n =
            omega (arith, left_paired a f x m n, how_many_fits (paired f) (up_from 0 x), length-up_from 0 x, reps_below_lem a x m, wa.few_types, wa.few_elements)

    right_first : (y : ℕ) → Memᴰ y (reps b) → colour_at (right_colours b (left_colours a f) g) y < 128
    right_first y m = by_cases (ℕ_discrete (get_or g y 255) 255) free given
      where
        free : get_or g y 255 ≡ 255 → colour_at (right_colours b (left_colours a f) g) y < 128
        free e = omega (arith, right_free b (left_colours a f) g y m e, type_below b y (reps_below_lem b y m), wb.few_types)

        given : (get_or g y 255 ≡ 255 → ⊥) → colour_at (right_colours b (left_colours a f) g) y < 128
        given n =
            let o = matched.right_from_lem y n in
            let e : get_or g y 255 ≡ named a pairs o.0 = ap (λ (v : ℕ). get_or g v 255) o.2 ∙ matched.to_named o.0 o.1 in
            omega
            (arith, right_paired b (left_colours a f) g y m n, ap (colour_at (left_colours a f)) e, left_first (named a pairs o.0) (named_rep a b wa wb pairs good o.0 o.1))

    first_small : SmallSides a b (first_sides a b f g)
    first_small = (small_each a (left_colours a f) left_first, small_each b (right_colours b (left_colours a f) g) right_first)

  pub start_small : (f g : List ℕ) → PartnersOf a b f g → SmallSides a b (first_sides a b f g)
  start_small f g p =
      let good = all_good a b p.0 p.1 in
      first_small p.0 good f g (are_matched a b wa wb p.0 good f g p.2)
