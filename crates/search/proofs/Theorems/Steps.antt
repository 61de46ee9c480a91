-- Sound steps: what a run finds is the map of stable colours, all single on the left, that passed the closing check; and every open choice was opened at stable colours. Both hold of every
-- state that is reached from the start. Assumes nothing.
use Prim.Native.Nat.{ℕ}
use mathlib.Core.Path.{◌≡◌, refl, sym, ◌∙◌, ap}
use mathlib.Core.Logic.{◌⊎◌, inl, inr}
use mathlib.Core.Bool.{true, false}
use mathlib.Core.List.{List, [], ◌∷◌, ◌++◌}
use native.Mathlib.Omega.{arith}
use Rattle.std.specs.Prelude.{None, Some}
use Rattle.lists.proofs.Laws.Tests.{split}
use Rattle.stored.specs.Model.{Model}
use Rattle.rounds.specs.Round.{reps, Sides, stable, round_outcome, colour_count}
use Rattle.rounds.specs.Classes.{smallest_open, lowest_of}
use Rattle.search.specs.Machine.{Choice, State, refine, close, choose, done, map_of, closes, choice_at, gone_on, found, none, run, Reached}
use Rattle.search.specs.Partners.{Partners, partners, clash}
use Rattle.search.specs.Find.{round_cost, alike, start_from, searched}
use Rattle.search.proofs.Theorems.Invariant.{Kept, when_reached, when_found}

module _ (a b : Model) where
  -- colours that a round made stable, all single on the left
  pub record SingleStable (c : Sides) : Type 0 where
    pub before : Sides
    pub was_stable : round_outcome a b before ≡ stable c
    pub was_single : smallest_open a c.left ≡ None

  -- a map that passed the closing check
  pub record Closed (f : List ℕ) : Type 0 where
    pub sides : Sides
    pub settled : SingleStable sides
    pub is_map_lem : f ≡ map_of a b sides
    pub passed : closes a b f ≡ true

  -- a choice that was opened at stable colours, with some of its candidates looked at
  pub record Opened (e : Choice) : Type 0 where
    pub before : Sides
    pub was_stable : round_outcome a b before ≡ stable e.sides
    pub was_open : smallest_open a e.sides.left ≡ Some e.old
    pub its_element : e.element ≡ lowest_of a e.sides.left e.old
    pub its_new : e.new ≡ colour_count a e.sides.left
    pub looked_at : List ℕ
    pub its_rest : looked_at ++ e.rest ≡ reps b

  abbrev pub AllOpened : List Choice → Type 0
  AllOpened [] = Unit {0}
  AllOpened (e ∷ choices) = Opened e × AllOpened choices

  abbrev pub SoundState : State → Type 0
  SoundState (refine c choices) = AllOpened choices
  SoundState (close c choices) = SingleStable c × AllOpened choices
  SoundState (choose choices) = AllOpened choices
  SoundState (done f) = Closed f

  pub just_opened : (c d : Sides) (k : ℕ) → round_outcome a b c ≡ stable d → smallest_open a d.left ≡ Some k → Opened (choice_at a b d k)
  unfolding choice_at
  just_opened c d k e q = record { before = c; was_stable = e; was_open = q; its_element = refl; its_new = refl; looked_at = []; its_rest = refl }

  pub still_opened : (e : Choice) (y : ℕ) (ys : List ℕ) → Opened e → e.rest ≡ y ∷ ys → Opened (gone_on e ys)
  unfolding gone_on
  still_opened e y ys h q = record {
    before = h.before;
    was_stable = h.was_stable;
    was_open = h.was_open;
    its_element = h.its_element;
    its_new = h.its_new;
    looked_at = h.looked_at ++ (y ∷ []);
    its_rest = one_more h.looked_at ∙ ap (λ (r : List ℕ). h.looked_at ++ r) (sym q) ∙ h.its_rest;
  }
    where
      one_more : (xs : List ℕ) → (xs ++ (y ∷ [])) ++ ys ≡ xs ++ (y ∷ ys)
      one_more [] = refl
      one_more (x ∷ xs) = ap (λ (r : List ℕ). x ∷ r) (one_more xs)

  pub sound_kept : Kept a b SoundState
  sound_kept = record {
    dead_end = λ c choices h e. h;
    goes_on = λ c d choices h e. h;
    opens = λ c d k choices h e q. (just_opened c d k e q, h);
    all_single_lem = λ c d choices h e q. (record { before = c; was_stable = e; was_single = q }, h);
    closing_passes = λ c choices h e. record { sides = c; settled = h.0; is_map_lem = refl; passed = e };
    closing_fails = λ c choices h e. h.1;
    used_up = λ e choices h q. h.1;
    tries = λ e y ys choices h q t. (still_opened e y ys h.0 q, h.1);
    passes_by = λ e y ys choices h q t. (still_opened e y ys h.0 q, h.1);
  }

  -- of every state reached from colours with no open choice
  pub reached_sound : (w : ℕ) (c : Sides) (s : State) → Reached w a b (refine c []) s → SoundState s
  reached_sound w c s r = when_reached a b SoundState sound_kept w (refine c []) s r tt

  pub done_closed : (w : ℕ) (c : Sides) (f : List ℕ) → Reached w a b (refine c []) (done f) → Closed f
  done_closed w c f r = reached_sound w c (done f) r

  -- what is found passed the closing check
  pub found_closed : (w fuel left used : ℕ) (c : Sides) (u : ℕ) (f : List ℕ) → run fuel w a b left used (refine c []) ≡ found u f → Closed f
  found_closed w fuel left used c u f e = when_found a b SoundState sound_kept w fuel left used (refine c []) tt u f e

  pub found_from_start : (w fuel left used : ℕ) (f g : List ℕ) (u : ℕ) (h : List ℕ) → run fuel w a b left used (start_from a b f g) ≡ found u h → Closed h
  unfolding start_from
  found_from_start w fuel left used f g u h e = found_closed w fuel left used _ u h e

  pub searched_closed : (budget : ℕ) (p : Partners) (u : ℕ) (f : List ℕ) → searched a b budget p ≡ found u f → Closed f
  unfolding searched
  searched_closed budget clash u f e = let z : ◌≡◌ {A = ℕ} 0 1 = cc in absurd (omega arith)
  searched_closed budget (partners g h) u f e = by_likeness (split (alike a b))
    where
      by_likeness : (alike a b ≡ true) ⊎ (alike a b ≡ false) → Closed f
      by_likeness (inl q) = found_from_start round_cost budget budget 0 g h u f (sym (rw (q, searched)) ∙ e)
      by_likeness (inr q) =
          let n : searched a b budget (partners g h) ≡ none 0 = rw (q, searched) in
          let z : ◌≡◌ {A = ℕ} 0 1 = cc (sym n ∙ e) in absurd (omega arith)
