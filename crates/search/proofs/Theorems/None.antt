-- None: where a function carries the left model onto the right one and agrees with the colours that a run starts from, the run does not end with none: at every state the function agrees with
-- the current colours, or an open choice agrees with it whose candidate for its element is still to come. Assumes nothing.
use Prim.Native.Nat.{ℕ}
use mathlib.Core.Path.{◌≡◌, refl, sym, ◌∙◌, ap, ap₂, subst}
use mathlib.Core.Logic.{◌⊎◌, inl, inr, by_cases}
use mathlib.Core.Bool.{Bool, true, false, ◌&&◌}
use mathlib.Core.List.Memᴰ
use mathlib.Core.List.Permᴰ
use mathlib.Core.List.{List, [], ◌∷◌, map, Memᴰ}
use native.Mathlib.Omega.{arith}
use native.Mathlib.Decide.{ℕ_discrete}
use borrow.Author.Tests.{eqb-true, eq-eqb}
use lib.ListN.{length, set}
use lib.Seq.{get_or-set_same, get_or-set_other}
use lib.Dec.{eqb}
use Rattle.std.specs.Prelude.{None, Some}
use Rattle.lists.specs.First.{lowest}
use Rattle.lists.proofs.Laws.Tests.{clash, and_left, and_right, and_both}
use Rattle.lists.proofs.Laws.Entries.{entry_at_lem}
use Rattle.lists.proofs.Laws.Sets.{map_mem}
use Rattle.stored.specs.Model.{Model, size, is_rep, relation_at}
use Rattle.stored.specs.Canonical.{canonical}
use Rattle.stored.proofs.Laws.WellFormed.{WellFormed}
use Rattle.rows.proofs.Theorems.Among.{entry_of}
use Rattle.rounds.specs.Colours.{no_colour, colour_at}
use Rattle.rounds.specs.Round.{reps, Sides, round, dead, stable, again, round_outcome}
use Rattle.rounds.specs.Classes.{smallest_open, lowest_of}
use Rattle.lists.proofs.Laws.Counting.{perm_mem}
use Rattle.rounds.proofs.Theorems.Keys.{reps_below_lem, reps_rep, rep_reps}
use Rattle.rounds.proofs.Theorems.Alive.{Carries, Agrees, round_agrees, round_equal}
use Rattle.rounds.proofs.Theorems.Carrying.{CarriesSets, sets_carry}
use Rattle.rounds.proofs.Theorems.Single.{TellsApart, lowest_reached, open_lowest, dead_unequal, stable_round, again_round, left_length, right_length, single_left}
use Rattle.search.specs.Machine.{Choice, State, refine, close, choose, done, image_of, map_of, closes, choice_at, gone_on, tried, none, run}
use Rattle.search.proofs.Theorems.Closing.{Into, Onto, rows_close}
use Rattle.search.proofs.Theorems.Invariant.{Kept, when_none}

-- f agrees with an open choice, and the candidate that it wants is not yet looked at
pub record AliveChoice (a b : Model) (f : ℕ → ℕ) (e : Choice) : Type 0 where
  pub agrees : Agrees a f e.sides
  pub left_long : length e.sides.left ≡ size a
  pub right_long : length e.sides.right ≡ size b
  pub its_rep : Memᴰ e.element (reps a)
  pub its_colour : colour_at e.sides.left e.element ≡ e.old
  pub to_come : Memᴰ (f e.element) e.rest

module _ (a b : Model) (f : ℕ → ℕ) where
  -- some open choice is such a one
  abbrev pub AliveAmong : List Choice → Type 0
  AliveAmong [] = ⊥
  AliveAmong (e ∷ choices) = AliveChoice a b f e ⊎ AliveAmong choices

  abbrev pub AliveState : State → Type 0
  AliveState (refine c choices) = Agrees a f c ⊎ AliveAmong choices
  AliveState (close c choices) = (Agrees a f c × TellsApart a c.left) ⊎ AliveAmong choices
  AliveState (choose choices) = AliveAmong choices
  AliveState (done g) = Unit {0}

-- a map that is f on representatives passes the closing check
module _ (a b : Model) (f : ℕ → ℕ) (carries : Carries a b f) (g : List ℕ) (same : (x : ℕ) → Memᴰ x (reps a) → entry_of g x ≡ f x) where
  row_same : (row : List ℕ) → ((x : ℕ) → Memᴰ x row → Memᴰ x (reps a)) → map (entry_of g) row ≡ map f row
  row_same [] w = refl
  row_same (x ∷ row) w = ap₂ ◌∷◌ (same x (w x (Memᴰ.head refl))) (row_same row (λ y m. w y (Memᴰ.tail m)))

  rows_same : (rows : List (List ℕ)) → ((row : List ℕ) → Memᴰ row rows → (x : ℕ) → Memᴰ x row → Memᴰ x (reps a)) → map (map (entry_of g)) rows ≡ map (map f) rows
  rows_same [] w = refl
  rows_same (row ∷ rows) w = ap₂ ◌∷◌ (row_same row (w row (Memᴰ.head refl))) (rows_same rows (λ r m. w r (Memᴰ.tail m)))

  carried_into : (k : ℕ) → Into a b g k
  carried_into k row m =
      subst (λ (v : List ℕ). Memᴰ v (relation_at b k).rows) (sym (row_same row (carries.rows_within k row m)))
      (perm_mem (carries.rows_carried k) (map_mem (map f) (relation_at a k).rows row m))

  carried_onto : (k : ℕ) → Onto a b g k
  carried_onto k row m =
      subst (Memᴰ row) (sym (rows_same (relation_at a k).rows (carries.rows_within k))) (perm_mem (Permᴰ.symm (carries.rows_carried k)) m)

  pub carried_closes : closes a b g ≡ true
  carried_closes = rows_close a b g carried_into carried_onto

module _ (a b : Model) (f : ℕ → ℕ) (carries : Carries a b f) where
  -- colours that f agrees with and that tell the left representatives apart give the map f
  pub map_is : (c : Sides) → Agrees a f c → TellsApart a c.left → (x : ℕ) → Memᴰ x (reps a) → entry_of (map_of a b c) x ≡ f x
  unfolding map_of image_of
  map_is c agrees apart x m =
      let wanted : is_rep b (f x) && eqb (colour_at c.right (f x)) (colour_at c.left x) ≡ true =
      and_both (is_rep b (f x)) (eqb (colour_at c.right (f x)) (colour_at c.left x)) (reps_rep b (f x) (carries.to_rep x m)) (eq-eqb _ _ (agrees x m))
      in
      let r = lowest_reached of_colour (size b) (f x) (reps_below_lem b (f x) (carries.to_rep x m)) wanted in
      let y = lowest of_colour 0 (size b) in
      let its = eqb-true (colour_at c.right y) (colour_at c.left x) (and_right (is_rep b y) (eqb (colour_at c.right y) (colour_at c.left x)) r.1) in
      let o = carries.onto y (rep_reps b y r.0 (and_left (is_rep b y) (eqb (colour_at c.right y) (colour_at c.left x)) r.1)) in
      let z : o.0 ≡ x = apart o.0 x o.1 m (sym (agrees o.0 o.1) ∙ ap (colour_at c.right) o.2 ∙ its) in
      entry_at_lem (image_of a b c) (size a) x 255 (reps_below_lem a x m) ∙ rw (reps_rep a x m, image_of) (sym o.2 ∙ ap f z)
    where
      of_colour : ℕ → Bool
      of_colour y = is_rep b y && eqb (colour_at c.right y) (colour_at c.left x)

  -- a round
  after_agrees : (c d : Sides) → Agrees a f c → round a b c ≡ d → Agrees a f d
  after_agrees c d h e = subst (λ (s : Sides). Agrees a f s) e (round_agrees a b f carries c h)

  after_dead : (c : Sides) (choices : List Choice) → AliveState a b f (refine c choices) → round_outcome a b c ≡ dead → AliveAmong a b f choices
  after_dead c choices (inl h) e = clash (round_equal a b f carries c h) (dead_unequal a b c e)
  after_dead c choices (inr k) e = k

  after_again : (c d : Sides) (choices : List Choice) → AliveState a b f (refine c choices) → round_outcome a b c ≡ again d → AliveState a b f (refine d choices)
  after_again c d choices (inl h) e = inl (after_agrees c d h (again_round a b c d e).0)
  after_again c d choices (inr k) e = inr k

  alive_opened : (c d : Sides) (k : ℕ) → Agrees a f d → round a b c ≡ d → smallest_open a d.left ≡ Some k → AliveChoice a b f (choice_at a b d k)
  unfolding choice_at
  alive_opened c d k h e q =
      let low = open_lowest a d.left k q in
      record {
        agrees = h;
        left_long = subst (λ (s : Sides). length s.left ≡ size a) e (left_length a b c);
        right_long = subst (λ (s : Sides). length s.right ≡ size b) e (right_length a b c);
        its_rep = low.0;
        its_colour = low.1;
        to_come = carries.to_rep (lowest_of a d.left k) low.0;
      }

  after_opened :
      (c d : Sides) (k : ℕ) (choices : List Choice) → AliveState a b f (refine c choices) → round_outcome a b c ≡ stable d → smallest_open a d.left ≡ Some k
      → AliveAmong a b f (choice_at a b d k ∷ choices)
  after_opened c d k choices (inl h) e q = let r = (stable_round a b c d e).0 in inl (alive_opened c d k (after_agrees c d h r) r q)
  after_opened c d k choices (inr i) e q = inr i

  after_single :
      (c d : Sides) (choices : List Choice) → AliveState a b f (refine c choices) → round_outcome a b c ≡ stable d → smallest_open a d.left ≡ None → AliveState a b f (close d choices)
  after_single c d choices (inl h) e q =
      let r = stable_round a b c d e in
      let single = subst (λ (s : Sides). smallest_open a s.left ≡ None) (sym r.0) q in
      inl (after_agrees c d h r.0, subst (λ (s : Sides). TellsApart a s.left) r.0 (single_left a b c r.1 single))
  after_single c d choices (inr i) e q = inr i

  -- the closing check
  after_failing : (c : Sides) (choices : List Choice) → AliveState a b f (close c choices) → closes a b (map_of a b c) ≡ false → AliveAmong a b f choices
  after_failing c choices (inl h) e = clash (carried_closes a b f carries (map_of a b c) (map_is c h.0 h.1)) e
  after_failing c choices (inr k) e = k

  -- a candidate
  after_none_left : (e : Choice) (choices : List Choice) → AliveAmong a b f (e ∷ choices) → e.rest ≡ [] → AliveAmong a b f choices
  after_none_left e choices (inl h) q = absurd (Memᴰ.not-nil (subst (Memᴰ (f e.element)) q h.to_come))
  after_none_left e choices (inr k) q = k

  still_alive : (e : Choice) (y : ℕ) (ys : List ℕ) → AliveChoice a b f e → e.rest ≡ y ∷ ys → (f e.element ≡ y → ⊥) → AliveChoice a b f (gone_on e ys)
  unfolding gone_on
  still_alive e y ys h q d = record {
    agrees = h.agrees;
    left_long = h.left_long;
    right_long = h.right_long;
    its_rep = h.its_rep;
    its_colour = h.its_colour;
    to_come = later (Memᴰ.cases_cons (subst (Memᴰ (f e.element)) q h.to_come));
  }
    where
      later : (f e.element ≡ y) ⊎ Memᴰ (f e.element) ys → Memᴰ (f e.element) ys
      later (inl k) = absurd (d k)
      later (inr m) = m

  -- the candidate that f wants
  trial_agrees : (e : Choice) → AliveChoice a b f e → Agrees a f (tried e (f e.element))
  unfolding tried
  trial_agrees e h x m = by_cases (ℕ_discrete x e.element) here other
    where
      left_new : colour_at (set e.sides.left e.element e.new) e.element ≡ e.new
      left_new = get_or-set_same e.sides.left e.element e.new no_colour (omega (arith, h.left_long, reps_below_lem a e.element h.its_rep))

      right_new : colour_at (set e.sides.right (f e.element) e.new) (f e.element) ≡ e.new
      right_new =
          get_or-set_same e.sides.right (f e.element) e.new no_colour
          (omega (arith, h.right_long, reps_below_lem b (f e.element) (carries.to_rep e.element h.its_rep)))

      Same : ℕ → Type 0
      Same z = colour_at (set e.sides.right (f e.element) e.new) (f z) ≡ colour_at (set e.sides.left e.element e.new) z

      here : x ≡ e.element → Same x
      here q = subst Same (sym q) (right_new ∙ sym left_new)

      other : (x ≡ e.element → ⊥) → Same x
      other d =
          get_or-set_other e.sides.right (f e.element) (f x) e.new no_colour (λ q. d (carries.keeps_apart x e.element m h.its_rep q))
          ∙ h.agrees x m
          ∙ sym (get_or-set_other e.sides.left e.element x e.new no_colour d)

  after_trial : (e : Choice) (y : ℕ) (ys : List ℕ) (choices : List Choice) → AliveAmong a b f (e ∷ choices) → e.rest ≡ y ∷ ys → AliveState a b f (refine (tried e y) (gone_on e ys ∷ choices))
  after_trial e y ys choices (inl h) q =
      by_cases (ℕ_discrete (f e.element) y) (λ k. inl (subst (λ (v : ℕ). Agrees a f (tried e v)) k (trial_agrees e h))) (λ k. inr (inl (still_alive e y ys h q k)))
  after_trial e y ys choices (inr i) q = inr (inr i)

  after_passing :
      (e : Choice) (y : ℕ) (ys : List ℕ) (choices : List Choice) → AliveAmong a b f (e ∷ choices) → e.rest ≡ y ∷ ys → (colour_at e.sides.right y ≡ e.old → ⊥)
      → AliveAmong a b f (gone_on e ys ∷ choices)
  after_passing e y ys choices (inl h) q t =
      inl (still_alive e y ys h q (λ k. t (ap (colour_at e.sides.right) (sym k) ∙ h.agrees e.element h.its_rep ∙ h.its_colour)))
  after_passing e y ys choices (inr i) q t = inr i

  pub alive_kept : Kept a b (AliveState a b f)
  alive_kept = record {
    dead_end = after_dead;
    goes_on = after_again;
    opens = after_opened;
    all_single_lem = after_single;
    closing_passes = λ c choices h e. tt;
    closing_fails = after_failing;
    used_up = after_none_left;
    tries = λ e y ys choices h q t. after_trial e y ys choices h q;
    passes_by = after_passing;
  }

  -- a run from colours that f agrees with does not end with none
  pub never_none : (w fuel left used : ℕ) (c : Sides) → Agrees a f c → (u : ℕ) → run fuel w a b left used (refine c []) ≡ none u → ⊥
  never_none w fuel left used c h u e = when_none a b (AliveState a b f) alive_kept w fuel left used (refine c []) (inl h) u e

-- the same with rows compared as sets
module _ (a b : Model) (f : ℕ → ℕ) (left_formed : WellFormed a) (right_formed : WellFormed b) (plain : canonical a ≡ true) (sets : CarriesSets a b f) where
  pub never_none_sets : (w fuel left used : ℕ) (c : Sides) → Agrees a f c → (u : ℕ) → run fuel w a b left used (refine c []) ≡ none u → ⊥
  never_none_sets = never_none a b f (sets_carry a b f left_formed right_formed plain sets)
