-- The laws of a round and what follows it: the state of each phase, the choice that a stable round opens, and the parts of the lent work that come
-- back. Assumes nothing.
use Prim.Native.Nat.{ℕ, ◌+◌, ◌*◌, ◌<◌, ◌≤◌}
use mathlib.Core.Path.{◌≡◌, refl, sym, ◌∙◌, ap, ap₂, subst}
use mathlib.Core.Bool.{Bool, true, false}
use mathlib.Core.List.{List, [], ◌∷◌, ◌++◌}
use native.Mathlib.Omega.{arith}
use borrow.Author.Tests.{ne_eqb, eq-eqb}
use lib.ListN.{length, get_or, take, drop, length-append, take-append-drop}
use lib.Seq.{take_at, drop_at, drop-drop, length-take-le, length_front}
use Rattle.std.specs.Prelude.{Option, None, Some}
use Rattle.lists.specs.Numbers.{up_from}
use Rattle.lists.proofs.Laws.Different.{keep_fits}
use Rattle.lists.proofs.Laws.First.{lowest_within}
use Rattle.lists.proofs.Laws.Numbers.{length-up_from}
use Rattle.lists.proofs.Laws.Part.{length_part}
use Rattle.stored.specs.declared.layout.Layout.{Layout}
use Rattle.stored.specs.Limits.{max_elements}
use Rattle.stored.specs.Model.{Model, size, is_rep}
use Rattle.stored.specs.Reading.{Reads, model_of}
use Rattle.stored.proofs.Laws.Reading.{reads_formed, size_is}
use Rattle.rows.proofs.Laws.Given.{size_few}
use Rattle.rounds.specs.declared.colour.Colour.{Colour}
use Rattle.rounds.specs.Board.{board_room, Board}
use Rattle.rounds.specs.Classes.{open_of, smallest_open, lowest_of}
use Rattle.rounds.specs.Parts.{are_small, has_colour}
use Rattle.rounds.specs.Round.{Sides, colours_of, Outcome, dead, stable, again, colour_count, equal_counts, outcome, round, round_outcome}
use Rattle.rounds.proofs.Laws.Classes.{open_none, open_at_lem}
use Rattle.rounds.proofs.Laws.Parts.{lowest_handed}
use Rattle.rounds.proofs.Theorems.Classes.{count_fits, comes_dead, comes_stable, comes_again, round_comes}
use Rattle.rounds.proofs.Theorems.Keys.{reps_kept}
use Rattle.search.specs.declared.machine.Phase.{Phase}
use Rattle.search.specs.declared.machine.Phase.TheVariants as phase
use Rattle.search.specs.Machine.{Choice, refine, close, choose, choice_at, after_stable, after_round}
use Rattle.search.specs.Answer.{work_room}
use Rattle.search.specs.Choices.{choice_length, choices_on, choices_in, sides_in, Rows, SmallSides, state_of, OnlyChoices, Settled, Weighed, Opened, Looked}
use Rattle.search.proofs.Laws.Choices.{opened_at}
use Rattle.search.proofs.Theorems.Small.{after_round_lem}

-- where a candidate is due no round is
pub choose_no_round : {X : Type 0} → phase.Choose ≡ phase.Refine → X
choose_no_round e = absurd (omega (arith, ap rank e))
  where
    rank : Phase → ℕ
    rank phase.Refine = 0
    rank phase.Close = 1
    rank phase.Choose = 2

-- the state of each phase
module _ (c : Sides) (choices : List Choice) where
  pub state_refine : state_of phase.Refine c choices ≡ refine c choices
  unfolding state_of
  state_refine = refl

  pub state_close : state_of phase.Close c choices ≡ close c choices
  unfolding state_of
  state_close = refl

  pub state_choose : state_of phase.Choose c choices ≡ choose choices
  unfolding state_of
  state_choose = refl

  -- what follows a stable round
  module _ (a b : Model) where
    stable_single : after_stable a b c choices None ≡ close c choices
    unfolding after_stable
    stable_single = refl

    stable_open : (k : ℕ) → after_stable a b c choices (Some k) ≡ choose (choice_at a b c k ∷ choices)
    unfolding after_stable
    stable_open k = refl

-- the colours of a side are no more than its elements
module _ (s : List ℕ) (l : Layout) (reads : Reads s l) (colours : List ℕ) where
  pub few_colours : colour_count (model_of s) colours ≤ max_elements
  few_colours =
      omega (arith, count_fits (model_of s) colours, ap length (reps_kept (model_of s)), keep_fits (is_rep (model_of s)) (up_from 0 (size (model_of s))), length-up_from 0 (size (model_of s)), (reads_formed s l reads).few_elements)

  pub low_element : (k : ℕ) → lowest_of (model_of s) colours k ≤ max_elements
  low_element k =
      let w = reads_formed s l reads in
      let roots = (model_of s).roots in
      omega (arith, lowest_handed (model_of s) w roots refl colours k, (lowest_within (has_colour roots colours k) 0 (length roots)).1, w.roots_length, w.few_elements)

-- a stable round: what the class looked for comes to
module _ (a : Model) (left right w₀ : List ℕ) (depth : ℕ) (r : Option Colour) (is : open_of r ≡ smallest_open a left) where
  abbrev sides : Sides
  sides = record { left = left; right = right }

  pub settled_single : r ≡ None → Settled a left right w₀ depth phase.Close depth w₀
  settled_single q = record {
    settled = λ b e.
        state_close sides (choices_in a b w₀ depth)
        ∙ sym (stable_single sides (choices_in a b w₀ depth) a b)
        ∙ ap (after_stable a b sides (choices_in a b w₀ depth)) (sym open_none ∙ sym (ap open_of q) ∙ is);
    within = omega arith;
  }

  module _ (k : Colour) (q : r ≡ Some k) (x count : ℕ) (x-is : x ≡ lowest_of a left k.0) (count-is : count ≡ colour_count a left) (fits : length left ≡ size a) (w : List ℕ) where
    opened_so : Opened w₀ depth left right x k.0 count w → Opened w₀ depth left right (lowest_of a left k.0) k.0 (colour_count a left) w
    opened_so o = rw (← x-is, ← count-is) o

    pub settled_open : Opened w₀ depth left right x k.0 count w → Settled a left right w₀ depth phase.Choose (depth + 1) w
    settled_open o = record {
      settled = λ b e.
          state_choose sides (choices_in a b w (depth + 1))
          ∙ ap choose (opened_at a b sides k.0 w₀ depth w (sym fits) e (opened_so o))
          ∙ sym (stable_open sides (choices_in a b w₀ depth) a b k.0)
          ∙ ap (after_stable a b sides (choices_in a b w₀ depth)) (sym (open_at_lem k) ∙ sym (ap open_of q) ∙ is);
      within = omega arith;
    }

-- what follows a round
module _ (a b : Model) (choices : List Choice) where
  round_dead : after_round a b choices dead ≡ choose choices
  unfolding after_round
  round_dead = refl

  round_again : (c : Sides) → after_round a b choices (again c) ≡ refine c choices
  unfolding after_round
  round_again c = refl

  round_stable : (c : Sides) → after_round a b choices (stable c) ≡ after_stable a b c choices (smallest_open a c.left)
  unfolding after_round
  round_stable c = refl

-- a row of 64 has room for a side
module _ (s : List ℕ) (l : Layout) (r : Reads s l) (row : List ℕ) (h : length row ≡ 64) where
  pub side_room : l.size ≤ length row
  side_room = omega (arith, h, size_few s l r)

  pub side_front : l.size ≡ length (take l.size row)
  side_front = sym (length-take-le l.size row side_room)

  pub side_long : length (take l.size row) ≡ size (model_of s)
  side_long = sym side_front ∙ size_is s l r

-- the colours after a round are weighed, by whether the counts of both sides are equal
module _ (a b : Model) (left right : List ℕ) (before : ℕ) (equal : Bool) (told : equal ≡ equal_counts a b (record { left = left; right = right })) (w₀ : List ℕ) (depth : ℕ) where
  abbrev both : Sides
  both = record { left = left; right = right }

  -- a dead end
  pub weighed_dead : equal ≡ false → Weighed a b both before w₀ depth phase.Choose depth 0 w₀
  weighed_dead q = record {
    leads =
        state_choose both (choices_in a b w₀ depth)
        ∙ sym (round_dead a b (choices_in a b w₀ depth))
        ∙ ap (after_round a b (choices_in a b w₀ depth)) (sym (comes_dead a b before both (sym told ∙ q)));
    within = omega arith;
    counted = λ e. choose_no_round e;
  }

  module _ (q : equal ≡ true) (count : ℕ) (has : count ≡ colour_count a left) where
    -- more colours than before: another round
    pub weighed_again : (count ≡ before → ⊥) → Weighed a b both before w₀ depth phase.Refine depth count w₀
    weighed_again d = record {
      leads =
          state_refine both (choices_in a b w₀ depth)
          ∙ sym (round_again a b (choices_in a b w₀ depth) both)
          ∙ ap (after_round a b (choices_in a b w₀ depth)) (sym (comes_again a b before both (sym told ∙ q) (ne_eqb _ _ (λ k. d (has ∙ k)))));
      within = omega arith;
      counted = λ _. has;
    }

    -- as many as before: the round is stable
    pub weighed_stable :
        count ≡ before → length right ≡ size b → {due : Phase} {after : ℕ} {w : List ℕ} → Settled a left right w₀ depth due after w → (k : ℕ) → k ≡ count
        → Weighed a b both before w₀ depth due after k w
    weighed_stable same long o k is = record {
      leads =
          o.settled b (sym long)
          ∙ sym (round_stable a b (choices_in a b w₀ depth) both)
          ∙ ap (after_round a b (choices_in a b w₀ depth)) (sym (comes_stable a b before both (sym told ∙ q) (eq-eqb _ _ (sym has ∙ same))));
      within = o.within;
      counted = λ _. is ∙ has;
    }

-- the colours of two rows, by the sizes in the layouts
pub weighed_sides :
    (s t : List ℕ) (l m : Layout) → Reads s l → Reads t m → (c : List (List ℕ)) {before depth after count : ℕ} {due : Phase} {w₀ w : List ℕ}
    → Weighed (model_of s) (model_of t) (record { left = take l.size (get_or c 0 []); right = take m.size (get_or c 1 []) }) before w₀ depth due after count w
    → Weighed (model_of s) (model_of t) (sides_in (model_of s) (model_of t) c) before w₀ depth due after count w
unfolding sides_in
weighed_sides s t l m p q c {before} {depth} {after} {count} {due} {w₀} {w} u =
    subst (λ (x : Sides). Weighed (model_of s) (model_of t) x before w₀ depth due after count w)
    (ap₂ (λ (i j : ℕ). record { left = take i (get_or c 0 []); right = take j (get_or c 1 []) }) (size_is s l p) (size_is t m q)) u

-- a round on two rows is a round on their colours
pub rounded_sides :
    (a b : Model) (c₀ c : List (List ℕ))
    → ◌≡◌ {A = Sides} (record { left = take (size a) (get_or c 0 []); right = take (size b) (get_or c 1 []) }) (round a b (record { left = take (size a) (get_or c₀ 0 []); right = take (size b) (get_or c₀ 1 []) }))
    → sides_in a b c ≡ round a b (sides_in a b c₀)
unfolding sides_in
rounded_sides a b c₀ c e = e

-- the front of a row, by the size in the layout
module _ (s : List ℕ) (l : Layout) (reads : Reads s l) (row : List ℕ) where
  pub front_small : are_small (colours_of (model_of s) (take (size (model_of s)) row)) ≡ true → are_small (colours_of (model_of s) (take l.size row)) ≡ true
  front_small h = ap (λ (k : ℕ). are_small (colours_of (model_of s) (take k row))) (size_is s l reads) ∙ h

  pub front_count : colour_count (model_of s) (take l.size row) ≡ colour_count (model_of s) (take (size (model_of s)) row)
  front_count = ap (λ (k : ℕ). colour_count (model_of s) (take k row)) (size_is s l reads)

-- the fronts of two rows, by the sizes in the layouts, where the colours of both sides are small
module _ (s t : List ℕ) (l m : Layout) (p : Reads s l) (q : Reads t m) (c : List (List ℕ)) (small : SmallSides (model_of s) (model_of t) (sides_in (model_of s) (model_of t) c)) where
  pub left_small : are_small (colours_of (model_of s) (take l.size (get_or c 0 []))) ≡ true
  unfolding sides_in
  left_small = front_small s l p (get_or c 0 []) small.0

  pub right_small : are_small (colours_of (model_of t) (take m.size (get_or c 1 []))) ≡ true
  unfolding sides_in
  right_small = front_small t m q (get_or c 1 []) small.1

-- as they are after a round
pub rounded_small :
    (s t : List ℕ) (l m : Layout) → Reads s l → Reads t m → (c₀ c : List (List ℕ))
    → sides_in (model_of s) (model_of t) c ≡ round (model_of s) (model_of t) (sides_in (model_of s) (model_of t) c₀)
    → SmallSides (model_of s) (model_of t) (sides_in (model_of s) (model_of t) c)
rounded_small s t l m p q c₀ c e =
    subst (SmallSides (model_of s) (model_of t)) (sym e) (after_round_lem (model_of s) (model_of t) (reads_formed s l p) (reads_formed t m q) (sides_in (model_of s) (model_of t) c₀))

-- the lent work with its first part come back: the board is what came back, the choices and all past them are as they were
pub record BoardBack (w new w' : List ℕ) : Type 0 where
  pub front : take board_room w' ≡ new
  pub choices : choices_on w' ≡ choices_on w
  pub long : length w' ≡ length w
  pub rest : drop work_room w' ≡ drop work_room w
  pub room : work_room ≤ length w'

pub board_back : (w new : List ℕ) → work_room ≤ length w → length new ≡ length (take board_room w) → BoardBack w new (new ++ drop board_room w)
board_back w new room long = record {
  front = take_at new (drop board_room w) board_room new_long;
  choices = ap (take 12032) past;
  long = same;
  rest = sym (drop-drop 12032 board_room (new ++ drop board_room w)) ∙ ap (drop 12032) past ∙ drop-drop 12032 board_room w;
  room = omega (arith, same);
}
  where
    new_long : length new ≡ board_room
    new_long = long ∙ length-take-le board_room w (omega arith)

    past : drop board_room (new ++ drop board_room w) ≡ drop board_room w
    past = drop_at new (drop board_room w) board_room new_long

    same : length (new ++ drop board_room w) ≡ length w
    same = length_front w new board_room long

-- what a round leaves of the lent work: the board stands, the open choices and all past them are as they were
abbrev pub OnBoard : Model → Model → ℕ → List ℕ → List ℕ → Type 0
OnBoard a b cells w w' = Board a b cells (take board_room w') × (choices_on w' ≡ choices_on w) × (length w' ≡ length w) × (drop work_room w' ≡ drop work_room w)

pub board_kept : {w new w' : List ℕ} → BoardBack w new w' → (a b : Model) (cells : ℕ) → Board a b cells new → OnBoard a b cells w w'
board_kept f a b cells h = (rw f.front h, f.choices, f.long, f.rest)

-- the lent work with its second part come back: the choices are what came back, the board and all past the choices are as they were
pub record ChoicesBack (w new w' : List ℕ) : Type 0 where
  pub front : take board_room w' ≡ take board_room w
  pub choices : choices_on w' ≡ new
  pub long : length w' ≡ length w
  pub rest : drop work_room w' ≡ drop work_room w

pub choices_back : (w new : List ℕ) → work_room ≤ length w → length new ≡ length (choices_on w) → ChoicesBack w new (take board_room w ++ (new ++ drop 12032 (drop board_room w)))
choices_back w new room long = record {
  front = take_at (take board_room w) (new ++ drop 12032 (drop board_room w)) board_room front_long;
  choices = ap (take 12032) past ∙ take_at new (drop 12032 (drop board_room w)) 12032 new_long;
  long =
      length-append (take board_room w) (new ++ drop 12032 (drop board_room w))
      ∙ ap (λ (k : ℕ). length (take board_room w) + k) (length_front (drop board_room w) new 12032 long)
      ∙ sym (length-append (take board_room w) (drop board_room w))
      ∙ ap length (take-append-drop board_room w);
  rest =
      sym (drop-drop 12032 board_room (take board_room w ++ (new ++ drop 12032 (drop board_room w))))
      ∙ ap (drop 12032) past
      ∙ drop_at new (drop 12032 (drop board_room w)) 12032 new_long
      ∙ drop-drop 12032 board_room w;
}
  where
    front_long : length (take board_room w) ≡ board_room
    front_long = length-take-le board_room w (omega arith)

    new_long : length new ≡ 12032
    new_long = long ∙ length_part w board_room 12032 room

    past : drop board_room (take board_room w ++ (new ++ drop 12032 (drop board_room w))) ≡ new ++ drop 12032 (drop board_room w)
    past = drop_at (take board_room w) (new ++ drop 12032 (drop board_room w)) board_room front_long

module _ {w new w' : List ℕ} (f : ChoicesBack w new w') where
  pub back_opened : {depth element old newest : ℕ} {left right : List ℕ} → Opened (choices_on w) depth left right element old newest new → Opened (choices_on w) depth left right element old newest (choices_on w')
  back_opened o = rw f.choices o

  pub back_looked : {b : Model} {n depth : ℕ} {c₀ c : List (List ℕ)} {has : Bool} → Looked b n (choices_on w) depth c₀ new c has → Looked b n (choices_on w) depth c₀ (choices_on w') c has
  back_looked k = rw f.choices k

  pub back_kept : OnlyChoices w w'
  back_kept = (f.front, f.long, f.rest)

-- room for so many choices
pub choices_fit : (w : List ℕ) (depth : ℕ) → work_room ≤ length w → depth < max_elements → depth * choice_length ≤ length (choices_on w)
choices_fit w depth room h = omega (arith, length_part w board_room 12032 room)

-- and for one more
pub choices_room : (w : List ℕ) (depth : ℕ) → work_room ≤ length w → depth < max_elements → depth * choice_length + choice_length ≤ length (choices_on w)
choices_room w depth room h = omega (arith, length_part w board_room 12032 room)

-- what a round leaves of the rows and the lent work: the board stands, two rows of 64 are there, at most one choice more is open, and nothing past
-- the choices was changed
abbrev pub Left : Model → Model → ℕ → List (List ℕ) → ℕ → ℕ → List ℕ → List ℕ → Type 0
Left a b cells c depth left w w' = Board a b cells (take board_room w') × Rows c × (left ≤ depth + 1) × (length w' ≡ length w) × (drop work_room w' ≡ drop work_room w)

-- a round, and what its colours come to
module _ {a b : Model} {cells : ℕ} (c₀ c : List (List ℕ)) (w₀ w₁ w₂ : List ℕ) (is_round : sides_in a b c ≡ round a b (sides_in a b c₀)) (on : OnBoard a b cells w₀ w₁) (same : OnlyChoices w₁ w₂)
    {before depth after count : ℕ} {due : Phase} (u : Weighed a b (sides_in a b c) before (choices_on w₁) depth due after count (choices_on w₂)) where
  pub refined_state : before ≡ colour_count a (sides_in a b c₀).left
      → state_of due (sides_in a b c) (choices_in a b (choices_on w₂) after) ≡ after_round a b (choices_in a b (choices_on w₀) depth) (round_outcome a b (sides_in a b c₀))
  refined_state had =
      u.leads
      ∙ ap₂ (λ (y : List ℕ) (z : Outcome). after_round a b (choices_in a b y depth) z) on.1 (ap₂ (outcome a b) had is_round ∙ sym (round_comes a b (sides_in a b c₀)))

  pub refined_kept : Rows c → Left a b cells c depth after w₀ w₂
  refined_kept rows = (rw same.0 on.0, rows, u.within, same.1 ∙ on.2, same.2 ∙ on.3)
