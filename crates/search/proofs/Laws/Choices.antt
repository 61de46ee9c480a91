-- The laws of open choices in the lent work: rows written into it, what a store leaves as it was, the candidates of a choice, the choices that stay
-- open, the choice that goes on. Assumes nothing.
use Prim.Native.Nat.{ℕ, zero, suc, ◌+◌, ◌-◌, ◌*◌, ◌<◌, ◌≤◌, max}
use mathlib.Core.Path.{◌≡◌, refl, sym, ◌∙◌, ap}
use mathlib.Core.Bool.{Bool, true, false}
use mathlib.Core.List.{List, [], ◌∷◌, ◌++◌, append_assoc}
use mathlib.Core.Logic.{◌⊎◌, inl, inr, by_cases}
use native.Mathlib.Omega.{arith}
use native.Mathlib.Decide.{dec_le}
use native.Mathlib.Numerals.{add-one}
use native.Mathlib.Nat.{suc-mul}
use borrow.Author.Tests.{ne_eqb, eq-eqb}
use lib.Dec.{eqb}
use lib.ListN.{length, get_or, set, take, drop, length-set, length-drop}
use lib.Seq.{paste, paste-zero, paste-suc, length-paste, take_at, take-take, drop_at, take_all, length-take-le, get_or-take, get_or-set_same, get_or-set_other, take-set-le, take-set-lt, take-suc, take-suc-set, get_or-drop}
use Rattle.lists.specs.Every.{keep}
use Rattle.lists.specs.First.{lowest}
use Rattle.lists.specs.Numbers.{up_from}
use Rattle.lists.specs.Part.{part}
use Rattle.lists.proofs.Laws.Every.{keep_none, keep_yes, keep_no}
use Rattle.lists.proofs.Laws.First.{lowest_next, lowest_here, lowest_end}
use Rattle.lists.proofs.Laws.Numbers.{up_from_next, up_from_end}
use Rattle.lists.proofs.Laws.Part.{drop-take, get_d_part}
use Rattle.lists.proofs.Laws.Tests.{split}
use Rattle.stored.specs.Model.{Model, size, is_rep_in, is_rep}
use Rattle.stored.proofs.Laws.WellFormed.{WellFormed}
use Rattle.stored.specs.Limits.{max_elements}
use Rattle.rounds.specs.Colours.{colour_at}
use Rattle.rounds.specs.Round.{reps, Sides, colour_count}
use Rattle.rounds.specs.Classes.{lowest_of}
use Rattle.rounds.proofs.Theorems.Keys.{reps_kept}
use Rattle.search.specs.Machine.{Choice, refine, choose, Step, nowhere, takes, choice_at, gone_on, tried, try_candidate, next_choice}
use Rattle.search.specs.Choices.{choice_length, reps_from, choice_in, choices_in, candidate_from, candidate_in, sides_in, Opened, Reopened, Looked}

-- Loops that write a row over the entries of a list from a place on: i members are written.
pub record Pasted (old : List ℕ) (at : ℕ) (row out : List ℕ) (i : ℕ) : Type 0 where
  pub room : at + length row ≤ length old
  pub within : i ≤ length row
  pub long : length out ≡ length old
  pub is : out ≡ paste old at row i

pub pasted_none : (old : List ℕ) (at : ℕ) (row : List ℕ) → at + length row ≤ length old → Pasted old at row old 0
pasted_none old at row h = record { room = h; within = omega arith; long = refl; is = paste-zero old at row }

module _ {old : List ℕ} {at : ℕ} {row out : List ℕ} {i : ℕ} (u : Pasted old at row out i) where
  pub pasted_more : i < length row → Pasted old at row (set out (at + i) (get_or row i 0)) (i + 1)
  pasted_more h = record {
    room = u.room;
    within = omega arith;
    long = length-set out (at + i) (get_or row i 0) ∙ u.long;
    is = ap (λ (x : List ℕ). set x (at + i) (get_or row i 0)) u.is ∙ paste-suc old at row i 0 (omega (arith, u.room)) h ∙ rw add-one;
  }

  pub pasted_all : length row ≤ i → out ≡ paste old at row (length row)
  pasted_all h = let e : i ≡ length row = omega (arith, u.within) in u.is ∙ ap (paste old at row) e

-- a row written over the entries from a place on: what stands there, and before it
module _ (d : List ℕ) (at : ℕ) (row : List ℕ) (h : at + length row ≤ length d) where
  pub pasted_there : part (paste d at row (length row)) at (length row) ≡ row
  pasted_there =
      rw (append_assoc, drop_at (take at d) (take (length row) row ++ drop (at + length row) d) at (length-take-le at d (omega arith)))
      (take_at (take (length row) row) (drop (at + length row) d) (length row) (length-take-le (length row) row (omega arith)) ∙ take_all (length row) row (omega arith))

  pub pasted_before : take at (paste d at row (length row)) ≡ take at d
  pasted_before = rw append_assoc (take_at (take at d) (take (length row) row ++ drop (at + length row) d) at (length-take-le at d (omega arith)))

  pub pasted_long : length (paste d at row (length row)) ≡ length d
  pasted_long = length-paste d at row (length row) h (omega arith)

-- a part lies in any front that holds it
pub part_front : (w : List ℕ) (m p k : ℕ) → p + k ≤ m → part (take m w) p k ≡ part w p k
part_front w m p k h = ap (take k) (drop-take p m w) ∙ take-take k (m - p) (drop p w) (omega arith)

-- choices lie in any front that holds them
module _ (a b : Model) (fits : size a ≤ max_elements) (fits' : size b ≤ max_elements) where
  pub choice_front : (w : List ℕ) (m i : ℕ) → i * choice_length + choice_length ≤ m → choice_in a b (take m w) i ≡ choice_in a b w i
  unfolding choice_in
  choice_front w m i h =
      rw (part_front w m (i * choice_length) (size a) (omega arith), part_front w m (i * choice_length + 64) (size b) (omega arith), get_or-take m w (i * choice_length + 128) 0 (omega arith), get_or-take m w (i * choice_length + 129) 0 (omega arith), get_or-take m w (i * choice_length + 130) 0 (omega arith), get_or-take m w (i * choice_length + 131) 0 (omega arith))

  pub choices_front : (w : List ℕ) (m n : ℕ) → n * choice_length ≤ m → choices_in a b (take m w) n ≡ choices_in a b w n
  unfolding choices_in
  choices_front w m zero h = refl
  choices_front w m (suc n) h = rw (choice_front w m n (omega (arith, suc-mul n choice_length)), choices_front w m n (omega (arith, suc-mul n choice_length)))

  -- what changes only from a choice's part on leaves the choices below it
  pub choices_kept : (w w' : List ℕ) (n : ℕ) → take (n * choice_length) w' ≡ take (n * choice_length) w → choices_in a b w' n ≡ choices_in a b w n
  choices_kept w w' n e =
      sym (choices_front w' (n * choice_length) n (omega arith)) ∙ ap (λ (x : List ℕ). choices_in a b x n) e ∙ choices_front w (n * choice_length) n (omega arith)

  -- a store in the part of a choice, or above it, leaves the choices below
  pub choices_stored : (w : List ℕ) (n i v : ℕ) → n * choice_length ≤ i → choices_in a b (set w i v) n ≡ choices_in a b w n
  choices_stored w n i v h = choices_kept w (set w i v) n (take-set-le (n * choice_length) w i v h)

-- a choice is opened: the rows of both sides are written, then four entries stored
module _ (w₀ : List ℕ) (n : ℕ) (left right : List ℕ) (room : n * choice_length + choice_length ≤ length w₀) (few : length left ≤ max_elements) (few' : length right ≤ max_elements) where
  abbrev at : ℕ
  at = n * choice_length

  module _ (w₁ : List ℕ) (e₁ : w₁ ≡ paste w₀ at left (length left)) where
    pub one_long : length w₁ ≡ length w₀
    one_long = ap length e₁ ∙ pasted_long w₀ at left (omega arith)

    one_left : part w₁ at (length left) ≡ left
    one_left = ap (λ (x : List ℕ). part x at (length left)) e₁ ∙ pasted_there w₀ at left (omega arith)

    one_below : take at w₁ ≡ take at w₀
    one_below = ap (take at) e₁ ∙ pasted_before w₀ at left (omega arith)

    module _ (w₂ : List ℕ) (e₂ : w₂ ≡ paste w₁ (at + 64) right (length right)) where
      room₂ : at + 64 + length right ≤ length w₁
      room₂ = omega (arith, one_long)

      pub two_long : length w₂ ≡ length w₀
      two_long = ap length e₂ ∙ pasted_long w₁ (at + 64) right room₂ ∙ one_long

      two_right : part w₂ (at + 64) (length right) ≡ right
      two_right = ap (λ (x : List ℕ). part x (at + 64) (length right)) e₂ ∙ pasted_there w₁ (at + 64) right room₂

      two_front : (k : ℕ) → k ≤ at + 64 → take k w₂ ≡ take k w₁
      two_front k h =
          sym (take-take k (at + 64) w₂ h) ∙ ap (take k) (ap (take (at + 64)) e₂ ∙ pasted_before w₁ (at + 64) right room₂) ∙ take-take k (at + 64) w₁ h

      two_left : part w₂ at (length left) ≡ left
      two_left =
          sym (part_front w₂ (at + 64) at (length left) (omega arith))
          ∙ ap (λ (x : List ℕ). part x at (length left)) (two_front (at + 64) (omega arith))
          ∙ part_front w₁ (at + 64) at (length left) (omega arith)
          ∙ one_left

      module _ (element old new : ℕ) where
        abbrev w₃ : List ℕ
        w₃ = set w₂ (at + 128) element

        abbrev w₄ : List ℕ
        w₄ = set w₃ (at + 129) old

        abbrev w₅ : List ℕ
        w₅ = set w₄ (at + 130) new

        abbrev w₆ : List ℕ
        w₆ = set w₅ (at + 131) 0

        long₃ : length w₃ ≡ length w₀
        long₃ = length-set w₂ (at + 128) element ∙ two_long

        long₄ : length w₄ ≡ length w₀
        long₄ = length-set w₃ (at + 129) old ∙ long₃

        long₅ : length w₅ ≡ length w₀
        long₅ = length-set w₄ (at + 130) new ∙ long₄

        pub six_long : length w₆ ≡ length w₀
        six_long = length-set w₅ (at + 131) 0 ∙ long₅

        pub three_room : at + 129 < length w₃
        three_room = omega (arith, long₃)

        pub four_room : at + 130 < length w₄
        four_room = omega (arith, long₄)

        pub five_room : at + 131 < length w₅
        five_room = omega (arith, long₅)

        six_front : (k : ℕ) → k ≤ at + 128 → take k w₆ ≡ take k w₂
        six_front k h =
            take-set-le k w₅ (at + 131) 0 (omega arith)
            ∙ take-set-le k w₄ (at + 130) new (omega arith)
            ∙ take-set-le k w₃ (at + 129) old (omega arith)
            ∙ take-set-le k w₂ (at + 128) element h

        six_part : (p k : ℕ) → p + k ≤ at + 128 → part w₆ p k ≡ part w₂ p k
        six_part p k h =
            sym (part_front w₆ (at + 128) p k h) ∙ ap (λ (x : List ℕ). part x p k) (six_front (at + 128) (omega arith)) ∙ part_front w₂ (at + 128) p k h

        six_below : take at w₆ ≡ take at w₀
        six_below = six_front at (omega arith) ∙ two_front at (omega arith) ∙ one_below

        other : (x : List ℕ) (i j v : ℕ) → j < i → get_or (set x i v) j 0 ≡ get_or x j 0
        other x i j v h = get_or-set_other x i j v 0 (λ q. omega arith)

        six_element : get_or w₆ (at + 128) 0 ≡ element
        six_element =
            other w₅ (at + 131) (at + 128) 0 (omega arith)
            ∙ other w₄ (at + 130) (at + 128) new (omega arith)
            ∙ other w₃ (at + 129) (at + 128) old (omega arith)
            ∙ get_or-set_same w₂ (at + 128) element 0 (omega (arith, two_long))

        six_old : get_or w₆ (at + 129) 0 ≡ old
        six_old =
            other w₅ (at + 131) (at + 129) 0 (omega arith)
            ∙ other w₄ (at + 130) (at + 129) new (omega arith)
            ∙ get_or-set_same w₃ (at + 129) old 0 (omega (arith, long₃))

        six_new : get_or w₆ (at + 130) 0 ≡ new
        six_new = other w₅ (at + 131) (at + 130) 0 (omega arith) ∙ get_or-set_same w₄ (at + 130) new 0 (omega (arith, long₄))

        six_first : get_or w₆ (at + 131) 0 ≡ 0
        six_first = get_or-set_same w₅ (at + 131) 0 0 (omega (arith, long₅))

        pub opens : Opened w₀ n left right element old new w₆
        unfolding choice_in choices_in
        opens = record {
          opened = λ a b e e'. rw (add-one n, e, e', six_part at (length left) (omega arith), two_left, six_part (at + 64) (length right) (omega arith), two_right, six_element, six_old, six_new, six_first, choices_kept a b (omega arith) (omega arith) w₀ w₆ n six_below);
        }

-- Loops that look for the first number from a number on that passes a test: the first from y on is the one asked for.
pub record FirstRep (p : ℕ → Bool) (n from y : ℕ) : Type 0 where
  pub same : lowest p y (n - y) ≡ lowest p from (n - from)

pub rep_start : (p : ℕ → Bool) (n from : ℕ) → FirstRep p n from from
rep_start p n from = record { same = refl }

module _ {p : ℕ → Bool} {n from y : ℕ} (f : FirstRep p n from y) where
  pub rep_passed : y < n → p y ≡ false → FirstRep p n from (y + 1)
  rep_passed h e = record { same = sym (lowest_next p y n h e) ∙ f.same }

  pub rep_found : y < n → p y ≡ true → y ≡ lowest p from (n - from)
  rep_found h e = sym (lowest_here p y n h e) ∙ f.same

  pub rep_over : n ≤ y → y ≡ lowest p from (n - from)
  rep_over h = sym (lowest_end p y n h) ∙ f.same

  -- none was found: the end, or the start where that is past it
  pub rep_none : n ≤ y → (from ≤ n → y ≤ n) → max from n ≡ lowest p from (n - from)
  rep_none h k = by_cases (dec_le n from) (λ e. omega (arith, lowest_end p from n e)) (λ e. omega (arith, rep_over h))

-- the candidate by the roots of the file
pub candidate_is : (m : Model) → WellFormed m → (xs : List ℕ) → xs ≡ m.roots → (from r : ℕ) → r ≡ lowest (is_rep_in xs) from (length xs - from) → r ≡ candidate_from m from
unfolding candidate_from
candidate_is m w xs d from r e = e ∙ rw (d, w.roots_length)

-- the numbers from y on below n that pass a test: none where the lowest is past the end, else the lowest and those after it
module _ (p : ℕ → Bool) (n : ℕ) where
  kept_over : (y : ℕ) → n ≤ y → keep p (up_from y (n - y)) ≡ []
  kept_over y h = ap (keep p) (up_from_end y n h) ∙ keep_none p

  kept_here : (y : ℕ) → y < n → p y ≡ true → keep p (up_from y (n - y)) ≡ y ∷ keep p (up_from (y + 1) (n - (y + 1)))
  kept_here y h t = ap (keep p) (up_from_next y n h) ∙ keep_yes p y (up_from (y + 1) (n - (y + 1))) t

  kept_past : (y : ℕ) → y < n → p y ≡ false → keep p (up_from y (n - y)) ≡ keep p (up_from (y + 1) (n - (y + 1)))
  kept_past y h f = ap (keep p) (up_from_next y n h) ∙ keep_no p y (up_from (y + 1) (n - (y + 1))) f

  abbrev first : ℕ → ℕ
  first y = lowest p y (n - y)

  none_kept : (m y : ℕ) → n ≤ y + m → n ≤ first y → keep p (up_from y (n - y)) ≡ []
  none_kept zero y h l = kept_over y (omega arith)
  none_kept (suc m) y h l = by_cases (dec_le n y) (λ e. kept_over y e) (λ e. go (split (p y)) (omega arith) (none_kept m (y + 1) (omega arith)))
    where
      go : (p y ≡ true) ⊎ (p y ≡ false) → y < n → (n ≤ first (y + 1) → keep p (up_from (y + 1) (n - (y + 1))) ≡ []) → keep p (up_from y (n - y)) ≡ []
      go (inl t) k ih = absurd (omega (arith, lowest_here p y n k t))
      go (inr f) k ih = kept_past y k f ∙ ih (omega (arith, lowest_next p y n k f))

  one_kept : (m y : ℕ) → n ≤ y + m → first y < n → keep p (up_from y (n - y)) ≡ first y ∷ keep p (up_from (first y + 1) (n - (first y + 1)))
  one_kept zero y h l = absurd (omega (arith, lowest_end p y n (omega arith)))
  one_kept (suc m) y h l = by_cases (dec_le n y) (λ e. absurd (omega (arith, lowest_end p y n e))) (λ e. go (split (p y)) (omega arith) (one_kept m (y + 1) (omega arith)))
    where
      go : (p y ≡ true) ⊎ (p y ≡ false) → y < n
          → (first (y + 1) < n → keep p (up_from (y + 1) (n - (y + 1))) ≡ first (y + 1) ∷ keep p (up_from (first (y + 1) + 1) (n - (first (y + 1) + 1))))
          → keep p (up_from y (n - y)) ≡ first y ∷ keep p (up_from (first y + 1) (n - (first y + 1)))
      go (inl t) k ih = kept_here y k t ∙ ap (λ (z : ℕ). z ∷ keep p (up_from (z + 1) (n - (z + 1)))) (sym (lowest_here p y n k t))
      go (inr f) k ih =
          kept_past y k f
          ∙ ih (omega (arith, lowest_next p y n k f))
          ∙ ap (λ (z : ℕ). z ∷ keep p (up_from (z + 1) (n - (z + 1)))) (sym (lowest_next p y n k f))

-- the representatives from an element on
module _ (b : Model) (y : ℕ) where
  pub reps_none : size b ≤ candidate_from b y → reps_from b y ≡ []
  unfolding candidate_from reps_from
  reps_none h = none_kept (is_rep b) (size b) (size b) y (omega arith) h

  pub reps_next : candidate_from b y < size b → reps_from b y ≡ candidate_from b y ∷ reps_from b (candidate_from b y + 1)
  unfolding candidate_from reps_from
  reps_next h = one_kept (is_rep b) (size b) (size b) y (omega arith) h

-- a choice with a candidate left goes on with it
next_here : (e : Choice) (y : ℕ) (ys : List ℕ) (choices : List Choice) → e.rest ≡ y ∷ ys → next_choice (e ∷ choices) ≡ takes 1 (try_candidate e y ys choices)
unfolding next_choice
next_here e y ys choices q = ap (λ (r : List ℕ). elim r as (λ _. Step) [ [] ↦ next_choice choices | x ∷ xs ↦ takes 1 (try_candidate e x xs choices) ]) q

-- the latest of the open choices has no candidate left, or goes on with its next
module _ (a b : Model) (w : List ℕ) (i : ℕ) where
  pub choice_closed : size b ≤ candidate_in b w i → next_choice (choices_in a b w (suc i)) ≡ next_choice (choices_in a b w i)
  unfolding next_choice choices_in choice_in
  choice_closed h = rw (reps_none b (get_or w (i * choice_length + 131) 0) h, next_choice)

  pub choice_goes : candidate_in b w i < size b
      → next_choice (choices_in a b w (suc i)) ≡ takes 1 (try_candidate (choice_in a b w i) (candidate_in b w i) (reps_from b (candidate_in b w i + 1)) (choices_in a b w i))
  unfolding choices_in choice_in
  choice_goes h = next_here (choice_in a b w i) (candidate_in b w i) (reps_from b (candidate_in b w i + 1)) (choices_in a b w i) (reps_next b (get_or w (i * choice_length + 131) 0) h)

-- Loops that close choices from the latest on: `left` stay open so far.
pub record Closed (b : Model) (w : List ℕ) (depth left : ℕ) : Type 0 where
  pub fits : left * choice_length ≤ length w
  pub within : left ≤ depth
  pub same : (a : Model) → next_choice (choices_in a b w depth) ≡ next_choice (choices_in a b w left)

pub closed_none : (b : Model) (w : List ℕ) (depth : ℕ) → depth * choice_length ≤ length w → Closed b w depth depth
closed_none b w depth h = record { fits = h; within = omega arith; same = λ a. refl }

module _ {b : Model} {w : List ℕ} {depth left : ℕ} (u : Closed b w depth left) where
  pub closed_all : left ≤ 0 → Reopened b w depth left
  closed_all h = record { same = u.same; within = u.within; goes = λ k. absurd (omega arith) }

  module _ (h : 0 < left) (y n : ℕ) (e : y ≡ candidate_from b (get_or w ((left - 1) * choice_length + 131) 0)) (is : n ≡ size b) where
    pub closed_found : y < n → Reopened b w depth left
    closed_found k = record { same = u.same; within = u.within; goes = λ _. omega arith }

    pub closed_more : n ≤ y → Closed b w depth (left - 1)
    closed_more k =
        let q : left ≡ suc (left - 1) = omega arith in
        record {
          fits = omega (arith, u.fits);
          within = omega (arith, u.within);
          same = λ a. u.same a ∙ ap (λ (j : ℕ). next_choice (choices_in a b w j)) q ∙ choice_closed a b w (left - 1) (omega arith);
        }

-- Loops that load n entries from a place on into a row: i are loaded.
pub record Loaded (w : List ℕ) (at n : ℕ) (row : List ℕ) (i : ℕ) : Type 0 where
  pub fits : at + n ≤ length w
  pub few : n ≤ max_elements
  pub within : i ≤ n
  pub long : length row ≡ max_elements
  pub is : take i row ≡ part w at i

pub loaded_none : (w : List ℕ) (at n : ℕ) (row : List ℕ) → at + n ≤ length w → n ≤ max_elements → length row ≡ max_elements → Loaded w at n row 0
loaded_none w at n row h k e = record { fits = h; few = k; within = omega arith; long = e; is = refl }

module _ {w : List ℕ} {at n : ℕ} {row : List ℕ} {i : ℕ} (u : Loaded w at n row i) where
  pub loaded_more : i < n → Loaded w at n (set row i (get_or w (at + i) 0)) (i + 1)
  loaded_more h = record {
    fits = u.fits;
    few = u.few;
    within = omega arith;
    long = length-set row i (get_or w (at + i) 0) ∙ u.long;
    is =
        rw (add-one i, take-suc-set row i (get_or w (at + i) 0) (omega (arith, u.long, u.few)), take-suc (drop at w) i 0 (omega (arith, length-drop at w, u.fits)), get_or-drop at w i 0)
        (ap (λ (l : List ℕ). l ++ get_or w (at + i) 0 ∷ []) u.is);
  }

  pub loaded_all : n ≤ i → (x v : ℕ) → x < n → (take n (set row x v) ≡ set (part w at n) x v) × (length (set row x v) ≡ max_elements)
  loaded_all h x v k =
      let e : i ≡ n = omega (arith, u.within) in (
        take-set-lt n row x v k ∙ ap (λ (l : List ℕ). set l x v) (sym (ap (λ (j : ℕ). take j row) e) ∙ u.is ∙ ap (λ (j : ℕ). part w at j) e),
        length-set row x v ∙ u.long,
      )

-- within a list the default does not matter
default : (l : List ℕ) (j d d' : ℕ) → j < length l → get_or l j d ≡ get_or l j d'
default [] j d d' h = absurd (omega arith)
default (x ∷ l) zero d d' h = refl
default (x ∷ l) (suc j) d d' h = default l j d d' (omega arith)

-- a store past a part leaves it
part_stored : (w : List ℕ) (p v q k : ℕ) → q + k ≤ p → part (set w p v) q k ≡ part w q k
part_stored w p v q k h = sym (part_front (set w p v) p q k h) ∙ ap (λ (x : List ℕ). part x q k) (take-set-le p w p v (omega arith)) ∙ part_front w p q k h

entry_stored : (w : List ℕ) (p v j : ℕ) → j < p → get_or (set w p v) j 0 ≡ get_or w j 0
entry_stored w p v j h = get_or-set_other w p j v 0 (λ q. omega arith)

-- a store of the first right element not yet looked at: the choice goes on with those from it on
pub choice_stored : (a b : Model) → size a ≤ max_elements → size b ≤ max_elements → (w : List ℕ) (i v : ℕ) → i * choice_length + choice_length ≤ length w
    → choices_in a b (set w (i * choice_length + 131) v) (suc i) ≡ gone_on (choice_in a b w i) (reps_from b v) ∷ choices_in a b w i
unfolding choices_in choice_in gone_on
choice_stored a b fits fits' w i v h =
    rw (part_stored w (i * choice_length + 131) v (i * choice_length) (size a) (omega arith), part_stored w (i * choice_length + 131) v (i * choice_length + 64) (size b) (omega arith), entry_stored w (i * choice_length + 131) v (i * choice_length + 128) (omega arith), entry_stored w (i * choice_length + 131) v (i * choice_length + 129) (omega arith), entry_stored w (i * choice_length + 131) v (i * choice_length + 130) (omega arith), get_or-set_same w (i * choice_length + 131) v 0 (omega arith), choices_stored a b fits fits' w i (i * choice_length + 131) v (omega arith))

-- the latest choice is looked at: what is known once its next candidate is found
pub record Look (b : Model) (w : List ℕ) (depth n y : ℕ) : Type 0 where
  pub few_right : size b ≤ max_elements
  pub some : 1 ≤ depth
  pub room : depth * choice_length ≤ length w
  pub is : y ≡ candidate_in b w (depth - 1)
  pub below : y < size b
  pub known : get_or w ((depth - 1) * choice_length + 128) 0 < n
  pub few : n ≤ max_elements

module _ {b : Model} {w : List ℕ} {depth n y : ℕ} (u : Look b w depth n y) where
  abbrev base : ℕ
  base = (depth - 1) * choice_length

  abbrev stored : List ℕ
  stored = set w (base + 131) (y + 1)

  fits_in : base + choice_length ≤ length w
  fits_in = omega (arith, u.some, u.room)

  pub look_room : (j : ℕ) → j < choice_length → base + j < length stored
  look_room j h = omega (arith, fits_in, length-set w (base + 131) (y + 1))

  pub look_colour_room : base + 64 + y < length stored
  look_colour_room = omega (arith, fits_in, length-set w (base + 131) (y + 1), u.below, u.few_right)

  look_entry : (j : ℕ) → j < 131 → get_or stored (base + j) 0 ≡ get_or w (base + j) 0
  look_entry j h = entry_stored w (base + 131) (y + 1) (base + j) (omega arith)

  pub look_element : get_or stored (base + 128) 0 < n
  look_element = omega (arith, look_entry 128 (omega arith), u.known)

  pub look_left : (base + n ≤ length stored) × (n ≤ max_elements) × (get_or stored (base + 128) 0 < n)
  look_left = (omega (arith, fits_in, u.few, length-set w (base + 131) (y + 1)), u.few, look_element)

  pub look_right : (m : ℕ) → m ≡ size b → (base + 64 + m ≤ length stored) × (m ≤ max_elements) × (y < m)
  look_right m e = (omega (arith, fits_in, u.few_right, length-set w (base + 131) (y + 1)), omega (arith, u.few_right), omega (arith, u.below))

  look_gone : (a : Model) → size a ≡ n → choices_in a b stored depth ≡ gone_on (choice_in a b w (depth - 1)) (reps_from b (candidate_in b w (depth - 1) + 1)) ∷ choices_in a b w (depth - 1)
  look_gone a e =
      let q : depth ≡ suc (depth - 1) = omega (arith, u.some) in
      ap (λ (j : ℕ). choices_in a b stored j) q
      ∙ choice_stored a b (omega (arith, u.few)) u.few_right w (depth - 1) (y + 1) fits_in
      ∙ ap (λ (z : ℕ). gone_on (choice_in a b w (depth - 1)) (reps_from b (z + 1)) ∷ choices_in a b w (depth - 1)) u.is

  look_colour : (a : Model) → colour_at (choice_in a b w (depth - 1)).sides.right (candidate_in b w (depth - 1)) ≡ get_or stored (base + 64 + y) 0
  unfolding choice_in
  look_colour a =
      ap (colour_at (part w (base + 64) (size b))) (sym u.is)
      ∙ get_d_part w (base + 64) (size b) y 65535 u.below
      ∙ default w (base + 64 + y) 65535 0 (omega (arith, fits_in, u.below, u.few_right))
      ∙ sym (entry_stored w (base + 131) (y + 1) (base + 64 + y) (omega (arith, u.below, u.few_right)))

  look_old : (a : Model) → (choice_in a b w (depth - 1)).old ≡ get_or stored (base + 129) 0
  unfolding choice_in
  look_old a = sym (look_entry 129 (omega arith))

  pub looked_other : (c : List (List ℕ)) → (get_or stored (base + 64 + y) 0 ≡ get_or stored (base + 129) 0 → ⊥) → Looked b n w depth c stored c false
  looked_other c ne = record {
    has_gone_on = look_gone;
    tests = λ a. sym (ap (λ (z : ℕ). eqb z (choice_in a b w (depth - 1)).old) (look_colour a) ∙ ap (eqb (get_or stored (base + 64 + y) 0)) (look_old a) ∙ ne_eqb _ _ ne);
    gives = λ e. let z : ◌≡◌ {A = ℕ} 0 1 = cc in absurd (omega arith);
    long = λ e. let z : ◌≡◌ {A = ℕ} 0 1 = cc in absurd (omega arith);
    leaves = λ _. refl;
  }

  module _ (c : List (List ℕ)) (l r : List ℕ) (m : ℕ) (size_of : m ≡ size b)
      (left_is : (take n l ≡ set (part stored base n) (get_or stored (base + 128) 0) (get_or stored (base + 130) 0)) × (length l ≡ max_elements))
      (right_is : (take m r ≡ set (part stored (base + 64) m) y (get_or stored (base + 130) 0)) × (length r ≡ max_elements)) where
    sides_are : (a : Model) → size a ≡ n → sides_in a b (l ∷ r ∷ []) ≡ tried (choice_in a b w (depth - 1)) y
    unfolding sides_in tried choice_in
    sides_are a e =
        rw (e, ← size_of, left_is.0, right_is.0, part_stored w (base + 131) (y + 1) base n (omega (arith, u.few)), part_stored w (base + 131) (y + 1) (base + 64) m (omega (arith, u.few_right)), look_entry 128 (omega arith), look_entry 130 (omega arith))

    pub looked_same : get_or stored (base + 64 + y) 0 ≡ get_or stored (base + 129) 0 → Looked b n w depth c stored (l ∷ r ∷ []) true
    looked_same q = record {
      has_gone_on = look_gone;
      tests = λ a. sym (ap (λ (z : ℕ). eqb z (choice_in a b w (depth - 1)).old) (look_colour a) ∙ ap (eqb (get_or stored (base + 64 + y) 0)) (look_old a) ∙ eq-eqb _ _ q);
      gives = λ _ a e. sides_are a e ∙ ap (tried (choice_in a b w (depth - 1))) u.is;
      long = λ _. (refl, left_is.1, right_is.1);
      leaves = λ e. let z : ◌≡◌ {A = ℕ} 0 1 = cc in absurd (omega arith);
    }

-- a candidate looked at: with the choice's colour the search refines the colours given to it, else it goes on with the choices
module _ (e : Choice) (y : ℕ) (ys : List ℕ) (choices : List Choice) where
  try_same : eqb (colour_at e.sides.right y) e.old ≡ true → try_candidate e y ys choices ≡ refine (tried e y) (gone_on e ys ∷ choices)
  unfolding try_candidate
  try_same q = rw (q, try_candidate)

  try_other : eqb (colour_at e.sides.right y) e.old ≡ false → try_candidate e y ys choices ≡ choose (gone_on e ys ∷ choices)
  unfolding try_candidate
  try_other q = rw (q, try_candidate)

-- what the search does next, once the latest choice was looked at
module _ (a b : Model) (w₀ : List ℕ) (depth : ℕ) (some : 1 ≤ depth) (goes : candidate_in b w₀ (depth - 1) < size b) where
  abbrev latest : Choice
  latest = choice_in a b w₀ (depth - 1)

  abbrev candidate : ℕ
  candidate = candidate_in b w₀ (depth - 1)

  next_tried : next_choice (choices_in a b w₀ depth) ≡ takes 1 (try_candidate latest candidate (reps_from b (candidate + 1)) (choices_in a b w₀ (depth - 1)))
  next_tried = let q : depth ≡ suc (depth - 1) = omega arith in ap (λ (j : ℕ). next_choice (choices_in a b w₀ j)) q ∙ choice_goes a b w₀ (depth - 1) goes

  module _ {n : ℕ} {c₀ : List (List ℕ)} {w : List ℕ} {c : List (List ℕ)} (long : size a ≡ n) where
    pub next_same : Looked b n w₀ depth c₀ w c true → next_choice (choices_in a b w₀ depth) ≡ takes 1 (refine (sides_in a b c) (choices_in a b w depth))
    next_same l =
        next_tried
        ∙ ap (takes 1) (try_same latest candidate (reps_from b (candidate + 1)) (choices_in a b w₀ (depth - 1)) (sym (l.tests a)))
        ∙ ap (λ (s : Sides). takes 1 (refine s (gone_on latest (reps_from b (candidate + 1)) ∷ choices_in a b w₀ (depth - 1)))) (sym (l.gives refl a long))
        ∙ ap (λ (choices : List Choice). takes 1 (refine (sides_in a b c) choices)) (sym (l.has_gone_on a long))

    pub next_other : Looked b n w₀ depth c₀ w c false → next_choice (choices_in a b w₀ depth) ≡ takes 1 (choose (choices_in a b w depth))
    next_other l =
        next_tried
        ∙ ap (takes 1) (try_other latest candidate (reps_from b (candidate + 1)) (choices_in a b w₀ (depth - 1)) (sym (l.tests a)))
        ∙ ap (λ (choices : List Choice). takes 1 (choose choices)) (sym (l.has_gone_on a long))

-- no open choice: the search ends
pub next_none : (a b : Model) (w : List ℕ) → next_choice (choices_in a b w 0) ≡ nowhere
unfolding choices_in next_choice
next_none a b w = refl

-- before any is looked at, all right representatives are left
pub reps_all : (b : Model) → reps_from b 0 ≡ reps b
unfolding reps_from
reps_all b = let e : size b - 0 ≡ size b = omega arith in ap (λ (k : ℕ). keep (is_rep b) (up_from 0 k)) e ∙ sym (reps_kept b)

-- a choice opened at a colour
pub opened_at : (a b : Model) (c : Sides) (k : ℕ) (w₀ : List ℕ) (depth : ℕ) (w : List ℕ) → size a ≡ length c.left → size b ≡ length c.right
    → Opened w₀ depth c.left c.right (lowest_of a c.left k) k (colour_count a c.left) w → choices_in a b w (depth + 1) ≡ choice_at a b c k ∷ choices_in a b w₀ depth
unfolding choice_at
opened_at a b c k w₀ depth w e e' o =
    o.opened a b e e'
    ∙ ap (λ (ys : List ℕ). record { sides = c; element = lowest_of a c.left k; old = k; new = colour_count a c.left; rest = ys } ∷ choices_in a b w₀ depth) (reps_all b)
