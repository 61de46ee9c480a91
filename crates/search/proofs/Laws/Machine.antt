-- The machine's loop: the rest of the run from here is the run from the start, and the number of the left's colours is carried to each round. Assumes nothing.
use Prim.Native.Nat.{ℕ, zero, suc, ◌+◌, ◌-◌, ◌*◌, ◌<◌, ◌≤◌}
use mathlib.Core.Path.{◌≡◌, refl, sym, ◌∙◌, ap, subst}
use mathlib.Core.Bool.{Bool, true, false}
use mathlib.Core.Logic.{by_cases}
use mathlib.Core.List.{List, [], ◌∷◌}
use native.Mathlib.Omega.{arith}
use native.Mathlib.Decide.{dec_le}
use lib.ListN.{length, get_or, take, drop}
use Rattle.lists.specs.Part.{over}
use Rattle.lists.specs.Numbers.{up_from}
use Rattle.lists.proofs.Laws.Different.{keep_fits}
use Rattle.lists.proofs.Laws.Numbers.{length-up_from}
use Rattle.stored.specs.declared.layout.Layout.{Layout}
use Rattle.stored.specs.Limits.{max_elements}
use Rattle.stored.specs.Model.{Model, size, is_rep}
use Rattle.stored.specs.Canonical.{canonical}
use Rattle.stored.specs.Signature.{signature, same_signature}
use Rattle.stored.specs.Reading.{Reads, model_of}
use Rattle.stored.proofs.Laws.Reading.{reads_formed, size_is}
use Rattle.rows.proofs.Laws.Given.{size_few}
use Rattle.rounds.specs.Round.{reps, Sides, round_outcome, colours_of, colour_count}
use Rattle.rounds.specs.Parts.{are_small}
use Rattle.rounds.specs.Board.{board_room, Board}
use Rattle.rounds.proofs.Theorems.Keys.{reps_below_lem, reps_kept}
use Rattle.rounds.proofs.Theorems.Single.{open_lowest}
use Rattle.std.specs.Prelude.{Ok}
use Rattle.search.specs.declared.answer.Verdict.TheVariants as verdict
use Rattle.search.specs.Answer as answered
use Rattle.search.specs.declared.machine.Phase.{Phase}
use Rattle.search.specs.declared.machine.Phase.TheVariants as phase
use Rattle.search.specs.Machine.{Choice, State, refine, close, choose, done, open_in, Step, there, nowhere, takes, map_of, closes, after_round, after_closing, gone_on, next_choice, step, Reached, here, next, Ended, found, none, exhausted, run}
use Rattle.search.specs.Answer.{answer_of, written, work_room, ended}
use Rattle.search.specs.Find.{alike}
use Rattle.search.specs.Closing.{OneToOne}
use Rattle.search.specs.Choices.{choice_length, choices_on, choice_in, candidate_in, choices_in, sides_in, state_of, Rows, SmallSides, written_if, OnlyChoices, Reopened, Looked}
use Rattle.search.proofs.Laws.Run.{run_there, run_nowhere, run_takes, run_out}
use Rattle.search.proofs.Laws.Refine.{choose_no_round}
use Rattle.search.proofs.Laws.Choices.{choice_goes, next_none, next_same, next_other}
use Rattle.search.proofs.Theorems.Steps.{reached_sound}
use Rattle.search.proofs.Theorems.Onto.{AlikeModels}
use Rattle.search.proofs.Theorems.Sound.{settled_one_to_one}
use Rattle.search.proofs.Theorems.Small.{reached_small}
use Rattle.search.proofs.Theorems.Choices.{Rising, Risen, trial_count, reached_rising, open_choices}

-- the rest of a run from some colours with no open choice, after so many units
module _ (a b : Model) (budget : ℕ) (start : Sides) where
  abbrev pub whole : Ended
  whole = run budget 1 a b budget 0 (refine start [])

  pub record Goes (used : ℕ) (s : State) : Type 0 where
    pub spent : used ≤ budget
    pub rest : run (budget - used) 1 a b (budget - used) used s ≡ whole
    pub reached : Reached 1 a b (refine start []) s

  pub goes_start : Goes 0 (refine start [])
  goes_start = let e : budget - 0 ≡ budget = omega arith in record { spent = omega arith; rest = rw e refl; reached = here }

  module _ (used : ℕ) (s : State) (g : Goes used s) where
    -- a unit more
    pub goes_on : (t : State) → step 1 a b s ≡ takes 1 t → (used ≡ budget → ⊥) → Goes (used + 1) t
    goes_on t e n = record { spent = omega (arith, g.spent, n); rest = sym one_less ∙ g.rest; reached = next s g.reached 1 t e }
      where
        fuel : budget - used ≡ suc (budget - (used + 1))
        fuel = omega (arith, g.spent, n)

        less : budget - used - 1 ≡ budget - (used + 1)
        less = omega arith

        one_less : run (budget - used) 1 a b (budget - used) used s ≡ run (budget - (used + 1)) 1 a b (budget - (used + 1)) (used + 1) t
        one_less =
            ap (λ (f : ℕ). run f 1 a b (budget - used) used s) fuel
            ∙ run_takes 1 a b (budget - (used + 1)) (budget - used) used 1 s t e (omega (arith, g.spent, n))
            ∙ ap (λ (l : ℕ). run (budget - (used + 1)) 1 a b l (used + 1) t) less

    -- none is left
    pub goes_out : (t : State) → step 1 a b s ≡ takes 1 t → used ≡ budget → whole ≡ exhausted used
    goes_out t e q =
        let z : budget - used ≡ 0 = omega (arith, q) in
        sym g.rest ∙ ap (λ (f : ℕ). run f 1 a b (budget - used) used s) z ∙ run_out 1 a b (budget - used) used 1 s t e

    pub goes_nowhere : step 1 a b s ≡ nowhere → whole ≡ none used
    goes_nowhere e = sym g.rest ∙ run_nowhere 1 a b (budget - used) (budget - used) used s e

    pub goes_there : (f : List ℕ) → step 1 a b s ≡ there f → whole ≡ found used f
    goes_there f e = sym g.rest ∙ run_there 1 a b (budget - used) (budget - used) used s f e

-- steps
module _ (a b : Model) where
  pub step_refine : (c : Sides) (choices : List Choice) → step 1 a b (refine c choices) ≡ takes 1 (after_round a b choices (round_outcome a b c))
  unfolding step
  step_refine c choices = refl

  pub step_passes : (c : Sides) (choices : List Choice) → closes a b (map_of a b c) ≡ true → step 1 a b (close c choices) ≡ takes 1 (done (map_of a b c))
  unfolding step after_closing
  step_passes c choices e = ap (λ (t : Bool). takes 1 (after_closing choices (map_of a b c) t)) e

  pub step_fails : (c : Sides) (choices : List Choice) → closes a b (map_of a b c) ≡ false → step 1 a b (close c choices) ≡ takes 1 (choose choices)
  unfolding step after_closing
  step_fails c choices e = ap (λ (t : Bool). takes 1 (after_closing choices (map_of a b c) t)) e

  pub step_choose : (choices : List Choice) → step 1 a b (choose choices) ≡ next_choice choices
  unfolding step
  step_choose choices = refl

  pub step_done : (f : List ℕ) → step 1 a b (done f) ≡ there f
  unfolding step
  step_done f = refl

-- the open choices of a state, and how many there are
pub open_of_lem : (due : Phase) (c : Sides) (choices : List Choice) → open_in (state_of due c choices) ≡ choices
unfolding state_of
open_of_lem phase.Refine c choices = refl
open_of_lem phase.Close c choices = refl
open_of_lem phase.Choose c choices = refl

pub choices_long : (a b : Model) (w : List ℕ) (depth : ℕ) → length (choices_in a b w depth) ≡ depth
unfolding choices_in
choices_long a b w zero = refl
choices_long a b w (suc depth) = ap suc (choices_long a b w depth)

-- the number of colours that is carried: where a round is due, how many the left has
pub record Carried (a b : Model) (colours : List (List ℕ)) (due : Phase) (count : ℕ) : Type 0 where
  pub counted : due ≡ phase.Refine → count ≡ colour_count a (sides_in a b colours).left

module _ (a b : Model) (colours : List (List ℕ)) where
  pub start_small : SmallSides a b (sides_in a b colours) → are_small (colours_of a (take (size a) (get_or colours 0 []))) ≡ true
  unfolding sides_in
  start_small h = h.0

  pub carried_start : (count : ℕ) → count ≡ colour_count a (take (size a) (get_or colours 0 [])) → Carried a b colours phase.Refine count
  unfolding sides_in
  carried_start count h = record { counted = λ _. h }

  -- of no use where a candidate is due
  pub carried_past : (due : Phase) (count : ℕ) → due ≡ phase.Choose → Carried a b colours due count
  carried_past due count q = record { counted = λ e. choose_no_round (sym q ∙ e) }

-- the new colour of the latest choice
newest : List Choice → ℕ
newest [] = 0
newest (e ∷ choices) = e.new

newest_in : (a b : Model) (w : List ℕ) (depth : ℕ) → 1 ≤ depth → newest (choices_in a b w depth) ≡ get_or w ((depth - 1) * choice_length + 130) 0
unfolding choices_in choice_in newest
newest_in a b w depth h =
    let e : depth ≡ suc (depth - 1) = omega arith in
    ap (λ (i : ℕ). newest (choices_in a b w i)) e

newest_gone : (e : Choice) (ys : List ℕ) (choices : List Choice) → newest (gone_on e ys ∷ choices) ≡ e.new
unfolding gone_on newest
newest_gone e ys choices = refl

-- what is known before each turn
pub record Running (s t : List ℕ) (l m : Layout) (cells : ℕ) (start : List (List ℕ)) (budget : ℕ) (out₀ work₀ out work : List ℕ) (colours : List (List ℕ)) (due : Phase) (depth used : ℕ) : Type 0 where
  pub reads : Reads s l
  pub others : Reads t m
  pub alikes : AlikeModels (model_of s) (model_of t)
  pub fits : size (model_of s) ≤ length out₀
  pub room : work_room ≤ length work₀
  pub board : Board (model_of s) (model_of t) cells (take board_room work)
  pub rows : Rows colours
  pub long : length work ≡ length work₀
  pub above : drop work_room work ≡ drop work_room work₀
  pub same_out : out ≡ out₀
  pub goes :
      Goes (model_of s) (model_of t) budget (sides_in (model_of s) (model_of t) start) used
      (state_of due (sides_in (model_of s) (model_of t) colours) (choices_in (model_of s) (model_of t) (choices_on work) depth))

module _ {s t : List ℕ} {l m : Layout} {cells : ℕ} {start : List (List ℕ)} {budget : ℕ} {out₀ work₀ out work : List ℕ} {colours : List (List ℕ)} {due : Phase} {depth used : ℕ}
    (r : Running s t l m cells start budget out₀ work₀ out work colours due depth used) where
  abbrev a : Model
  a = model_of s

  abbrev b : Model
  b = model_of t

  abbrev now_choices : List Choice
  now_choices = choices_in (model_of s) (model_of t) (choices_on work) depth

  few_reps : length (reps a) ≤ 64
  few_reps =
      omega (arith, ap length (reps_kept a), keep_fits (is_rep a) (up_from 0 (size a)), length-up_from 0 (size a), size_few s l r.reads, size_is s l r.reads)

  pub depth_few : depth < max_elements
  depth_few =
      omega
      (arith, few_reps, open_choices a b 1 (sides_in a b start) _ r.goes.reached, ap length (open_of_lem due (sides_in a b colours) now_choices), choices_long a b (choices_on work) depth)

  pub work_room_lem : work_room ≤ length work
  work_room_lem = omega (arith, r.room, r.long)

  -- the three clauses of an answer
  abbrev pub Answers : answered.Answer → List ℕ → List ℕ → Type 0
  Answers x out' work' =
      (x ≡ answer_of (ended (whole a b budget (sides_in a b start))))
      × ((out' ≡ written (ended (whole a b budget (sides_in a b start))) out₀) × ((length work' ≡ length work₀) × (drop work_room work' ≡ drop work_room work₀)))

  answers_exhausted : whole a b budget (sides_in a b start) ≡ exhausted used → Answers (Ok (verdict.Exhausted used)) out work
  unfolding answer_of written
  answers_exhausted e = rw e (refl, (r.same_out, (r.long, r.above)))

  answers_none : whole a b budget (sides_in a b start) ≡ none used → Answers (Ok (verdict.None used)) out work
  unfolding answer_of written
  answers_none e = rw e (refl, (r.same_out, (r.long, r.above)))

  -- a round is due
  module _ (q : due ≡ phase.Refine) where
    at_round : Goes a b budget (sides_in a b start) used (refine (sides_in a b colours) now_choices)
    unfolding state_of
    at_round = subst (λ (p : Phase). Goes a b budget (sides_in a b start) used (state_of p (sides_in a b colours) now_choices)) q r.goes

    -- with small colours, if the first are
    pub round_small : SmallSides a b (sides_in a b start) → SmallSides a b (sides_in a b colours)
    round_small h =
        reached_small a b (reads_formed s l r.reads) (reads_formed t m r.others) 1 (sides_in a b start) (sides_in a b colours) now_choices h at_round.reached

    pub round_out : used ≡ budget → Answers (Ok (verdict.Exhausted used)) out work
    round_out u = answers_exhausted (goes_out a b budget (sides_in a b start) used _ at_round _ (step_refine a b (sides_in a b colours) now_choices) u)

    pub round_on :
        (n : used ≡ budget → ⊥) {work' : List ℕ} {colours' : List (List ℕ)} {due' : Phase} {depth' : ℕ}
        → state_of due' (sides_in a b colours') (choices_in a b (choices_on work') depth') ≡ after_round a b now_choices (round_outcome a b (sides_in a b colours))
        → Board a b cells (take board_room work') × Rows colours' × (depth' ≤ depth + 1) × (length work' ≡ length work) × (drop work_room work' ≡ drop work_room work)
        → Running s t l m cells start budget out₀ work₀ out work' colours' due' depth' (used + 1)
    round_on n e k = record {
      reads = r.reads;
      others = r.others;
      alikes = r.alikes;
      fits = r.fits;
      room = r.room;
      board = k.0;
      rows = k.1;
      long = k.3 ∙ r.long;
      above = k.4 ∙ r.above;
      same_out = r.same_out;
      goes = subst (Goes a b budget (sides_in a b start) (used + 1)) (sym e) (goes_on a b budget (sides_in a b start) used _ at_round _ (step_refine a b (sides_in a b colours) now_choices) n);
    }

  -- the closing check is due
  module _ (q : due ≡ phase.Close) where
    abbrev its_map : List ℕ
    its_map = map_of (model_of s) (model_of t) (sides_in (model_of s) (model_of t) colours)

    at_check : Goes a b budget (sides_in a b start) used (close (sides_in a b colours) now_choices)
    unfolding state_of
    at_check = subst (λ (p : Phase). Goes a b budget (sides_in a b start) used (state_of p (sides_in a b colours) now_choices)) q r.goes

    pub check_one_to_one : OneToOne a its_map
    check_one_to_one = settled_one_to_one a b (sides_in a b colours) (reached_sound a b 1 (sides_in a b start) (close (sides_in a b colours) now_choices) at_check.reached).0

    pub check_out : used ≡ budget → Answers (Ok (verdict.Exhausted used)) out work
    unfolding step
    check_out u = answers_exhausted (goes_out a b budget (sides_in a b start) used _ at_check _ refl u)

    module _ (n : used ≡ budget → ⊥) {passed : Bool} (e : passed ≡ closes a b its_map) {out' : List ℕ} (f : out' ≡ written_if passed its_map out) where
      pub check_found : passed ≡ true → Answers (Ok (verdict.Found (used + 1))) out' work
      unfolding answer_of written written_if
      check_found p =
          let g = goes_on a b budget (sides_in a b start) used _ at_check _ (step_passes a b (sides_in a b colours) now_choices (sym e ∙ p)) n in
          rw (goes_there a b budget (sides_in a b start) (used + 1) _ g its_map (step_done a b its_map))
          (refl, (f ∙ ap (λ (z : Bool). written_if z its_map out) p ∙ ap (over its_map) r.same_out, (r.long, r.above)))

      pub check_on : passed ≡ false → Running s t l m cells start budget out₀ work₀ out' work colours phase.Choose depth (used + 1)
      unfolding state_of written_if
      check_on p = record {
        reads = r.reads;
        others = r.others;
        alikes = r.alikes;
        fits = r.fits;
        room = r.room;
        board = r.board;
        rows = r.rows;
        long = r.long;
        above = r.above;
        same_out = f ∙ ap (λ (z : Bool). written_if z its_map out) p ∙ r.same_out;
        goes = goes_on a b budget (sides_in a b start) used _ at_check _ (step_fails a b (sides_in a b colours) now_choices (sym e ∙ p)) n;
      }

  -- the next candidate is due
  module _ (q : due ≡ phase.Choose) {stay : ℕ} (o : Reopened b (choices_on work) depth stay) where
    at_choice : Goes a b budget (sides_in a b start) used (choose now_choices)
    unfolding state_of
    at_choice = subst (λ (p : Phase). Goes a b budget (sides_in a b start) used (state_of p (sides_in a b colours) now_choices)) q r.goes

    -- what the choices that stay open lead to
    leads : (x : Step) → next_choice (choices_in a b (choices_on work) stay) ≡ x → step 1 a b (choose now_choices) ≡ x
    leads x e = step_choose a b now_choices ∙ o.same a ∙ e

    pub choice_none : stay ≡ 0 → Answers (Ok (verdict.None used)) out work
    choice_none z = answers_none (goes_nowhere a b budget (sides_in a b start) used _ at_choice (leads nowhere (ap (λ (i : ℕ). next_choice (choices_in a b (choices_on work) i)) z ∙ next_none a b (choices_on work))))

    module _ (some : stay ≡ 0 → ⊥) where
      least : 1 ≤ stay
      least = omega (arith, some)

      pub choice_out : used ≡ budget → Answers (Ok (verdict.Exhausted used)) out work
      choice_out u =
          let e : stay ≡ suc (stay - 1) = omega (arith, some) in
          answers_exhausted
          (goes_out a b budget (sides_in a b start) used _ at_choice _
          (leads _ (ap (λ (i : ℕ). next_choice (choices_in a b (choices_on work) i)) e ∙ choice_goes a b (choices_on work) (stay - 1) (o.goes least))) u)

      -- the latest of those that stay is one of the open choices
      rising_below : (d : ℕ) → stay ≤ d → Rising a b (choices_in a b (choices_on work) d) → Rising a b (choices_in a b (choices_on work) stay)
      unfolding choices_in
      rising_below zero h k = let e : stay ≡ 0 = omega (arith, h) in subst (λ (i : ℕ). Rising a b (choices_in a b (choices_on work) i)) (sym e) tt
      rising_below (suc d) h k =
          by_cases (dec_le stay d) (λ g. rising_below d g k.1)
          (λ g. let e : stay ≡ suc d = omega (arith, h, g) in subst (λ (i : ℕ). Rising a b (choices_in a b (choices_on work) i)) (sym e) k)

      latest_risen : Risen a b (choice_in a b (choices_on work) (stay - 1)) (choices_in a b (choices_on work) (stay - 1))
      unfolding choices_in
      latest_risen =
          let e : stay ≡ suc (stay - 1) = omega (arith, some) in
          (subst (λ (i : ℕ). Rising a b (choices_in a b (choices_on work) i)) e
          (rising_below depth o.within (reached_rising a b 1 (sides_in a b start) (choose now_choices) at_choice.reached))).0

      pub element_known : get_or (choices_on work) ((stay - 1) * choice_length + 128) 0 < l.size
      unfolding choice_in
      element_known =
          let k = latest_risen.opened in
          omega (arith, k.its_element, reps_below_lem a _ (open_lowest a _ _ k.was_open).0, size_is s l r.reads)

      pub stay_few : stay < max_elements
      stay_few = omega (arith, depth_few, o.within)

      pub candidate_there : candidate_in b (choices_on work) (stay - 1) < size b
      candidate_there = o.goes least

      -- a candidate of the choice's colour gives one colour more than the choice had
      pub choice_counted : {w : List ℕ} {colours' : List (List ℕ)} {has : Bool} → Looked b l.size (choices_on work) stay colours w colours' has → has ≡ true → {count : ℕ}
          → count ≡ get_or w ((stay - 1) * choice_length + 130) 0 + 1 → Carried a b colours' phase.Refine count
      choice_counted {w} {colours'} k h e =
          let latest = choice_in a b (choices_on work) (stay - 1) in
          let size_same = sym (size_is s l r.reads) in
          let kept : get_or w ((stay - 1) * choice_length + 130) 0 ≡ latest.new =
          sym (newest_in a b w stay least) ∙ ap newest (k.has_gone_on a size_same) ∙ newest_gone latest _ _ in
          let more : colour_count a (sides_in a b colours').left ≡ suc latest.new =
          ap (λ (c : Sides). colour_count a c.left) (k.gives h a size_same) ∙ trial_count a b latest _ latest_risen.opened in
          record { counted = λ _. omega (arith, e, kept, more) }

      -- the candidate was looked at
      module _ (n : used ≡ budget → ⊥) {work' : List ℕ} {colours' : List (List ℕ)} {has : Bool} (k : Looked b l.size (choices_on work) stay colours (choices_on work') colours' has)
          (same : OnlyChoices work work') where
        tried_on : (due' : Phase) → Rows colours' → step 1 a b (choose now_choices) ≡ takes 1 (state_of due' (sides_in a b colours') (choices_in a b (choices_on work') stay))
            → Running s t l m cells start budget out₀ work₀ out work' colours' due' stay (used + 1)
        tried_on due' rows' e = record {
          reads = r.reads;
          others = r.others;
          alikes = r.alikes;
          fits = r.fits;
          room = r.room;
          board = rw same.0 r.board;
          rows = rows';
          long = same.1 ∙ r.long;
          above = same.2 ∙ r.above;
          same_out = r.same_out;
          goes = goes_on a b budget (sides_in a b start) used _ at_choice _ e n;
        }

        pub choice_same : has ≡ true → Running s t l m cells start budget out₀ work₀ out work' colours' phase.Refine stay (used + 1)
        unfolding state_of
        choice_same h =
            let j = subst (Looked b l.size (choices_on work) stay colours (choices_on work') colours') h k in
            tried_on phase.Refine (j.long refl) (leads _ (next_same a b (choices_on work) stay least candidate_there (sym (size_is s l r.reads)) j))

        pub choice_other : has ≡ false → Running s t l m cells start budget out₀ work₀ out work' colours' due stay (used + 1)
        unfolding state_of
        choice_other h =
            let j = subst (Looked b l.size (choices_on work) stay colours (choices_on work') colours') h k in
            subst (λ (p : Phase). Running s t l m cells start budget out₀ work₀ out work' colours' p stay (used + 1)) (sym q)
            (tried_on phase.Choose (rw (j.leaves refl) r.rows) (leads _ (next_other a b (choices_on work) stay least candidate_there (sym (size_is s l r.reads)) j)))

-- the first turn
pub running_start :
    (s t : List ℕ) (l m : Layout) (cells : ℕ) (start : List (List ℕ)) (budget : ℕ) (out work : List ℕ) → Reads s l → Reads t m → canonical (model_of s) ≡ true → canonical (model_of t) ≡ true
    → same_signature (signature (model_of s)) (signature (model_of t)) ≡ true → alike (model_of s) (model_of t) ≡ true → Board (model_of s) (model_of t) cells (take board_room work) → Rows start
    → size (model_of s) ≤ length out → work_room ≤ length work → Running s t l m cells start budget out work out work start phase.Refine 0 0
unfolding state_of choices_in
running_start s t l m cells start budget out work reads others plain plain' one like board rows fits room = record {
  reads = reads;
  others = others;
  alikes = record { left_formed = reads_formed s l reads; right_formed = reads_formed t m others; left_plain = plain; right_plain = plain'; one_signature = one; are_alike = like };
  fits = fits;
  room = room;
  board = board;
  rows = rows;
  long = refl;
  above = refl;
  same_out = refl;
  goes = goes_start (model_of s) (model_of t) budget (sides_in (model_of s) (model_of t) start);
}
