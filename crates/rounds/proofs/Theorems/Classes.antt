-- Classes: what `smallest_open` and `lowest_of` answer, and how a round that goes on, one that is stable and a new colour for the lowest representative of
-- an open class change the number of left colours. Assumes nothing.
use Prim.Native.Nat.{ℕ, zero, suc, ◌+◌, ◌<◌, ◌≤◌, zero-le}
use mathlib.Core.Path.{◌≡◌, refl, sym, ◌∙◌, ap, subst}
use mathlib.Core.Logic.{◌⊎◌, inl, inr, by_cases}
use mathlib.Core.Bool.{Bool, true, false, ◌&&◌}
use mathlib.Core.List.{List, map, Memᴰ}
use native.Mathlib.Omega.{arith}
use native.Mathlib.Decide.{ℕ_discrete, dec_le}
use borrow.Author.Tests.{eqb-true, eqb-false, eq-eqb, leb-true, leb-false, ltb-true, ltb-false}
use lib.Dec.{eqb, ltb, leb}
use lib.ListN.{length, set, length-map}
use lib.Seq.{get_or-set_same, get_or-set_other}
use Rattle.std.specs.Prelude.{Option, None, Some}
use Rattle.lists.specs.Every.{how_many}
use Rattle.lists.specs.First.{lowest}
use Rattle.lists.specs.Numbers.{up_from}
use Rattle.lists.proofs.Laws.Tests.{split, clash, and_left, and_right, and_both}
use Rattle.lists.proofs.Laws.First.{lowest_passes, lowest_below}
use Rattle.lists.proofs.Laws.Numbers.{length-up_from}
use Rattle.stored.specs.Model.{Model, size, is_rep}
use Rattle.rounds.specs.Colours.{no_colour, colour_at}
use Rattle.rounds.specs.Round.{reps, Sides, recoloured, round, colours_of, colour_count, equal_counts, dead, stable, again, outcome, round_outcome}
use Rattle.rounds.specs.Classes.{smaller, smallest_from, smallest_open, lowest_of}
use Rattle.lists.proofs.Laws.Counting.{how_many_some, how_many-map, different_fit, another}
use Rattle.rounds.proofs.Theorems.Keys.{on_left, reps_below_lem, reps_rep, rep_reps}
use Rattle.rounds.proofs.Theorems.Alive.{reps_distinct}
use Rattle.rounds.proofs.Theorems.Counts.{left_count_grows, colour_there, colour_of, count_exact, colour_below, colour_left}

-- of the colours i, i + 1, .., n of them: k is open, no open class is smaller, and every open class before it is larger
pub record Smallest (colours : List ℕ) (i n k : ℕ) : Type 0 where
  pub from : i ≤ k
  pub below : k < i + n
  pub two : 2 ≤ how_many (eqb k) colours
  pub least : (l : ℕ) → i ≤ l → l < i + n → 2 ≤ how_many (eqb l) colours → how_many (eqb k) colours ≤ how_many (eqb l) colours
  pub first : (l : ℕ) → i ≤ l → l < k → 2 ≤ how_many (eqb l) colours → how_many (eqb k) colours < how_many (eqb l) colours

module _ (colours : List ℕ) where
  abbrev in_class : ℕ → ℕ
  in_class k = how_many (eqb k) colours

  abbrev pub Answers : ℕ → ℕ → Option ℕ → Type 0
  Answers i n None = (l : ℕ) → i ≤ l → l < i + n → how_many (eqb l) colours < 2
  Answers i n (Some k) = Smallest colours i n k

  smaller_first : (k l : ℕ) → leb (in_class k) (in_class l) ≡ true → smaller colours k (Some l) ≡ Some k
  unfolding smaller
  smaller_first k l e = rw (e, smaller)

  smaller_later : (k l : ℕ) → leb (in_class k) (in_class l) ≡ false → smaller colours k (Some l) ≡ Some l
  unfolding smaller
  smaller_later k l e = rw (e, smaller)

  from_single : (k n : ℕ) → ltb (in_class k) 2 ≡ true → smallest_from colours k (suc n) ≡ smallest_from colours (suc k) n
  unfolding smallest_from
  from_single k n e = rw (e, smallest_from)

  from_open : (k n : ℕ) → ltb (in_class k) 2 ≡ false → smallest_from colours k (suc n) ≡ smaller colours k (smallest_from colours (suc k) n)
  unfolding smallest_from
  from_open k n e = rw (e, smallest_from)

  -- a class with one member or none before those that are looked at
  single_before : (i n : ℕ) (o : Option ℕ) → in_class i < 2 → Answers (suc i) n o → Answers i (suc n) o
  single_before i n None h r = λ l u v. by_cases (ℕ_discrete l i) (λ q. rw q h) (λ q. r l (omega arith) (omega arith))
  single_before i n (Some k) h r = record {
    from = omega arith;
    below = omega arith;
    two = r.two;
    least = λ l u v w. r.least l (not_it l w u) (omega arith) w;
    first = λ l u v w. r.first l (not_it l w u) v w;
  }
    where
      not_it : (l : ℕ) → 2 ≤ in_class l → i ≤ l → suc i ≤ l
      not_it l w u = by_cases (ℕ_discrete l i) (λ q. absurd (let z : in_class l ≡ in_class i = ap in_class q in omega arith)) (λ q. omega arith)

  -- an open class before them
  open_before : (i n : ℕ) (o : Option ℕ) → 2 ≤ in_class i → Answers (suc i) n o → Answers i (suc n) (smaller colours i o)
  open_before i n None h r = unfold smaller in record {
    from = omega arith;
    below = omega arith;
    two = h;
    least = λ l u v w. by_cases (ℕ_discrete l i) (λ q. rw q (omega arith)) (λ q. absurd (let z = r l (omega arith) (omega arith) in omega arith));
    first = λ l u v w. absurd (omega arith);
  }
  open_before i n (Some k) h r = go (split (leb (in_class i) (in_class k)))
    where
      go : (leb (in_class i) (in_class k) ≡ true) ⊎ (leb (in_class i) (in_class k) ≡ false) → Answers i (suc n) (smaller colours i (Some k))
      go (inl e) = rw (smaller_first i k e) (record {
        from = omega arith;
        below = omega arith;
        two = h;
        least = λ l u v w. by_cases (ℕ_discrete l i) (λ q. rw q (omega arith)) (λ q. let z = r.least l (omega arith) (omega arith) w in omega (arith, leb-true (in_class i) (in_class k) e));
        first = λ l u v w. absurd (omega arith);
      })
      go (inr e) = rw (smaller_later i k e) (record {
        from = omega arith;
        below = omega arith;
        two = r.two;
        least = λ l u v w. by_cases (ℕ_discrete l i) (λ q. rw q (omega (arith, leb-false (in_class i) (in_class k) e))) (λ q. r.least l (omega arith) (omega arith) w);
        first = λ l u v w. by_cases (ℕ_discrete l i) (λ q. rw q (omega (arith, leb-false (in_class i) (in_class k) e))) (λ q. r.first l (omega arith) v w);
      })

  pub smallest_from_lem : (i n : ℕ) → Answers i n (smallest_from colours i n)
  smallest_from_lem i zero = unfold smallest_from in (λ l u v. absurd (omega arith))
  smallest_from_lem i (suc n) = go (split (ltb (in_class i) 2)) (smallest_from_lem (suc i) n)
    where
      go : (ltb (in_class i) 2 ≡ true) ⊎ (ltb (in_class i) 2 ≡ false) → Answers (suc i) n (smallest_from colours (suc i) n) → Answers i (suc n) (smallest_from colours i (suc n))
      go (inl e) ih = rw (from_single i n e) (single_before i n (smallest_from colours (suc i) n) (ltb-true (in_class i) 2 e) ih)
      go (inr e) ih = rw (from_open i n e) (open_before i n (smallest_from colours (suc i) n) (omega (arith, ltb-false (in_class i) 2 e)) ih)

-- what a class of colours says of representatives
module _ (m : Model) (colours : List ℕ) where
  pub count_fits : colour_count m colours ≤ length (reps m)
  unfolding colour_count colours_of
  count_fits = omega (arith, different_fit (map (colour_at colours) (reps m)), length-map (reps m) (colour_at colours))

  pub class_some : (k : ℕ) → 1 ≤ how_many (eqb k) (colours_of m colours) → Memᴰ k (colours_of m colours)
  class_some k h =
      let r = how_many_some (eqb k) (colours_of m colours) h in
      subst (λ (v : ℕ). Memᴰ v (colours_of m colours)) (sym (eqb-true k r.0 r.2)) r.1

  -- a class with two members has one that is not v
  pub class_another : (k v : ℕ) → 2 ≤ how_many (eqb k) (colours_of m colours) → (x : ℕ) × Memᴰ x (reps m) × (x ≡ v → ⊥) × (k ≡ colour_at colours x)
  unfolding colours_of
  class_another k v h =
      let r = another (λ (x : ℕ). eqb k (colour_at colours x)) v (reps m) (reps_distinct m) (omega (arith, how_many-map (eqb k) (colour_at colours) (reps m))) in
      (r.0, r.1, r.2, eqb-true k (colour_at colours r.0) r.3)

  -- what `smallest_open` says, where the colours of the representatives are below their number
  module _ (low : (k : ℕ) → Memᴰ k (colours_of m colours) → k < length (reps m)) where
    within : (k : ℕ) → 2 ≤ how_many (eqb k) (colours_of m colours) → k < length (colours_of m colours)
    unfolding colours_of
    within k h = omega (arith, low k (class_some k (omega arith)), length-map (reps m) (colour_at colours))

    answers : Answers (colours_of m colours) 0 (length (colours_of m colours)) (smallest_open m colours)
    unfolding smallest_open
    answers = smallest_from_lem (colours_of m colours) 0 (length (colours_of m colours))

    -- no class has two members
    pub single_all : smallest_open m colours ≡ None → (k : ℕ) → how_many (eqb k) (colours_of m colours) < 2
    single_all e k =
        let r : Answers (colours_of m colours) 0 (length (colours_of m colours)) None = rw e at answers in
        by_cases (dec_le 2 (how_many (eqb k) (colours_of m colours))) (λ h. r k zero-le (omega (arith, within k h))) (λ h. omega arith)

    -- no class with two members is smaller, and those as small have no lower colour
    pub open_least : (k : ℕ) → smallest_open m colours ≡ Some k → (l : ℕ) → 2 ≤ how_many (eqb l) (colours_of m colours) → how_many (eqb k) (colours_of m colours) ≤ how_many (eqb l) (colours_of m colours)
    open_least k e l h = let r : Smallest (colours_of m colours) 0 (length (colours_of m colours)) k = rw e at answers in r.least l zero-le (omega (arith, within l h)) h

    pub open_first : (k : ℕ) → smallest_open m colours ≡ Some k → (l : ℕ) → l < k → 2 ≤ how_many (eqb l) (colours_of m colours) → how_many (eqb k) (colours_of m colours) < how_many (eqb l) (colours_of m colours)
    open_first k e l u h = let r : Smallest (colours_of m colours) 0 (length (colours_of m colours)) k = rw e at answers in r.first l zero-le u h

  -- an open class has two members or more
  pub open_two : (k : ℕ) → smallest_open m colours ≡ Some k → 2 ≤ how_many (eqb k) (colours_of m colours)
  unfolding smallest_open
  open_two k e = let r : Smallest (colours_of m colours) 0 (length (colours_of m colours)) k = rw e at (smallest_from_lem (colours_of m colours) 0 (length (colours_of m colours))) in r.two

  -- the lowest representative of a colour that x has: a representative of that colour, not above x
  module _ (k x : ℕ) (there : Memᴰ x (reps m)) (its : colour_at colours x ≡ k) where
    abbrev passes : ℕ → Bool
    passes y = is_rep m y && eqb (colour_at colours y) k

    pub lowest_least : lowest_of m colours k ≤ x
    unfolding lowest_of
    lowest_least =
        by_cases (dec_le (lowest passes 0 (size m)) x) (λ h. h)
        (λ h. clash (and_both (is_rep m x) (eqb (colour_at colours x) k) (reps_rep m x there) (eq-eqb _ k its)) (lowest_below passes 0 (size m) x zero-le (omega arith)))

    lowest_tested : passes (lowest_of m colours k) ≡ true
    unfolding lowest_of
    lowest_tested = lowest_passes passes 0 (size m) (omega (arith, lowest_least, reps_below_lem m x there))

    pub lowest_rep : Memᴰ (lowest_of m colours k) (reps m)
    lowest_rep = rep_reps m (lowest_of m colours k) (omega (arith, lowest_least, reps_below_lem m x there)) (and_left (is_rep m (lowest_of m colours k)) _ lowest_tested)

    pub lowest_coloured : colour_at colours (lowest_of m colours k) ≡ k
    lowest_coloured = eqb-true _ k (and_right (is_rep m (lowest_of m colours k)) _ lowest_tested)

-- what colours come to, where the left had so many before
module _ (a b : Model) (before : ℕ) (c : Sides) where
  pub comes_dead : equal_counts a b c ≡ false → outcome a b before c ≡ dead
  unfolding outcome
  comes_dead e = rw (e, outcome)

  pub comes_stable : equal_counts a b c ≡ true → eqb (colour_count a c.left) before ≡ true → outcome a b before c ≡ stable c
  unfolding outcome
  comes_stable e q = rw (e, outcome, q)

  pub comes_again : equal_counts a b c ≡ true → eqb (colour_count a c.left) before ≡ false → outcome a b before c ≡ again c
  unfolding outcome
  comes_again e q = rw (e, outcome, q)

-- what a round comes to is what its colours come to
pub round_comes : (a b : Model) (c : Sides) → round_outcome a b c ≡ outcome a b (colour_count a c.left) (round a b c)
unfolding round_outcome
round_comes a b c = refl

-- what a round that goes on and one that is stable come to
module _ (a b : Model) (c d : Sides) where
  -- the counts are equal, and the colours are those of the round
  pub record Judged : Type 0 where
    pub equal : equal_counts a b (round a b c) ≡ true
    pub is_round : d ≡ round a b c

  abbrev count_before : ℕ
  count_before = colour_count a c.left

  abbrev count_after : ℕ
  count_after = colour_count a (round a b c).left

  outcome_dead : equal_counts a b (round a b c) ≡ false → round_outcome a b c ≡ dead
  outcome_dead e = round_comes a b c ∙ comes_dead a b count_before (round a b c) e

  pub outcome_stable : equal_counts a b (round a b c) ≡ true → eqb count_after count_before ≡ true → round_outcome a b c ≡ stable (round a b c)
  outcome_stable e q = round_comes a b c ∙ comes_stable a b count_before (round a b c) e q

  pub outcome_again : equal_counts a b (round a b c) ≡ true → eqb count_after count_before ≡ false → round_outcome a b c ≡ again (round a b c)
  outcome_again e q = round_comes a b c ∙ comes_again a b count_before (round a b c) e q

  pub when_stable : round_outcome a b c ≡ stable d → Judged × (count_after ≡ count_before)
  when_stable h = go (split (equal_counts a b (round a b c))) (split (eqb count_after count_before))
    where
      go : (equal_counts a b (round a b c) ≡ true) ⊎ (equal_counts a b (round a b c) ≡ false) → (eqb count_after count_before ≡ true) ⊎ (eqb count_after count_before ≡ false) → Judged × (count_after ≡ count_before)
      go (inr e) q = absurd (let z : ◌≡◌ {A = ℕ} 0 1 = cc (outcome_dead e) in omega arith)
      go (inl e) (inr q) = absurd (let z : ◌≡◌ {A = ℕ} 0 1 = cc (outcome_again e q) in omega arith)
      go (inl e) (inl q) = (record { equal = e; is_round = cc (outcome_stable e q) }, eqb-true count_after count_before q)

  pub when_again : round_outcome a b c ≡ again d → Judged × (count_after ≡ count_before → ⊥)
  when_again h = go (split (equal_counts a b (round a b c))) (split (eqb count_after count_before))
    where
      go : (equal_counts a b (round a b c) ≡ true) ⊎ (equal_counts a b (round a b c) ≡ false) → (eqb count_after count_before ≡ true) ⊎ (eqb count_after count_before ≡ false) → Judged × (count_after ≡ count_before → ⊥)
      go (inr e) q = absurd (let z : ◌≡◌ {A = ℕ} 0 1 = cc (outcome_dead e) in omega arith)
      go (inl e) (inl q) = absurd (let z : ◌≡◌ {A = ℕ} 0 1 = cc (outcome_stable e q) in omega arith)
      go (inl e) (inr q) = (record { equal = e; is_round = cc (outcome_again e q) }, eqb-false count_after count_before q)

  pub again_raises : round_outcome a b c ≡ again d → colour_count a c.left < colour_count a d.left
  again_raises h =
      let r = when_again h in
      let differ = r.1 in
      let same : colour_count a d.left ≡ count_after = ap (λ (s : Sides). colour_count a s.left) r.0.is_round in
      omega (arith, left_count_grows a b c)

  pub stable_keeps : round_outcome a b c ≡ stable d → colour_count a d.left ≡ colour_count a c.left
  stable_keeps h = let r = when_stable h in ap (λ (s : Sides). colour_count a s.left) r.0.is_round ∙ r.1

-- a side whose colours are 0, 1, .. without a gap, and that has a place for each element
pub record Gapless (m : Model) (colours : List ℕ) : Type 0 where
  pub long : length colours ≡ size m
  pub below : (x : ℕ) → Memᴰ x (reps m) → colour_at colours x < colour_count m colours
  pub every : (k : ℕ) → k < colour_count m colours → Memᴰ k (colours_of m colours)

pub round_gapless : (a b : Model) (c : Sides) → equal_counts a b (round a b c) ≡ true → Gapless a (round a b c).left
round_gapless a b c e = record { long = lengths; below = colour_below a b c e on_left; every = colour_left a b c e }
  where
    lengths : length (round a b c).left ≡ size a
    lengths = unfold round recoloured in length-map (up_from 0 (size a)) _ ∙ length-up_from 0 (size a)

pub stable_gapless : (a b : Model) (c d : Sides) → round_outcome a b c ≡ stable d → Gapless a d.left
stable_gapless a b c d h =
    let r = (when_stable a b c d h).0 in
    subst (λ (s : Sides). Gapless a s.left) (sym r.is_round) (round_gapless a b c r.equal)

module _ (m : Model) (colours : List ℕ) (gapless : Gapless m colours) where
  gapless_low : (k : ℕ) → Memᴰ k (colours_of m colours) → k < length (reps m)
  gapless_low k h = let o = colour_of m colours k h in omega (arith, o.2, gapless.below o.0 o.1, count_fits m colours)

  -- the lowest representative of a class with two members gets a new colour
  module _ (k : ℕ) (two : 2 ≤ how_many (eqb k) (colours_of m colours)) where
    el : ℕ
    el = lowest_of m colours k

    count : ℕ
    count = colour_count m colours

    trial : List ℕ
    trial = set colours el count

    el_rep : Memᴰ el (reps m)
    unfolding el
    el_rep = let o = class_another m colours k 0 two in lowest_rep m colours k o.0 o.1 (sym o.3)

    el_coloured : colour_at colours el ≡ k
    unfolding el
    el_coloured = let o = class_another m colours k 0 two in lowest_coloured m colours k o.0 o.1 (sym o.3)

    trial_el : colour_at trial el ≡ count
    unfolding trial
    trial_el = get_or-set_same colours el count no_colour (omega (arith, reps_below_lem m el el_rep, gapless.long))

    trial_other : (x : ℕ) → (x ≡ el → ⊥) → colour_at trial x ≡ colour_at colours x
    unfolding trial
    trial_other x d = get_or-set_other colours el x count no_colour d

    -- each colour has a member that keeps it
    keeps : (j : ℕ) → j < count → (x : ℕ) × Memᴰ x (reps m) × (x ≡ el → ⊥) × (j ≡ colour_at colours x)
    unfolding count
    keeps j l =
        by_cases (ℕ_discrete j k)
        (λ q. let o = class_another m colours k el two in (o.0, o.1, o.2, q ∙ o.3))
        (λ q. let o = colour_of m colours j (gapless.every j l) in (o.0, o.1, (λ e. q (o.2 ∙ ap (colour_at colours) e ∙ el_coloured)), o.2))

    trial_below : (j : ℕ) → Memᴰ j (colours_of m trial) → j < suc count
    unfolding count
    trial_below j n =
        let o = colour_of m trial j n in
        let e = o.2 in
        by_cases (ℕ_discrete o.0 el)
        (λ q. let z : colour_at trial o.0 ≡ colour_at trial el = ap (colour_at trial) q in omega (arith, trial_el))
        (λ q. omega (arith, trial_other o.0 q, gapless.below o.0 o.1))

    trial_every : (j : ℕ) → j < suc count → Memᴰ j (colours_of m trial)
    trial_every j l =
        by_cases (ℕ_discrete j count)
        (λ q. subst (λ (v : ℕ). Memᴰ v (colours_of m trial)) (trial_el ∙ sym q) (colour_there m trial el el_rep))
        (λ q. let o = keeps j (omega arith) in
        subst (λ (v : ℕ). Memᴰ v (colours_of m trial)) (trial_other o.0 o.2 ∙ sym o.3) (colour_there m trial o.0 o.1))

    trial_count : colour_count m (set colours (lowest_of m colours k) (colour_count m colours)) ≡ suc (colour_count m colours)
    trial_count = unfold trial el count in count_exact m trial (suc count) trial_below trial_every

    trial_room : colour_count m colours < length (reps m)
    trial_room = omega (arith, trial_count, count_fits m (set colours (lowest_of m colours k) (colour_count m colours)))

    some_colour : 1 ≤ colour_count m colours
    some_colour = let o = class_another m colours k 0 two in omega (arith, gapless.below o.0 o.1)

-- the classes after a stable round
module _ (a b : Model) (c d : Sides) (is-stable : round_outcome a b c ≡ stable d) where
  abbrev members : ℕ → ℕ
  members k = how_many (eqb k) (colours_of a d.left)

  pub stable_low : (k : ℕ) → Memᴰ k (colours_of a d.left) → k < length (reps a)
  stable_low = gapless_low a d.left (stable_gapless a b c d is-stable)

  pub stable_single : smallest_open a d.left ≡ None → (k : ℕ) → members k < 2
  stable_single = single_all a d.left stable_low

  module _ (k : ℕ) (is_open : smallest_open a d.left ≡ Some k) where
    pub stable_two : 2 ≤ members k
    stable_two = open_two a d.left k is_open

    pub stable_least : (l : ℕ) → 2 ≤ members l → members k ≤ members l
    stable_least = open_least a d.left stable_low k is_open

    pub stable_first : (l : ℕ) → l < k → 2 ≤ members l → members k < members l
    stable_first = open_first a d.left stable_low k is_open

    pub open_some : 1 ≤ colour_count a d.left
    open_some = some_colour a d.left (stable_gapless a b c d is-stable) k stable_two

    pub open_below : colour_count a d.left < length (reps a)
    open_below = trial_room a d.left (stable_gapless a b c d is-stable) k stable_two

    -- a new colour for the lowest representative of the open class
    pub trial_raises : colour_count a (set d.left (lowest_of a d.left k) (colour_count a d.left)) ≡ suc (colour_count a d.left)
    trial_raises = trial_count a d.left (stable_gapless a b c d is-stable) k stable_two
