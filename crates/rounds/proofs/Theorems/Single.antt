-- Single: what an outcome says of the round it came from; where no left class is open after a stable round, equal colours tell representatives apart
-- on both sides; where a class is open, its lowest representative has its colour. Assumes nothing.
use Prim.Native.Nat.{ℕ, suc, ◌<◌, ◌≤◌, zero-le}
use mathlib.Core.Path.{◌≡◌, refl, sym, ◌∙◌, ap}
use mathlib.Core.Logic.{◌⊎◌, inl, inr, by_cases}
use mathlib.Core.Bool.{Bool, true, false}
use mathlib.Core.List.Memᴰ
use mathlib.Core.List.{List, [], ◌∷◌, Memᴰ}
use native.Mathlib.Omega.{arith}
use native.Mathlib.Decide.{dec_le}
use borrow.Author.Tests.{eqb-true, eqb-false, eq-eqb}
use lib.Dec.{eqb}
use lib.ListN.{length, length-map}
use Rattle.std.specs.Prelude.{None, Some}
use Rattle.lists.specs.Every.{how_many}
use Rattle.lists.specs.First.{lowest}
use Rattle.lists.specs.Numbers.{up_from}
use Rattle.lists.proofs.Laws.Tests.{split, clash}
use Rattle.lists.proofs.Laws.First.{lowest_passes, lowest_below}
use Rattle.lists.proofs.Laws.Numbers.{length-up_from}
use Rattle.stored.specs.Model.{Model, size}
use Rattle.rounds.specs.Colours.{colour_at}
use Rattle.rounds.specs.Round.{reps, Sides, recoloured, new_colour, palette, round, colours_of, colour_count, equal_counts, dead, stable, again, round_outcome}
use Rattle.rounds.specs.Classes.{smallest_open, lowest_of}
use Rattle.lists.proofs.Laws.Counting.{how_many_yes, how_many_no, how_many_some, how_many_mem, how_many-map, different_fit}
use Rattle.rounds.proofs.Theorems.Keys.{on_left, on_right}
use Rattle.rounds.proofs.Theorems.Classes.{Answers, smallest_from_lem, class_some, open_two, lowest_rep, lowest_coloured, outcome_stable, outcome_again, when_stable, when_again}
use Rattle.rounds.proofs.Theorems.Counts.{colour_of, colour_there, equal_at, colour_below}

-- two different members that pass count twice
pub how_many_two : (p : ℕ → Bool) (xs : List ℕ) (x y : ℕ) → Memᴰ x xs → Memᴰ y xs → (x ≡ y → ⊥) → p x ≡ true → p y ≡ true → 1 < how_many p xs
how_many_two p [] x y m n d px py = absurd (Memᴰ.not-nil m)
how_many_two p (z ∷ zs) x y m n d px py = go (Memᴰ.cases_cons m) (Memᴰ.cases_cons n) (λ i j. how_many_two p zs x y i j d px py)
  where
    no_fewer : (p z ≡ true) ⊎ (p z ≡ false) → how_many p zs ≤ how_many p (z ∷ zs)
    no_fewer (inl e) = omega (arith, how_many_yes p z zs e)
    no_fewer (inr e) = omega (arith, how_many_no p z zs e)

    go : (x ≡ z) ⊎ Memᴰ x zs → (y ≡ z) ⊎ Memᴰ y zs → (Memᴰ x zs → Memᴰ y zs → 1 < how_many p zs) → 1 < how_many p (z ∷ zs)
    go (inl q) (inl r) ih = absurd (d (q ∙ sym r))
    go (inl q) (inr j) ih = omega (arith, how_many_yes p z zs (ap p (sym q) ∙ px), how_many_mem p zs y j py)
    go (inr i) (inl r) ih = omega (arith, how_many_yes p z zs (ap p (sym r) ∙ py), how_many_mem p zs x i px)
    go (inr i) (inr j) ih = omega (arith, no_fewer (split (p z)), ih i j)

-- where some number below n passes, the lowest does and is below n
pub lowest_reached : (p : ℕ → Bool) (n x : ℕ) → x < n → p x ≡ true → (lowest p 0 n < n) × (p (lowest p 0 n) ≡ true)
lowest_reached p n x l h = (below, lowest_passes p 0 n (omega (arith, below)))
  where
    below : lowest p 0 n < n
    below = by_cases (dec_le (suc (lowest p 0 n)) n) (λ k. k) (λ k. clash h (lowest_below p 0 n x zero-le (omega arith)))

module _ (a : Model) (left : List ℕ) where
  pub single_few : smallest_open a left ≡ None → (k : ℕ) → k < length (colours_of a left) → how_many (eqb k) (colours_of a left) < 2
  unfolding smallest_open
  single_few e k l =
      let r : Answers (colours_of a left) 0 (length (colours_of a left)) None = rw e at (smallest_from_lem (colours_of a left) 0 (length (colours_of a left))) in
      r k zero-le (omega arith)

  -- the lowest representative of an open class
  pub open_lowest : (k : ℕ) → smallest_open a left ≡ Some k → Memᴰ (lowest_of a left k) (reps a) × (colour_at left (lowest_of a left k) ≡ k)
  open_lowest k e =
      let o = colour_of a left k (class_some a left k (omega (arith, open_two a left k e))) in
      (lowest_rep a left k o.0 o.1 (sym o.2), lowest_coloured a left k o.0 o.1 (sym o.2))

-- no more colours than there are representatives to have one
colours_fit : (m : Model) (colours : List ℕ) → colour_count m colours ≤ length (colours_of m colours)
unfolding colour_count
colours_fit m colours = different_fit (colours_of m colours)

-- what an outcome says of the round
module _ (a b : Model) (c : Sides) where
  pub dead_unequal : round_outcome a b c ≡ dead → equal_counts a b (round a b c) ≡ false
  dead_unequal h = go (split (equal_counts a b (round a b c))) (split (eqb (colour_count a (round a b c).left) (colour_count a c.left)))
    where
      go : (equal_counts a b (round a b c) ≡ true) ⊎ (equal_counts a b (round a b c) ≡ false)
          → (eqb (colour_count a (round a b c).left) (colour_count a c.left) ≡ true) ⊎ (eqb (colour_count a (round a b c).left) (colour_count a c.left) ≡ false) → equal_counts a b (round a b c) ≡ false
      go (inr e) q = e
      go (inl e) (inl q) = absurd (let z : ◌≡◌ {A = ℕ} 0 1 = cc (outcome_stable a b c c e q) in omega arith)
      go (inl e) (inr q) = absurd (let z : ◌≡◌ {A = ℕ} 0 1 = cc (outcome_again a b c c e q) in omega arith)

  pub stable_round : (d : Sides) → round_outcome a b c ≡ stable d → (round a b c ≡ d) × (equal_counts a b (round a b c) ≡ true)
  stable_round d e = let j = (when_stable a b c d e).0 in (sym j.is_round, j.equal)

  pub again_round : (d : Sides) → round_outcome a b c ≡ again d → (round a b c ≡ d) × (equal_counts a b (round a b c) ≡ true)
  again_round d e = let j = (when_again a b c d e).0 in (sym j.is_round, j.equal)

  -- a round gives each element a colour
  pub left_length : length (round a b c).left ≡ size a
  unfolding round recoloured
  left_length = length-map (up_from 0 (size a)) (new_colour (palette a b c) a c.left) ∙ length-up_from 0 (size a)

  pub right_length : length (round a b c).right ≡ size b
  unfolding round recoloured
  right_length = length-map (up_from 0 (size b)) (new_colour (palette a b c) b c.right) ∙ length-up_from 0 (size b)

-- colours that tell representatives apart
abbrev pub TellsApart : Model → List ℕ → Type 0
TellsApart m colours = (x y : ℕ) → Memᴰ x (reps m) → Memᴰ y (reps m) → colour_at colours x ≡ colour_at colours y → x ≡ y

few_apart : (m : Model) (colours : List ℕ) → ((x : ℕ) → Memᴰ x (reps m) → how_many (eqb (colour_at colours x)) (colours_of m colours) < 2) → TellsApart m colours
unfolding colours_of
few_apart m colours few x y i j e = go (split (eqb x y))
  where
    go : (eqb x y ≡ true) ⊎ (eqb x y ≡ false) → x ≡ y
    go (inl q) = eqb-true x y q
    go (inr q) =
        let k = colour_at colours x in
        let two = how_many_two (λ (z : ℕ). eqb k (colour_at colours z)) (reps m) x y i j (eqb-false x y q) (eq-eqb k k refl) (eq-eqb k (colour_at colours y) e) in
        absurd (omega (arith, few x i, two, how_many-map (eqb k) (colour_at colours) (reps m)))

module _ (a b : Model) (c : Sides) (equal : equal_counts a b (round a b c) ≡ true) (single : smallest_open a (round a b c).left ≡ None) where
  left_few : (x : ℕ) → Memᴰ x (reps a) → how_many (eqb (colour_at (round a b c).left x)) (colours_of a (round a b c).left) < 2
  left_few x m = single_few a (round a b c).left single _ (omega (arith, colour_below a b c equal on_left x m, colours_fit a (round a b c).left))

  right_few : (y : ℕ) → Memᴰ y (reps b) → how_many (eqb (colour_at (round a b c).right y)) (colours_of b (round a b c).right) < 2
  right_few y m =
      let few = single_few a (round a b c).left single (colour_at (round a b c).right y) (omega (arith, colour_below a b c equal on_right y m, colours_fit a (round a b c).left)) in
      omega (arith, few, equal_at a b (round a b c) equal (colour_at (round a b c).right y))

  pub single_left : TellsApart a (round a b c).left
  single_left = few_apart a (round a b c).left left_few

  pub single_right : TellsApart b (round a b c).right
  single_right = few_apart b (round a b c).right right_few

-- with equal counts each representative has one of its colour on the other side
module _ (a b : Model) (c : Sides) (equal : equal_counts a b c ≡ true) where
  pub same_right : (x : ℕ) → Memᴰ x (reps a) → (y : ℕ) × Memᴰ y (reps b) × (colour_at c.right y ≡ colour_at c.left x)
  same_right x m =
      let k = colour_at c.left x in
      let some = how_many_mem (eqb k) (colours_of a c.left) k (colour_there a c.left x m) (eq-eqb k k refl) in
      let r = how_many_some (eqb k) (colours_of b c.right) (omega (arith, some, equal_at a b c equal k)) in
      let o = colour_of b c.right r.0 r.1 in
      (o.0, o.1, sym o.2 ∙ sym (eqb-true k r.0 r.2))

  pub same_left : (y : ℕ) → Memᴰ y (reps b) → (x : ℕ) × Memᴰ x (reps a) × (colour_at c.left x ≡ colour_at c.right y)
  same_left y m =
      let k = colour_at c.right y in
      let some = how_many_mem (eqb k) (colours_of b c.right) k (colour_there b c.right y m) (eq-eqb k k refl) in
      let r = how_many_some (eqb k) (colours_of a c.left) (omega (arith, some, equal_at a b c equal k)) in
      let o = colour_of a c.left r.0 r.1 in
      (o.0, o.1, sym o.2 ∙ sym (eqb-true k r.0 r.2))
