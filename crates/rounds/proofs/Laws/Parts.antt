-- The laws of colours by the parts of a file: one number more, one representative more, tests of a colour, and that they are those of the model that was read.
-- Assumes nothing.
use Prim.Native.Nat.{ℕ, ◌+◌, ◌<◌, ◌≤◌, zero-le}
use mathlib.Core.Path.{◌≡◌, refl, ◌∙◌, ap}
use mathlib.Core.Bool.{Bool, true, false, ◌&&◌}
use mathlib.Core.List.{List, [], ◌∷◌, ◌++◌, map, map-append, Memᴰ}
use native.Mathlib.Omega.{arith}
use native.Mathlib.Numerals.{add-one}
use borrow.Author.Tests.{eq-eqb, ne_eqb}
use lib.Dec.{eqb}
use lib.ListN.{length, length-map}
use Rattle.lists.specs.Every.{keep, how_many}
use Rattle.lists.specs.First.{lowest}
use Rattle.lists.specs.Numbers.{up_from}
use Rattle.lists.proofs.Laws.Every.{keep_none, keep_more, keep_past, keep_mem, mem_keep}
use Rattle.lists.proofs.Laws.Counting.{how_many_none, how_many_yes, how_many_no, how_many_append}
use Rattle.lists.proofs.Laws.Different.{keep_fits}
use Rattle.lists.proofs.Laws.Numbers.{length-up_from, up_from_end, up_from_more, up_from_mem, mem_up_from}
use Rattle.lists.proofs.Laws.Sets.{mem_map, map_mem}
use Rattle.stored.proofs.Laws.WellFormed.{WellFormed}
use Rattle.stored.specs.Limits.{max_types, max_elements}
use Rattle.stored.specs.Model.{Model, is_rep_in}
use Rattle.rounds.specs.Colours.{colour_at}
use Rattle.rounds.specs.Round.{reps, colours_of}
use Rattle.rounds.specs.Classes.{lowest_of}
use Rattle.rounds.specs.Parts.{reps_below, colours_below, reps_in, colours_in, has_colour}

-- the numbers below one more
pub up_more : (x : ℕ) → up_from 0 (x + 1) ≡ up_from 0 x ++ x ∷ []
up_more x = let e : 0 + x ≡ x = omega arith in rw (add-one x, up_from_more 0 x, e)

-- how many of the numbers below one more pass a test
module _ (p : ℕ → Bool) (x : ℕ) where
  one_more : how_many p (up_from 0 (x + 1)) ≡ how_many p (up_from 0 x) + how_many p (x ∷ [])
  one_more = ap (how_many p) (up_more x) ∙ how_many_append p (up_from 0 x) (x ∷ [])

  pub count_yes : p x ≡ true → how_many p (up_from 0 (x + 1)) ≡ how_many p (up_from 0 x) + 1
  count_yes e = omega (arith, one_more, how_many_yes p x [] e, how_many_none p)

  pub count_no : p x ≡ false → how_many p (up_from 0 (x + 1)) ≡ how_many p (up_from 0 x)
  count_no e = omega (arith, one_more, how_many_no p x [] e, how_many_none p)

-- one representative more, or one alias
module _ (roots : List ℕ) where
  pub reps_none : reps_below roots 0 ≡ []
  unfolding reps_below
  reps_none = ap (keep (is_rep_in roots)) (up_from_end 0 0 (omega arith)) ∙ keep_none (is_rep_in roots)

  module _ (x : ℕ) where
    pub reps_rep : is_rep_in roots x ≡ true → reps_below roots (x + 1) ≡ reps_below roots x ++ x ∷ []
    unfolding reps_below
    reps_rep e = ap (keep (is_rep_in roots)) (up_more x) ∙ keep_more (is_rep_in roots) (up_from 0 x) x e

    pub reps_alias : is_rep_in roots x ≡ false → reps_below roots (x + 1) ≡ reps_below roots x
    unfolding reps_below
    reps_alias e = ap (keep (is_rep_in roots)) (up_more x) ∙ keep_past (is_rep_in roots) (up_from 0 x) x e

-- the same of their colours
module _ (roots colours : List ℕ) where
  pub colours_none : colours_below roots colours 0 ≡ []
  unfolding colours_below
  colours_none = ap (map (colour_at colours)) (reps_none roots)

  module _ (x : ℕ) where
    pub colours_rep : is_rep_in roots x ≡ true → colours_below roots colours (x + 1) ≡ colours_below roots colours x ++ colour_at colours x ∷ []
    unfolding colours_below
    colours_rep e = ap (map (colour_at colours)) (reps_rep roots x e) ∙ map-append (colour_at colours) (reps_below roots x) (x ∷ [])

    pub colours_alias : is_rep_in roots x ≡ false → colours_below roots colours (x + 1) ≡ colours_below roots colours x
    unfolding colours_below
    colours_alias e = ap (map (colour_at colours)) (reps_alias roots x e)

-- which colours they are, and that they are no more than the numbers
module _ (roots colours : List ℕ) (n : ℕ) where
  pub colours_fit : length (colours_below roots colours n) ≤ n
  unfolding colours_below reps_below
  colours_fit = omega (arith, length-map (keep (is_rep_in roots) (up_from 0 n)) (colour_at colours), keep_fits (is_rep_in roots) (up_from 0 n), length-up_from 0 n)

  pub colour_there : (x : ℕ) → x < n → is_rep_in roots x ≡ true → Memᴰ (colour_at colours x) (colours_below roots colours n)
  unfolding colours_below reps_below
  colour_there x h e =
      map_mem (colour_at colours) (keep (is_rep_in roots) (up_from 0 n)) x (keep_mem (is_rep_in roots) (up_from 0 n) x (up_from_mem 0 n x zero-le (omega arith)) e)

  pub colour_of : (k : ℕ) → Memᴰ k (colours_below roots colours n) → (x : ℕ) × (x < n) × (is_rep_in roots x ≡ true) × (k ≡ colour_at colours x)
  unfolding colours_below reps_below
  colour_of k m =
      let o = mem_map (colour_at colours) (keep (is_rep_in roots) (up_from 0 n)) k m in
      let r = mem_keep (is_rep_in roots) (up_from 0 n) o.0 o.1 in
      (o.0, omega (arith, (mem_up_from 0 n o.0 r.0).1), r.1, o.2)

-- whether an element is a representative of a colour
pub has_test : (roots colours : List ℕ) (k : ℕ) → has_colour roots colours k ≡ (λ (x : ℕ). is_rep_in roots x && eqb (colour_at colours x) k)
unfolding has_colour
has_test roots colours k = refl

module _ (roots colours : List ℕ) (k x : ℕ) where
  pub has_colour_lem : is_rep_in roots x ≡ true → colour_at colours x ≡ k → has_colour roots colours k x ≡ true
  unfolding has_colour
  has_colour_lem e q = rw (e, eq-eqb _ _ q)

  pub has_alias : is_rep_in roots x ≡ false → has_colour roots colours k x ≡ false
  unfolding has_colour
  has_alias e = rw e

  pub has_other : (colour_at colours x ≡ k → ⊥) → has_colour roots colours k x ≡ false
  unfolding has_colour
  has_other q = rw (ne_eqb _ _ q) (neither (is_rep_in roots x))
    where
      neither : (b : Bool) → b && false ≡ false
      neither true = refl
      neither false = refl

-- what is said of the types and the roots of a model as they are handed on
pub types_few : (m : Model) → WellFormed m → (ts : List ℕ) → ts ≡ m.sizes → length ts ≤ max_types
types_few m w ts d = omega (arith, ap length d, w.few_types)

pub roots_few : (m : Model) → WellFormed m → (xs : List ℕ) → xs ≡ m.roots → length xs ≤ max_elements
roots_few m w xs e = omega (arith, ap length e, w.roots_length, w.few_elements)

module _ (m : Model) (w : WellFormed m) (xs : List ℕ) (e : xs ≡ m.roots) where
  pub reps_handed : reps_in xs ≡ reps m
  unfolding reps_below reps
  reps_handed = rw (e, w.roots_length)

  pub colours_handed : (colours : List ℕ) → colours_in xs colours ≡ colours_of m colours
  unfolding colours_below reps_below colours_of reps
  colours_handed colours = rw (e, w.roots_length)

  pub lowest_handed : (colours : List ℕ) (k : ℕ) → lowest (has_colour xs colours k) 0 (length xs) ≡ lowest_of m colours k
  unfolding has_colour lowest_of
  lowest_handed colours k = rw (e, w.roots_length)
