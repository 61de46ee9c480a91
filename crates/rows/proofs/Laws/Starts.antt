-- The laws of where the rows of each first entry start, among rows that ascend: first entries do not fall, the first row from an entry on is found by
-- halving, and a row stands among those with its first entry. Assumes nothing.
use Prim.Native.Nat.{ℕ, zero, suc, ◌+◌, ◌-◌, ◌*◌, ◌/◌, ◌<◌, ◌≤◌}
use mathlib.Core.Path.{◌≡◌, sym, ap, ◌∙◌}
use mathlib.Core.Logic.{◌⊎◌, inl, inr, by_cases}
use mathlib.Core.Bool.{Bool, true, false}
use mathlib.Core.List.{List, [], ◌∷◌}
use native.Mathlib.Omega.{arith}
use native.Mathlib.Decide.{ℕ_discrete, dec_le}
use borrow.Author.Tests.{le-leb, leb-true, ltb-true}
use lib.Dec.{leb}
use lib.ListN.{length, get_or}
use Rattle.lists.specs.First.{first_at}
use Rattle.lists.specs.Order.{row_before, ascending_from, ascending}
use Rattle.lists.specs.Part.{rows_of}
use Rattle.lists.proofs.Laws.Tests.{split, clash}
use Rattle.lists.proofs.Laws.First.{first_at_within, first_at_passes, first_at_some}
use Rattle.lists.proofs.Laws.Order.{before_longer, before_differ, ascending_cons, ascending_from_yes, ascending_from_no}
use Rattle.lists.proofs.Laws.Part.{get_d_part, length-rows_of, get_d_rows_of}
use Rattle.stored.specs.Relation.{entry_at}
use Rattle.rows.specs.Packed.{packed, start_at, Between}
use Rattle.rows.proofs.Laws.Packed.{Bytes, Rows, packed_same, ascending_tail, row_ends}

-- the first entry of a row
abbrev head : List ℕ → ℕ
head row = get_or row 0 0

head_before : (xs ys : List ℕ) → row_before xs ys ≡ true → head xs ≤ head ys
head_before [] ys h = omega arith
head_before (x ∷ xs) [] h = clash h (before_longer x xs)
head_before (x ∷ xs) (y ∷ ys) h =
    by_cases (ℕ_discrete x y)
    (λ e. omega (arith, e))
    (λ d. let k : x < y = ltb-true x y (sym (before_differ x xs y ys d) ∙ h) in omega arith)

heads_from : (r : List ℕ) (rows : List (List ℕ)) → ascending_from r rows ≡ true → (j : ℕ) → j < length rows → head r ≤ head (get_or rows j [])
heads_from r [] h j l = absurd (omega arith)
heads_from r (q ∷ rows) h j l = go (split (row_before r q)) j l (heads_from q rows)
  where
    go : (row_before r q ≡ true) ⊎ (row_before r q ≡ false) → (j : ℕ) → j < length (q ∷ rows) → (ascending_from q rows ≡ true → (j : ℕ) → j < length rows → head q ≤ head (get_or rows j [])) → head r ≤ head (get_or (q ∷ rows) j [])
    go (inr f) j l ih = clash h (ascending_from_no r q rows f)
    go (inl t) zero l ih = head_before r q t
    go (inl t) (suc j) l ih = omega (arith, head_before r q t, ih (sym (ascending_from_yes r q rows t) ∙ h) j (omega arith))

heads_rise : (rows : List (List ℕ)) → ascending rows ≡ true → (i j : ℕ) → i ≤ j → j < length rows → head (get_or rows i []) ≤ head (get_or rows j [])
heads_rise [] h i j l k = absurd (omega arith)
heads_rise (r ∷ rows) h zero zero l k = omega arith
heads_rise (r ∷ rows) h (suc i) zero l k = absurd (omega arith)
heads_rise (r ∷ rows) h zero (suc j) l k = heads_from r rows (sym (ascending_cons r rows) ∙ h) j (omega arith)
heads_rise (r ∷ rows) h (suc i) (suc j) l k = heads_rise rows (ascending_tail r rows h) i j (omega arith) (omega arith)

-- whether a row's first entry is at least x
abbrev from_x : ℕ → List ℕ → Bool
from_x x row = leb x (head row)

-- a row stands among those with its first entry
module _ (a : ℕ) (rows : List (List ℕ)) (known : Rows a rows) (h : ascending rows ≡ true) where
  pub start_within : (x : ℕ) → start_at rows x ≤ length rows
  unfolding start_at
  start_within x = first_at_within (from_x x) rows

  pub row_between : (row : List ℕ) → length row ≡ a → Bytes row → (x : ℕ) → x ≡ head row → Between (packed row) rows (start_at rows x) (start_at rows (x + 1))
  unfolding start_at
  row_between row l b x e k m q = (
    first_at_some (from_x x) [] rows k m (le-leb x (head (get_or rows k [])) (omega (arith, e, same))),
    by_cases (dec_le (suc k) (first_at (from_x (x + 1)) rows)) (λ z. z)
        (λ z.
        let p = leb-true (x + 1) _ (first_at_passes (from_x (x + 1)) [] rows (omega arith)) in
        absurd (omega (arith, p, e, same, heads_rise rows h (first_at (from_x (x + 1)) rows) k (omega arith) m))),
  )
    where
      same : head (get_or rows k []) ≡ head row
      same = ap head (packed_same 0 (get_or rows k []) row ((known k m).0 ∙ sym l) (known k m).1 b q)

-- the first entry of the row of a number
abbrev pub head_at : List ℕ → ℕ → ℕ → ℕ
head_at s a i = get_or s (i * a) 0

-- Halving: the rows before `first` have a lower first entry than x, those past `left` more have not.
pub record Started (s : List ℕ) (a c x first left : ℕ) : Type 0 where
  pub column : 1 ≤ a
  pub fits : c * a ≤ length s
  pub ends : first + left ≤ c
  pub rise : (i j : ℕ) → i ≤ j → j < c → head_at s a i ≤ head_at s a j
  pub below : (k : ℕ) → k < first → head_at s a k < x
  pub above : (k : ℕ) → first + left ≤ k → k < c → x ≤ head_at s a k

module _ (s : List ℕ) (a c : ℕ) (column : 1 ≤ a) where
  head_is : (i : ℕ) → i < c → head (get_or (rows_of a c s) i []) ≡ head_at s a i
  head_is i l = let e : i * a + 0 ≡ i * a = omega arith in ap head (get_d_rows_of a c s i [] l) ∙ get_d_part s (i * a) a 0 0 (omega arith) ∙ ap (λ (k : ℕ). get_or s k 0) e

  pub started_none : c * a ≤ length s → ascending (rows_of a c s) ≡ true → (x : ℕ) → Started s a c x 0 c
  started_none fits h x = record {
    column = column;
    fits = fits;
    ends = omega arith;
    rise = λ i j l k. omega (arith, head_is i (omega arith), head_is j k, heads_rise (rows_of a c s) h i j l (omega (arith, length-rows_of a c s)));
    below = λ k l. absurd (omega arith);
    above = λ k l m. absurd (omega arith);
  }

module _ {s : List ℕ} {a c x first left : ℕ} (by : Started s a c x first left) where
  -- the first entry, by its row and its column
  pub first_entry : (i : ℕ) → entry_at a s i 0 ≡ head_at s a i
  first_entry i = let e : i * a + 0 ≡ i * a = omega arith in get_d_part s (i * a) a 0 0 (omega (arith, by.column)) ∙ ap (λ (k : ℕ). get_or s k 0) e

  pub started_all : left ≤ 0 → first ≡ start_at (rows_of a c s) x
  unfolding start_at
  started_all h = omega (arith, at_least, at_most)
    where
      len : length (rows_of a c s) ≡ c
      len = length-rows_of a c s

      f : ℕ
      f = first_at (from_x x) (rows_of a c s)

      at_least : first ≤ first_at (from_x x) (rows_of a c s)
      at_least =
          by_cases (dec_le first (first_at (from_x x) (rows_of a c s))) (λ z. z)
          (λ z.
          let l : f < c = omega (arith, z, by.ends) in
          let p = leb-true x _ (first_at_passes (from_x x) [] (rows_of a c s) (omega (arith, l, len))) in
          absurd (omega (arith, p, head_is s a c by.column f l, by.below f (omega arith))))

      at_most : first_at (from_x x) (rows_of a c s) ≤ first
      at_most =
          by_cases (dec_le c first)
          (λ z. omega (arith, len, first_at_within (from_x x) (rows_of a c s)))
          (λ z.
          let l : first < c = omega arith in
          first_at_some (from_x x) [] (rows_of a c s) first (omega (arith, len)) (le-leb x _ (omega (arith, head_is s a c by.column first l, by.above first (omega arith) l))))

  module _ (h : 0 < left) where
    pub started_place : (first + (left - left / 2) - 1) * a + a ≤ length s
    started_place = omega (arith, by.fits, row_ends (first + (left - left / 2) - 1) c a (omega (arith, by.ends)))

    pub started_inside : (first + (left - left / 2) - 1) * a < length s
    started_inside = omega (arith, started_place, by.column)

    pub started_up : head_at s a (first + (left - left / 2) - 1) < x → Started s a c x (first + (left - left / 2)) (left / 2)
    started_up e = record {
      column = by.column;
      fits = by.fits;
      ends = omega (arith, by.ends);
      rise = by.rise;
      below = λ k l. omega (arith, e, by.rise k (first + (left - left / 2) - 1) (omega arith) (omega (arith, by.ends)));
      above = λ k l m. by.above k (omega arith) m;
    }

    pub started_down : x ≤ head_at s a (first + (left - left / 2) - 1) → Started s a c x first (left / 2)
    started_down e = record {
      column = by.column;
      fits = by.fits;
      ends = omega (arith, by.ends);
      rise = by.rise;
      below = by.below;
      above = λ k l m. omega (arith, e, by.rise (first + (left - left / 2) - 1) k (omega arith) m);
    }
