-- Lists with an entry for each number below n, and loops that write such a list over the front of another. What is known before each turn is one
-- record, and a loop's needs cite the laws below it. Assumes nothing.
use Prim.Native.Nat.{ℕ, zero, suc, ◌+◌, ◌<◌, ◌≤◌}
use mathlib.Core.Path.{◌≡◌, sym, ◌∙◌, ap}
use mathlib.Core.List.{List, [], ◌∷◌, ◌++◌, map, map-append}
use native.Mathlib.Omega.{arith}
use native.Mathlib.Numerals.{add-one}
use lib.ListN.{length, get_or, set, length-map}
use Rattle.lists.specs.Numbers.{up_from}
use Rattle.lists.specs.Part.{over}
use Rattle.lists.proofs.Laws.Numbers.{length-up_from, up_from_more}
use Rattle.lists.proofs.Laws.Over.{over_none, over_at_lem, length_over}

module _ {A : Type 0} (entry : ℕ → A) where
  -- the entries of the numbers below n
  abbrev pub entries_to : ℕ → List A
  entries_to n = map entry (up_from 0 n)

  pub length_entries : (n : ℕ) → length (entries_to n) ≡ n
  length_entries n = length-map (up_from 0 n) entry ∙ length-up_from 0 n

  pub entries_more : (n : ℕ) → entries_to (n + 1) ≡ entries_to n ++ entry n ∷ []
  entries_more n = let e : 0 + n ≡ n = omega arith in rw (add-one n, up_from_more 0 n, e) (map-append entry (up_from 0 n) (n ∷ []))

module _ {A : Type 0} where
  -- the first i of n entries stand over the front of a list
  pub record WrittenTo (entry : ℕ → A) (n : ℕ) (old : List A) (i : ℕ) (out : List A) : Type 0 where
    pub fits : n ≤ length old
    pub within : i ≤ n
    pub so_far : out ≡ over (map entry (up_from 0 i)) old

  pub written_none : (entry : ℕ → A) (n : ℕ) (old : List A) → n ≤ length old → WrittenTo entry n old 0 old
  unfolding up_from
  written_none entry n old h = record { fits = h; within = omega arith; so_far = sym (over_none old) }

  module _ {entry : ℕ → A} {n i : ℕ} {old out : List A} (w : WrittenTo entry n old i out) where
    pub written_length : length out ≡ length old
    written_length = ap length w.so_far ∙ length_over (map entry (up_from 0 i)) old (omega (arith, w.fits, w.within, length_entries entry i))

    pub written_room : i < n → i < length out
    written_room h = omega (arith, w.fits, written_length)

    pub written_more : (v : A) → i < n → v ≡ entry i → WrittenTo entry n old (i + 1) (set out i v)
    written_more v h e = record {
      fits = w.fits;
      within = omega arith;
      so_far = rw (w.so_far, e, entries_more entry i) (over_at_lem (map entry (up_from 0 i)) old (entry i) i (length_entries entry i) (omega (arith, w.fits)));
    }

    pub written_all : n ≤ i → out ≡ over (map entry (up_from 0 n)) old
    written_all h = let e : i ≡ n = omega (arith, w.within) in w.so_far ∙ ap (λ (k : ℕ). over (map entry (up_from 0 k)) old) e

-- the entry at a place
module _ {A : Type 0} (entry : ℕ → A) where
  entry_from : (i n x : ℕ) (d : A) → x < n → get_or (map entry (up_from i n)) x d ≡ entry (i + x)
  unfolding up_from
  entry_from i zero x d h = absurd (omega arith)
  entry_from i (suc n) zero d h = ap entry (let k : i ≡ i + 0 = omega arith in k)
  entry_from i (suc n) (suc x) d h = entry_from (suc i) n x d (omega arith) ∙ ap entry (let k : suc i + x ≡ i + suc x = omega arith in k)

  pub entry_at_lem : (n x : ℕ) (d : A) → x < n → get_or (map entry (up_from 0 n)) x d ≡ entry x
  entry_at_lem n x d h = entry_from 0 n x d h ∙ ap entry (let k : 0 + x ≡ x = omega arith in k)
