-- The board: colours and lines read from it, and what a write leaves of it. Assumes nothing.
use Prim.Native.Nat.{ℕ, zero, suc, ◌+◌, ◌-◌, ◌<◌, ◌≤◌}
use mathlib.Core.Path.{◌≡◌, refl, sym, ◌∙◌, ap, subst}
use mathlib.Core.List.{List, [], ◌∷◌, ◌++◌}
use borrow.Rule.Slice.PartMut.{put_mid}
use Rattle.std.proofs.Common.{rules}
use Rattle.std.proofs.lemmas.List.{places}
use native.Mathlib.Nat.{zero-add, suc-add}
use native.Mathlib.Omega.{arith}
use lib.ListN.{length, get_or, set, take, drop, replicate, length-drop, length-append, take-append-drop}
use lib.Seq.{get_or-drop, length-take-le, take-append-le, take-take, get_or-append-add}
use Rattle.lists.specs.Part.{part, over}
use Rattle.lists.proofs.Laws.Every.{get_d_inside}
use Rattle.lists.proofs.Laws.Part.{length_part, get_d_part, part_rest}
use Rattle.lists.proofs.Laws.Chunk.{rest_back, written_chunk}
use Rattle.lists.proofs.Laws.Over.{Written, written_none, written_length, written_more, written_all, length_over, get_d_over}
use Rattle.rounds.specs.Colours.{no_colour, colour_at}
use Rattle.rounds.specs.Board.{colour_start, line_of, line_at, over_at}

-- the colour of an element that has one on the board
pub colour_there : (w : List ℕ) (x : ℕ) → colour_start + x < length w → get_or w (colour_start + x) 0 ≡ colour_at (drop colour_start w) x
colour_there w x h = get_d_inside w (colour_start + x) 0 no_colour h ∙ sym (get_or-drop colour_start w x no_colour)

-- lines
pub length_line : (colours row : List ℕ) → length (line_of colours row) ≡ length row
length_line colours [] = refl
length_line colours (x ∷ row) = ap suc (length_line colours row)

pub get_d_line : (colours row : List ℕ) (j d : ℕ) → j < length row → get_or (line_of colours row) j d ≡ colour_at colours (get_or row j 0)
get_d_line colours [] j d h = absurd (omega arith)
get_d_line colours (x ∷ row) zero d h = refl
get_d_line colours (x ∷ row) (suc j) d h = get_d_line colours row j d (omega arith)

module _ (w : List ℕ) (p arity : ℕ) (fits : p + arity ≤ length w) where
  pub line_length : length (line_at w p arity) ≡ arity
  line_length = length_line (drop colour_start w) (part w p arity) ∙ length_part w p arity fits

  pub line_entry : (j : ℕ) → j < arity → get_or (line_at w p arity) j 0 ≡ colour_at (drop colour_start w) (get_or w (p + j) 0)
  line_entry j h =
      get_d_line (drop colour_start w) (part w p arity) j 0 (omega (arith, length_part w p arity fits)) ∙ ap (colour_at (drop colour_start w)) (get_d_part w p arity j 0 h)

-- what a write from a place on leaves
module _ (start : ℕ) (new old : List ℕ) (fits : start + length new ≤ length old) where
  front_long : length (take start old) ≡ start
  front_long = length-take-le start old (omega (arith, fits))

  back_fits : length new ≤ length (drop start old)
  back_fits = omega (arith, fits, length-drop start old)

  pub over_at_length : length (over_at start new old) ≡ length old
  unfolding over_at
  over_at_length = length-append (take start old) (over new (drop start old)) ∙ omega (arith, front_long, length_over new (drop start old) back_fits, length-drop start old, fits)

  pub over_at_before : (n : ℕ) → n ≤ start → take n (over_at start new old) ≡ take n old
  unfolding over_at
  over_at_before n h = take-append-le n (take start old) (over new (drop start old)) (omega (arith, front_long)) ∙ take-take n start old h

  pub over_at_entry : (i : ℕ) → i < length new → get_or (over_at start new old) (start + i) 0 ≡ get_or new i 0
  unfolding over_at
  over_at_entry i h =
      let e : length (take start old) + i ≡ start + i = omega (arith, front_long) in
      rw e at (get_or-append-add (take start old) (over new (drop start old)) i 0) ∙ get_d_over new (drop start old) i 0 h

-- a list that takes the place of as many entries
pub part_over : (start n : ℕ) (new old put : List ℕ) → n ≡ length new → put ≡ new → put_mid start n old put ≡ over_at start new old
unfolding over_at over
part_over start n new old put e f = rw (f, e) refl

-- a part filled with zeros, and the rest as it was
module _ (w zeros : List ℕ) (start n k : ℕ) (fits : start + n ≤ length w) (e : k ≡ n) (is : zeros ≡ replicate (length (part w start k)) 0) where
  pub filled_length : length (put_mid start k w zeros) ≡ length w
  filled_length = search (rules, places)

  pub filled_there : (i : ℕ) → i < n → get_or (put_mid start k w zeros) (start + i) 0 ≡ 0
  filled_there i h = search (rules, places)

  pub filled_below : (i : ℕ) → i < start → get_or (put_mid start k w zeros) i 0 ≡ get_or w i 0
  filled_below i h = search (rules, places)

  pub filled_above : (i : ℕ) → start + n ≤ i → get_or (put_mid start k w zeros) i 0 ≡ get_or w i 0
  filled_above i h = search (rules, places)

-- a store behind a list
set_behind : (xs ys : List ℕ) (i v : ℕ) → set (xs ++ ys) (length xs + i) v ≡ xs ++ set ys i v
set_behind [] ys i v = ap (λ (n : ℕ). set ys n v) (zero-add i)
set_behind (x ∷ xs) ys i v = ap (λ (n : ℕ). set (x ∷ (xs ++ ys)) n v) (suc-add (length xs) i) ∙ ap (λ (t : List ℕ). x ∷ t) (set_behind xs ys i v)

-- the first j numbers of a list are written over another from a place on
pub record WrittenAt (start : ℕ) (new old out : List ℕ) (j : ℕ) : Type 0 where
  pub fits : start + length new ≤ length old
  pub behind : List ℕ
  pub split : out ≡ take start old ++ behind
  pub written : Written new (drop start old) behind j

pub written_at_none : (start : ℕ) (new old : List ℕ) → start + length new ≤ length old → WrittenAt start new old old 0
written_at_none start new old h = record { fits = h; behind = drop start old; split = sym (take-append-drop start old); written = written_none new (drop start old) (back_fits start new old h) }

module _ (start : ℕ) (new old out : List ℕ) (j : ℕ) (at : WrittenAt start new old out j) where
  pub written_at_length : length out ≡ length old
  written_at_length =
      ap length at.split
      ∙ length-append (take start old) at.behind
      ∙ omega (arith, front_long start new old at.fits, written_length at.written, length-drop start old, at.fits)

  pub written_at_more : j < length new → WrittenAt start new old (set out (start + j) (get_or new j 0)) (j + 1)
  written_at_more h =
      let e : length (take start old) + j ≡ start + j = omega (arith, front_long start new old at.fits) in
      record {
        fits = at.fits;
        behind = set at.behind j (get_or new j 0);
        split = ap (λ (l : List ℕ). set l (start + j) (get_or new j 0)) at.split ∙ rw e at (set_behind (take start old) at.behind j (get_or new j 0));
        written = written_more at.written 0 (get_or new j 0) h refl;
      }

  pub written_at_all : length new ≤ j → out ≡ over_at start new old
  unfolding over_at
  written_at_all h = at.split ∙ ap (λ (t : List ℕ). take start old ++ t) (written_all at.written h)

-- one chunk more of a list that is written over the front of another
pub chunk_at : (new old out : List ℕ) (at : ℕ) (w : Written new old out at) (chunk rest : List ℕ) (left : drop at new ≡ chunk ++ rest) → Written new old (over_at at chunk out) (at + length chunk)
unfolding over_at
chunk_at new old out at w chunk rest left =
    subst
    (λ (l : List ℕ). Written new old l (at + length chunk))
    (rest_back out (over chunk (part out at (length out - at))) at ∙ ap (λ (l : List ℕ). take at out ++ over chunk l) (part_rest out at))
    (written_chunk w chunk rest left (over chunk (part out at (length out - at))) refl)
