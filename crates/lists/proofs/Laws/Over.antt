-- The laws of `over`: nothing written, one member more, its length, its members. Assumes nothing.
use Prim.Native.Nat.{ℕ, ◌+◌, ◌<◌, ◌≤◌}
use mathlib.Core.Path.{◌≡◌, refl, sym, ◌∙◌, ap}
use mathlib.Core.List.{List, [], ◌∷◌, ◌++◌, append_assoc, append-nil}
use native.Mathlib.Omega.{arith}
use native.Mathlib.Numerals.{add-one}
use lib.ListN.{length, get_or, take, drop, set, length-append, length-drop, drop_of_length-le, get_or-append}
use lib.Seq.{drop-cons, set-append_seam, take-append_seam, length-take-le, take_all, take_at, take-suc}
use Rattle.lists.specs.Part.{over}

module _ {A : Type 0} where
  pub over_none : (old : List A) → over [] old ≡ old
  unfolding over
  over_none old = refl

  -- a store just past what is written writes one member more
  pub over_more : (xs old : List A) (v : A) → length xs < length old → set (over xs old) (length xs) v ≡ over (xs ++ v ∷ []) old
  unfolding over
  over_more xs old v h =
      rw (drop-cons old (length xs) v h, set-append_seam, length-append, add-one, append_assoc)

  -- the same, where the place is known only by an equation
  pub over_at_lem : (xs old : List A) (v : A) (n : ℕ) → length xs ≡ n → n < length old → set (over xs old) n v ≡ over (xs ++ v ∷ []) old
  over_at_lem xs old v n e h = rw (← e) (over_more xs old v (omega arith))

  pub length_over : (xs old : List A) → length xs ≤ length old → length (over xs old) ≡ length old
  unfolding over
  length_over xs old h = rw (length-append, length-drop) (omega arith)

  -- what is written stands in front
  pub over_holds : (xs old : List A) → length xs ≤ length (over xs old)
  unfolding over
  over_holds xs old = rw (length-append) (omega arith)

  pub over_front : (xs old : List A) → take (length xs) (over xs old) ≡ xs
  unfolding over
  over_front xs old = take-append_seam xs (drop (length xs) old)

  pub get_d_over : (xs old : List A) (i : ℕ) (d : A) → i < length xs → get_or (over xs old) i d ≡ get_or xs i d
  unfolding over
  get_d_over xs old i d h = get_or-append xs (drop (length xs) old) d i h

-- Loops that write a list over the front of another, place by place: j members are written.
module _ {A : Type 0} where
  pub record Written (new old out : List A) (j : ℕ) : Type 0 where
    pub fits : length new ≤ length old
    pub within : j ≤ length new
    pub same : out ≡ over (take j new) old

  pub written_none : (new old : List A) → length new ≤ length old → Written new old old 0
  written_none new old h = record { fits = h; within = omega arith; same = sym (over_none old) }

  module _ {new old out : List A} {j : ℕ} (at : Written new old out j) where
    pub written_length : length out ≡ length old
    written_length = let e = length-take-le j new at.within in ap length at.same ∙ length_over (take j new) old (omega (arith, at.fits, at.within))

    pub written_more : (d v : A) → j < length new → v ≡ get_or new j d → Written new old (set out j v) (j + 1)
    written_more d v h e = record {
      fits = at.fits;
      within = omega arith;
      same =
          ap (λ (l : List A). set l j v) at.same
          ∙ over_at_lem (take j new) old v j (length-take-le j new at.within) (omega (arith, at.fits))
          ∙ ap (λ (w : A). over (take j new ++ w ∷ []) old) e
          ∙ ap (λ (l : List A). over l old) (sym (take-suc new j d h))
          ∙ ap (λ (k : ℕ). over (take k new) old) (sym (add-one j));
    }

    pub written_all : length new ≤ j → out ≡ over new old
    written_all h = at.same ∙ ap (λ (l : List A). over l old) (take_all j new h)

  -- a list that covers the other
  pub over_all : (new old : List A) → length old ≤ length new → over new old ≡ new
  unfolding over
  over_all new old h = rw (drop_of_length-le old h) (append-nil new)

  -- written over a list of the same length
  pub over_whole : (new old : List A) → length new ≡ length old → over new old ≡ new
  over_whole new old h = over_all new old (omega arith)

-- the first n members of an array, lent and come back as `new`, shared again
module _ {A : Type 0} (n : ℕ) (array new : List A) (room : n ≤ length array) (long : length new ≡ length (take n array)) where
  pub lent_long : length new ≡ n
  lent_long = long ∙ length-take-le n array room

  pub back_room : n ≤ length (new ++ drop n array)
  back_room = omega (arith, length-append new (drop n array), lent_long)

  pub back_front : take n (new ++ drop n array) ≡ new
  back_front = take_at new (drop n array) n lent_long

-- what was written over a list, then what is left of it
pub over_split : {A : Type 0} (xs old : List A) → over xs old ≡ xs ++ drop (length xs) old
unfolding over
over_split xs old = refl
