-- Loops that write a list over the front of another, a chunk at a time, through the part that is still to be written. Assumes nothing.
use Prim.Native.Nat.{ℕ, ◌+◌, ◌-◌, ◌≤◌}
use mathlib.Core.Path.{◌≡◌, sym, ◌∙◌, ap, ap₂}
use mathlib.Core.List.{List, ◌++◌, append_assoc, append-nil}
use native.Mathlib.Omega.{arith}
use lib.ListN.{length, take, drop, length-append, length-drop, drop_of_length-le}
use lib.Seq.{length-take-le, take-add, take-append_seam, take_at, drop_at, drop-drop, drop-append_seam}
use Rattle.lists.specs.Part.{part, over}
use Rattle.lists.proofs.Laws.Over.{Written}
use Rattle.lists.proofs.Laws.Part.{part_rest}

module _ {A : Type 0} where
  -- what was lent from a place on and came back
  pub rest_back : (out back : List A) (at : ℕ) → take at out ++ (back ++ drop (length out - at) (drop at out)) ≡ take at out ++ back
  rest_back out back at =
      ap (λ (l : List A). take at out ++ (back ++ l)) (drop_of_length-le (drop at out) {i = length out - at} (omega (arith, length-drop at out)))
      ∙ ap (λ (l : List A). take at out ++ l) (append-nil back)

  module _ {new old out : List A} {at : ℕ} (w : Written new old out at) (chunk rest : List A) (left : drop at new ≡ chunk ++ rest) where
    pub chunk_within : at + length chunk ≤ length new
    chunk_within = let e = ap length left in omega (arith, w.within, length-drop at new, length-append chunk rest)

    pub chunk_left : drop (at + length chunk) new ≡ rest
    chunk_left = sym (drop-drop (length chunk) at new) ∙ ap (drop (length chunk)) left ∙ drop-append_seam chunk rest

    front : take (at + length chunk) new ≡ take at new ++ chunk
    front = take-add at (length chunk) new ∙ ap (λ (l : List A). take at new ++ take (length chunk) l) left ∙ ap (λ (l : List A). take at new ++ l) (take-append_seam chunk rest)

    front_length : length (take at new) ≡ at
    front_length = length-take-le at new w.within

    before : take at out ≡ take at new
    unfolding over
    before = ap (take at) w.same ∙ take_at (take at new) (drop (length (take at new)) old) at front_length

    behind : drop at out ≡ drop at old
    unfolding over
    behind = ap (drop at) w.same ∙ drop_at (take at new) (drop (length (take at new)) old) at front_length ∙ ap (λ (n : ℕ). drop n old) front_length

    joins : take at out ++ over chunk (drop at out) ≡ over (take (at + length chunk) new) old
    unfolding over
    joins =
        ap₂ (λ (l r : List A). l ++ (chunk ++ drop (length chunk) r)) before behind
        ∙ ap (λ (l : List A). take at new ++ (chunk ++ l)) (drop-drop (length chunk) at old)
        ∙ sym (append_assoc (take at new) chunk (drop (at + length chunk) old))
        ∙ ap (λ (l : List A). l ++ drop (at + length chunk) old) (sym front)
        ∙ ap (λ (n : ℕ). take (at + length chunk) new ++ drop n old) (sym (length-take-le (at + length chunk) new chunk_within))

    -- one chunk more
    pub written_chunk : (back : List A) → back ≡ over chunk (part out at (length out - at)) → Written new old (take at out ++ (back ++ drop (length out - at) (drop at out))) (at + length chunk)
    written_chunk back e = record {
      fits = w.fits;
      within = chunk_within;
      same =
          rest_back out back at
          ∙ ap (λ (l : List A). take at out ++ l) e
          ∙ ap (λ (l : List A). take at out ++ over chunk l) (part_rest out at)
          ∙ joins;
    }
