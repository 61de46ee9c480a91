-- The laws of a line: texts put one behind the other, the entries of a map, words put one by one with a space before each, and the numbers at its start. Assumes nothing.
use Prim.Native.Nat.{ℕ, ◌+◌, ◌*◌, ◌≤◌, ◌<◌}
use mathlib.Core.Path.{◌≡◌, refl, sym, ◌∙◌, ap}
use mathlib.Core.Logic.{by_cases}
use mathlib.Core.List.{List, [], ◌∷◌, ◌++◌, map, map-append, append_assoc, append-nil}
use native.Mathlib.Omega.{arith}
use native.Mathlib.Decide.{dec_le}
use borrow.Author.Tests.{eq-eqb, ne_eqb}
use lib.ListN.{length, get_or, take, length-append}
use lib.Seq.{take_all, length-take-le}
use Rattle.std.proofs.lemmas.List.{take_more}
use Rattle.job.specs.Line.{decimal, entry, spaced, listed, line_with}
use Rattle.job.specs.Writing.{Added}

module _ {line : List ℕ} {at : ℕ} {text : List ℕ} {r : ℕ} {after : List ℕ} (a : Added line at text r after) where
  -- a text behind another
  pub added_more : {more : List ℕ} {q : ℕ} {last : List ℕ} → Added after r more q last → Added line at (text ++ more) q last
  added_more {more} b = record {
    ends = omega (arith, a.ends, b.ends, length-append text more);
    holds = b.holds ∙ ap (λ (xs : List ℕ). xs ++ more) a.holds ∙ append_assoc (take at line) text more;
  }

  -- a text that is known by another name
  pub added_as : {same : List ℕ} → text ≡ same → Added line at same r after
  added_as e = record { ends = a.ends ∙ ap (λ (xs : List ℕ). at + length xs) e; holds = a.holds ∙ ap (λ (xs : List ℕ). take at line ++ xs) e }

  -- the line is long enough for it
  pub added_fits : at ≤ length line → r ≤ length after
  added_fits h =
      by_cases (dec_le r (length after)) (λ l. l)
      (λ l.
      let e = ap length (sym (take_all r after (omega arith)) ∙ a.holds) ∙ length-append (take at line) text in
      absurd (omega (arith, a.ends, length-take-le at line h, e)))

-- an entry
pub entry_none : (e : ℕ) → e ≡ 255 → 45 ∷ [] ≡ entry e
unfolding entry
entry_none e h = rw (eq-eqb e 255 h, entry)

pub entry_some : (e : ℕ) → (e ≡ 255 → ⊥) → decimal e ≡ entry e
unfolding entry
entry_some e h = rw (ne_eqb e 255 h, entry)

spaced_append : (a b : List (List ℕ)) → spaced (a ++ b) ≡ spaced a ++ spaced b
unfolding spaced
spaced_append [] b = refl
spaced_append (word ∷ words) b = ap (λ (xs : List ℕ). (32 ∷ word) ++ xs) (spaced_append words b) ∙ sym (append_assoc (32 ∷ word) (spaced words) (spaced b))

-- the words of the first i numbers, a space before each, are put, and the place is `end`
pub record Mapping (word : ℕ → List ℕ) (before f : List ℕ) (at : ℕ) (line : List ℕ) (end i : ℕ) : Type 0 where
  pub added : Added before at (spaced (map word (take i f))) end line
  pub short : end ≤ at + 21 * i

module _ (word : ℕ → List ℕ) (before f : List ℕ) (at : ℕ) where
  pub mapping_none : Mapping word before f at before at 0
  unfolding spaced
  mapping_none = record { added = record { ends = omega arith; holds = sym (append-nil (take at before)) }; short = omega arith }

  module _ (line : List ℕ) (end i : ℕ) (m : Mapping word before f at line end i) where
    pub mapping_more : (r : ℕ) (after : List ℕ) → i < length f → Added line end (32 ∷ word (get_or f i 0)) r after → r ≤ end + 21 → Mapping word before f at after r (i + 1)
    unfolding spaced
    mapping_more r after h a s = record {
      added = added_as (added_more m.added a) (sym (
          ap (λ (xs : List ℕ). spaced (map word xs)) (take_more f i 0 h)
          ∙ ap spaced (map-append word (take i f) (get_or f i 0 ∷ []))
          ∙ spaced_append (map word (take i f)) (word (get_or f i 0) ∷ [])
          ∙ ap (λ (xs : List ℕ). spaced (map word (take i f)) ++ (32 ∷ xs)) (append-nil (word (get_or f i 0)))));
      short = omega (arith, m.short, s);
    }

    pub mapping_all : length f ≤ i → Added before at (spaced (map word f)) end line
    mapping_all h = added_as m.added (ap (λ (xs : List ℕ). spaced (map word xs)) (take_all i f h))

-- the numbers at the start of a line
module _ (n : ℕ) where
  pub listed_one : decimal n ≡ listed (n ∷ [])
  unfolding listed spaced
  listed_one = sym (append-nil (decimal n))

  pub listed_two : (v : ℕ) → decimal n ++ (32 ∷ decimal v) ≡ listed (n ∷ v ∷ [])
  unfolding listed spaced
  listed_two v = ap (λ (xs : List ℕ). decimal n ++ (32 ∷ xs)) (sym (append-nil (decimal v)))

  pub listed_three : (v w : ℕ) → decimal n ++ ((32 ∷ decimal v) ++ (32 ∷ decimal w)) ≡ listed (n ∷ v ∷ w ∷ [])
  unfolding listed spaced
  listed_three v w = ap (λ (xs : List ℕ). decimal n ++ ((32 ∷ decimal v) ++ (32 ∷ xs))) (sym (append-nil (decimal w)))

-- the line
pub line_whole : (ns f : List ℕ) → listed ns ++ (spaced (map entry f) ++ (10 ∷ [])) ≡ line_with ns f
unfolding line_with
line_whole ns f = refl

pub line_mapless : (ns : List ℕ) → listed ns ++ (10 ∷ []) ≡ line_with ns []
unfolding line_with spaced
line_mapless ns = refl
