-- The laws of `field_at`: its three cases, and that a field lies within the file. Assumes nothing.
use Prim.Native.Nat.{ℕ, ◌+◌, ◌*◌, ◌≤◌, ◌<◌}
use mathlib.Core.Path.{◌≡◌, refl, ◌∙◌, ap}
use mathlib.Core.List.{List}
use mathlib.Core.Logic.{by_cases}
use native.Mathlib.Omega.{arith}
use native.Mathlib.Decide.{dec_le}
use borrow.Author.Tests.{le-leb, lt-leb}
use lib.ListN.{length, get_or}
use Rattle.std.proofs.Common.{Ok, Err}
use Rattle.stored.specs.declared.refusal.Fault.{Fault}
use Rattle.stored.specs.declared.field.Field.{Field}
use Rattle.stored.specs.Field.{word_at, fault_at, field_at}
use Rattle.lists.proofs.Laws.Part.{part_ends, length_part}

-- two bytes, one after the other, are a word
pub word_is : (s : List ℕ) (at hi : ℕ) → hi ≡ 256 * get_or s (at + 1) 0 + get_or s (at + 2) 0 → hi ≡ word_at s (at + 1)
word_is s at hi e = let f : at + 2 ≡ at + 1 + 1 = omega arith in e ∙ ap (λ (k : ℕ). 256 * get_or s (at + 1) 0 + get_or s k 0) f

module _ (s : List ℕ) (at : ℕ) where
  pub field_short : length s < at + 3 → field_at s at ≡ Err (fault_at at)
  unfolding field_at
  field_short h = rw (lt-leb (at + 3) (length s) h, field_at)

  -- in the two laws below the length stands in a variable, as the code has it
  pub field_long : (len : ℕ) → len ≡ word_at s (at + 1) → at + 3 ≤ length s → length s < at + 3 + len → field_at s at ≡ Err (fault_at at)
  unfolding field_at
  field_long len e h k = rw (le-leb (at + 3) (length s) h, field_at, lt-leb (at + 3 + word_at s (at + 1)) (length s) (rw (← e) k))

  abbrev pub field_of : ℕ → Field
  field_of len = record { tag = get_or s at 0; start = at + 3; len = len; next = record { at = at + 3 + len } }

  pub field_whole : (len : ℕ) → len ≡ word_at s (at + 1) → at + 3 ≤ length s → at + 3 + len ≤ length s → field_at s at ≡ Ok (field_of len)
  unfolding field_at
  field_whole len e h k = rw (e, le-leb (at + 3) (length s) h, field_at, le-leb (at + 3 + word_at s (at + 1)) (length s) (rw (← e) k))

  -- where a field was found: its value starts three bytes on, the cursor is past it, and it ends within the file
  pub record Within (x : Field) : Type 0 where
    pub begins : x.start ≡ at + 3
    pub ends : x.next.at ≡ x.start + x.len
    pub inside : x.start + x.len ≤ length s

  pub field_within : (x : Field) → field_at s at ≡ Ok x → Within x
  field_within x e =
      by_cases (dec_le (at + 3) (length s))
      (λ h. by_cases (dec_le (at + 3 + word_at s (at + 1)) (length s))
      (λ k.
      let f : field_of (word_at s (at + 1)) ≡ x = cc (field_whole (word_at s (at + 1)) refl h k) in
      rw (← f) (record { begins = refl; ends = refl; inside = k }))
      (λ k. let z : ◌≡◌ {A = ℕ} 0 1 = cc (field_long (word_at s (at + 1)) refl h (omega arith)) in absurd (omega arith)))
      (λ h. let z : ◌≡◌ {A = ℕ} 0 1 = cc (field_short (omega arith)) in absurd (omega arith))

  -- and where it was not, the fault is the field's own
  pub field_fault : {f : Fault} → field_at s at ≡ Err f → f ≡ fault_at at
  field_fault {f} e =
      by_cases (dec_le (at + 3) (length s))
      (λ h. by_cases (dec_le (at + 3 + word_at s (at + 1)) (length s))
      (λ k. let z : ◌≡◌ {A = ℕ} 0 1 = cc (field_whole (word_at s (at + 1)) refl h k) in absurd (omega arith))
      (λ k. cc (field_long (word_at s (at + 1)) refl h (omega arith))))
      (λ h. cc (field_short (omega arith)))

-- where a field that was found stands, and its value, handed on by its ends
pub ruleset fields = (field_within, part_ends, length_part)
