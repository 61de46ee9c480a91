-- The digits that `io::decimal` gives are those of `decimal`. Assumes nothing.
use Prim.Native.Nat.{ℕ, zero, suc, ◌+◌, ◌-◌, ◌/◌, ◌%◌, ◌^◌, ◌≤◌, ◌<◌}
use mathlib.Core.Path.{◌≡◌, sym, ◌∙◌, ap}
use mathlib.Core.Logic.{by_cases}
use mathlib.Core.List.{List, [], ◌∷◌, ◌++◌}
use native.Mathlib.Omega.{arith}
use native.Mathlib.Nat.{pow-succ', pow-zero, one-le-pow, pow-le-pow_right, mod-lt, mod-eq_of_lt}
use native.Mathlib.Decide.{dec_le}
use borrow.Author.Tests.{lt-ltb, le-ltb}
use Rattle.io.specs.Digits.{hex_digit_ascii, last_digits, IsDigitCount}
use Rattle.job.specs.Line.{digits_of, decimal}

glyph_low : (d : ℕ) → d < 10 → hex_digit_ascii d ≡ 48 + d
glyph_low d h = rw (lt-ltb d 10 h)

module _ (fuel n : ℕ) where
  last_digit : n < 10 → digits_of (suc fuel) n ≡ (48 + n) ∷ []
  unfolding digits_of
  last_digit h = rw (lt-ltb n 10 h, digits_of)

  more_digits : 10 ≤ n → digits_of (suc fuel) n ≡ digits_of fuel (n / 10) ++ ((48 + n % 10) ∷ [])
  unfolding digits_of
  more_digits h = rw (le-ltb n 10 h, digits_of)

-- the fewest digits that hold a number are its digits
spelt : (k fuel n : ℕ) → n < fuel → IsDigitCount 10 1 n k → last_digits 10 k n ≡ digits_of fuel n
spelt zero fuel n l f = absurd (omega (arith, f.0))
spelt (suc k) zero n l f = absurd (omega arith)
spelt (suc zero) (suc fuel) n l f =
    let h : n < 10 = omega (arith, f.1, pow-succ' 10 0, pow-zero 10) in
    ap (λ (d : ℕ). d ∷ []) (glyph_low (n % 10) (mod-lt n (omega arith)) ∙ ap (λ (d : ℕ). 48 + d) (mod-eq_of_lt h)) ∙ sym (last_digit fuel n h)
spelt (suc (suc k)) (suc fuel) n l f =
    let p = pow-succ' 10 (suc k) in
    let q = pow-succ' 10 k in
    let o = one-le-pow k 10 (omega arith) in
    let e : suc (suc k) - 1 ≡ suc k = omega arith in
    let d : suc k - 1 ≡ k = omega arith in
    let low : 10 ^ suc k ≤ n = rw e at (f.2 (omega arith)) in
    let h : 10 ≤ n = omega arith in
    let rest : IsDigitCount 10 1 (n / 10) (suc k) = (omega arith, omega (arith, f.1), λ _. rw d (omega arith)) in
    ap (λ (xs : List ℕ). xs ++ (hex_digit_ascii (n % 10) ∷ [])) (spelt (suc k) fuel (n / 10) (omega arith) rest)
    ∙ ap (λ (d : ℕ). digits_of fuel (n / 10) ++ (d ∷ [])) (glyph_low (n % 10) (mod-lt n (omega arith)))
    ∙ sym (more_digits fuel n h)

pub decimal_digits : (k n : ℕ) → IsDigitCount 10 1 n k → last_digits 10 k n ≡ decimal n
unfolding decimal
decimal_digits k n f = spelt k (suc n) n (omega arith) f

-- a 64-bit number has at most 20 digits
pub digits_few : (k n : ℕ) → IsDigitCount 10 1 n k → n < 18446744073709551616 → k ≤ 20
digits_few k n f h =
    by_cases (dec_le k 20) (λ l. l)
    (λ l.
    let g : 10 ^ 20 ≤ 10 ^ (k - 1) = pow-le-pow_right {n = 10} (omega arith) {i = 20} {j = k - 1} (omega arith) in
    absurd (omega (arith, f.2 (omega arith))))
