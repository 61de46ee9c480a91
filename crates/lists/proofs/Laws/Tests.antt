-- Tests that are true or false. Assumes nothing.
use mathlib.Core.Path.{◌≡◌, refl, sym, ◌∙◌}
use mathlib.Core.Logic.{◌⊎◌, inl, inr}
use mathlib.Core.Bool.{Bool, true, false, ◌&&◌, true≢false, false≢true}

pub split : (b : Bool) → (b ≡ true) ⊎ (b ≡ false)
split true = inl refl
split false = inr refl

-- no test is both
pub clash : {X : Type 0} {b : Bool} → b ≡ true → b ≡ false → X
clash p q = absurd (true≢false (sym p ∙ q))

module _ (a b : Bool) where
  pub and_left : a && b ≡ true → a ≡ true
  and_left h = go a h
    where
      go : (c : Bool) → c && b ≡ true → c ≡ true
      go true h = refl
      go false h = h

  pub and_right : a && b ≡ true → b ≡ true
  and_right h = go a h
    where
      go : (c : Bool) → c && b ≡ true → b ≡ true
      go true h = h
      go false h = absurd (false≢true h)

  pub and_both : a ≡ true → b ≡ true → a && b ≡ true
  and_both p q = rw (p, q)

  -- tests that imply one another are equal
  pub same_test : (a ≡ true → b ≡ true) → (b ≡ true → a ≡ true) → a ≡ b
  same_test f g = go a b f g
    where
      go : (c d : Bool) → (c ≡ true → d ≡ true) → (d ≡ true → c ≡ true) → c ≡ d
      go true d f g = sym (f refl)
      go false true f g = g refl
      go false false f g = refl
