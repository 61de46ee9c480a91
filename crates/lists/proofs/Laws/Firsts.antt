-- The laws of `firsts` with one member more at the end: a member that is there already changes nothing, a new one comes last. Assumes nothing.
use mathlib.Core.Path.{◌≡◌, refl, sym, ap, ◌∙◌}
use mathlib.Core.Logic.{◌⊎◌, inl, inr}
use mathlib.Core.Bool.{Bool, true, false, not}
use mathlib.Core.List.{List, [], ◌∷◌, ◌++◌}
use Rattle.lists.specs.Every.{any, keep}
use Rattle.lists.specs.First.{firsts}
use Rattle.lists.proofs.Laws.Tests.{split, clash}
use Rattle.lists.proofs.Laws.Every.{any_none, any_yes, any_no, keep_none, keep_more, keep_past}

-- each member at its first appearance, with one member more, for a test of two members in which their order does not matter
module _ {A : Type 0} (same : A → A → Bool) where
  abbrev other : A → A → Bool
  other y z = not (same y z)

  firsts_cons : (y : A) (ys : List A) → firsts same (y ∷ ys) ≡ y ∷ keep (other y) (firsts same ys)
  unfolding firsts
  firsts_cons y ys = refl

  module _ (either : (x y : A) → same x y ≡ same y x) where
    pub firsts_new : (xs : List A) (x : A) → any (same x) xs ≡ false → firsts same (xs ++ x ∷ []) ≡ firsts same xs ++ x ∷ []
    unfolding firsts
    firsts_new [] x h = ap (λ l. x ∷ l) (keep_none (other x))
    firsts_new (y ∷ ys) x h = go (split (same x y)) (firsts_new ys x)
      where
        go : (same x y ≡ true) ⊎ (same x y ≡ false) → (any (same x) ys ≡ false → firsts same (ys ++ x ∷ []) ≡ firsts same ys ++ x ∷ []) → firsts same (y ∷ ys ++ x ∷ []) ≡ firsts same (y ∷ ys) ++ x ∷ []
        go (inl e) ih = clash (any_yes (same x) y ys e) h
        go (inr e) ih =
            ap (λ l. y ∷ keep (other y) l) (ih (sym (any_no (same x) y ys e) ∙ h))
            ∙ ap (λ l. y ∷ l) (keep_more (other y) (firsts same ys) x (ap not (either y x ∙ e)))

    pub firsts_known : (xs : List A) (x : A) → any (same x) xs ≡ true → firsts same (xs ++ x ∷ []) ≡ firsts same xs
    unfolding firsts
    firsts_known [] x h = clash h (any_none (same x))
    firsts_known (y ∷ ys) x h = go (split (same x y)) (split (any (same x) ys)) (firsts_known ys x)
      where
        go : (same x y ≡ true) ⊎ (same x y ≡ false) → (any (same x) ys ≡ true) ⊎ (any (same x) ys ≡ false) → (any (same x) ys ≡ true → firsts same (ys ++ x ∷ []) ≡ firsts same ys) → firsts same (y ∷ ys ++ x ∷ []) ≡ firsts same (y ∷ ys)
        go e (inl k) ih = ap (λ l. y ∷ keep (other y) l) (ih k)
        go (inl e) (inr n) ih =
            ap (λ l. y ∷ keep (other y) l) (firsts_new ys x n)
            ∙ ap (λ l. y ∷ l) (keep_past (other y) (firsts same ys) x (ap not (either y x ∙ e)))
        go (inr e) (inr n) ih = clash h (any_no (same x) y ys e ∙ n)
