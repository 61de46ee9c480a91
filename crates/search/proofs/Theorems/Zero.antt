-- Zero: unequal numbers of classes, unequal row counts of a relation and a class that is paired with two are each answered by none with 0 units. Assumes nothing.
use Prim.Native.Nat.{ℕ, ◌<◌, zero-le}
use mathlib.Core.Path.{◌≡◌, ◌∙◌, ap}
use mathlib.Core.Logic.{◌⊎◌, inl, inr}
use mathlib.Core.Bool.{true, false}
use mathlib.Core.List.{List}
use native.Mathlib.Omega.{arith}
use borrow.Author.Tests.{eqb-true}
use lib.Dec.{eqb}
use lib.ListN.{length}
use Rattle.lists.specs.Every.{all}
use Rattle.lists.specs.Numbers.{up_from}
use Rattle.lists.proofs.Laws.Tests.{split, and_left, and_right}
use Rattle.lists.proofs.Laws.Every.{all_mem}
use Rattle.lists.proofs.Laws.Numbers.{up_from_mem}
use Rattle.stored.specs.Model.{Model, relation_at}
use Rattle.stored.proofs.Laws.WellFormed.{WellFormed}
use Rattle.rows.specs.Pairs.{pair_count}
use Rattle.rounds.specs.Round.{reps}
use Rattle.search.specs.Partners.{Partners, partners, clash, partners_of}
use Rattle.search.specs.Machine.{none}
use Rattle.search.specs.Answer.{ended}
use Rattle.search.specs.Find.{same_row_count, alike, searched, find_among}
use Rattle.search.proofs.Theorems.Partners.{AllGood, PairedTwice, twice_clash}
use Rattle.search.proofs.Theorems.Asked.{among_good, searched_clash, searched_unlike}

-- models that are alike have as many classes, and each relation as many rows
module _ (a b : Model) where
  alike_classes : alike a b ≡ true → length (reps a) ≡ length (reps b)
  unfolding alike
  alike_classes h = eqb-true _ _ (and_left (eqb (length (reps a)) (length (reps b))) (all (same_row_count a b) (up_from 0 (length a.relations))) h)

  alike_rows : alike a b ≡ true → (k : ℕ) → k < length a.relations → length (relation_at a k).rows ≡ length (relation_at b k).rows
  unfolding alike same_row_count
  alike_rows h k l =
      eqb-true _ _
      (all_mem (same_row_count a b) (up_from 0 (length a.relations)) (and_right (eqb (length (reps a)) (length (reps b))) (all (same_row_count a b) (up_from 0 (length a.relations))) h) k
      (up_from_mem 0 (length a.relations) k zero-le (omega arith)))

  unless : (alike a b ≡ true → ⊥) → alike a b ≡ false
  unless n = by_test (split (alike a b))
    where
      by_test : (alike a b ≡ true) ⊎ (alike a b ≡ false) → alike a b ≡ false
      by_test (inl e) = absurd (n e)
      by_test (inr e) = e

  module _ (pairs : List ℕ) (budget : ℕ) (good : AllGood a b pairs) where
    pub unlike_zero : alike a b ≡ false → find_among a b pairs budget ≡ ended (none 0)
    unlike_zero e = among_good a b pairs budget good ∙ ap ended (by_partners (partners_of a b pairs))
      where
        by_partners : (o : Partners) → searched a b budget o ≡ none 0
        by_partners clash = searched_clash a b budget
        by_partners (partners f g) = searched_unlike a b budget f g e

    pub classes_zero : (length (reps a) ≡ length (reps b) → ⊥) → find_among a b pairs budget ≡ ended (none 0)
    classes_zero n = unlike_zero (unless (λ h. n (alike_classes h)))

    pub rows_zero : (k : ℕ) → k < length a.relations → (length (relation_at a k).rows ≡ length (relation_at b k).rows → ⊥) → find_among a b pairs budget ≡ ended (none 0)
    rows_zero k l n = unlike_zero (unless (λ h. n (alike_rows h k l)))

    pub twice_zero : WellFormed a → WellFormed b → PairedTwice a b pairs (pair_count pairs) → find_among a b pairs budget ≡ ended (none 0)
    twice_zero wa wb t = among_good a b pairs budget good ∙ ap ended (ap (searched a b budget) (twice_clash a b wa wb pairs good t) ∙ searched_clash a b budget)
