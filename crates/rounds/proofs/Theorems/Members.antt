-- Members of a class: they and the colours are together at most one more than the representatives, and after a stable round the right has as many of each colour as the left. Assumes
-- nothing.
use Prim.Native.Nat.{ℕ, suc, ◌+◌, ◌≤◌}
use mathlib.Core.Path.{◌≡◌, sym, ◌∙◌, subst}
use mathlib.Core.Bool.{true}
use mathlib.Core.List.{List, map}
use native.Mathlib.Omega.{arith}
use borrow.Author.Tests.{eqb-true, eq-eqb}
use lib.Dec.{eqb}
use lib.ListN.{length, length-map}
use Rattle.lists.specs.Every.{how_many}
use Rattle.lists.proofs.Laws.Tests.{same_test}
use Rattle.lists.proofs.Laws.Counting.{how_many_agree, how_many-map}
use Rattle.stored.specs.Model.{Model}
use Rattle.rounds.specs.Colours.{colour_at}
use Rattle.rounds.specs.Round.{reps, Sides, colours_of, colour_count, equal_counts, stable, round_outcome}
use Rattle.lists.proofs.Laws.Different.{different_some, different_class}
use Rattle.rounds.proofs.Theorems.Counts.{equal_at}
use Rattle.rounds.proofs.Theorems.Classes.{when_stable}

module _ (m : Model) (colours : List ℕ) where
  pub class_room : (k : ℕ) → how_many (eqb k) (colours_of m colours) + colour_count m colours ≤ suc (length (reps m))
  unfolding colour_count colours_of
  class_room k = omega (arith, different_class k (map (colour_at colours) (reps m)), length-map (reps m) (colour_at colours))

  pub count_some : 1 ≤ length (reps m) → 1 ≤ colour_count m colours
  unfolding colour_count colours_of
  count_some h = different_some (map (colour_at colours) (reps m)) (omega (arith, length-map (reps m) (colour_at colours)))

module _ (a b : Model) (c d : Sides) (is-stable : round_outcome a b c ≡ stable d) where
  pub stable_equal : equal_counts a b d ≡ true
  stable_equal =
      let r = (when_stable a b c d is-stable).0 in
      subst (λ (s : Sides). equal_counts a b s ≡ true) (sym r.is_round) r.equal

  -- the right representatives of a colour
  pub right_members : (k : ℕ) → how_many (λ (y : ℕ). eqb (colour_at d.right y) k) (reps b) ≡ how_many (eqb k) (colours_of b d.right)
  unfolding colours_of
  right_members k =
      how_many_agree (λ (y : ℕ). eqb (colour_at d.right y) k) (λ (y : ℕ). eqb k (colour_at d.right y)) (reps b)
      (λ y n. same_test (eqb (colour_at d.right y) k) (eqb k (colour_at d.right y)) (λ e. eq-eqb k _ (sym (eqb-true _ k e))) (λ e. eq-eqb _ k (sym (eqb-true k _ e))))
      ∙ sym (how_many-map (eqb k) (colour_at d.right) (reps b))

  pub as_many_right : (k : ℕ) → how_many (λ (y : ℕ). eqb (colour_at d.right y) k) (reps b) ≡ how_many (eqb k) (colours_of a d.left)
  as_many_right k = right_members k ∙ sym (equal_at a b d stable_equal k)
