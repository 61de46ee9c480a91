-- Never: where find answers none, between well formed models, the left one canonical, there is no function that carries the left model onto the right one, keeps types and honours the pairs;
-- unequal numbers of classes or of rows, and a clash of pairs, each exclude it. Assumes nothing.
use Prim.Native.Nat.{ℕ}
use mathlib.Core.Path.{◌≡◌, refl, sym, ◌∙◌, ap}
use mathlib.Core.Logic.{inl, inr}
use mathlib.Core.Bool.{true, false}
use mathlib.Core.List.{List, map, Memᴰ}
use borrow.Author.Tests.{eq-eqb}
use lib.Dec.{eqb}
use lib.ListN.{length, length-map}
use Rattle.lists.specs.Every.{all}
use Rattle.lists.specs.Numbers.{up_from}
use Rattle.lists.proofs.Laws.Tests.{and_both}
use Rattle.lists.proofs.Laws.Tests as tests
use Rattle.lists.proofs.Laws.Every.{mem_all}
use Rattle.stored.specs.Model.{Model, relation_at}
use Rattle.stored.specs.Canonical.{canonical}
use Rattle.stored.proofs.Laws.WellFormed.{WellFormed}
use Rattle.rows.specs.Pairs.{pair_count}
use Rattle.rows.proofs.Theorems.Pairs.{named}
use Rattle.rounds.specs.Round.{reps}
use Rattle.rounds.proofs.Theorems.Alive.{Carries, reps_carried}
use Rattle.rounds.proofs.Theorems.Carrying.{sets_carry}
use Rattle.search.specs.Partners.{Partners, partners, clash, partners_of}
use Rattle.search.specs.Machine.{none}
use Rattle.search.specs.Answer.{ended}
use Rattle.search.specs.Find.{round_cost, same_row_count, alike, searched, find_among}
use Rattle.lists.proofs.Laws.Below.{perm_length}
use Rattle.search.proofs.Theorems.None.{never_none}
use Rattle.search.proofs.Theorems.Partners.{AllGood, Clashing, PairedTwice, are_matched, clash_twice}
use Rattle.search.proofs.Theorems.Start.{Honours, Wanted, first_sides, named_rep, carries_agrees}
use Rattle.search.proofs.Theorems.Asked.{among_ended, searched_alike}

-- a model that is carried onto another has as many classes, and each relation as many rows
module _ (a b : Model) (h : ℕ → ℕ) (carries : Carries a b h) where
  pub same_classes : length (reps a) ≡ length (reps b)
  same_classes = sym (length-map (reps a) h) ∙ perm_length (reps_carried a b h carries)

  pub same_rows : (k : ℕ) → length (relation_at a k).rows ≡ length (relation_at b k).rows
  same_rows k = sym (length-map (relation_at a k).rows (map h)) ∙ perm_length (carries.rows_carried k)

  row_counts : (k : ℕ) → same_row_count a b k ≡ true
  unfolding same_row_count
  row_counts k = eq-eqb _ _ (same_rows k)

  pub carried_alike : alike a b ≡ true
  unfolding alike
  carried_alike =
      and_both (eqb (length (reps a)) (length (reps b))) (all (same_row_count a b) (up_from 0 (length a.relations))) (eq-eqb _ _ same_classes)
      (mem_all (same_row_count a b) (up_from 0 (length a.relations)) (λ k m. row_counts k))

-- what honours the pairs and is one to one pairs no class with two
module _ (a b : Model) (wa : WellFormed a) (wb : WellFormed b) (pairs : List ℕ) (good : AllGood a b pairs) where
  pub honours_once :
      (h : ℕ → ℕ) → ((x y : ℕ) → Memᴰ x (reps a) → Memᴰ y (reps a) → h x ≡ h y → x ≡ y) → Honours a b pairs h → PairedTwice a b pairs (pair_count pairs) → ⊥
  honours_once h keeps_apart honours t = by_side t.clashing
    where
      by_side : Clashing a b pairs t.one t.other → ⊥
      by_side (inl p) = p.1 (sym (honours t.one t.one_within) ∙ ap h p.0 ∙ honours t.other t.other_within)
      by_side (inr p) =
          p.1 (keeps_apart (named a pairs t.one) (named a pairs t.other) (named_rep a b wa wb pairs good t.one t.one_within) (named_rep a b wa wb pairs good t.other t.other_within)
          (honours t.one t.one_within ∙ p.0 ∙ sym (honours t.other t.other_within)))

module _ (a b : Model) (wa : WellFormed a) (wb : WellFormed b) (plain : canonical a ≡ true) (pairs : List ℕ) (h : ℕ → ℕ) (wanted : Wanted a b pairs h) where
  its_carries : Carries a b h
  its_carries = sets_carry a b h wa wb plain wanted.carries

  -- the answers with 0 units
  pub classes_differ : (length (reps a) ≡ length (reps b) → ⊥) → ⊥
  classes_differ n = n (same_classes a b h its_carries)

  pub rows_differ : (k : ℕ) → (length (relation_at a k).rows ≡ length (relation_at b k).rows → ⊥) → ⊥
  rows_differ k n = n (same_rows a b h its_carries k)

  pub unlike : alike a b ≡ false → ⊥
  unlike e = tests.clash (carried_alike a b h its_carries) e

  module _ (good : AllGood a b pairs) where
    pub no_clash : partners_of a b pairs ≡ clash → ⊥
    no_clash e = honours_once a b wa wb pairs good h its_carries.keeps_apart wanted.honours (clash_twice a b wa wb pairs good e)

    pub searched_never : (budget u : ℕ) → searched a b budget (partners_of a b pairs) ≡ none u → ⊥
    searched_never budget u e = by_partners (partners_of a b pairs) refl
      where
        by_partners : (o : Partners) → partners_of a b pairs ≡ o → ⊥
        by_partners clash q = no_clash q
        by_partners (partners f g) q =
            never_none a b h its_carries round_cost budget budget 0 (first_sides a b f g)
            (carries_agrees a b wa wb pairs good f g (are_matched a b wa wb pairs good f g q) h its_carries wanted.typed wanted.honours) u
            (sym (searched_alike a b budget f g (carried_alike a b h its_carries)) ∙ ap (searched a b budget) (sym q) ∙ e)

  pub never_right : (budget u : ℕ) → find_among a b pairs budget ≡ ended (none u) → ⊥
  never_right budget u e = let r = among_ended a b pairs budget (none u) e in searched_never r.0 budget u r.1
