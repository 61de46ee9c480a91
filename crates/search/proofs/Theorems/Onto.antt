-- Onto: between canonical models of one signature that are alike, a map that is one to one and takes the rows of a relation into those of its counterpart takes them onto those. The images
-- are without repetition, and as many. Assumes nothing.
use Prim.Native.Nat.{ℕ, suc, ◌≤◌, zero-le}
use mathlib.Core.Path.{◌≡◌, sym, ◌∙◌, ap, subst}
use mathlib.Core.Logic.{by_cases}
use mathlib.Core.Bool.{true}
use mathlib.Core.List.{List, map, Memᴰ}
use native.Mathlib.Omega.{arith}
use native.Mathlib.Decide.{dec_le}
use borrow.Author.Tests.{eqb-true}
use lib.ListN.{length, length-map, get_or-eq_default}
use lib.Dec.{eqb}
use Rattle.lists.specs.Every.{all}
use Rattle.lists.specs.Numbers.{up_from}
use Rattle.lists.proofs.Laws.Tests.{and_right}
use Rattle.lists.proofs.Laws.Every.{all_mem}
use Rattle.lists.proofs.Laws.Numbers.{up_from_mem}
use Rattle.lists.proofs.Laws.Sets.{covers, mem_map}
use Rattle.stored.specs.Model.{Rel, Model, no_relation, relation_at}
use Rattle.stored.specs.Canonical.{canonical}
use Rattle.stored.specs.Signature.{signature, same_signature}
use Rattle.stored.proofs.Laws.WellFormed.{WellFormed}
use Rattle.rows.proofs.Theorems.Among.{entry_of}
use Rattle.rows.proofs.Theorems.Answers.{same_relations}
use Rattle.rounds.specs.Round.{reps}
use Rattle.rounds.proofs.Theorems.Carrying.{images_distinct}
use Rattle.search.specs.Find.{same_row_count, alike}
use Rattle.search.specs.Closing.{OneToOne}
use Rattle.search.proofs.Theorems.Closing.{images_at, Into, Onto}

-- what the models are
pub record AlikeModels (a b : Model) : Type 0 where
  pub left_formed : WellFormed a
  pub right_formed : WellFormed b
  pub left_plain : canonical a ≡ true
  pub right_plain : canonical b ≡ true
  pub one_signature : same_signature (signature a) (signature b) ≡ true
  pub are_alike : alike a b ≡ true

module _ (a b : Model) (given : AlikeModels a b) where
  -- each relation has as many rows on both sides
  pub as_many_rows : (k : ℕ) → length (relation_at a k).rows ≡ length (relation_at b k).rows
  unfolding alike same_row_count
  as_many_rows k = by_cases (dec_le (suc k) (length a.relations)) there beyond
    where
      Same : Type 0
      Same = length (relation_at a k).rows ≡ length (relation_at b k).rows

      there : suc k ≤ length a.relations → Same
      there l =
          let every = and_right (eqb (length (reps a)) (length (reps b))) (all (same_row_count a b) (up_from 0 (length a.relations))) given.are_alike in
          eqb-true _ _ (all_mem (same_row_count a b) (up_from 0 (length a.relations)) every k (up_from_mem 0 (length a.relations) k zero-le (omega arith)))

      beyond : (suc k ≤ length a.relations → ⊥) → Same
      beyond l =
          ap (λ (r : Rel). length r.rows)
          (get_or-eq_default a.relations no_relation (omega arith) ∙ sym (get_or-eq_default b.relations no_relation (omega (arith, same_relations a b given.one_signature))))

  module _ (f : List ℕ) (one : OneToOne a f) (k : ℕ) where
    image_there : Into a b f k → (row : List ℕ) → Memᴰ row (images_at a b f k) → Memᴰ row (relation_at b k).rows
    image_there into row m =
        let r = mem_map (map (entry_of f)) (relation_at a k).rows row m in subst (λ (v : List ℕ). Memᴰ v (relation_at b k).rows) (sym r.2) (into r.0 r.1)

    pub into_onto : Into a b f k → Onto a b f k
    into_onto into =
        covers (images_at a b f k) (relation_at b k).rows (images_distinct a given.left_formed given.left_plain (entry_of f) one k) (image_there into) (omega (arith, length-map (relation_at a k).rows (map (entry_of f)), as_many_rows k))
