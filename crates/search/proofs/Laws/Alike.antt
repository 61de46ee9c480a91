-- The laws of models that are alike: row counts by the layouts, case by case. Assumes nothing.
use Prim.Native.Nat.{ℕ, zero, suc, ◌+◌, ◌<◌, ◌≤◌}
use mathlib.Core.Path.{◌≡◌, sym, ◌∙◌, ap, ap₂}
use mathlib.Core.Bool.{Bool, true, false, ◌&&◌}
use mathlib.Core.List.{List, [], ◌∷◌, Memᴰ}
use native.Mathlib.Omega.{arith}
use borrow.Author.Tests.{eq-eqb, ne_eqb}
use lib.Dec.{eqb}
use lib.ListN.{length, get_or, take}
use lib.Pointwise.{pointwise}
use Rattle.lists.specs.Every.{all}
use Rattle.lists.specs.Numbers.{up_from}
use Rattle.lists.proofs.Laws.Every.{all_none, all_yes, all_no, mem_all, all_mem}
use Rattle.lists.proofs.Laws.Numbers.{up_from_none, up_from_cons, mem_up_from}
use Rattle.lists.proofs.Laws.Tests.{same_test}
use Rattle.stored.specs.declared.layout.Layout.{Layout}
use Rattle.stored.specs.Model.{Model}
use Rattle.stored.specs.Reading.{model_of}
use Rattle.stored.proofs.Laws.Reading.{relations_is, relation_there}
use Rattle.rows.proofs.Laws.Rows.{Alike, as_many_relations}
use Rattle.rounds.specs.Round.{reps}
use Rattle.search.specs.Find.{same_row_count, same_count_in, alike}

-- one relation
module _ (l m : Layout) (k : ℕ) where
  pub same_count_lem : get_or l.count k 0 ≡ get_or m.count k 0 → same_count_in l m k ≡ true
  unfolding same_count_in
  same_count_lem e = eq-eqb _ _ e

  pub other_count : (get_or l.count k 0 ≡ get_or m.count k 0 → ⊥) → same_count_in l m k ≡ false
  unfolding same_count_in
  other_count d = ne_eqb _ _ d

-- fronts of two lists, compared as lists or number by number
fronts_same : (p : ℕ → Bool) (xs ys : List ℕ) (n i : ℕ) → n ≤ length xs → n ≤ length ys → ((k : ℕ) → p (i + k) ≡ eqb (get_or xs k 0) (get_or ys k 0)) → pointwise eqb (take n xs) (take n ys) ≡ all p (up_from i n)
fronts_same p xs ys zero i h k e = sym (ap (all p) (up_from_none i) ∙ all_none p)
fronts_same p [] ys (suc n) i h k e = absurd (omega arith)
fronts_same p (x ∷ xs) [] (suc n) i h k e = absurd (omega arith)
fronts_same p (x ∷ xs) (y ∷ ys) (suc n) i h k e =
    go (eqb x y) (let q : i ≡ i + 0 = omega arith in ap p q ∙ e 0) (fronts_same p xs ys n (suc i) (omega arith) (omega arith) (λ j. let q : suc i + j ≡ i + suc j = omega arith in ap p q ∙ e (suc j)))
    ∙ ap (all p) (sym (up_from_cons i n))
  where
    go : (b : Bool) → p i ≡ b → pointwise eqb (take n xs) (take n ys) ≡ all p (up_from (suc i) n) → (b && pointwise eqb (take n xs) (take n ys)) ≡ all p (i ∷ up_from (suc i) n)
    go true q ih = ih ∙ sym (all_yes p i (up_from (suc i) n) q)
    go false q ih = sym (all_no p i (up_from (suc i) n) q)

-- the row counts of the first relations, compared as lists
pub counts_same : (l m : Layout) (n : ℕ) → n ≤ length l.count → n ≤ length m.count → pointwise eqb (take n l.count) (take n m.count) ≡ all (same_count_in l m) (up_from 0 n)
unfolding same_count_in
counts_same l m n h k = fronts_same (same_count_in l m) l.count m.count n 0 h k (λ j. let e : 0 + j ≡ j = omega arith in rw e)

-- tests that agree on the members of a list
pub all_agree : (p q : ℕ → Bool) (xs : List ℕ) → ((x : ℕ) → Memᴰ x xs → p x ≡ q x) → all p xs ≡ all q xs
all_agree p q xs h =
    same_test (all p xs) (all q xs)
    (λ t. mem_all q xs (λ x m. sym (h x m) ∙ all_mem p xs t x m))
    (λ t. mem_all p xs (λ x m. h x m ∙ all_mem q xs t x m))

-- two files that were read and hold models of one signature
module _ (s t : List ℕ) (l m : Layout) (given : Alike s t l m) where
  abbrev a : Model
  a = model_of s

  abbrev b : Model
  b = model_of t

  counted : (k : ℕ) → k < l.relations → same_count_in l m k ≡ same_row_count a b k
  unfolding same_count_in same_row_count
  counted k h = ap₂ eqb (relation_there s l given.0 k h).is_count (relation_there t m given.1 k (omega (arith, as_many_relations s t l m given))).is_count

  all_counted : all (same_count_in l m) (up_from 0 l.relations) ≡ all (same_row_count a b) (up_from 0 (length a.relations))
  all_counted =
      all_agree (same_count_in l m) (same_row_count a b) (up_from 0 l.relations) (λ k n. counted k (omega (arith, (mem_up_from 0 l.relations k n).1)))
      ∙ ap (λ (n : ℕ). all (same_row_count a b) (up_from 0 n)) (relations_is s l given.0)

  -- by the numbers of classes that are counted on both sides
  module _ (n o : ℕ) (e : n ≡ length (reps a)) (f : o ≡ length (reps b)) where
    pub unlike_classes : (n ≡ o → ⊥) → false ≡ alike a b
    unfolding alike
    unlike_classes d = rw (ne_eqb (length (reps a)) (length (reps b)) (λ q. d (e ∙ q ∙ sym f)))

    pub alike_classes : n ≡ o → (r : Bool) → r ≡ all (same_count_in l m) (up_from 0 l.relations) → r ≡ alike a b
    unfolding alike
    alike_classes q r g = rw (eq-eqb (length (reps a)) (length (reps b)) (sym e ∙ q ∙ f)) (g ∙ all_counted)
