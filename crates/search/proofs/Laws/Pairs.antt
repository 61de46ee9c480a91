-- The laws of fixed pairs: from a pair on, whether they hold and the partners that they give; what is known of a pair that holds; the pairs that a
-- base gives. Assumes nothing.
use Prim.Native.Nat.{ℕ, suc, ◌+◌, ◌-◌, ◌*◌, ◌<◌, ◌≤◌}
use mathlib.Core.Path.{◌≡◌, refl, ◌∙◌, ap}
use mathlib.Core.Bool.{true, false}
use mathlib.Core.List.{List, [], ◌∷◌, ◌++◌}
use native.Mathlib.Omega.{arith}
use lib.ListN.{length, get_or, set}
use Rattle.std.proofs.Common.{Ok, Err}
use Rattle.stored.specs.declared.refusal.Refusal.{Refusal}
use Rattle.stored.specs.declared.layout.Layout.{Layout}
use Rattle.stored.specs.Limits.{max_elements}
use Rattle.stored.specs.Model.{Model, size, root_of}
use Rattle.stored.specs.Reading.{Reads, model_of}
use Rattle.stored.proofs.Laws.Reading.{reads_formed}
use Rattle.stored.proofs.Laws.Lookup.{root_inside, root_at, root_at_known}
use Rattle.rows.specs.Pairs.{pair_count, left_at, right_at, pair_at, conflicts}
use Rattle.rows.proofs.Laws.Pairs.{pair_inside}
use Rattle.rows.proofs.Theorems.Pairs.{GoodPair}
use Rattle.search.specs.Partners.{pairs_from, partners, clash, partners_from, partners_by}
use Rattle.search.specs.Find.{pairs_under}

-- whether the pairs from a place on hold, with so many left
module _ (a b : Model) (pairs : List ℕ) (left i : ℕ) where
  pub pairs_end : left ≤ 0 → pairs_from left a b pairs i ≡ Ok tt
  unfolding pairs_from
  pairs_end h = let e : left ≡ 0 = omega arith in rw e

  module _ (h : 0 < left) where
    pub pairs_bad : (r : Refusal) → pair_at a b pairs i ≡ Err r → pairs_from left a b pairs i ≡ Err r
    unfolding pairs_from
    pairs_bad r p = let e : left ≡ suc (left - 1) = omega arith in rw (e, p, pairs_from)

    pub pairs_next : pair_at a b pairs i ≡ Ok tt → pairs_from left a b pairs i ≡ pairs_from (left - 1) a b pairs (i + 1)
    unfolding pairs_from
    pairs_next p = let e : left ≡ suc (left - 1) = omega arith in ap (λ (n : ℕ). pairs_from n a b pairs i) e ∙ rw (p, pairs_from)

-- the partners that the pairs from a place on give, with so many left
module _ (a b : Model) (pairs : List ℕ) (left i : ℕ) (f g : List ℕ) where
  abbrev named : ℕ
  named = root_of a (left_at pairs i)

  abbrev meant : ℕ
  meant = root_of b (right_at pairs i)

  pub partners_end : left ≤ 0 → partners_from left a b pairs i f g ≡ partners f g
  unfolding partners_from
  partners_end h = let e : left ≡ 0 = omega arith in rw e

  module _ (h : 0 < left) where
    pub partners_left_clash : conflicts f named meant ≡ true → partners_from left a b pairs i f g ≡ clash
    unfolding partners_from
    partners_left_clash p = let e : left ≡ suc (left - 1) = omega arith in rw (e, p, partners_from)

    module _ (p : conflicts f named meant ≡ false) where
      pub partners_right_clash : conflicts g meant named ≡ true → partners_from left a b pairs i f g ≡ clash
      unfolding partners_from
      partners_right_clash q = let e : left ≡ suc (left - 1) = omega arith in rw (e, p, q, partners_from)

      pub partners_next : conflicts g meant named ≡ false → partners_from left a b pairs i f g ≡ partners_from (left - 1) a b pairs (i + 1) (set f named meant) (set g meant named)
      unfolding partners_from
      partners_next q = let e : left ≡ suc (left - 1) = omega arith in ap (λ (n : ℕ). partners_from n a b pairs i f g) e ∙ rw (p, q, partners_from)

-- what a writer of partners answers
module _ (f g : List ℕ) where
  pub partners_good : partners_by true f g ≡ partners f g
  unfolding partners_by
  partners_good = refl

  pub partners_clash : partners_by false f g ≡ clash
  unfolding partners_by
  partners_clash = refl

-- what is known of a pair that holds: where the representatives of its elements stand, and that they are known
pub record PairThere (s : List ℕ) (l : Layout) (t : List ℕ) (k : Layout) (pairs : List ℕ) (i : ℕ) : Type 0 where
  pub inside : 2 * i + 1 < length pairs
  pub left_small : left_at pairs i < max_elements
  pub right_small : right_at pairs i < max_elements
  pub left_inside : l.roots + left_at pairs i < length s
  pub right_inside : k.roots + right_at pairs i < length t
  pub left_root : get_or s (l.roots + left_at pairs i) 0 ≡ root_of (model_of s) (left_at pairs i)
  pub right_root : get_or t (k.roots + right_at pairs i) 0 ≡ root_of (model_of t) (right_at pairs i)
  pub left_known : get_or s (l.roots + left_at pairs i) 0 < size (model_of s)
  pub right_known : get_or t (k.roots + right_at pairs i) 0 < size (model_of t)
  pub left_few : size (model_of s) ≤ max_elements
  pub right_few : size (model_of t) ≤ max_elements

pub pair_there : (s : List ℕ) (l : Layout) (t : List ℕ) (k : Layout) → Reads s l → Reads t k → (pairs : List ℕ) (i : ℕ) → i < pair_count pairs → GoodPair (model_of s) (model_of t) pairs i → PairThere s l t k pairs i
pair_there s l t k p q pairs i h g =
    let n = (reads_formed s l p).few_elements in
    let m = (reads_formed t k q).few_elements in
    record {
      inside = pair_inside pairs i h;
      left_small = omega (arith, g.left_known);
      right_small = omega (arith, g.right_known);
      left_inside = root_inside s l p (left_at pairs i) g.left_known;
      right_inside = root_inside t k q (right_at pairs i) g.right_known;
      left_root = root_at s l p (left_at pairs i) g.left_known;
      right_root = root_at t k q (right_at pairs i) g.right_known;
      left_known = root_at_known s l p (left_at pairs i) g.left_known;
      right_known = root_at_known t k q (right_at pairs i) g.right_known;
      left_few = n;
      right_few = m;
    }

-- the pairs that a base gives
module _ (f g : List ℕ) where
  pub under_none : pairs_under f g [] ≡ []
  unfolding pairs_under
  under_none = refl

  -- with one representative more
  pub under_more : (xs : List ℕ) (x : ℕ) → pairs_under f g (xs ++ x ∷ []) ≡ pairs_under f g xs ++ get_or f x 255 ∷ get_or g x 255 ∷ []
  unfolding pairs_under
  under_more [] x = refl
  under_more (y ∷ xs) x = ap (λ (l : List ℕ). get_or f y 255 ∷ get_or g y 255 ∷ l) (under_more xs x)
