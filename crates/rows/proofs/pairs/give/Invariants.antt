-- `rows::pairs::give` meets its contract. The invariant: what the pairs from here on give, over the images so far, is what all pairs give over the
-- first images. Assumes nothing.
use Prim.Native.Nat.{ℕ, ◌+◌, ◌-◌, ◌*◌, ◌<◌, ◌≤◌}
use mathlib.Core.Path.{◌≡◌, refl, sym, ◌∙◌, ap, ap₂}
use mathlib.Core.Bool.{Bool, true, false}
use mathlib.Core.List.{List}
use native.Mathlib.Omega.{arith}
use lib.ListN.{length, get_or, set, length-set}
use Rattle.std.proofs.Common.{Ok, Err}
use Rattle.stored.specs.declared.refusal.Refusal.{Refusal}
use Rattle.stored.specs.declared.refusal.Refusal.TheVariants.{ConflictingImages}
use Rattle.stored.specs.Limits.{max_elements}
use Rattle.stored.specs.Model.{Model, size, root_of}
use Rattle.stored.specs.File.{held}
use Rattle.stored.proofs.Laws.WellFormed.{WellFormed}
use Rattle.rows.specs.Pairs.{pair_count, left_at, right_at, pair_at, refused, conflicts, give_from, given_by}
use Rattle.rows.proofs.Laws.Given.{roots_counted}
use Rattle.rows.proofs.Laws.Pairs.{pair_inside, pair_known, give_end, give_bad, give_conflict, give_next, given_good, given_bad}
use Rattle.rows.proofs.pairs.give.Given as goal

-- what is known of a good pair, by the roots as they are handed on: where the representatives of its elements stand, and that they are known
pub record GoodPair (a b : Model) (roots roots' pairs : List ℕ) (i : ℕ) : Type 0 where
  pub good : pair_at a b pairs i ≡ Ok tt
  pub inside : 2 * i + 1 < length pairs
  pub left_inside : left_at pairs i < length roots
  pub right_inside : right_at pairs i < length roots'
  pub left_root : get_or roots (left_at pairs i) 0 ≡ root_of a (left_at pairs i)
  pub right_root : get_or roots' (right_at pairs i) 0 ≡ root_of b (right_at pairs i)
  pub root_known : get_or roots (left_at pairs i) 0 < size a
  pub root_small : get_or roots (left_at pairs i) 0 < max_elements

pub good_pair : (a b : Model) → WellFormed a → WellFormed b → (roots roots' : List ℕ) → roots ≡ a.roots → roots' ≡ b.roots → (pairs : List ℕ) (i : ℕ) → i < pair_count pairs → Ok tt ≡ pair_at a b pairs i → GoodPair a b roots roots' pairs i
good_pair a b p q roots roots' e f pairs i h g =
    let w = pair_known a.sizes b.sizes pairs i (sym g) in
    let left : get_or roots (left_at pairs i) 0 ≡ root_of a (left_at pairs i) = ap (λ (r : List ℕ). get_or r (left_at pairs i) 0) e in
    record {
      good = sym g;
      inside = pair_inside pairs i h;
      left_inside = omega (arith, roots_counted p e, w.0);
      right_inside = omega (arith, roots_counted q f, w.1);
      left_root = left;
      right_root = ap (λ (r : List ℕ). get_or r (right_at pairs i) 0) f;
      root_known = omega (arith, left, p.root_known (left_at pairs i) w.0);
      root_small = omega (arith, left, p.root_known (left_at pairs i) w.0, p.few_elements);
    }

-- what the pairs from a place on give, over the images so far, is what all pairs give over the first images
pub record Giving (a b : Model) (pairs images₀ images : List ℕ) (place : ℕ) : Type 0 where
  pub long : length images ≡ length images₀
  pub same : give_from (pair_count pairs - place) a b pairs place images ≡ give_from (pair_count pairs) a b pairs 0 images₀

pub start : (a b : Model) (pairs images₀ : List ℕ) → Giving a b pairs images₀ images₀ 0
start a b pairs images₀ = let e : pair_count pairs - 0 ≡ pair_count pairs = omega arith in record { long = refl; same = rw e }

module _ (a b : Model) (pairs images₀ images : List ℕ) (place : ℕ) (i : Giving a b pairs images₀ images place) where
  abbrev left : ℕ
  left = pair_count pairs - place

  pub done : pair_count pairs ≤ place → given_by (Ok tt) images ≡ give_from (pair_count pairs) a b pairs 0 images₀
  done h = given_good images ∙ sym (give_end a b pairs left place images (omega arith)) ∙ i.same

  module _ (h : place < pair_count pairs) where
    some : 0 < left
    some = omega arith

    pub bad : (x : Refusal) → pair_at a b pairs place ≡ Err x → given_by (Err x) images ≡ give_from (pair_count pairs) a b pairs 0 images₀
    bad x e = given_bad x images ∙ sym (give_bad a b pairs left place images some x e) ∙ i.same

    -- the answer for another image given before
    module _ (roots roots' : List ℕ) (g : GoodPair a b roots roots' pairs place) (r : Bool) (e : r ≡ conflicts images (get_or roots (left_at pairs place) 0) (get_or roots' (right_at pairs place) 0)) where
      answered : conflicts images (root_of a (left_at pairs place)) (root_of b (right_at pairs place)) ≡ r
      answered = sym (e ∙ ap₂ (λ (x y : ℕ). conflicts images x y) g.left_root g.right_root)

      pub stop : r ≡ true → given_by (Err (ConflictingImages (record { 0 = get_or roots (left_at pairs place) 0 }))) images ≡ give_from (pair_count pairs) a b pairs 0 images₀
      stop f =
          given_bad _ images
          ∙ ap (λ (x : ℕ). refused (ConflictingImages (record { 0 = x }))) g.left_root
          ∙ sym (give_conflict a b pairs left place images some g.good (answered ∙ f)) ∙ i.same

      pub more : r ≡ false → Giving a b pairs images₀ (set images (get_or roots (left_at pairs place) 0) (get_or roots' (right_at pairs place) 0)) (place + 1)
      more f =
          let d : pair_count pairs - (place + 1) ≡ left - 1 = omega arith in
          record {
            long = length-set images _ _ ∙ i.long;
            same =
                rw d (ap₂ (λ (x y : ℕ). give_from (left - 1) a b pairs (place + 1) (set images x y)) g.left_root g.right_root)
                ∙ sym (give_next a b pairs left place images some g.good (answered ∙ f)) ∙ i.same;
          }

abbrev pub invariant-loop-place : goal.invariant-loop-place
invariant-loop-place l = Giving (held l.source) (held l.target) l.pairs l.initial.images l.images l.place
