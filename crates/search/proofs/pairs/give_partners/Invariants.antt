-- `search::pairs::give_partners` meets its contract. The invariant: what the pairs from here on give, over the partners so far, is what all pairs give
-- over the first partners. Assumes nothing.
use Prim.Native.Nat.{ℕ, ◌+◌, ◌-◌, ◌<◌, ◌≤◌}
use mathlib.Core.Path.{◌≡◌, sym, ◌∙◌, ap₂}
use mathlib.Core.Bool.{Bool, true, false}
use mathlib.Core.List.{List}
use native.Mathlib.Omega.{arith}
use lib.ListN.{get_or, set}
use Rattle.std.proofs.Common.{Ok}
use Rattle.stored.specs.declared.file.File.{File}
use Rattle.stored.specs.declared.layout.Layout.{Layout}
use Rattle.stored.specs.Model.{size, root_of}
use Rattle.stored.specs.Reading.{model_of}
use Rattle.stored.specs.File.{held}
use Rattle.rows.specs.Pairs.{pair_count, left_at, right_at, conflicts}
use Rattle.search.specs.Partners.{pairs_from, partners_from, partners_by}
use Rattle.search.proofs.Laws.Pairs.{partners_end, partners_left_clash, partners_right_clash, partners_next, partners_good, partners_clash, PairThere, pair_there}
use Rattle.search.proofs.Theorems.Partners.{all_good}
use Rattle.search.proofs.pairs.give_partners.Given as goal

-- what the pairs from a place on give, over the partners so far, is what all pairs give over the first partners
pub record Giving (s t pairs f₀ g₀ f g : List ℕ) (place : ℕ) : Type 0 where
  pub same : partners_from (pair_count pairs - place) (model_of s) (model_of t) pairs place f g ≡ partners_from (pair_count pairs) (model_of s) (model_of t) pairs 0 f₀ g₀

-- each pair holds where all do
pub known : (f g : File) {pairs : List ℕ} {m n place : ℕ}
    → (pairs_from (pair_count pairs) (held f) (held g) pairs 0 ≡ Ok tt) × (m ≡ size (held f)) × (n ≡ size (held g))
    → place < pair_count pairs → PairThere f.bytes.now f.layout g.bytes.now g.layout pairs place
known f g {pairs} {m} {n} {place} p h = pair_there _ _ _ _ f.reads g.reads pairs place h (all_good (held f) (held g) pairs p.0 place h)

pub start : (s t pairs f₀ g₀ : List ℕ) → Giving s t pairs f₀ g₀ f₀ g₀ 0
start s t pairs f₀ g₀ = record { same = let e : pair_count pairs - 0 ≡ pair_count pairs = omega arith in rw e }

module _ {s t pairs f₀ g₀ f g : List ℕ} {place : ℕ} (i : Giving s t pairs f₀ g₀ f g place) where
  abbrev left : ℕ
  left = pair_count pairs - place

  abbrev Answered : Bool → List ℕ → List ℕ → Type 0
  Answered r f g = partners_by r f g ≡ partners_from (pair_count pairs) (model_of s) (model_of t) pairs 0 f₀ g₀

  pub done : pair_count pairs ≤ place → Answered true f g
  done h = partners_good f g ∙ sym (partners_end (model_of s) (model_of t) pairs left place f g (omega arith)) ∙ i.same

  module _ {l k : Layout} (there : PairThere s l t k pairs place) (h : place < pair_count pairs) where
    some : 0 < left
    some = omega arith

    -- the roots of the pair's elements, and whether another partner was given before
    abbrev x : ℕ
    x = get_or s (l.roots + left_at pairs place) 0

    abbrev y : ℕ
    y = get_or t (k.roots + right_at pairs place) 0

    module _ {r : Bool} (e : r ≡ conflicts f x y) where
      on_left_lem : conflicts f (root_of (model_of s) (left_at pairs place)) (root_of (model_of t) (right_at pairs place)) ≡ r
      on_left_lem = sym (e ∙ ap₂ (λ (x y : ℕ). conflicts f x y) there.left_root there.right_root)

      pub stop_left : r ≡ true → Answered false f g
      stop_left t₁ = partners_clash f g ∙ sym (partners_left_clash (model_of s) (model_of t) pairs left place f g some (on_left_lem ∙ t₁)) ∙ i.same

      module _ (free : r ≡ false) {r' : Bool} (e' : r' ≡ conflicts g y x) where
        on_right_lem : conflicts g (root_of (model_of t) (right_at pairs place)) (root_of (model_of s) (left_at pairs place)) ≡ r'
        on_right_lem = sym (e' ∙ ap₂ (λ (x y : ℕ). conflicts g y x) there.left_root there.right_root)

        pub stop_right : r' ≡ true → Answered false f g
        stop_right t₁ = partners_clash f g ∙ sym (partners_right_clash (model_of s) (model_of t) pairs left place f g some (on_left_lem ∙ free) (on_right_lem ∙ t₁)) ∙ i.same

        pub more : r' ≡ false → Giving s t pairs f₀ g₀ (set f x y) (set g y x) (place + 1)
        more f₁ = record {
          same =
              let e₁ : pair_count pairs - (place + 1) ≡ left - 1 = omega arith in
              rw e₁ (ap₂ (λ (x y : ℕ). partners_from (left - 1) (model_of s) (model_of t) pairs (place + 1) (set f x y) (set g y x)) there.left_root there.right_root
              ∙ sym (partners_next (model_of s) (model_of t) pairs left place f g some (on_left_lem ∙ free) (on_right_lem ∙ f₁)) ∙ i.same);
        }

abbrev pub invariant-loop-place : goal.invariant-loop-place
invariant-loop-place l = Giving l.left.bytes.now l.right.bytes.now l.pairs l.initial.to_right l.initial.to_left l.to_right l.to_left l.place
