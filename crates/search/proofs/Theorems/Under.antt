-- Under: the pairs that two maps from a base give are good, and a function honours them exactly if it takes the image of each class of the base under the one to its image under the other.
-- Assumes nothing.
use Prim.Native.Nat.{ℕ, zero, suc, ◌+◌, ◌*◌, ◌<◌}
use mathlib.Core.Path.{◌≡◌, refl, sym, ◌∙◌, ap, subst}
use mathlib.Core.Bool.{true}
use mathlib.Core.List.{List, [], ◌∷◌, Memᴰ}
use native.Mathlib.Omega.{arith}
use lib.ListN.{length, get_or}
use Rattle.lists.proofs.Laws.Every.{get_d_mem, mem_place}
use Rattle.stored.specs.Model.{Model, size, type_of, root_of}
use Rattle.stored.proofs.Laws.WellFormed.{WellFormed}
use Rattle.stored.proofs.Laws.Representatives.{rep_root, rep_known}
use Rattle.rows.specs.Maps.{is_map}
use Rattle.rows.specs.Pairs.{pair_count}
use Rattle.rows.proofs.Theorems.Among.{entry_of}
use Rattle.rows.proofs.Theorems.Maps.{map_facts}
use Rattle.rows.proofs.Theorems.Pairs.{named, meant}
use Rattle.rounds.specs.Round.{reps}
use Rattle.rounds.proofs.Theorems.Keys.{reps_below_lem, reps_rep}
use Rattle.search.specs.Find.{pairs_under}
use Rattle.search.proofs.Theorems.Partners.{AllGood}
use Rattle.search.proofs.Theorems.Start.{Honours}

module _ (f g : List ℕ) where
  under_length : (xs : List ℕ) → length (pairs_under f g xs) ≡ 2 * length xs
  unfolding pairs_under
  under_length [] = refl
  under_length (x ∷ xs) = omega (arith, under_length xs)

  pub under_count : (xs : List ℕ) → pair_count (pairs_under f g xs) ≡ length xs
  under_count xs = omega (arith, under_length xs)

  under_left : (xs : List ℕ) (j : ℕ) → j < length xs → get_or (pairs_under f g xs) (2 * j) 0 ≡ entry_of f (get_or xs j 0)
  unfolding pairs_under
  under_left [] j l = absurd (omega arith)
  under_left (x ∷ xs) zero l = refl
  under_left (x ∷ xs) (suc j) l = let e : 2 * suc j ≡ suc (suc (2 * j)) = omega arith in rw e (under_left xs j (omega arith))

  under_right : (xs : List ℕ) (j : ℕ) → j < length xs → get_or (pairs_under f g xs) (2 * j + 1) 0 ≡ entry_of g (get_or xs j 0)
  unfolding pairs_under
  under_right [] j l = absurd (omega arith)
  under_right (x ∷ xs) zero l = refl
  under_right (x ∷ xs) (suc j) l = let e : 2 * suc j + 1 ≡ suc (suc (2 * j + 1)) = omega arith in rw e (under_right xs j (omega arith))

-- what stands at a class of the base is its own representative
image_own : (o m : Model) (f : List ℕ) → is_map o m f ≡ true → (x : ℕ) → Memᴰ x (reps o) → root_of m (entry_of f x) ≡ entry_of f x
image_own o m f e x n = rep_root m.roots (entry_of f x) ((map_facts o m f e).at_rep x (reps_below_lem o x n) (reps_rep o x n)).0

-- a function under a base
abbrev pub Under : Model → List ℕ → List ℕ → (ℕ → ℕ) → Type 0
Under o f g h = (x : ℕ) → Memᴰ x (reps o) → h (entry_of f x) ≡ entry_of g x

module _ (o a b : Model) (f g : List ℕ) (left_map : is_map o a f ≡ true) (right_map : is_map o b g ≡ true) where
  module _ (j : ℕ) (l : j < length (reps o)) where
    its_class : Memᴰ (get_or (reps o) j 0) (reps o)
    its_class = get_d_mem (reps o) j 0 l

    pub under_named : named a (pairs_under f g (reps o)) j ≡ entry_of f (get_or (reps o) j 0)
    under_named = ap (root_of a) (under_left f g (reps o) j l) ∙ image_own o a f left_map (get_or (reps o) j 0) its_class

    pub under_meant : meant b (pairs_under f g (reps o)) j ≡ entry_of g (get_or (reps o) j 0)
    under_meant = ap (root_of b) (under_right f g (reps o) j l) ∙ image_own o b g right_map (get_or (reps o) j 0) its_class

  module _ (h : ℕ → ℕ) where
    pub honours_under : Honours a b (pairs_under f g (reps o)) h → Under o f g h
    honours_under k x m =
        let p = mem_place (reps o) x m in
        let e = k p.0 (omega (arith, p.1, under_count f g (reps o))) in
        subst (λ (v : ℕ). h (entry_of f v) ≡ entry_of g v) (sym p.2) (ap h (sym (under_named p.0 p.1)) ∙ e ∙ under_meant p.0 p.1)

    pub under_honours : Under o f g h → Honours a b (pairs_under f g (reps o)) h
    under_honours k j l =
        let i : j < length (reps o) = omega (arith, under_count f g (reps o)) in
        ap h (under_named j i) ∙ k (get_or (reps o) j 0) (its_class j i) ∙ sym (under_meant j i)

  -- these pairs are good
  pub under_good : WellFormed a → WellFormed b → AllGood a b (pairs_under f g (reps o))
  under_good wa wb j l =
      let i : j < length (reps o) = omega (arith, under_count f g (reps o)) in
      let x = get_or (reps o) j 0 in
      let m = its_class j i in
      let p = (map_facts o a f left_map).at_rep x (reps_below_lem o x m) (reps_rep o x m) in
      let q = (map_facts o b g right_map).at_rep x (reps_below_lem o x m) (reps_rep o x m) in
      let u = under_left f g (reps o) j i in
      let v = under_right f g (reps o) j i in
      record {
        left_known = subst (λ (z : ℕ). z < size a) (sym u) (rep_known a wa (entry_of f x) p.0);
        right_known = subst (λ (z : ℕ). z < size b) (sym v) (rep_known b wb (entry_of g x) q.0);
        one_type = ap (type_of a) u ∙ p.1 ∙ sym q.1 ∙ sym (ap (type_of b) v);
      }
