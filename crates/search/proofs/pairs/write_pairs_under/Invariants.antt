-- `search::pairs::write_pairs_under` meets its contract. The invariant: the pairs of the representatives below x are written over the front, and n
-- counts their bytes. Assumes nothing.
use Prim.Native.Nat.{ℕ, ◌+◌, ◌*◌, ◌<◌, ◌≤◌}
use mathlib.Core.Path.{◌≡◌, sym, ◌∙◌, ap}
use mathlib.Core.Bool.{Bool, true, false}
use mathlib.Core.List.{List, [], ◌∷◌, ◌++◌, append_assoc}
use native.Mathlib.Omega.{arith}
use lib.ListN.{length, get_or, set, length-append}
use Rattle.lists.specs.Every.{keep}
use Rattle.lists.specs.Numbers.{up_from}
use Rattle.lists.specs.Part.{over}
use Rattle.lists.proofs.Laws.Over.{over_none, over_at_lem}
use Rattle.stored.specs.Model.{is_rep_in}
use Rattle.search.specs.Find.{pairs_under}
use Rattle.search.proofs.Laws.Reps.{kept_none, kept_more, kept_same}
use Rattle.search.proofs.Laws.Pairs.{under_none, under_more}
use Rattle.search.proofs.pairs.write_pairs_under.Given as goal

-- the pairs of the representatives below a number
abbrev pub under : List ℕ → List ℕ → List ℕ → ℕ → List ℕ
under roots f g x = pairs_under f g (keep (is_rep_in roots) (up_from 0 x))

pub record Written (roots f g out₀ out : List ℕ) (n x : ℕ) : Type 0 where
  pub fits : 2 * length roots ≤ length out₀
  pub few : n ≤ 2 * x
  pub counted : n ≡ length (under roots f g x)
  pub so_far : out ≡ over (under roots f g x) out₀

pub start : (roots f g out₀ : List ℕ) → 2 * length roots ≤ length out₀ → Written roots f g out₀ out₀ 0 0
start roots f g out₀ h =
    let e : under roots f g 0 ≡ [] = ap (pairs_under f g) (kept_none (is_rep_in roots)) ∙ under_none f g in
    record {
      fits = h;
      few = omega arith;
      counted = sym (ap length e);
      so_far = sym (ap (λ (l : List ℕ). over l out₀) e ∙ over_none out₀);
    }

-- two bytes more
two_more : (xs old : List ℕ) (n y z : ℕ) → n ≡ length xs → n + 1 < length old → set (set (over xs old) n y) (n + 1) z ≡ over (xs ++ y ∷ z ∷ []) old
two_more xs old n y z e h =
    ap (λ (l : List ℕ). set l (n + 1) z) (over_at_lem xs old y n (sym e) (omega arith))
    ∙ over_at_lem (xs ++ y ∷ []) old z (n + 1) (length-append xs (y ∷ []) ∙ ap (λ (k : ℕ). k + 1) (sym e)) h
    ∙ ap (λ (l : List ℕ). over l old) (append_assoc xs (y ∷ []) (z ∷ []))

module _ {roots f g out₀ out : List ℕ} {n x : ℕ} (i : Written roots f g out₀ out n x) where
  module _ (h : x < length roots) where
    room : n + 1 < length out₀
    room = omega (arith, i.few, i.fits)

    module _ {r : Bool} (e : r ≡ is_rep_in roots x) where
      pub pair : r ≡ true → {y z : ℕ} → y ≡ get_or f x 255 → z ≡ get_or g x 255 → {new : List ℕ} {m : ℕ} → new ≡ set (set out n y) (n + 1) z → m ≡ n + 2 → Written roots f g out₀ new m (x + 1)
      pair t {y} {z} u v q w =
          let k : under roots f g (x + 1) ≡ under roots f g x ++ y ∷ z ∷ [] = ap (pairs_under f g) (kept_more (is_rep_in roots) x (sym e ∙ t)) ∙ under_more f g (keep (is_rep_in roots) (up_from 0 x)) x ∙ rw (u, v) in
          record {
            fits = i.fits;
            few = omega (arith, i.few);
            counted = w ∙ ap (λ (j : ℕ). j + 2) i.counted ∙ sym (ap length k ∙ length-append (under roots f g x) (y ∷ z ∷ []));
            so_far = q ∙ ap (λ (l : List ℕ). set (set l n y) (n + 1) z) i.so_far ∙ two_more (under roots f g x) out₀ n y z i.counted room ∙ ap (λ (l : List ℕ). over l out₀) (sym k);
          }

      pub none : r ≡ false → {new : List ℕ} {m : ℕ} → new ≡ out → m ≡ n → Written roots f g out₀ new m (x + 1)
      none b q w =
          let k : under roots f g (x + 1) ≡ under roots f g x = ap (pairs_under f g) (kept_same (is_rep_in roots) x (sym e ∙ b)) in
          record {
            fits = i.fits;
            few = omega (arith, i.few);
            counted = w ∙ i.counted ∙ sym (ap length k);
            so_far = q ∙ i.so_far ∙ ap (λ (l : List ℕ). over l out₀) (sym k);
          }

abbrev pub invariant-loop-x : goal.invariant-loop-x
invariant-loop-x l = Written l.roots l.to_left l.to_right l.initial.out l.out l.n l.x
