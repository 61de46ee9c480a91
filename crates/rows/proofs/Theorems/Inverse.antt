-- The inverse of a map that is one to one and onto the classes, where each relation has as many normalised rows on both sides: it is a map, and
-- the two maps undo each other. The rows go back because the images of the source's rows are as many as the target's. Assumes nothing.
use Prim.Native.Nat.{ℕ, ◌<◌, ◌≤◌, zero-le}
use mathlib.Core.Path.{◌≡◌, sym, ◌∙◌, ap, subst, subst⁻¹}
use mathlib.Core.Logic.{◌⊎◌, inl, inr}
use mathlib.Core.Bool.{true, false, ◌||◌}
use mathlib.Core.List.{List, map, Memᴰ}
use native.Mathlib.Omega.{arith}
use borrow.Author.Tests.{eqb-true, ltb-true}
use lib.ListN.{length, get_or, length-map, get_or-eq_default}
use lib.Seq.{ext_get_or}
use lib.Dec.{eqb}
use Rattle.lists.specs.First.{first_at, firsts}
use Rattle.lists.specs.Numbers.{up_from}
use Rattle.lists.specs.Order.{same_row}
use Rattle.lists.proofs.Laws.Tests.{split, and_left, and_right}
use Rattle.lists.proofs.Laws.Every.{all_mem, get_d_inside}
use Rattle.lists.proofs.Laws.First.{first_at_passes}
use Rattle.lists.proofs.Laws.Numbers.{up_from_mem}
use Rattle.lists.proofs.Laws.Order.{same_row_lem, same_row_refl}
use Rattle.stored.specs.Model.{Model, size, type_of, root_of, is_rep, relation_at}
use Rattle.stored.proofs.Laws.WellFormed.{WellFormed}
use Rattle.stored.proofs.Laws.Representatives.{rep_known, root_rep}
use Rattle.rows.proofs.Laws.Rows.{length_through}
use Rattle.lists.proofs.Laws.Entries.{length_entries, entry_at_lem}
use Rattle.rows.specs.Rows.{through, normal_rows, normal_count, images_of}
use Rattle.rows.specs.Maps.{identity_of, then_map, alone, one_to_one, reached, onto, same_count, same_counts, invertible, inverse_entry, inverse_of}
use Rattle.lists.proofs.Laws.Sets.{Distinct, covers, map_distinct, mem_map, map_mem, firsts_distinct, mem_firsts, firsts_mem}
use Rattle.rows.proofs.Theorems.Through.{through_any, through_through, through_self, through_apart}
use Rattle.rows.proofs.Theorems.Maps.{Keeps, Map, short, identity_length, identity_rep, identity_alias}

module _ (a b : Model) (wa : WellFormed a) (wb : WellFormed b) (f : List ℕ) (m : Map a b f) (known : (k : ℕ) (row : List ℕ) → Memᴰ row (relation_at a k).rows → (x : ℕ) → Memᴰ x row → x < size a) (h : invertible a b f ≡ true) where
  is_one_to_one : one_to_one f ≡ true
  unfolding invertible
  is_one_to_one = and_left (one_to_one f) _ h

  is_onto : onto b f ≡ true
  unfolding invertible
  is_onto = and_left (onto b f) _ (and_right (one_to_one f) _ h)

  has_counts : same_counts a b ≡ true
  unfolding invertible
  has_counts = and_right (onto b f) _ (and_right (one_to_one f) _ h)

  -- an image stands in the map where it is first asked for
  back : (x : ℕ) → is_rep a x ≡ true → first_at (eqb (get_or f x 255)) f ≡ x
  unfolding one_to_one alone
  back x r = go (split (eqb (get_or f x 255) 255)) (all_mem (alone f) (up_from 0 (length f)) is_one_to_one x (up_from_mem 0 (length f) x zero-le (omega (arith, rep_known a wa x r, m.its_length))))
    where
      below : get_or f x 255 < size b
      below = rep_known b wb (get_or f x 255) (m.at_rep x (rep_known a wa x r) r).0

      go : (eqb (get_or f x 255) 255 ≡ true) ⊎ (eqb (get_or f x 255) 255 ≡ false) → eqb (get_or f x 255) 255 || eqb (first_at (eqb (get_or f x 255)) f) x ≡ true → first_at (eqb (get_or f x 255)) f ≡ x
      go (inl e) q = absurd (let z = eqb-true (get_or f x 255) 255 e in omega (arith, below, wb.few_elements))
      go (inr e) q = eqb-true _ _ (rw e at q)

  -- so representatives with one image are one
  apart : (x y : ℕ) → is_rep a x ≡ true → is_rep a y ≡ true → get_or f x 255 ≡ get_or f y 255 → x ≡ y
  apart x y r q e = sym (back x r) ∙ ap (λ (z : ℕ). first_at (eqb z) f) e ∙ back y q

  -- each target representative is the image of a source representative
  there : (y : ℕ) → is_rep b y ≡ true → (first_at (eqb y) f < length f) × (get_or f (first_at (eqb y) f) 255 ≡ y) × (is_rep a (first_at (eqb y) f) ≡ true)
  unfolding onto reached
  there y r = (l, e, rep (split (is_rep a (first_at (eqb y) f))))
    where
      l : first_at (eqb y) f < length f
      l = ltb-true _ _ (rw r at (all_mem (reached b.roots f) (up_from 0 (size b)) is_onto y (up_from_mem 0 (size b) y zero-le (omega (arith, rep_known b wb y r)))))

      e : get_or f (first_at (eqb y) f) 255 ≡ y
      e = sym (eqb-true _ _ (first_at_passes (eqb y) 255 f l))

      rep : (is_rep a (first_at (eqb y) f) ≡ true) ⊎ (is_rep a (first_at (eqb y) f) ≡ false) → is_rep a (first_at (eqb y) f) ≡ true
      rep (inl q) = q
      rep (inr q) = absurd (let z = m.at_alias (first_at (eqb y) f) (omega (arith, l, m.its_length)) q in omega (arith, e, rep_known b wb y r, wb.few_elements))

  pub inverse_length : length (inverse_of b f) ≡ size b
  unfolding inverse_of
  inverse_length = length_entries (inverse_entry b.roots f) (size b)

  inverse_short : length (inverse_of b f) ≤ 255
  inverse_short = omega (arith, inverse_length, wb.few_elements)

  pub inverse_rep : (y : ℕ) → is_rep b y ≡ true → get_or (inverse_of b f) y 255 ≡ first_at (eqb y) f
  unfolding inverse_of inverse_entry
  inverse_rep y r = entry_at_lem (inverse_entry b.roots f) (size b) y 255 (rep_known b wb y r) ∙ rw (r, inverse_entry)

  pub inverse_alias : (y : ℕ) → y < size b → is_rep b y ≡ false → get_or (inverse_of b f) y 255 ≡ 255
  unfolding inverse_of inverse_entry
  inverse_alias y l r = entry_at_lem (inverse_entry b.roots f) (size b) y 255 l ∙ rw (r, inverse_entry)

  -- there and back, back and there
  pub then_inverse : then_map f (inverse_of b f) ≡ identity_of a
  unfolding then_map
  then_inverse = ext_get_or 255 (through (inverse_of b f) f) (identity_of a) (length_through (inverse_of b f) f ∙ m.its_length ∙ sym (identity_length a wa)) (λ x l. through_any (inverse_of b f) f x inverse_short ∙ same x (omega (arith, l, length_through (inverse_of b f) f, m.its_length)) (split (is_rep a x)))
    where
      same : (x : ℕ) → x < size a → (is_rep a x ≡ true) ⊎ (is_rep a x ≡ false) → get_or (inverse_of b f) (get_or f x 255) 255 ≡ get_or (identity_of a) x 255
      same x l (inl r) = inverse_rep (get_or f x 255) (m.at_rep x l r).0 ∙ back x r ∙ sym (identity_rep a wa x r)
      same x l (inr r) = ap (λ (y : ℕ). get_or (inverse_of b f) y 255) (m.at_alias x l r) ∙ get_or-eq_default (inverse_of b f) 255 inverse_short ∙ sym (identity_alias a wa x l r)

  pub inverse_then : then_map (inverse_of b f) f ≡ identity_of b
  unfolding then_map
  inverse_then = ext_get_or 255 (through f (inverse_of b f)) (identity_of b) (length_through f (inverse_of b f) ∙ inverse_length ∙ sym (identity_length b wb)) (λ y l. through_any f (inverse_of b f) y (short a b wa wb f m) ∙ same y (omega (arith, l, length_through f (inverse_of b f), inverse_length)) (split (is_rep b y)))
    where
      same : (y : ℕ) → y < size b → (is_rep b y ≡ true) ⊎ (is_rep b y ≡ false) → get_or f (get_or (inverse_of b f) y 255) 255 ≡ get_or (identity_of b) y 255
      same y l (inl r) = ap (λ (x : ℕ). get_or f x 255) (inverse_rep y r) ∙ (there y r).1 ∙ sym (identity_rep b wb y r)
      same y l (inr r) = ap (λ (x : ℕ). get_or f x 255) (inverse_alias y l r) ∙ get_or-eq_default f 255 (short a b wa wb f m) ∙ sym (identity_alias b wb y l r)

  -- a row of representatives comes back
  through_undone : (r : List ℕ) → ((x : ℕ) → Memᴰ x r → is_rep a x ≡ true) → through (inverse_of b f) (through f r) ≡ r
  unfolding then_map
  through_undone r q =
      sym (through_through (inverse_of b f) f r inverse_short)
      ∙ ap (λ (t : List ℕ). through t r) then_inverse
      ∙ through_self (identity_of a) r (λ x o. identity_rep a wa x (q x o))

  -- the rows of one relation go back
  module _ (k : ℕ) (lk : k < length a.relations) where
    -- entries of a normalised row are representatives
    normal_reps : (row : List ℕ) → Memᴰ row (normal_rows a (relation_at a k)) → (x : ℕ) → Memᴰ x row → is_rep a x ≡ true
    unfolding normal_rows through
    normal_reps row n x q =
        let p = mem_map (through a.roots) (relation_at a k).rows row n in
        let y = mem_map (λ (z : ℕ). get_or a.roots z 255) p.0 x (subst (Memᴰ x) p.2 q) in
        let l = known k p.0 p.1 y.0 y.1 in
        let e : x ≡ root_of a y.0 = y.2 ∙ get_d_inside a.roots y.0 255 0 (omega (arith, l, wa.roots_length)) in
        rw e (root_rep a wa y.0 l)

    -- the image of a normalised row is a normalised row of the target
    image_there : (row : List ℕ) → Memᴰ row (normal_rows a (relation_at a k)) → Memᴰ (through f row) (normal_rows b (relation_at b k))
    unfolding normal_rows Keeps images_of
    image_there row n =
        let p = mem_map (through a.roots) (relation_at a k).rows row n in
        let q = m.keeps k lk p.0 p.1 in
        let e : through f row ≡ through b.roots q.0 = ap (through f) p.2 ∙ sym (through_through f a.roots p.0 (short a b wa wb f m)) ∙ q.2 in
        subst⁻¹ (λ (y : List ℕ). Memᴰ y (map (through b.roots) (relation_at b k).rows)) e (map_mem (through b.roots) (relation_at b k).rows q.0 q.1)

    normal : (row : List ℕ) → Memᴰ row (firsts same_row (normal_rows a (relation_at a k))) → Memᴰ row (normal_rows a (relation_at a k))
    normal row n = mem_firsts same_row (normal_rows a (relation_at a k)) row n

    images_distinct : Distinct (map (through f) (firsts same_row (normal_rows a (relation_at a k))))
    images_distinct =
        map_distinct (through f) (firsts same_row (normal_rows a (relation_at a k)))
        (λ r q n o e. through_apart f r q (λ x y p s d. apart x y (normal_reps r (normal r n) x p) (normal_reps q (normal q o) y s) d) e)
        (firsts_distinct same_row same_row_lem same_row_refl (normal_rows a (relation_at a k)))

    counts : normal_count a (relation_at a k) ≡ normal_count b (relation_at b k)
    unfolding same_counts same_count
    counts = eqb-true _ _ (all_mem (same_count a b) (up_from 0 (length a.relations)) has_counts k (up_from_mem 0 (length a.relations) k zero-le (omega arith)))

    -- so every normalised row of the target is such an image
    is_image : (y : List ℕ) → Memᴰ y (normal_rows b (relation_at b k)) → (row : List ℕ) × Memᴰ row (normal_rows a (relation_at a k)) × (y ≡ through f row)
    unfolding normal_count
    is_image y n =
        let from = firsts same_row (normal_rows a (relation_at a k)) in
        let to = firsts same_row (normal_rows b (relation_at b k)) in
        let within = covers (map (through f) from) to images_distinct (λ z q. into z (mem_map (through f) from z q)) (omega (arith, counts, length-map from (through f))) y (firsts_mem same_row same_row_lem same_row_refl (normal_rows b (relation_at b k)) y n) in
        let r = mem_map (through f) from y within in
        (r.0, normal r.0 r.1, r.2)
      where
        into : (z : List ℕ) → ((row : List ℕ) × Memᴰ row (firsts same_row (normal_rows a (relation_at a k))) × (z ≡ through f row)) → Memᴰ z (firsts same_row (normal_rows b (relation_at b k)))
        into z p = subst⁻¹ (λ (w : List ℕ). Memᴰ w (firsts same_row (normal_rows b (relation_at b k)))) p.2 (firsts_mem same_row same_row_lem same_row_refl (normal_rows b (relation_at b k)) (through f p.0) (image_there p.0 (normal p.0 p.1)))

    goes_back : Keeps b a (inverse_of b f) k
    unfolding Keeps normal_rows images_of
    goes_back row n =
        let d = is_image (through b.roots row) (map_mem (through b.roots) (relation_at b k).rows row n) in
        let p = mem_map (through a.roots) (relation_at a k).rows d.0 d.1 in (
          p.0,
          p.1,
          through_through (inverse_of b f) b.roots row inverse_short
              ∙ ap (through (inverse_of b f)) d.2
              ∙ undone d.0 d.1
              ∙ p.2,
        )
      where
        undone : (r : List ℕ) → Memᴰ r (map (through a.roots) (relation_at a k).rows) → through (inverse_of b f) (through f r) ≡ r
        undone r q = through_undone r (λ x o. normal_reps r q x o)

  pub inverse_map : length a.relations ≡ length b.relations → Map b a (inverse_of b f)
  inverse_map same = record {
    its_length = inverse_length;
    at_rep = λ y l r. let q = there y r in rw (inverse_rep y r) (q.2, sym (m.at_rep (first_at (eqb y) f) (omega (arith, q.0, m.its_length)) q.2).1 ∙ ap (type_of b) q.1);
    at_alias = inverse_alias;
    keeps = λ k l. goes_back k (omega arith);
  }
