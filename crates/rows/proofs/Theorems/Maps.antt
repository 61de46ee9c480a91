-- Maps: what `is_map` says as facts; identity and composite are maps, composing is associative and identity neutral, and to apply a composite is
-- to apply twice. Assumes nothing.
use Prim.Native.Nat.{ℕ, ◌+◌, ◌<◌, ◌≤◌, zero-le}
use mathlib.Core.Path.{◌≡◌, refl, sym, ◌∙◌, ap}
use mathlib.Core.Logic.{◌⊎◌, inl, inr}
use mathlib.Core.Bool.{true, false, ◌&&◌, not}
use mathlib.Core.List.{List, map, Memᴰ}
use native.Mathlib.Omega.{arith}
use borrow.Author.Tests.{eqb-true, eq-eqb, not-false}
use lib.ListN.{length, get_or, get_or-eq_default}
use lib.Seq.{ext_get_or}
use lib.Dec.{eqb}
use Rattle.lists.specs.Every.{all, any}
use Rattle.lists.specs.First.{lowest}
use Rattle.lists.specs.Numbers.{up_from}
use Rattle.lists.specs.Order.{same_row}
use Rattle.lists.proofs.Laws.Tests.{split, and_left, and_right, and_both}
use Rattle.lists.proofs.Laws.Every.{all_mem, mem_all, any_mem, mem_any, mem_place}
use Rattle.lists.proofs.Laws.First.{lowest_below, lowest_none}
use Rattle.lists.proofs.Laws.Numbers.{up_from_mem, mem_up_from}
use Rattle.lists.proofs.Laws.Order.{same_row_lem, same_row_refl}
use Rattle.stored.specs.Model.{Model, size, type_of, root_of, is_rep, relation_at}
use Rattle.stored.proofs.Laws.WellFormed.{WellFormed}
use Rattle.stored.proofs.Laws.Representatives.{rep_root, rep_known, root_rep}
use Rattle.rows.proofs.Laws.Rows.{length_through}
use Rattle.lists.proofs.Laws.Entries.{length_entries, entry_at_lem}
use Rattle.rows.specs.Rows.{through, has_row, normal_rows, images_of, rows_kept, kept_by, kept, first_unkept_by, first_unkept}
use Rattle.rows.specs.Maps.{entry_in, entry_holds, is_map, identity_entry, identity_of, then_map}
use Rattle.lists.proofs.Laws.Sets.{mem_map, map_mem}
use Rattle.rows.proofs.Theorems.Through.{through_any, through_through, through_self}

-- each row of a relation has a row of the target that it goes to
unfoldable pub Keeps : Model → Model → List ℕ → ℕ → Type 0
Keeps a b f k =
    (row : List ℕ) → Memᴰ row (relation_at a k).rows → (other : List ℕ) × Memᴰ other (relation_at b k).rows × (through (images_of a f) row ≡ through b.roots other)

module _ (a b : Model) (f : List ℕ) where
  pub kept_keeps : (k : ℕ) → kept a b f k ≡ true → Keeps a b f k
  unfolding Keeps kept_by rows_kept has_row normal_rows
  kept_keeps k h row m =
      let r = mem_any (same_row (through (images_of a f) row)) (map (through b.roots) (relation_at b k).rows) (all_mem (λ (row : List ℕ). any (same_row (through (images_of a f) row)) (map (through b.roots) (relation_at b k).rows)) (relation_at a k).rows h row m) in
      let q = mem_map (through b.roots) (relation_at b k).rows r.0 r.1 in
      (q.0, q.1, same_row_lem (through (images_of a f) row) r.0 r.2 ∙ q.2)

  pub keeps_kept : (k : ℕ) → Keeps a b f k → kept a b f k ≡ true
  unfolding Keeps kept_by rows_kept has_row normal_rows
  keeps_kept k h =
      mem_all (λ (row : List ℕ). any (same_row (through (images_of a f) row)) (map (through b.roots) (relation_at b k).rows)) (relation_at a k).rows
      (λ row m.
      let q = h row m in
      any_mem (same_row (through (images_of a f) row)) (map (through b.roots) (relation_at b k).rows) (through b.roots q.0) (map_mem (through b.roots) (relation_at b k).rows q.0 q.1)
      (rw q.2 (same_row_refl (through b.roots q.0))))

-- what it is to be a map, as facts
pub record Map (a b : Model) (f : List ℕ) : Type 0 where
  pub its_length : length f ≡ size a
  pub at_rep : (x : ℕ) → x < size a → is_rep a x ≡ true → (is_rep b (get_or f x 255) ≡ true) × (type_of b (get_or f x 255) ≡ type_of a x)
  pub at_alias : (x : ℕ) → x < size a → is_rep a x ≡ false → get_or f x 255 ≡ 255
  pub keeps : (k : ℕ) → k < length a.relations → Keeps a b f k

module _ (a b : Model) (f : List ℕ) where
  pub map_facts : is_map a b f ≡ true → Map a b f
  unfolding is_map entry_in first_unkept_by
  map_facts h = record {
    its_length = eqb-true _ _ (and_left (eqb (length f) (size a)) _ h);
    at_rep = λ x l r. let e = rw (r, entry_in) at (entry x l) in (and_left (is_rep b (get_or f x 255)) _ e, eqb-true _ _ (and_right (is_rep b (get_or f x 255)) _ e));
    at_alias = λ x l r. eqb-true _ _ (rw (r, entry_in) at (entry x l));
    keeps = λ k l. kept_keeps a b f k (not-false _ (lowest_below (λ (k : ℕ). not (kept a b f k)) 0 (length a.relations) k zero-le (omega (arith, last))));
  }
    where
      rest : all (entry_holds a b f) (up_from 0 (size a)) && eqb (first_unkept a b f) (length a.relations) ≡ true
      rest = and_right (eqb (length f) (size a)) _ h

      entry : (x : ℕ) → x < size a → entry_holds a b f x ≡ true
      entry x l = all_mem (entry_holds a b f) (up_from 0 (size a)) (and_left (all (entry_holds a b f) (up_from 0 (size a))) _ rest) x (up_from_mem 0 (size a) x zero-le (omega arith))

      last : lowest (λ (k : ℕ). not (kept a b f k)) 0 (length a.relations) ≡ length a.relations
      last = eqb-true _ _ (and_right (all (entry_holds a b f) (up_from 0 (size a))) _ rest)

  pub facts_map : Map a b f → is_map a b f ≡ true
  unfolding is_map entry_in first_unkept_by
  facts_map m =
      and_both (eqb (length f) (size a)) _ (eq-eqb _ _ m.its_length)
      (and_both (all (entry_holds a b f) (up_from 0 (size a))) _ (mem_all (entry_holds a b f) (up_from 0 (size a)) (λ x n. entry x (mem_up_from 0 (size a) x n).1))
      (eq-eqb _ _ (lowest_none (λ (k : ℕ). not (kept a b f k)) 0 (length a.relations) (λ k u l. rw (keeps_kept a b f k (m.keeps k (omega arith)))) ∙ (let z : 0 + length a.relations ≡ length a.relations = omega arith in z))))
    where
      entry : (x : ℕ) → x < 0 + size a → entry_holds a b f x ≡ true
      entry x l = go (split (is_rep a x))
        where
          go : (is_rep a x ≡ true) ⊎ (is_rep a x ≡ false) → entry_holds a b f x ≡ true
          go (inl r) = let q = m.at_rep x (omega arith) r in rw (r, entry_in) (and_both (is_rep b (get_or f x 255)) _ q.0 (eq-eqb _ _ q.1))
          go (inr r) = rw (r, entry_in) (eq-eqb _ _ (m.at_alias x (omega arith) r))

-- what every map of well formed models has
module _ (a b : Model) (wa : WellFormed a) (wb : WellFormed b) (f : List ℕ) (m : Map a b f) where
  pub short : length f ≤ 255
  short = omega (arith, m.its_length, wa.few_elements)

  -- the image of a root is a representative of the target
  pub image_rep : (x : ℕ) → x < size a → is_rep b (get_or f (root_of a x) 255) ≡ true
  image_rep x l = (m.at_rep (root_of a x) (wa.root_known x l) (root_rep a wa x l)).0

-- one map, then another
module _ (a b c : Model) (wa : WellFormed a) (wb : WellFormed b) (wc : WellFormed c) (f g : List ℕ) (m : Map a b f) (n : Map b c g) (same : length a.relations ≡ length b.relations) where
  small : length g ≤ 255
  small = short b c wb wc g n

  images_then : images_of a (then_map f g) ≡ through g (images_of a f)
  unfolding images_of then_map
  images_then = through_through g f a.roots small

  then_images : (row : List ℕ) → through (images_of b g) row ≡ through g (through b.roots row)
  unfolding images_of
  then_images row = through_through g b.roots row small

  pub then_map_lem : Map a c (then_map f g)
  unfolding then_map Keeps
  then_map_lem = record {
    its_length = length_through g f ∙ m.its_length;
    at_rep = λ x l r.
        let p = m.at_rep x l r in
        let q = n.at_rep (get_or f x 255) (rep_known b wb (get_or f x 255) p.0) p.0 in
        rw (through_any g f x small) (q.0, q.1 ∙ p.1);
    at_alias = λ x l r. through_any g f x small ∙ ap (λ (y : ℕ). get_or g y 255) (m.at_alias x l r) ∙ get_or-eq_default g 255 small;
    keeps = λ k l row mem.
        let p = m.keeps k l row mem in
        let q = n.keeps k (omega arith) p.0 p.1 in
        (q.0, q.1, carried row p.0 q.0 p.2 q.2);
  }
    where
      carried : (row other last : List ℕ) → through (images_of a f) row ≡ through b.roots other → through (images_of b g) other ≡ through c.roots last → through (images_of a (then_map f g)) row ≡ through c.roots last
      carried row other last p q =
          ap (λ (t : List ℕ). through t row) images_then
          ∙ through_through g (images_of a f) row small
          ∙ ap (through g) p
          ∙ sym (then_images other)
          ∙ q

-- composing is associative
pub then_associative : (f g h : List ℕ) → length h ≤ 255 → then_map (then_map f g) h ≡ then_map f (then_map g h)
unfolding then_map
then_associative f g h l = sym (through_through h g f l)

-- to apply a composite is to apply twice
pub apply_then : (a b c : Model) → WellFormed a → WellFormed b → (f g : List ℕ) → Map a b f → length g ≤ 255 → (x : ℕ) → x < size a → get_or (then_map f g) (root_of a x) 255 ≡ get_or g (root_of b (get_or f (root_of a x) 255)) 255
unfolding then_map
apply_then a b c wa wb f g m s x l =
    through_any g f (root_of a x) s
    ∙ ap (λ (y : ℕ). get_or g y 255) (sym (rep_root b.roots (get_or f (root_of a x) 255) (image_rep a b wa wb f m x l)))

-- the identity
module _ (a : Model) (wa : WellFormed a) where
  pub identity_length : length (identity_of a) ≡ size a
  unfolding identity_of
  identity_length = length_entries (identity_entry a.roots) (size a)

  identity_at : (x : ℕ) → x < size a → get_or (identity_of a) x 255 ≡ identity_entry a.roots x
  unfolding identity_of
  identity_at x l = entry_at_lem (identity_entry a.roots) (size a) x 255 l

  pub identity_rep : (x : ℕ) → is_rep a x ≡ true → get_or (identity_of a) x 255 ≡ x
  unfolding identity_entry
  identity_rep x r = identity_at x (rep_known a wa x r) ∙ rw (r, identity_entry)

  pub identity_alias : (x : ℕ) → x < size a → is_rep a x ≡ false → get_or (identity_of a) x 255 ≡ 255
  unfolding identity_entry
  identity_alias x l r = identity_at x l ∙ rw (r, identity_entry)

  -- it leaves the roots as they are
  identity_images : images_of a (identity_of a) ≡ a.roots
  unfolding images_of
  identity_images = through_self (identity_of a) a.roots (λ x m. identity_rep x (of_place x (mem_place a.roots x m)))
    where
      of_place : (x : ℕ) → ((i : ℕ) × (i < length a.roots) × (x ≡ get_or a.roots i 0)) → is_rep a x ≡ true
      of_place x p = rw p.2 (root_rep a wa p.0 (omega (arith, p.1, wa.roots_length)))

  pub identity_map : Map a a (identity_of a)
  unfolding Keeps
  identity_map = record {
    its_length = identity_length;
    at_rep = λ x l r. rw (identity_rep x r) (r, refl);
    at_alias = identity_alias;
    keeps = λ k l row m. (row, m, ap (λ (t : List ℕ). through t row) identity_images);
  }

module _ (a b : Model) (wa : WellFormed a) (wb : WellFormed b) (f : List ℕ) (m : Map a b f) where
  -- the identity first, or last, changes nothing
  pub identity_then : then_map (identity_of a) f ≡ f
  unfolding then_map
  identity_then = ext_get_or 255 (through f (identity_of a)) f (length_through f (identity_of a) ∙ identity_length a wa ∙ sym m.its_length) (λ x l. through_any f (identity_of a) x (short a b wa wb f m) ∙ same x (omega (arith, l, length_through f (identity_of a), identity_length a wa)) (split (is_rep a x)))
    where
      same : (x : ℕ) → x < size a → (is_rep a x ≡ true) ⊎ (is_rep a x ≡ false) → get_or f (get_or (identity_of a) x 255) 255 ≡ get_or f x 255
      same x l (inl r) = rw (identity_rep a wa x r)
      same x l (inr r) = rw (identity_alias a wa x l r) (get_or-eq_default f 255 (short a b wa wb f m) ∙ sym (m.at_alias x l r))

  pub then_identity : then_map f (identity_of b) ≡ f
  unfolding then_map
  then_identity = ext_get_or 255 (through (identity_of b) f) f (length_through (identity_of b) f) (λ x l. through_any (identity_of b) f x small_b ∙ same x (omega (arith, l, length_through (identity_of b) f, m.its_length)) (split (is_rep a x)))
    where
      small_b : length (identity_of b) ≤ 255
      small_b = omega (arith, identity_length b wb, wb.few_elements)

      same : (x : ℕ) → x < size a → (is_rep a x ≡ true) ⊎ (is_rep a x ≡ false) → get_or (identity_of b) (get_or f x 255) 255 ≡ get_or f x 255
      same x l (inl r) = identity_rep b wb (get_or f x 255) (m.at_rep x l r).0
      same x l (inr r) = rw (m.at_alias x l r) (get_or-eq_default (identity_of b) 255 small_b)
