-- The laws of the cells of both models: relation by relation, where they stand in the files, that they are few, and that each holds an element. Assumes
-- nothing.
use Prim.Native.Nat.{ℕ, zero, suc, ◌+◌, ◌-◌, ◌*◌, ◌<◌, ◌≤◌}
use mathlib.Core.Path.{◌≡◌, refl, sym, ◌∙◌, ap, subst}
use mathlib.Core.Logic.{◌⊎◌, inl, inr, by_cases}
use mathlib.Core.List.Memᴰ
use mathlib.Core.List.{List, [], ◌∷◌, ◌++◌, map, map-append, append_assoc, Memᴰ}
use native.Mathlib.Omega.{arith}
use native.Mathlib.Nat.{suc-mul}
use native.Mathlib.Numerals.{add-one}
use native.Mathlib.Decide.{dec_le}
use lib.ListN.{length, get_or, take, drop, length-append, length-map, drop_of_length-le, get_or-eq_default}
use lib.Seq.{take-add, drop-cons}
use Rattle.lists.specs.Part.{part, rows_of}
use Rattle.lists.proofs.Laws.Every.{get_d_mem}
use Rattle.lists.proofs.Laws.Part.{length_part, take_part, rows_of_none, rows_of_cons}
use Rattle.lists.proofs.Laws.Sets.{mem_map}
use Rattle.stored.specs.Model.{Rel, Model, no_relation, relation_at}
use Rattle.stored.specs.Layout.{arity}
use Rattle.stored.proofs.Laws.WellFormed.{WellFormed, cells}
use Rattle.stored.proofs.Laws.Cells.{cells_none, cells_more, row_length}
use Rattle.stored.proofs.Laws.Canonical.{RowsThere}
use Rattle.stored.proofs.Laws.Representatives.{entry_known}
use Rattle.rounds.specs.Board.{flat, raised, joined_at, joined_from, joined, cells_of}

-- rows one after the other
pub flat_append : (rows others : List (List ℕ)) → flat (rows ++ others) ≡ flat rows ++ flat others
unfolding flat
flat_append [] others = refl
flat_append (row ∷ rows) others = ap (λ (l : List ℕ). row ++ l) (flat_append rows others) ∙ sym (append_assoc row (flat rows) (flat others))

pub flat_map : (f : ℕ → ℕ) (rows : List (List ℕ)) → flat (map (map f) rows) ≡ map f (flat rows)
unfolding flat
flat_map f [] = refl
flat_map f (row ∷ rows) = ap (λ (l : List ℕ). map f row ++ l) (flat_map f rows) ∙ sym (map-append f row (flat rows))

pub flat_rows_of : (a c : ℕ) (s : List ℕ) → flat (rows_of a c s) ≡ take (c * a) s
unfolding flat
flat_rows_of a zero s = let e : 0 * a ≡ 0 = omega arith in rw (e, rows_of_none a s)
flat_rows_of a (suc c) s =
    let e : a + c * a ≡ suc c * a = omega (arith, suc-mul c a) in
    ap flat (rows_of_cons a c s)
    ∙ ap (λ (l : List ℕ). take a s ++ l) (flat_rows_of a c (drop a s))
    ∙ sym (take-add a (c * a) s)
    ∙ ap (λ (n : ℕ). take n s) e

pub length_flat : (a : ℕ) (rows : List (List ℕ)) → ((row : List ℕ) → Memᴰ row rows → length row ≡ a) → length (flat rows) ≡ length rows * a
unfolding flat
length_flat a [] h = omega arith
length_flat a (row ∷ rows) h =
    let ih = length_flat a rows (λ r m. h r (Memᴰ.tail m)) in
    omega (arith, length-append row (flat rows), h row (Memᴰ.head refl), ih, suc-mul (length rows) a)

pub mem_flat : (rows : List (List ℕ)) (x : ℕ) → Memᴰ x (flat rows) → (row : List ℕ) × Memᴰ row rows × Memᴰ x row
unfolding flat
mem_flat [] x m = absurd (Memᴰ.not-nil m)
mem_flat (row ∷ rows) x m = go (Memᴰ.append_cases row m) (mem_flat rows x)
  where
    go : Memᴰ x row ⊎ Memᴰ x (flat rows) → (Memᴰ x (flat rows) → (r : List ℕ) × Memᴰ r rows × Memᴰ x r) → (r : List ℕ) × Memᴰ r (row ∷ rows) × Memᴰ x r
    go (inl n) ih = (row, Memᴰ.head refl, n)
    go (inr n) ih = let r = ih n in (r.0, Memᴰ.tail r.1, r.2)

-- an element raised by nothing, or as the right's
pub raised_none : (xs : List ℕ) → map (λ (x : ℕ). x + 0) xs ≡ xs
raised_none [] = refl
raised_none (x ∷ xs) = let e : x + 0 ≡ x = omega arith in rw (e, raised_none xs)

pub raised_all : (xs : List ℕ) → map (λ (x : ℕ). x + 64) xs ≡ map raised xs
unfolding raised
raised_all xs = refl

-- the rows of a relation, as they stand in a file
module _ (s : List ℕ) (rows : List (List ℕ)) (start a c : ℕ) (there : RowsThere s rows start a c) where
  pub rows_inside : start + c * a ≤ length s
  rows_inside = omega (arith, there.begins, there.inside, length_part s start (length s - start) (omega (arith, there.begins)))

  pub rows_flat : part s start (c * a) ≡ flat rows
  rows_flat =
      sym (take_part s start (length s - start) (c * a) (omega (arith, rows_inside)))
      ∙ sym (flat_rows_of a c (part s start (length s - start)))
      ∙ ap flat there.same

  pub rows_length : length (flat rows) ≡ c * a
  rows_length = ap length (sym rows_flat) ∙ length_part s start (c * a) rows_inside

module _ (a b : Model) where
  -- the cells of a relation: the left's, then the right's
  abbrev pub left_cells : ℕ → List ℕ
  left_cells k = flat (relation_at a k).rows

  abbrev pub right_cells : ℕ → List ℕ
  right_cells k = map raised (flat (relation_at b k).rows)

  pub cells_from_lem : (n k : ℕ) → cells_of (joined_from (suc n) a b k) ≡ left_cells k ++ (right_cells k ++ cells_of (joined_from n a b (suc k)))
  unfolding joined_from joined_at cells_of
  cells_from_lem n k =
      ap (λ (l : List ℕ). l ++ cells_of (joined_from n a b (suc k))) (flat_append (relation_at a k).rows (map (map raised) (relation_at b k).rows) ∙ ap (λ (l : List ℕ). left_cells k ++ l) (flat_map raised (relation_at b k).rows))
      ∙ append_assoc (left_cells k) (right_cells k) (cells_of (joined_from n a b (suc k)))

  pub cells_over : (k : ℕ) → cells_of (joined_from 0 a b k) ≡ []
  unfolding joined_from cells_of
  cells_over k = refl

  module _ (n k : ℕ) where
    pub cells_next : k < n → cells_of (joined_from (n - k) a b k) ≡ left_cells k ++ (right_cells k ++ cells_of (joined_from (n - (k + 1)) a b (k + 1)))
    cells_next h =
        let e : n - k ≡ suc (n - (k + 1)) = omega arith in
        ap (λ (j : ℕ). cells_of (joined_from j a b k)) e
        ∙ cells_from_lem (n - (k + 1)) k
        ∙ ap (λ (j : ℕ). left_cells k ++ (right_cells k ++ cells_of (joined_from (n - (k + 1)) a b j))) (sym (add-one k))

    pub cells_end : n ≤ k → cells_of (joined_from (n - k) a b k) ≡ []
    cells_end h = let e : n - k ≡ 0 = omega arith in ap (λ (j : ℕ). cells_of (joined_from j a b k)) e ∙ cells_over k

-- the cells of the relations from k on
module _ (m : Model) (w : WellFormed m) where
  cells_step : (k : ℕ) → length (flat (relation_at m k).rows) + cells (drop (suc k) m.relations) ≤ cells (drop k m.relations)
  unfolding flat
  cells_step k =
      by_cases (dec_le (suc k) (length m.relations))
      (λ l.
      let f = w.each_formed (relation_at m k) (get_d_mem m.relations k no_relation l) in
      let e = length_flat (arity (relation_at m k)) (relation_at m k).rows (row_length m.sizes (relation_at m k) f) in
      rw (drop-cons m.relations k no_relation l) (omega (arith, e, cells_more (relation_at m k) (drop (suc k) m.relations))))
      (λ l.
      let none : relation_at m k ≡ no_relation = get_or-eq_default m.relations no_relation {n = k} (omega arith) in
      let past : drop (suc k) m.relations ≡ [] = drop_of_length-le m.relations {i = suc k} (omega arith) in
      let zero-cells = ap cells past ∙ cells_none in
      let no_rows = ap (λ (r : Rel). length (flat r.rows)) none in
      omega (arith, zero-cells, no_rows))

  entry_small : (k x : ℕ) → Memᴰ x (flat (relation_at m k).rows) → x < 64
  entry_small k x n = let r = mem_flat (relation_at m k).rows x n in let l = entry_known m w k r.0 r.1 x r.2 in omega (arith, w.few_elements)

-- the cells of both are few, and an element stands in each
module _ (a b : Model) (wa : WellFormed a) (wb : WellFormed b) where
  length_from : (n k : ℕ) → length (cells_of (joined_from n a b k)) ≤ cells (drop k a.relations) + cells (drop k b.relations)
  length_from zero k = omega (arith, ap length (cells_over a b k))
  length_from (suc n) k =
      let e = ap length (cells_from_lem a b n k) in
      let p = length-append (left_cells a b k) (right_cells a b k ++ cells_of (joined_from n a b (suc k))) in
      let q = length-append (right_cells a b k) (cells_of (joined_from n a b (suc k))) in
      omega (arith, e, p, q, length-map (flat (relation_at b k).rows) raised, length_from n (suc k), cells_step a wa k, cells_step b wb k)

  pub cells_few : length (cells_of (joined a b)) ≤ 4096
  cells_few = omega (arith, length_from (length a.relations) 0, wa.few_cells, wb.few_cells)

  known_from : (n k x : ℕ) → Memᴰ x (cells_of (joined_from n a b k)) → x < 128
  unfolding raised
  known_from zero k x m = absurd (Memᴰ.not-nil (subst (Memᴰ x) (cells_over a b k) m))
  known_from (suc n) k x m = go (Memᴰ.append_cases (left_cells a b k) (subst (Memᴰ x) (cells_from_lem a b n k) m)) (known_from n (suc k) x)
    where
      right : Memᴰ x (right_cells a b k) ⊎ Memᴰ x (cells_of (joined_from n a b (suc k))) → (Memᴰ x (cells_of (joined_from n a b (suc k))) → x < 128) → x < 128
      right (inl q) ih = let r = mem_map raised (flat (relation_at b k).rows) x q in let l = entry_small b wb k r.0 r.1 in omega (arith, r.2)
      right (inr q) ih = ih q

      go : Memᴰ x (left_cells a b k) ⊎ Memᴰ x (right_cells a b k ++ cells_of (joined_from n a b (suc k))) → (Memᴰ x (cells_of (joined_from n a b (suc k))) → x < 128) → x < 128
      go (inl q) ih = let l = entry_small a wa k x q in omega arith
      go (inr q) ih = right (Memᴰ.append_cases (right_cells a b k) q) ih

  pub cells_known : (c : ℕ) → c < length (cells_of (joined a b)) → get_or (cells_of (joined a b)) c 0 < 128
  cells_known c h = known_from (length a.relations) 0 _ (get_d_mem (cells_of (joined a b)) c 0 h)
