-- Closing: a map passes the closing check exactly if it takes the rows of each relation into those of its counterpart and onto them. Assumes nothing.
use Prim.Native.Nat.{ℕ, suc, ◌<◌, ◌≤◌, zero-le}
use mathlib.Core.Path.{◌≡◌, refl, sym, ◌∙◌, subst}
use mathlib.Core.Logic.{by_cases}
use mathlib.Core.Bool.{Bool, true, ◌&&◌}
use mathlib.Core.List.Memᴰ
use mathlib.Core.List.{List, map, Memᴰ}
use native.Mathlib.Omega.{arith}
use native.Mathlib.Decide.{dec_le}
use lib.ListN.{length, get_or-eq_default}
use Rattle.lists.specs.Every.{all}
use Rattle.lists.specs.Numbers.{up_from}
use Rattle.lists.proofs.Laws.Tests.{and_left, and_right, and_both}
use Rattle.lists.proofs.Laws.Every.{all_mem, mem_all}
use Rattle.lists.proofs.Laws.Numbers.{up_from_mem}
use Rattle.lists.proofs.Laws.Sets.{mem_map, map_mem}
use Rattle.stored.specs.Model.{Rel, Model, no_relation, relation_at}
use Rattle.rows.specs.Rows.{through, has_row}
use Rattle.rows.proofs.Theorems.Among.{row_among, among_row, entry_of, through_map, through_maps}
use Rattle.search.specs.Machine.{closes_at, closes}

module _ (a b : Model) (g : List ℕ) where
  -- the images of a relation's rows
  abbrev pub images_at : ℕ → List (List ℕ)
  images_at k = map (map (entry_of g)) (relation_at a k).rows

  abbrev pub Into : ℕ → Type 0
  Into k = (row : List ℕ) → Memᴰ row (relation_at a k).rows → Memᴰ (map (entry_of g) row) (relation_at b k).rows

  abbrev pub Onto : ℕ → Type 0
  Onto k = (row : List ℕ) → Memᴰ row (relation_at b k).rows → Memᴰ row (images_at k)

  there_in : ℕ → List ℕ → Bool
  there_in k row = has_row row (relation_at b k).rows

  image_in : ℕ → List ℕ → Bool
  image_in k row = has_row row (map (through g) (relation_at a k).rows)

  check_rows : (k : ℕ) → closes_at a b g k ≡ (all (there_in k) (map (through g) (relation_at a k).rows) && all (image_in k) (relation_at b k).rows)
  unfolding closes_at there_in image_in
  check_rows k = refl

  check_into : (k : ℕ) → closes_at a b g k ≡ true → Into k
  unfolding there_in
  check_into k h row m =
      let t = and_left (all (there_in k) (map (through g) (relation_at a k).rows)) (all (image_in k) (relation_at b k).rows) (sym (check_rows k) ∙ h) in
      let r = all_mem (there_in k) (map (through g) (relation_at a k).rows) t (through g row) (map_mem (through g) (relation_at a k).rows row m) in
      subst (λ (v : List ℕ). Memᴰ v (relation_at b k).rows) (through_map g row) (row_among (through g row) (relation_at b k).rows r)

  check_onto : (k : ℕ) → closes_at a b g k ≡ true → Onto k
  unfolding image_in
  check_onto k h row m =
      let t = and_right (all (there_in k) (map (through g) (relation_at a k).rows)) (all (image_in k) (relation_at b k).rows) (sym (check_rows k) ∙ h) in
      let r = all_mem (image_in k) (relation_at b k).rows t row m in
      subst (Memᴰ row) (through_maps g (relation_at a k).rows) (row_among row (map (through g) (relation_at a k).rows) r)

  pub rows_check : (k : ℕ) → Into k → Onto k → closes_at a b g k ≡ true
  unfolding there_in image_in
  rows_check k into onto = check_rows k ∙ and_both _ _ (mem_all (there_in k) (map (through g) (relation_at a k).rows) there) (mem_all (image_in k) (relation_at b k).rows image)
    where
      there : (row : List ℕ) → Memᴰ row (map (through g) (relation_at a k).rows) → there_in k row ≡ true
      there row m =
          let r = mem_map (through g) (relation_at a k).rows row m in
          among_row row (relation_at b k).rows (subst (λ (v : List ℕ). Memᴰ v (relation_at b k).rows) (sym (r.2 ∙ through_map g r.0)) (into r.0 r.1))

      image : (row : List ℕ) → Memᴰ row (relation_at b k).rows → image_in k row ≡ true
      image row m = among_row row (map (through g) (relation_at a k).rows) (subst (Memᴰ row) (sym (through_maps g (relation_at a k).rows)) (onto row m))

  pub rows_close : ((k : ℕ) → Into k) → ((k : ℕ) → Onto k) → closes a b g ≡ true
  unfolding closes
  rows_close into onto = mem_all (closes_at a b g) (up_from 0 (length a.relations)) (λ k m. rows_check k (into k) (onto k))

  -- the other way round, for every number of a relation, where the right model has no more relations than the left one
  module _ (passed : closes a b g ≡ true) where
    passed_at : (k : ℕ) → k < length a.relations → closes_at a b g k ≡ true
    unfolding closes
    passed_at k l = all_mem (closes_at a b g) (up_from 0 (length a.relations)) passed k (up_from_mem 0 (length a.relations) k zero-le (omega arith))

    no_rows : (m : Model) (k : ℕ) → length m.relations ≤ k → (row : List ℕ) → Memᴰ row (relation_at m k).rows → ⊥
    no_rows m k l row n = Memᴰ.not-nil (subst (λ (r : Rel). Memᴰ row r.rows) (get_or-eq_default m.relations no_relation l) n)

    pub closes_into : (k : ℕ) → Into k
    closes_into k row m = by_cases (dec_le (suc k) (length a.relations)) (λ l. check_into k (passed_at k l) row m) (λ l. absurd (no_rows a k (omega arith) row m))

    pub closes_onto : length b.relations ≤ length a.relations → (k : ℕ) → Onto k
    closes_onto h k row m = by_cases (dec_le (suc k) (length a.relations)) (λ l. check_onto k (passed_at k l) row m) (λ l. absurd (no_rows b k (omega arith) row m))
