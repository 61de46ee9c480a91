-- The laws of counts of colours: a table that counts some counts one more, two tables are the same where each colour stands as often, as many entries
-- are not 0 as there are different colours, and what is counted by the parts of a file is counted of the model that was read. Assumes nothing.
use Prim.Native.Nat.{ℕ, zero, suc, ◌+◌, ◌<◌, ◌≤◌, zero-le}
use mathlib.Core.Path.{◌≡◌, refl, sym, ◌∙◌, ap, subst}
use mathlib.Core.Logic.{◌⊎◌, inl, inr, by_cases}
use mathlib.Core.Bool.{Bool, true, false}
use mathlib.Core.List.{List, [], ◌∷◌, ◌++◌, Memᴰ}
use native.Mathlib.Omega.{arith}
use native.Mathlib.Decide.{ℕ_discrete, dec_le}
use borrow.Author.Tests.{eqb-true, eqb-false, eq-eqb, ne_eqb, ltb-true, lt-ltb, not-true}
use lib.Dec.{eqb, ltb}
use lib.Pointwise.{pointwise, bytes_decides}
use lib.ListN.{length, get_or, set, replicate, length-set, length-replicate, get_or-replicate, get_or-eq_default}
use lib.Seq.{get_or-set_same, get_or-set_other, ext_get_or}
use Rattle.stored.proofs.Laws.WellFormed.{WellFormed}
use Rattle.stored.specs.Model.{Model}
use Rattle.lists.specs.Every.{all, keep, how_many}
use Rattle.lists.specs.First.{firsts}
use Rattle.lists.specs.Numbers.{up_from}
use Rattle.lists.specs.Order.{same_row}
use Rattle.lists.proofs.Laws.Tests.{split, same_test}
use Rattle.lists.proofs.Laws.Every.{all_mem, mem_all, keep_none, keep_yes, keep_no, keep_mem, mem_keep}
use Rattle.lists.proofs.Laws.Numbers.{up_from_end, up_from_mem}
use Rattle.lists.proofs.Laws.Order.{same_row_lem, same_row_refl}
use Rattle.lists.proofs.Laws.Sets.{keep_distinct, firsts_distinct, mem_firsts, firsts_mem}
use Rattle.lists.proofs.Laws.Counting.{how_many_none, how_many_yes, how_many_no, how_many_append, how_many_mem, how_many_some, how_many_fits, distinct_fits, up_from_distinct}
use Rattle.rounds.specs.Round.{colours_of, colour_count, equal_counts}
use Rattle.rounds.specs.Parts.{colours_in, are_small, CountsOf, is_filled}
use Rattle.rounds.proofs.Laws.Parts.{count_yes, count_no, colours_handed}

-- colours below 128
module _ (colours : List ℕ) where
  pub small_below : are_small colours ≡ true → (k : ℕ) → Memᴰ k colours → k < 128
  unfolding are_small
  small_below h k m = ltb-true k 128 (all_mem (λ (k : ℕ). ltb k 128) colours h k m)

  pub below_small : ((k : ℕ) → Memᴰ k colours → k < 128) → are_small colours ≡ true
  unfolding are_small
  below_small f = mem_all (λ (k : ℕ). ltb k 128) colours (λ k m. lt-ltb k 128 (f k m))

-- a colour that is counted is there, and one that is there is counted
pub counted_there : (k : ℕ) (colours : List ℕ) → 0 < how_many (eqb k) colours → Memᴰ k colours
counted_there k colours h =
    let o = how_many_some (eqb k) colours h in
    subst (λ (v : ℕ). Memᴰ v colours) (sym (eqb-true k o.0 o.2)) o.1

pub there_counted : (k : ℕ) (colours : List ℕ) → Memᴰ k colours → 0 < how_many (eqb k) colours
there_counted k colours m = how_many_mem (eqb k) colours k m (eq-eqb k k refl)

-- entries that are not 0, and entries that are
module _ (table : List ℕ) (k : ℕ) where
  pub is_filled_lem : (get_or table k 0 ≡ 0 → ⊥) → is_filled table k ≡ true
  unfolding is_filled
  is_filled_lem n = rw (ne_eqb (get_or table k 0) 0 n)

  pub is_empty : get_or table k 0 ≡ 0 → is_filled table k ≡ false
  unfolding is_filled
  is_empty e = rw (eq-eqb (get_or table k 0) 0 e)

-- so many of a table's entries below k are not 0
pub record Filled (table : List ℕ) (n k : ℕ) : Type 0 where
  pub few : n ≤ k
  pub within : k ≤ length table
  pub same : n ≡ how_many (is_filled table) (up_from 0 k)

pub filled_start : (table : List ℕ) → Filled table 0 0
filled_start table = record {
  few = omega arith;
  within = omega arith;
  same = sym (ap (how_many (is_filled table)) (up_from_end 0 0 (omega arith)) ∙ how_many_none (is_filled table));
}

module _ (table : List ℕ) (n k : ℕ) (i : Filled table n k) where
  pub filled_done : length table ≤ k → n ≡ how_many (is_filled table) (up_from 0 (length table))
  filled_done h = let e : k ≡ length table = omega (arith, i.within) in i.same ∙ ap (λ (j : ℕ). how_many (is_filled table) (up_from 0 j)) e

  -- the entry at k
  module _ (h : k < length table) where
    pub filled_some : (get_or table k 0 ≡ 0 → ⊥) → (m : ℕ) → m ≡ n + 1 → Filled table m (k + 1)
    filled_some d m q = record {
      few = omega (arith, i.few);
      within = omega arith;
      same = omega (arith, i.same, count_yes (is_filled table) k (is_filled_lem table k d));
    }

    pub filled_none : get_or table k 0 ≡ 0 → (m : ℕ) → m ≡ n → Filled table m (k + 1)
    filled_none d m q = record {
      few = omega (arith, i.few);
      within = omega arith;
      same = omega (arith, i.same, count_no (is_filled table) k (is_empty table k d));
    }

-- a table of zeros counts none
pub counts_none : (table : List ℕ) → table ≡ replicate {A = ℕ} 128 0 → CountsOf table []
counts_none table e = record {
  room = ap length e ∙ length-replicate {A = ℕ} 128 0;
  counts = λ k. ap (λ (t : List ℕ). get_or t k 0) e ∙ zeros k ∙ sym (how_many_none (eqb k));
}
  where
    zeros : (k : ℕ) → get_or (replicate {A = ℕ} 128 0) k 0 ≡ 0
    zeros k =
        by_cases (dec_le 128 k) (λ h. get_or-eq_default (replicate 128 0) 0 {n = k} (omega (arith, h, length-replicate {A = ℕ} 128 0)))
        (λ h. get_or-replicate 128 k 0 0 (omega (arith, h)))

-- a table that counts some colours
module _ {table colours : List ℕ} (c : CountsOf table colours) where
  pub count_fits : (k : ℕ) → get_or table k 0 ≤ length colours
  count_fits k = omega (arith, c.counts k, how_many_fits (eqb k) colours)

  -- counts one more
  pub counts_more : (k : ℕ) → k < 128 → CountsOf (set table k (get_or table k 0 + 1)) (colours ++ k ∷ [])
  counts_more k h = record {
    room = length-set table k (get_or table k 0 + 1) ∙ c.room;
    counts = λ j. by_cases (ℕ_discrete j k) (here j) (there j);
  }
    where
      more : (j : ℕ) → how_many (eqb j) (colours ++ k ∷ []) ≡ how_many (eqb j) colours + how_many (eqb j) (k ∷ [])
      more j = how_many_append (eqb j) colours (k ∷ [])

      here : (j : ℕ) → j ≡ k → get_or (set table k (get_or table k 0 + 1)) j 0 ≡ how_many (eqb j) (colours ++ k ∷ [])
      here j e = rw e (omega (arith, get_or-set_same table k (get_or table k 0 + 1) 0 (omega (arith, c.room)), c.counts k, more k, how_many_yes (eqb k) k [] (eq-eqb k k refl), how_many_none (eqb k)))

      there : (j : ℕ) → (j ≡ k → ⊥) → get_or (set table k (get_or table k 0 + 1)) j 0 ≡ how_many (eqb j) (colours ++ k ∷ [])
      there j n = omega (arith, get_or-set_other table k j (get_or table k 0 + 1) 0 n, c.counts j, more j, how_many_no (eqb j) k [] (ne_eqb j k n), how_many_none (eqb j))

  -- the entries that are not 0 are those of the colours that are there
  filled_there : (k : ℕ) → is_filled table k ≡ true → Memᴰ k colours
  unfolding is_filled
  filled_there k f = counted_there k colours (omega (arith, eqb-false (get_or table k 0) 0 (not-true (eqb (get_or table k 0) 0) f), c.counts k))

  there_filled : (k : ℕ) → Memᴰ k colours → is_filled table k ≡ true
  there_filled k m = is_filled_lem table k (λ z. omega (arith, z, c.counts k, there_counted k colours m))

  there_inside : (k : ℕ) → Memᴰ k colours → k < length table
  there_inside k m =
      by_cases (dec_le (suc k) (length table)) (λ h. h)
      (λ h. absurd (omega (arith, get_or-eq_default table 0 {n = k} (omega (arith, h)), c.counts k, there_counted k colours m)))

-- how many pass is how many are kept
kept_count : (p : ℕ → Bool) (xs : List ℕ) → how_many p xs ≡ length (keep p xs)
kept_count p [] = how_many_none p ∙ sym (ap length (keep_none p))
kept_count p (x ∷ xs) = go (split (p x)) (kept_count p xs)
  where
    go : (p x ≡ true) ⊎ (p x ≡ false) → how_many p xs ≡ length (keep p xs) → how_many p (x ∷ xs) ≡ length (keep p (x ∷ xs))
    go (inl e) ih = how_many_yes p x xs e ∙ ap suc ih ∙ sym (ap length (keep_yes p x xs e))
    go (inr e) ih = how_many_no p x xs e ∙ ih ∙ sym (ap length (keep_no p x xs e))

-- so there are as many as there are different colours
pub filled_count : {table colours : List ℕ} → CountsOf table colours → how_many (is_filled table) (up_from 0 (length table)) ≡ length (firsts eqb colours)
filled_count {table = table} {colours = colours} c =
    let most = distinct_fits entries found (keep_distinct (is_filled table) (up_from 0 (length table)) (up_from_distinct 0 (length table))) entry_found in
    let least = distinct_fits found entries (firsts_distinct eqb eqb-true itself colours) found_entry in
    omega (arith, most, least, kept_count (is_filled table) (up_from 0 (length table)))
  where
    itself : (x : ℕ) → eqb x x ≡ true
    itself x = eq-eqb x x refl

    entries : List ℕ
    entries = keep (is_filled table) (up_from 0 (length table))

    found : List ℕ
    found = firsts eqb colours

    entry_found : (k : ℕ) → Memᴰ k entries → Memᴰ k found
    entry_found k m = firsts_mem eqb eqb-true itself colours k (filled_there c k (mem_keep (is_filled table) (up_from 0 (length table)) k m).1)

    found_entry : (k : ℕ) → Memᴰ k found → Memᴰ k entries
    found_entry k m =
        let n = mem_firsts eqb colours k m in
        keep_mem (is_filled table) (up_from 0 (length table)) k (up_from_mem 0 (length table) k zero-le (omega (arith, there_inside c k n))) (there_filled c k n)

-- `==` of two tables
pub tables_equal : (table table' : List ℕ) → pointwise eqb table table' ≡ same_row table table'
tables_equal table table' =
    let decided = bytes_decides table table' in
    same_test (pointwise eqb table table') (same_row table table') (λ h. subst (λ (t : List ℕ). same_row table t ≡ true) (decided.0 h) (same_row_refl table))
    (λ h. decided.1 (same_row_lem table table' h))

-- two lists of colours
module _ (one other : List ℕ) where
  abbrev pub equally_many : ℕ → Bool
  equally_many k = eqb (how_many (eqb k) one) (how_many (eqb k) other)

  -- equal counts of the colours that are there are equal counts of every number
  pub equal_everywhere : all equally_many (one ++ other) ≡ true → (k : ℕ) → how_many (eqb k) one ≡ how_many (eqb k) other
  equal_everywhere h k = go (how_many (eqb k) (one ++ other)) refl
    where
      go : (n : ℕ) → how_many (eqb k) (one ++ other) ≡ n → how_many (eqb k) one ≡ how_many (eqb k) other
      go zero e = omega (arith, how_many_append (eqb k) one other)
      go (suc n) e = eqb-true _ _ (all_mem equally_many (one ++ other) h k (counted_there k (one ++ other) (omega arith)))

  -- and those of two tables that are the same
  module _ {table table' : List ℕ} (c : CountsOf table one) (d : CountsOf table' other) where
    pub same_tables : same_row table table' ≡ all equally_many (one ++ other)
    same_tables = same_test (same_row table table') (all equally_many (one ++ other)) to from
      where
        to : same_row table table' ≡ true → all equally_many (one ++ other) ≡ true
        to h =
            mem_all equally_many (one ++ other)
            (λ k m. eq-eqb _ _ (sym (c.counts k) ∙ ap (λ (t : List ℕ). get_or t k 0) (same_row_lem table table' h) ∙ d.counts k))

        from : all equally_many (one ++ other) ≡ true → same_row table table' ≡ true
        from h =
            let e = ext_get_or 0 table table' (c.room ∙ sym d.room) (λ k l. c.counts k ∙ equal_everywhere h k ∙ sym (d.counts k)) in
            subst (λ (t : List ℕ). same_row table t ≡ true) e (same_row_refl table)

-- what is said of the roots of a model as they are handed on
module _ (m : Model) (w : WellFormed m) (xs : List ℕ) (e : xs ≡ m.roots) (colours : List ℕ) where
  pub small_handed : are_small (colours_of m colours) ≡ true → are_small (colours_in xs colours) ≡ true
  small_handed h = ap are_small (colours_handed m w xs e colours) ∙ h

  pub counts_handed : (table : List ℕ) → CountsOf table (colours_in xs colours) → CountsOf table (colours_of m colours)
  counts_handed table c = subst (CountsOf table) (colours_handed m w xs e colours) c

  pub count_handed : (table : List ℕ) → CountsOf table (colours_in xs colours) → how_many (is_filled table) (up_from 0 (length table)) ≡ colour_count m colours
  unfolding colour_count
  count_handed table c = filled_count (counts_handed table c)

  pub equal_handed :
      (n : Model) (v : WellFormed n) (ys : List ℕ) (f : ys ≡ n.roots) (colours' : List ℕ) (table table' : List ℕ) → CountsOf table (colours_in xs colours) → CountsOf table' (colours_in ys colours')
      → same_row table table' ≡ equal_counts m n (record { left = colours; right = colours' })
  unfolding equal_counts
  equal_handed n v ys f colours' table table' c d =
      same_tables (colours_of m colours) (colours_of n colours') (counts_handed table c)
      (subst (CountsOf table') (colours_handed n v ys f colours') d)
