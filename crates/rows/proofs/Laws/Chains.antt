-- What chains of iterators answer, in the words of the crate `lists`. Assumes nothing.
use Prim.Native.Nat.{ℕ, zero, suc, ◌+◌, ◌≤◌}
use mathlib.Core.Path.{◌≡◌, refl, sym, ap, ◌∙◌}
use mathlib.Core.Logic.{◌⊎◌, inl, inr}
use mathlib.Core.Bool.{Bool, true, false, cond}
use mathlib.Core.List.{List, [], ◌∷◌, map}
use native.Mathlib.Omega.{arith}
use native.Mathlib.Numerals.{add-one, one-add}
use borrow.Author.Tests.{ltb-false}
use lib.Dec.{ltb}
use lib.ListN.{length, get_or, drop, drop_of_length-le}
use lib.Seq.{drop-cons}
use Rattle.std.specs.Prelude.{Some, None}
use Rattle.std.specs.Option.{unwrap_or}
use Rattle.std.proofs.lemmas.List.Folds.{list_all-map}
use Rattle.std.proofs.lemmas.List.Sums.{prefix_len-le-length}
use Rattle.std.specs.List.{list_all, list_any, position_or_len, range_with_len}
use Rattle.lists.specs.Every.{all, any}
use Rattle.lists.specs.First.{first_at}
use Rattle.lists.specs.Numbers.{up_from}
use Rattle.lists.proofs.Laws.Part.{length-rows_of}
use Rattle.stored.specs.declared.rows.Rows.{Rows}
use Rattle.stored.specs.File.{listed}
use Rattle.lists.proofs.Laws.Every.{any-map}
use Rattle.lists.proofs.Laws.Tests.{split}

module _ {A : Type 0} (p : A → Bool) where
  pub all_listed : (xs : List A) → list_all p xs ≡ all p xs
  unfolding all
  all_listed [] = refl
  all_listed (x ∷ xs) = go (split (p x)) (all_listed xs)
    where
      go : (p x ≡ true) ⊎ (p x ≡ false) → list_all p xs ≡ all p xs → list_all p (x ∷ xs) ≡ all p (x ∷ xs)
      go (inl e) ih = rw (e, all) ih
      go (inr e) ih = rw (e, all) refl

  pub any_listed : (xs : List A) → list_any p xs ≡ any p xs
  unfolding any
  any_listed [] = refl
  any_listed (x ∷ xs) = go (split (p x)) (any_listed xs)
    where
      go : (p x ≡ true) ⊎ (p x ≡ false) → list_any p xs ≡ any p xs → list_any p (x ∷ xs) ≡ any p (x ∷ xs)
      go (inl e) ih = rw (e, any) refl
      go (inr e) ih = rw (e, any) ih

  pub first_listed : (xs : List A) → position_or_len p xs ≡ first_at p xs
  unfolding first_at
  first_listed [] = refl
  first_listed (x ∷ xs) = go (split (p x)) (first_listed xs)
    where
      go : (p x ≡ true) ⊎ (p x ≡ false) → position_or_len p xs ≡ first_at p xs → position_or_len p (x ∷ xs) ≡ first_at p (x ∷ xs)
      go (inl e) ih = rw (e, first_at) refl
      go (inr e) ih = rw (e, first_at, one-add) (ap suc ih)

pub range_up : (i n : ℕ) → range_with_len i n ≡ up_from i n
unfolding up_from
range_up i zero = refl
range_up i (suc n) = ap (λ xs. i ∷ xs) (ap (λ k. range_with_len k n) (add-one i) ∙ range_up (suc i) n)

-- what `(0..n).all(..)` answers
pub all_up : (p : ℕ → Bool) (n : ℕ) → list_all p (range_with_len 0 n) ≡ all p (up_from 0 n)
all_up p n = all_listed p (range_with_len 0 n) ∙ ap (all p) (range_up 0 n)

-- what `position(..).unwrap_or(len)` answers
within : (i n : ℕ) → i ≤ n → unwrap_or (cond (ltb i n) (Some i) None) n ≡ i
within i n h = go (split (ltb i n))
  where
    go : (ltb i n ≡ true) ⊎ (ltb i n ≡ false) → unwrap_or (cond (ltb i n) (Some i) None) n ≡ i
    go (inl e) = rw e refl
    go (inr e) = rw e (omega (arith, ltb-false i n e))

pub first_place : {A : Type 0} (p : A → Bool) (xs : List A) → unwrap_or (cond (ltb (position_or_len p xs) (length xs)) (Some (position_or_len p xs)) None) (length xs) ≡ first_at p xs
first_place p xs = within (position_or_len p xs) (length xs) (prefix_len-le-length _ xs) ∙ first_listed p xs

-- a list, member by member
module _ {A : Type 0} (xs : List A) (d : A) where
  listed_from : (i n : ℕ) → i + n ≡ length xs → map (λ k. get_or xs k d) (range_with_len i n) ≡ drop i xs
  listed_from i zero e = sym (drop_of_length-le xs (omega arith))
  listed_from i (suc n) e = rw (drop-cons xs i d (omega arith)) (ap (λ ys. get_or xs i d ∷ ys) (listed_from (i + 1) n (omega arith) ∙ rw (add-one i)))

-- what `(0..rows.count).all(..)` and `(0..rows.count).any(..)` answer where each number stands for its row
module _ (rows : Rows) where
  abbrev pub numbered : ℕ → List ℕ
  numbered i = get_or (listed rows) i []

  rows_numbered : map numbered (range_with_len 0 rows.count) ≡ listed rows
  rows_numbered = listed_from (listed rows) [] 0 rows.count (omega (arith, length-rows_of rows.arity rows.count rows.cells.now))

  module _ (p : List ℕ → Bool) where
    pub all_rows : list_all (λ i. p (numbered i)) (range_with_len 0 rows.count) ≡ all p (listed rows)
    all_rows = sym (list_all-map p numbered (range_with_len 0 rows.count)) ∙ ap (list_all p) rows_numbered ∙ all_listed p (listed rows)

    pub any_rows : list_any (λ i. p (numbered i)) (range_with_len 0 rows.count) ≡ any p (listed rows)
    any_rows = any_listed (λ i. p (numbered i)) (range_with_len 0 rows.count) ∙ sym (any-map p numbered (range_with_len 0 rows.count)) ∙ ap (any p) rows_numbered
