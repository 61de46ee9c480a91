-- Lists of numbers as bags: equal counts give one mark, and of two lists as long, one that has no more of any number than the other has as many of each. Assumes nothing.
use Prim.Native.Nat.{ℕ, zero, suc, ◌+◌, ◌*◌, ◌<◌, ◌≤◌}
use mathlib.Core.Path.{◌≡◌, refl, sym, ◌∙◌, ap}
use mathlib.Core.Logic.{by_cases}
use mathlib.Core.Bool.{Bool, true}
use mathlib.Core.List.{List, [], ◌∷◌, ◌++◌}
use native.Mathlib.Omega.{arith}
use native.Mathlib.Nat.{mul-le-mul}
use native.Mathlib.Decide.{ℕ_discrete}
use borrow.Author.Tests.{eq-eqb, ne_eqb, eqb-true}
use lib.Dec.{eqb}
use lib.ListN.{length, get_or}
use Rattle.lists.specs.Every.{how_many}
use Rattle.lists.proofs.Laws.Every.{all_mem, mem_all}
use Rattle.lists.proofs.Laws.Counting.{how_many_none, how_many_yes, how_many_no, how_many_append, how_many_some}
use Rattle.rounds.specs.Board.{same_numbers, mark_of_numbers}

-- how often a number stands in front of others
pub count_same : (n : ℕ) (ns : List ℕ) → how_many (eqb n) (n ∷ ns) ≡ suc (how_many (eqb n) ns)
count_same n ns = how_many_yes (eqb n) n ns (eq-eqb n n refl)

pub count_other : (n m : ℕ) (ns : List ℕ) → (n ≡ m → ⊥) → how_many (eqb n) (m ∷ ns) ≡ how_many (eqb n) ns
count_other n m ns h = how_many_no (eqb n) m ns (ne_eqb n m h)

pub mark_none : mark_of_numbers [] ≡ 0
unfolding mark_of_numbers
mark_none = refl

pub mark_more : (n : ℕ) (ns : List ℕ) → mark_of_numbers (n ∷ ns) ≡ n * n * n + 1 + mark_of_numbers ns
unfolding mark_of_numbers
mark_more n ns = refl

pub mark_zero : (ns : List ℕ) → mark_of_numbers ns ≡ 0 → ns ≡ []
mark_zero [] h = refl
mark_zero (n ∷ ns) h = absurd (omega (arith, h, mark_more n ns))

-- a list with a number taken out once
record Without (n : ℕ) (q : List ℕ) : Type 0 where
  pub rest : List ℕ
  pub mark : mark_of_numbers q ≡ n * n * n + 1 + mark_of_numbers rest
  pub long : length q ≡ suc (length rest)
  pub same : how_many (eqb n) q ≡ suc (how_many (eqb n) rest)
  pub other : (m : ℕ) → (m ≡ n → ⊥) → how_many (eqb m) q ≡ how_many (eqb m) rest

without : (n : ℕ) (q : List ℕ) → 0 < how_many (eqb n) q → Without n q
without n [] h = absurd (omega (arith, h, how_many_none (eqb n)))
without n (m ∷ q) h = by_cases (ℕ_discrete n m) here (λ d. there d (without n q (omega (arith, h, count_other n m q d))))
  where
    here : n ≡ m → Without n (m ∷ q)
    here e = record {
      rest = q;
      mark = mark_more m q ∙ ap (λ (k : ℕ). k * k * k + 1 + mark_of_numbers q) (sym e);
      long = refl;
      same = how_many_yes (eqb n) m q (eq-eqb n m e);
      other = λ k d. count_other k m q (λ z. d (z ∙ sym e));
    }

    there : (n ≡ m → ⊥) → Without n q → Without n (m ∷ q)
    there d w = record {
      rest = m ∷ w.rest;
      mark = omega (arith, mark_more m q, mark_more m w.rest, w.mark);
      long = ap suc w.long;
      same = count_other n m q d ∙ w.same ∙ ap suc (sym (count_other n m w.rest d));
      other = λ k z. by_cases (ℕ_discrete k m)
          (λ u. omega (arith, how_many_yes (eqb k) m q (eq-eqb k m u), how_many_yes (eqb k) m w.rest (eq-eqb k m u), w.other k z))
          (λ u. count_other k m q u ∙ w.other k z ∙ sym (count_other k m w.rest u));
    }

-- what is left after one number was taken out of both
module _ (n : ℕ) (p q : List ℕ) (w : Without n q) where
  less_counts : ((m : ℕ) → how_many (eqb m) (n ∷ p) ≡ how_many (eqb m) q) → (m : ℕ) → how_many (eqb m) p ≡ how_many (eqb m) w.rest
  less_counts e m = by_cases (ℕ_discrete m n)
      (λ u. omega (arith, e m, how_many_yes (eqb m) n p (eq-eqb m n u), ap (λ (k : ℕ). how_many (eqb k) q) u, ap (λ (k : ℕ). how_many (eqb k) w.rest) u, w.same))
      (λ u. omega (arith, e m, count_other m n p u, w.other m u))

  less_fits : ((m : ℕ) → how_many (eqb m) (n ∷ p) ≤ how_many (eqb m) q) → (m : ℕ) → how_many (eqb m) p ≤ how_many (eqb m) w.rest
  less_fits e m = by_cases (ℕ_discrete m n)
      (λ u. omega (arith, e m, how_many_yes (eqb m) n p (eq-eqb m n u), ap (λ (k : ℕ). how_many (eqb k) q) u, ap (λ (k : ℕ). how_many (eqb k) w.rest) u, w.same))
      (λ u. omega (arith, e m, count_other m n p u, w.other m u))

  more_counts : ((m : ℕ) → how_many (eqb m) p ≡ how_many (eqb m) w.rest) → (m : ℕ) → how_many (eqb m) (n ∷ p) ≡ how_many (eqb m) q
  more_counts e m = by_cases (ℕ_discrete m n)
      (λ u. omega (arith, e m, how_many_yes (eqb m) n p (eq-eqb m n u), ap (λ (k : ℕ). how_many (eqb k) q) u, ap (λ (k : ℕ). how_many (eqb k) w.rest) u, w.same))
      (λ u. omega (arith, e m, count_other m n p u, w.other m u))

-- each number as often, then one mark
pub counts_mark : (p q : List ℕ) → ((n : ℕ) → how_many (eqb n) p ≡ how_many (eqb n) q) → mark_of_numbers p ≡ mark_of_numbers q
counts_mark [] [] e = refl
counts_mark [] (m ∷ q) e = absurd (omega (arith, e m, how_many_none (eqb m), count_same m q))
counts_mark (n ∷ p) q e =
    let w = without n q (omega (arith, e n, count_same n p)) in
    mark_more n p ∙ ap (λ (k : ℕ). n * n * n + 1 + k) (counts_mark p w.rest (less_counts n p q w e)) ∙ sym w.mark

-- and one length
pub counts_length : (p q : List ℕ) → ((n : ℕ) → how_many (eqb n) p ≡ how_many (eqb n) q) → length p ≡ length q
counts_length [] [] e = refl
counts_length [] (m ∷ q) e = absurd (omega (arith, e m, how_many_none (eqb m), count_same m q))
counts_length (n ∷ p) q e =
    let w = without n q (omega (arith, e n, count_same n p)) in
    ap suc (counts_length p w.rest (less_counts n p q w e)) ∙ sym w.long

-- no number more often, and as long, then each as often
pub even_counts : (q p : List ℕ) → ((n : ℕ) → how_many (eqb n) q ≤ how_many (eqb n) p) → length p ≡ length q → (n : ℕ) → how_many (eqb n) q ≡ how_many (eqb n) p
even_counts [] [] h e n = refl
even_counts [] (m ∷ p) h e n = absurd (omega (arith, e))
even_counts (m ∷ q) p h e n =
    let w = without m p (omega (arith, h m, count_same m q)) in
    more_counts m q p w (even_counts q w.rest (less_fits m q p w h) (omega (arith, e, w.long))) n

-- the test passes exactly where each number stands as often in both
module _ (p q : List ℕ) where
  as_often : ℕ → Bool
  as_often n = eqb (how_many (eqb n) p) (how_many (eqb n) q)

  pub numbers_counts : same_numbers p q ≡ true → (n : ℕ) → how_many (eqb n) p ≡ how_many (eqb n) q
  unfolding same_numbers as_often
  numbers_counts h n = go (how_many (eqb n) (p ++ q)) refl
    where
      go : (k : ℕ) → how_many (eqb n) (p ++ q) ≡ k → how_many (eqb n) p ≡ how_many (eqb n) q
      go zero e = omega (arith, e, how_many_append (eqb n) p q)
      go (suc k) e =
          let r = how_many_some (eqb n) (p ++ q) (omega (arith, e)) in
          let z : n ≡ r.0 = eqb-true n r.0 r.2 in
          rw z (eqb-true _ _ (all_mem as_often (p ++ q) h r.0 r.1))

  pub counts_numbers : ((n : ℕ) → how_many (eqb n) p ≡ how_many (eqb n) q) → same_numbers p q ≡ true
  unfolding same_numbers as_often
  counts_numbers h = mem_all as_often (p ++ q) (λ n m. eq-eqb _ _ (h n))

-- a mark of small numbers is small
cube_small : (n : ℕ) → n < 4096 → n * n * n ≤ 68669157375
cube_small n h =
    let l : n ≤ 4095 = omega (arith, h) in
    mul-le-mul (mul-le-mul l l) l

pub mark_small : (p : List ℕ) → ((i : ℕ) → i < length p → get_or p i 0 < 4096) → mark_of_numbers p ≤ length p * 68669157376
mark_small [] h = omega (arith, mark_none)
mark_small (n ∷ p) h = omega (arith, mark_more n p, cube_small n (h 0 (omega arith)), mark_small p (λ i k. h (suc i) (omega (arith, k))))
