-- Carrying: between well formed models, the left one canonical, a function that is one to one and onto on representatives and takes the rows of
-- each relation into those of its counterpart and onto them, carries the left model onto the right one. Assumes nothing.
use Prim.Native.Nat.{ℕ, suc}
use mathlib.Core.Path.{◌≡◌, sym, ◌∙◌, subst}
use mathlib.Core.Logic.{by_cases}
use mathlib.Core.Bool.{true}
use mathlib.Core.List.Memᴰ
use mathlib.Core.List.{List, map, Memᴰ}
use native.Mathlib.Omega.{arith}
use native.Mathlib.Decide.{dec_le}
use lib.ListN.{length, get_or-eq_default}
use Rattle.lists.specs.Every.{all}
use Rattle.lists.proofs.Laws.Every.{all_mem, get_d_mem}
use Rattle.lists.proofs.Laws.Sets.{Distinct, map_distinct, mem_map}
use Rattle.stored.specs.Model.{Rel, Model, is_rep, no_relation, relation_at}
use Rattle.stored.specs.Canonical.{relation_canonical, canonical}
use Rattle.stored.proofs.Laws.WellFormed.{WellFormed}
use Rattle.stored.proofs.Laws.Representatives.{rep_known}
use Rattle.stored.proofs.Laws.Canonical.{relation_canonical_lem, all_canonical}
use Rattle.rounds.specs.Round.{reps}
use Rattle.lists.proofs.Laws.Counting.{same_members, map_one, ascending_distinct}
use Rattle.rounds.proofs.Theorems.Keys.{rep_reps}
use Rattle.rounds.proofs.Theorems.Alive.{Carries}

module _ (m : Model) (w : WellFormed m) where
  pub known_reps : (x : ℕ) → is_rep m x ≡ true → Memᴰ x (reps m)
  known_reps x h = rep_reps m x (rep_known m w x h) h

  -- what holds of each relation that is there, and of one without rows, holds of the relation of any number
  each_relation : (P : Rel → Type 0) → ((r : Rel) → Memᴰ r m.relations → P r) → P no_relation → (k : ℕ) → P (relation_at m k)
  each_relation P there none k =
      by_cases (dec_le (suc k) (length m.relations))
      (λ l. there (relation_at m k) (get_d_mem m.relations k no_relation l))
      (λ l. subst P (sym (get_or-eq_default m.relations no_relation (omega arith))) none)

  pub rows_distinct : (k : ℕ) → Distinct (relation_at m k).rows
  rows_distinct = each_relation (λ (r : Rel). Distinct r.rows) (λ r n. ascending_distinct r.rows (w.each_formed r n).rows_ascend) tt

  -- no row of a canonical model holds an alias
  pub canonical_within : canonical m ≡ true → (k : ℕ) (row : List ℕ) → Memᴰ row (relation_at m k).rows → (x : ℕ) → Memᴰ x row → Memᴰ x (reps m)
  canonical_within h = each_relation Within there (λ row n. absurd (Memᴰ.not-nil n))
    where
      Within : Rel → Type 0
      Within r = (row : List ℕ) → Memᴰ row r.rows → (x : ℕ) → Memᴰ x row → Memᴰ x (reps m)

      there : (r : Rel) → Memᴰ r m.relations → Within r
      there r n row i x j =
          let e = all_mem (relation_canonical m) m.relations (sym (all_canonical m) ∙ h) r n in
          let f = all_mem (all (is_rep m)) r.rows (sym (relation_canonical_lem m r) ∙ e) row i in
          known_reps x (all_mem (is_rep m) row f x j)

  -- a function that is one to one on representatives is so on rows that hold no alias, so the images of the rows are without repetition
  pub images_distinct : canonical m ≡ true → (f : ℕ → ℕ) → ((x y : ℕ) → Memᴰ x (reps m) → Memᴰ y (reps m) → f x ≡ f y → x ≡ y) → (k : ℕ) → Distinct (map (map f) (relation_at m k).rows)
  images_distinct h f one k =
      let rep = canonical_within h k in
      map_distinct (map f) (relation_at m k).rows (λ r q i j. map_one f r q (λ x y u v. one x y (rep r i x u) (rep q j y v))) (rows_distinct k)

-- what `Carries` says, the rows of each relation compared as sets
pub record CarriesSets (a b : Model) (f : ℕ → ℕ) : Type 0 where
  pub to_rep : (x : ℕ) → Memᴰ x (reps a) → Memᴰ (f x) (reps b)
  pub keeps_apart : (x y : ℕ) → Memᴰ x (reps a) → Memᴰ y (reps a) → f x ≡ f y → x ≡ y
  pub onto : (y : ℕ) → Memᴰ y (reps b) → (x : ℕ) × Memᴰ x (reps a) × (f x ≡ y)
  pub rows_into : (k : ℕ) (row : List ℕ) → Memᴰ row (relation_at a k).rows → Memᴰ (map f row) (relation_at b k).rows
  pub rows_onto : (k : ℕ) (row : List ℕ) → Memᴰ row (relation_at b k).rows → Memᴰ row (map (map f) (relation_at a k).rows)

module _ (a b : Model) (f : ℕ → ℕ) (left : WellFormed a) (right : WellFormed b) (plain : canonical a ≡ true) (sets : CarriesSets a b f) where
  image_there : (k : ℕ) (row : List ℕ) → Memᴰ row (map (map f) (relation_at a k).rows) → Memᴰ row (relation_at b k).rows
  image_there k row m =
      let r = mem_map (map f) (relation_at a k).rows row m in
      subst (λ (v : List ℕ). Memᴰ v (relation_at b k).rows) (sym r.2) (sets.rows_into k r.0 r.1)

  pub sets_carry : Carries a b f
  sets_carry = record {
    to_rep = sets.to_rep;
    keeps_apart = sets.keeps_apart;
    onto = sets.onto;
    rows_within = canonical_within a left plain;
    rows_carried = λ k.
        same_members (map (map f) (relation_at a k).rows) (relation_at b k).rows (images_distinct a left plain f sets.keeps_apart k) (rows_distinct b right k) (image_there k) (sets.rows_onto k);
  }
