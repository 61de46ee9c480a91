-- The laws of representatives in a well formed model: which elements they are, and that every root is one; and of its rows: every entry is an element, and each row has an entry for each column. Assumes nothing.
use Prim.Native.Nat.{ℕ, suc, ◌<◌}
use mathlib.Core.Path.{◌≡◌, sym, subst}
use mathlib.Core.Logic.{by_cases}
use mathlib.Core.Bool.{true}
use mathlib.Core.List.Memᴰ
use mathlib.Core.List.{List, Memᴰ}
use native.Mathlib.Omega.{arith}
use borrow.Author.Tests.{eqb-true, ltb-true}
use native.Mathlib.Decide.{ℕ_discrete, dec_le}
use lib.ListN.{length, get_or, get_or-eq_default}
use lib.Dec.{ltb, eqb}
use Rattle.lists.proofs.Laws.Tests.{clash, and_left, and_right}
use Rattle.lists.proofs.Laws.Every.{pairwise_lengths, pairwise_mem, get_d_mem}
use Rattle.stored.specs.Types.{type_in}
use Rattle.stored.specs.Relation.{entry_typed, row_typed}
use Rattle.stored.specs.Model.{Rel, Model, size, root_of, is_rep_in, is_rep, no_relation, relation_at}
use Rattle.stored.proofs.Laws.WellFormed.{WellFormed, RelationFormed}
use Rattle.stored.proofs.Laws.Canonical.{rep_own}

module _ (roots : List ℕ) (x : ℕ) where
  pub rep_below : is_rep_in roots x ≡ true → x < length roots
  unfolding is_rep_in
  rep_below h = ltb-true _ _ (and_left (ltb x (length roots)) (eqb (get_or roots x 0) x) h)

  pub rep_root : is_rep_in roots x ≡ true → get_or roots x 0 ≡ x
  unfolding is_rep_in
  rep_root h = eqb-true _ _ (and_right (ltb x (length roots)) (eqb (get_or roots x 0) x) h)

module _ (m : Model) (w : WellFormed m) (x : ℕ) where
  pub rep_known : is_rep m x ≡ true → x < size m
  rep_known h = let l = rep_below m.roots x h in omega (arith, w.roots_length)

  pub root_rep : x < size m → is_rep m (root_of m x) ≡ true
  root_rep l = rep_own m.roots (root_of m x) (let k = w.root_known x l in omega (arith, w.roots_length)) (w.root_root x l)

-- every entry of every row is an element
module _ (m : Model) (w : WellFormed m) where
  entry_known_in : (r : Rel) → RelationFormed m.sizes r → (row : List ℕ) → Memᴰ row r.rows → (x : ℕ) → Memᴰ x row → x < size m
  unfolding row_typed entry_typed
  entry_known_in r f row n x q =
      let p = pairwise_mem (entry_typed m.sizes) r.columns row (f.rows_typed row n) x q in
      ltb-true _ _ (and_left (ltb x (size m)) (eqb (type_in m.sizes x) p.0) p.1)

  pub entry_known : (k : ℕ) (row : List ℕ) → Memᴰ row (relation_at m k).rows → (x : ℕ) → Memᴰ x row → x < size m
  entry_known k row n x q =
      by_cases (dec_le (suc k) (length m.relations))
      (λ l. entry_known_in (relation_at m k) (w.each_formed (relation_at m k) (get_d_mem m.relations k no_relation l)) row n x q)
      (λ l. absurd (Memᴰ.not-nil (subst (λ (r : Rel). Memᴰ row r.rows) (get_or-eq_default m.relations no_relation (omega arith)) n)))

-- every row is as long as there are columns
module _ (m : Model) (w : WellFormed m) where
  row_even_in : (r : Rel) → RelationFormed m.sizes r → (row : List ℕ) → Memᴰ row r.rows → length row ≡ length r.columns
  unfolding row_typed
  row_even_in r f row n =
      by_cases (ℕ_discrete (length row) (length r.columns)) (λ e. e) (λ ne. clash (f.rows_typed row n) (pairwise_lengths (entry_typed m.sizes) r.columns row (λ e. ne (sym e))))

  pub row_even : (k : ℕ) (row : List ℕ) → Memᴰ row (relation_at m k).rows → length row ≡ length (relation_at m k).columns
  row_even k row n =
      by_cases (dec_le (suc k) (length m.relations))
      (λ l. row_even_in (relation_at m k) (w.each_formed (relation_at m k) (get_d_mem m.relations k no_relation l)) row n)
      (λ l. absurd (Memᴰ.not-nil (subst (λ (r : Rel). Memᴰ row r.rows) (get_or-eq_default m.relations no_relation (omega arith)) n)))
