-- The laws of a layout that is built one relation at a time. Assumes nothing.
use Prim.Native.Nat.{ℕ, suc, ◌+◌, ◌*◌, ◌<◌}
use mathlib.Core.Path.{◌≡◌, refl, sym, ◌∙◌, ap}
use mathlib.Core.List.{List, [], ◌∷◌, ◌++◌, map, map-append}
use lib.ListN.{length, replicate, set, length-map, length-append}
use Rattle.lists.proofs.Laws.Over.{over_at_lem}
use Rattle.stored.specs.Model.{Rel, Model}
use Rattle.stored.specs.Layout.{arity, count, table, rows_from, roots_end, layout_of, with_relation}

-- a store just past the entries of a table makes one entry more
pub table_more : (xs : List ℕ) (n v : ℕ) → length xs ≡ n → n < 16 → set (table xs) n v ≡ table (xs ++ v ∷ [])
unfolding table
table_more xs n v e h = over_at_lem xs (replicate 16 0) v n e h

-- the offset just after some relations, the first one's field at an offset
unfoldable pub past_of : ℕ → List Rel → ℕ
past_of at [] = at
past_of at (r ∷ rs) = past_of (at + 6 + arity r + count r * arity r) rs

pub past_none : (at : ℕ) → past_of at [] ≡ at
unfolding past_of
past_none at = refl

pub past_more : (at : ℕ) (rs : List Rel) (r : Rel) → past_of at (rs ++ r ∷ []) ≡ past_of at rs + 6 + arity r + count r * arity r
unfolding past_of
past_more at [] r = refl
past_more at (q ∷ rs) r = past_more (at + 6 + arity q + count q * arity q) rs r

pub length_rows_from : (at : ℕ) (rs : List Rel) → length (rows_from at rs) ≡ length rs
unfolding rows_from
length_rows_from at [] = refl
length_rows_from at (r ∷ rs) = ap suc (length_rows_from (at + 6 + arity r + count r * arity r) rs)

rows_from_more : (at : ℕ) (rs : List Rel) (r : Rel) → rows_from at (rs ++ r ∷ []) ≡ rows_from at rs ++ (past_of at rs + 6 + arity r) ∷ []
unfolding rows_from past_of
rows_from_more at [] r = refl
rows_from_more at (q ∷ rs) r = ap (λ (l : List ℕ). (at + 6 + arity q) ∷ l) (rows_from_more (at + 6 + arity q + count q * arity q) rs r)

-- the model with these relations
abbrev pub having : List ℕ → List ℕ → List Rel → Model
having sizes roots rs = record { sizes = sizes; roots = roots; relations = rs }

-- a layout with one relation more is that of the model with one relation more
module _ (sizes roots : List ℕ) (rs : List Rel) (r : Rel) (h : length rs < 16) where
  pub layout_more : with_relation (layout_of (having sizes roots rs)) (arity r) (count r) (past_of (roots_end (having sizes roots rs)) rs + 6 + arity r) ≡ layout_of (having sizes roots (rs ++ r ∷ []))
  unfolding with_relation layout_of
  layout_more =
      let at = roots_end (having sizes roots rs) in
      let n : length rs + 1 ≡ length (rs ++ r ∷ []) = sym (length-append rs (r ∷ [])) in
      let a : set (table (map arity rs)) (length rs) (arity r) ≡ table (map arity (rs ++ r ∷ [])) = table_more (map arity rs) (length rs) (arity r) (length-map rs arity) h ∙ ap table (sym (map-append arity rs (r ∷ []))) in
      let c : set (table (map count rs)) (length rs) (count r) ≡ table (map count (rs ++ r ∷ [])) = table_more (map count rs) (length rs) (count r) (length-map rs count) h ∙ ap table (sym (map-append count rs (r ∷ []))) in
      let b : set (table (rows_from at rs)) (length rs) (past_of at rs + 6 + arity r) ≡ table (rows_from at (rs ++ r ∷ [])) = table_more (rows_from at rs) (length rs) (past_of at rs + 6 + arity r) (length_rows_from at rs) h ∙ ap table (sym (rows_from_more at rs r)) in
      rw (n, a, c, b)
