-- The laws of relations that were read: they are well formed, and in a canonical model the rows through the roots are the rows. Assumes nothing.
use Prim.Native.Nat.{ℕ, ◌<◌}
use mathlib.Core.Path.{◌≡◌, refl, sym, ◌∙◌, ap₂}
use mathlib.Core.Bool.{Bool, true}
use mathlib.Core.List.{List, [], ◌∷◌, map, Memᴰ}
use native.Mathlib.Omega.{arith}
use lib.ListN.{length, get_or}
use Rattle.lists.specs.Every.{all}
use Rattle.lists.specs.Order.{ascending}
use Rattle.lists.proofs.Laws.Every.{all_mem, get_d_mem, get_d_inside}
use Rattle.stored.specs.declared.layout.Layout.{Layout}
use Rattle.stored.specs.Model.{Model, is_rep_in, is_rep, no_relation, relation_at}
use Rattle.stored.specs.Canonical.{relation_canonical, canonical}
use Rattle.stored.specs.Reading.{Reads, model_of}
use Rattle.stored.proofs.Laws.WellFormed.{WellFormed, RelationFormed}
use Rattle.stored.proofs.Laws.Reading.{reads_formed, relations_is}
use Rattle.stored.proofs.Laws.Canonical.{relation_canonical_lem, all_canonical}
use Rattle.stored.proofs.Laws.Representatives.{rep_below, rep_root}
use Rattle.rows.specs.Rows.{through}
use Rattle.rows.proofs.Theorems.Through.{through_self}

-- relation k of a model that is well formed
module _ (m : Model) (formed : WellFormed m) (k : ℕ) (h : k < length m.relations) where
  pub formed_at : RelationFormed m.sizes (relation_at m k)
  formed_at = formed.each_formed _ (get_d_mem m.relations k no_relation h)

  -- its rows as they are handed on
  pub rows_ascend : (rows : List (List ℕ)) → rows ≡ (relation_at m k).rows → ascending rows ≡ true
  rows_ascend rows e = rw e formed_at.rows_ascend

pub relation_formed : (s : List ℕ) (l : Layout) → Reads s l → (k : ℕ) → k < l.relations → RelationFormed (model_of s).sizes (relation_at (model_of s) k)
relation_formed s l reads k h = formed_at (model_of s) (reads_formed s l reads) k (omega (arith, relations_is s l reads))

-- a function that leaves the members of a list as they are
map_self : {A : Type 0} (f : A → A) (xs : List A) → ((x : A) → Memᴰ x xs → f x ≡ x) → map f xs ≡ xs
map_self f [] h = refl
map_self f (x ∷ xs) h = ap₂ ◌∷◌ (h x (Memᴰ.head refl)) (map_self f xs (λ y m. h y (Memᴰ.tail m)))

rep_self : (roots : List ℕ) (x : ℕ) → is_rep_in roots x ≡ true → get_or roots x 255 ≡ x
rep_self roots x h = get_d_inside roots x 255 0 (rep_below roots x h) ∙ rep_root roots x h

pub canonical_rows : (m : Model) → canonical m ≡ true → (k : ℕ) → k < length m.relations → map (through m.roots) (relation_at m k).rows ≡ (relation_at m k).rows
canonical_rows m h k l =
    let e = all_mem (relation_canonical m) m.relations (sym (all_canonical m) ∙ h) (relation_at m k) (get_d_mem m.relations k no_relation l) in
    map_self (through m.roots) (relation_at m k).rows
    (λ row n.
    let f = all_mem (all (is_rep m)) (relation_at m k).rows (sym (relation_canonical_lem m (relation_at m k)) ∙ e) row n in
    through_self m.roots row (λ x i. rep_self m.roots x (all_mem (is_rep m) row f x i)))

-- relation k as it is handed on, with the roots and whether the model is canonical
pub plain_rows : (m : Model) (k : ℕ) → k < length m.relations → (rows : List (List ℕ)) → rows ≡ (relation_at m k).rows → (roots : List ℕ) → roots ≡ m.roots → (plain : Bool) → plain ≡ canonical m → plain ≡ true → map (through roots) rows ≡ rows
plain_rows m k h rows e roots w plain q p = rw (e, w) (canonical_rows m (sym q ∙ p) k h)
