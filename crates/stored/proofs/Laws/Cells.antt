-- The laws of cells: relation by relation, and the length of each row. Assumes nothing.
use Prim.Native.Nat.{ℕ, ◌+◌, ◌*◌}
use mathlib.Core.Path.{◌≡◌, refl, sym}
use mathlib.Core.Logic.{by_cases}
use mathlib.Core.List.{List, [], ◌∷◌, Memᴰ}
use native.Mathlib.Decide.{ℕ_discrete}
use lib.ListN.{length}
use Rattle.lists.proofs.Laws.Tests.{clash}
use Rattle.lists.proofs.Laws.Every.{pairwise_lengths}
use Rattle.stored.specs.Relation.{entry_typed, row_typed}
use Rattle.stored.specs.Model.{Rel}
use Rattle.stored.specs.Layout.{arity, count}
use Rattle.stored.proofs.Laws.WellFormed.{RelationFormed, cells}

pub cells_none : cells [] ≡ 0
unfolding cells
cells_none = refl

pub cells_more : (r : Rel) (rs : List Rel) → cells (r ∷ rs) ≡ count r * arity r + cells rs
unfolding cells
cells_more r rs = refl

pub row_length : (sizes : List ℕ) (r : Rel) → RelationFormed sizes r → (row : List ℕ) → Memᴰ row r.rows → length row ≡ arity r
unfolding row_typed
row_length sizes r f row m =
    by_cases (ℕ_discrete (length r.columns) (length row))
    (λ e. sym e)
    (λ n. clash (f.rows_typed row m) (pairwise_lengths (entry_typed sizes) r.columns row n))
