-- Among: a row is among some rows exactly if it is a member, and what a table says of a row is a map over it. Assumes nothing.
use Prim.Native.Nat.{ℕ}
use mathlib.Core.Path.{◌≡◌, refl, sym, ap₂, subst}
use mathlib.Core.Bool.{true}
use mathlib.Core.List.{List, [], ◌∷◌, map, Memᴰ}
use lib.ListN.{get_or}
use Rattle.lists.specs.Order.{same_row}
use Rattle.lists.proofs.Laws.Every.{any_mem, mem_any}
use Rattle.lists.proofs.Laws.Order.{same_row_lem, same_row_refl}
use Rattle.rows.specs.Rows.{through, has_row}

pub row_among : (row : List ℕ) (rows : List (List ℕ)) → has_row row rows ≡ true → Memᴰ row rows
unfolding has_row
row_among row rows h = let r = mem_any (same_row row) rows h in subst (λ (v : List ℕ). Memᴰ v rows) (sym (same_row_lem row r.0 r.2)) r.1

pub among_row : (row : List ℕ) (rows : List (List ℕ)) → Memᴰ row rows → has_row row rows ≡ true
unfolding has_row
among_row row rows m = any_mem (same_row row) rows row m (same_row_refl row)

-- the entry of a table
abbrev pub entry_of : List ℕ → ℕ → ℕ
entry_of table x = get_or table x 255

pub through_map : (table row : List ℕ) → through table row ≡ map (entry_of table) row
unfolding through
through_map table row = refl

pub through_maps : (table : List ℕ) (rows : List (List ℕ)) → map (through table) rows ≡ map (map (entry_of table)) rows
through_maps table [] = refl
through_maps table (row ∷ rows) = ap₂ ◌∷◌ (through_map table row) (through_maps table rows)
