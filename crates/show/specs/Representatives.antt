-- Counting representatives: "Elements that are not their own representative are aliases."
use Rattle.std.specs.Prelude.{ℕ, suc, true, false, List, [], ◌∷◌, eqb}

-- how many of the elements x, x + 1, .., whose representatives are given, are their own
unfoldable pub representatives_from : ℕ → List ℕ → ℕ
representatives_from x [] = 0
representatives_from x (root ∷ roots) = elim (eqb root x) [ true ↦ suc (representatives_from (suc x) roots) | false ↦ representatives_from (suc x) roots ]
