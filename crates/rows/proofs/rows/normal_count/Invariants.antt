-- `rows::rows::normal_count` meets its contract. The invariant: n counts the first i rows, taken through the roots, each at its first appearance.
-- Assumes nothing.
use Prim.Native.Nat.{ℕ, ◌+◌, ◌*◌, ◌<◌, ◌≤◌}
use mathlib.Core.Path.{◌≡◌, refl, sym, ap, ◌∙◌}
use mathlib.Core.Bool.{Bool, true, false}
use mathlib.Core.List.{List, [], ◌∷◌, ◌++◌, map, map-append}
use native.Mathlib.Omega.{arith}
use native.Mathlib.Numerals.{add-one}
use lib.ListN.{length, get_or, length-append}
use Rattle.lists.specs.Every.{any}
use Rattle.lists.specs.First.{firsts}
use Rattle.lists.specs.Order.{same_row}
use Rattle.lists.specs.Part.{part, rows_of}
use Rattle.lists.proofs.Laws.Part.{get_d_rows_of, rows_of_more}
use Rattle.rows.specs.Rows.{through, has_row}
use Rattle.lists.proofs.Laws.Firsts.{firsts_new, firsts_known}
use Rattle.lists.proofs.Laws.Order.{same_either}
use Rattle.rows.proofs.rows.normal_count.Given as goal

-- the first i rows, taken through the roots, and how many they are
abbrev pub normal : List ℕ → List ℕ → ℕ → ℕ → List (List ℕ)
normal roots rows arity i = map (through roots) (rows_of arity i rows)

abbrev pub counted : List (List ℕ) → ℕ
counted rows = length (firsts same_row rows)

pub record Counted (roots rows : List ℕ) (arity n i : ℕ) : Type 0 where
  pub few : n ≤ i
  pub same : n ≡ counted (normal roots rows arity i)

pub start : (roots rows : List ℕ) (arity : ℕ) → Counted roots rows arity 0 0
unfolding rows_of firsts
start roots rows arity = record { few = omega arith; same = refl }

module _ {roots rows : List ℕ} {arity count n i : ℕ} (c : Counted roots rows arity n i) (h : i < count) (t : List ℕ) (row_is : t ≡ get_or (rows_of arity count rows) i []) (r : Bool) (e : r ≡ has_row (through roots t) (normal roots rows arity i)) where
  q : t ≡ part rows (i * arity) arity
  q = row_is ∙ get_d_rows_of arity count rows i [] h

  abbrev pub row : List ℕ
  row = through roots (part rows (i * arity) arity)

  one_more : normal roots rows arity (i + 1) ≡ normal roots rows arity i ++ row ∷ []
  one_more = rw (add-one i) (ap (map (through roots)) (rows_of_more arity i rows) ∙ map-append (through roots) (rows_of arity i rows) (part rows (i * arity) arity ∷ []))

  seen : any (same_row row) (normal roots rows arity i) ≡ r
  unfolding has_row
  seen = sym (e ∙ ap (λ (x : List ℕ). any (same_row (through roots x)) (normal roots rows arity i)) q)

  next : (m : ℕ) → m ≤ i + 1 → m ≡ counted (normal roots rows arity i ++ row ∷ []) → Counted roots rows arity m (i + 1)
  next m l k = record { few = l; same = k ∙ ap counted (sym one_more) }

  pub known : r ≡ true → (m : ℕ) → m ≡ n → Counted roots rows arity m (i + 1)
  known t m k = next m (omega (arith, c.few)) (k ∙ c.same ∙ ap length (sym (firsts_known same_row same_either (normal roots rows arity i) row (seen ∙ t))))

  pub new : r ≡ false → (m : ℕ) → m ≡ n + 1 → Counted roots rows arity m (i + 1)
  new f m k =
      next m (omega (arith, c.few))
      (k ∙ ap (λ (j : ℕ). j + 1) c.same
      ∙ sym (ap length (firsts_new same_row same_either (normal roots rows arity i) row (seen ∙ f)) ∙ length-append (firsts same_row (normal roots rows arity i)) (row ∷ [])))

abbrev pub invariant-loop-i : goal.invariant-loop-i
invariant-loop-i l = Counted l.roots l.rows.cells.now l.rows.arity l.n l.i
