-- Places: the cells of some relations with the element that stands in each, its place and its number. The places of an element are those of the cells where it stands, and so are the numbers that
-- are picked for it. Assumes nothing.
use Prim.Native.Nat.{ℕ, suc, ◌+◌, ◌*◌}
use mathlib.Core.Path.{◌≡◌, refl, sym, ◌∙◌, ap, ap₂}
use mathlib.Core.Logic.{◌⊎◌, inl, inr}
use mathlib.Core.Bool.{Bool, true, false}
use mathlib.Core.List.{List, [], ◌∷◌, ◌++◌, map, map-append, Memᴰ}
use lib.Dec.{eqb}
use lib.ListN.{length}
use Rattle.lists.specs.Every.{keep}
use Rattle.lists.specs.First.{first_at}
use Rattle.lists.specs.Numbers.{up_from}
use Rattle.lists.specs.Order.{same_row}
use Rattle.lists.proofs.Laws.Tests.{split}
use Rattle.lists.proofs.Laws.Every.{keep_none, keep_yes, keep_no, keep_append}
use Rattle.lists.proofs.Laws.Numbers.{up_from_none, up_from_cons}
use Rattle.stored.specs.Model.{Rel}
use Rattle.rounds.specs.Keys.{places_in_row, places_in_rows, places_from}
use Rattle.rounds.specs.Board.{flat, cells_of, line_of, row_numbers, relation_numbers, numbers_from, picked}

-- a cell: the element that stands there, the place, and the number that tells the place
pub record Cell : Type 0 where
  pub element : ℕ
  pub place : List ℕ
  pub number : ℕ

-- the cells of the rest of a row of relation k, from column j on, where the next number is n
unfoldable pub cells_in_row : ℕ → List ℕ → ℕ → ℕ → List ℕ → List Cell
cells_in_row k line j n [] = []
cells_in_row k line j n (y ∷ row) = record { element = y; place = k ∷ j ∷ line; number = n } ∷ cells_in_row k line (suc j) (suc n) row

-- the cells of some rows of relation k, given the colours along each of its rows
unfoldable pub cells_in_rows : ℕ → ℕ → ℕ → List ℕ → List (List ℕ) → List (List ℕ) → List Cell
cells_in_rows k base arity colours lines [] = []
cells_in_rows k base arity colours lines (row ∷ rows) =
    cells_in_row k (line_of colours row) 0 (base + first_at (same_row (line_of colours row)) lines * arity) row ++ cells_in_rows k base arity colours lines rows

unfoldable pub cells_from : ℕ → ℕ → List ℕ → List Rel → List Cell
cells_from k base colours [] = []
cells_from k base colours (r ∷ rs) =
    cells_in_rows k base (length r.columns) colours (map (line_of colours) r.rows) r.rows
    ++ cells_from (suc k) (base + length r.rows * length r.columns) colours rs

abbrev pub elements : List Cell → List ℕ
elements cells = map (λ (c : Cell). c.element) cells

abbrev pub numbers : List Cell → List ℕ
numbers cells = map (λ (c : Cell). c.number) cells

-- the elements
elements_in_row : (k : ℕ) (line : List ℕ) (j n : ℕ) (row : List ℕ) → elements (cells_in_row k line j n row) ≡ row
unfolding cells_in_row
elements_in_row k line j n [] = refl
elements_in_row k line j n (y ∷ row) = ap (λ l. y ∷ l) (elements_in_row k line (suc j) (suc n) row)

elements_in_rows : (k base arity : ℕ) (colours : List ℕ) (lines rows : List (List ℕ)) → elements (cells_in_rows k base arity colours lines rows) ≡ flat rows
unfolding cells_in_rows flat
elements_in_rows k base arity colours lines [] = refl
elements_in_rows k base arity colours lines (row ∷ rows) =
    map-append (λ (c : Cell). c.element) (cells_in_row k (line_of colours row) 0 (base + first_at (same_row (line_of colours row)) lines * arity) row) (cells_in_rows k base arity colours lines rows)
    ∙ ap₂ (λ xs ys. xs ++ ys) (elements_in_row k (line_of colours row) 0 (base + first_at (same_row (line_of colours row)) lines * arity) row) (elements_in_rows k base arity colours lines rows)

pub elements_from : (k base : ℕ) (colours : List ℕ) (rs : List Rel) → elements (cells_from k base colours rs) ≡ cells_of rs
unfolding cells_from cells_of
elements_from k base colours [] = refl
elements_from k base colours (r ∷ rs) =
    map-append (λ (c : Cell). c.element) (cells_in_rows k base (length r.columns) colours (map (line_of colours) r.rows) r.rows) (cells_from (suc k) (base + length r.rows * length r.columns) colours rs)
    ∙ ap₂ (λ xs ys. xs ++ ys)
    (elements_in_rows k base (length r.columns) colours (map (line_of colours) r.rows) r.rows)
    (elements_from (suc k) (base + length r.rows * length r.columns) colours rs)

-- the numbers, where every row is as long as there are columns
abbrev pub EvenRows : ℕ → List (List ℕ) → Type 0
EvenRows arity rows = (row : List ℕ) → Memᴰ row rows → length row ≡ arity

abbrev pub Even : List Rel → Type 0
Even rs = (r : Rel) → Memᴰ r rs → EvenRows (length r.columns) r.rows

numbers_in_row : (k : ℕ) (line : List ℕ) (j n : ℕ) (row : List ℕ) → numbers (cells_in_row k line j n row) ≡ up_from n (length row)
unfolding cells_in_row
numbers_in_row k line j n [] = sym (up_from_none n)
numbers_in_row k line j n (y ∷ row) = ap (λ l. n ∷ l) (numbers_in_row k line (suc j) (suc n) row) ∙ sym (up_from_cons n (length row))

numbers_in_rows :
    (k base arity : ℕ) (colours : List ℕ) (lines rows : List (List ℕ)) → EvenRows arity rows → numbers (cells_in_rows k base arity colours lines rows) ≡ flat (map (row_numbers base arity lines) (map (line_of colours) rows))
unfolding cells_in_rows flat row_numbers
numbers_in_rows k base arity colours lines [] even = refl
numbers_in_rows k base arity colours lines (row ∷ rows) even =
    let start = base + first_at (same_row (line_of colours row)) lines * arity in
    map-append (λ (c : Cell). c.number) (cells_in_row k (line_of colours row) 0 start row) (cells_in_rows k base arity colours lines rows)
    ∙ ap₂ (λ xs ys. xs ++ ys)
    (numbers_in_row k (line_of colours row) 0 start row ∙ ap (up_from start) (even row (Memᴰ.head refl)))
    (numbers_in_rows k base arity colours lines rows (λ q m. even q (Memᴰ.tail m)))

pub numbers_from_lem : (k base : ℕ) (colours : List ℕ) (rs : List Rel) → Even rs → numbers (cells_from k base colours rs) ≡ numbers_from base colours rs
unfolding cells_from numbers_from relation_numbers
numbers_from_lem k base colours [] even = refl
numbers_from_lem k base colours (r ∷ rs) even =
    map-append (λ (c : Cell). c.number) (cells_in_rows k base (length r.columns) colours (map (line_of colours) r.rows) r.rows) (cells_from (suc k) (base + length r.rows * length r.columns) colours rs)
    ∙ ap₂ (λ xs ys. xs ++ ys)
    (numbers_in_rows k base (length r.columns) colours (map (line_of colours) r.rows) r.rows (even r (Memᴰ.head refl)))
    (numbers_from_lem (suc k) (base + length r.rows * length r.columns) colours rs (λ q m. even q (Memᴰ.tail m)))

-- an element
module _ (x : ℕ) where
  abbrev pub stands_at : Cell → Bool
  stands_at c = eqb x c.element

  -- the places of the cells where it stands
  unfoldable pub places_among : List Cell → List (List ℕ)
  places_among cells = map (λ (c : Cell). c.place) (keep stands_at cells)

  among_append : (cs ds : List Cell) → places_among (cs ++ ds) ≡ places_among cs ++ places_among ds
  unfolding places_among
  among_append cs ds = ap (map (λ (c : Cell). c.place)) (keep_append stands_at cs ds) ∙ map-append (λ (c : Cell). c.place) (keep stands_at cs) (keep stands_at ds)

  among_none : places_among [] ≡ []
  unfolding places_among
  among_none = ap (map (λ (c : Cell). c.place)) (keep_none stands_at)

  places_in_row_lem : (k : ℕ) (line : List ℕ) (j n : ℕ) (row : List ℕ) → places_in_row k line x j row ≡ places_among (cells_in_row k line j n row)
  unfolding places_in_row cells_in_row places_among
  places_in_row_lem k line j n [] = sym among_none
  places_in_row_lem k line j n (y ∷ row) = by_test (split (eqb x y)) (places_in_row_lem k line (suc j) (suc n) row)
    where
      cell : Cell
      cell = record { element = y; place = k ∷ j ∷ line; number = n }

      rest : List Cell
      rest = cells_in_row k line (suc j) (suc n) row

      by_test : (eqb x y ≡ true) ⊎ (eqb x y ≡ false) → places_in_row k line x (suc j) row ≡ places_among rest → places_in_row k line x j (y ∷ row) ≡ places_among (cell ∷ rest)
      by_test (inl e) ih = rw (e, places_in_row) (ap (λ ps. (k ∷ j ∷ line) ∷ ps) ih ∙ ap (map (λ (c : Cell). c.place)) (sym (keep_yes stands_at cell rest e)))
      by_test (inr e) ih = rw (e, places_in_row) (ih ∙ ap (map (λ (c : Cell). c.place)) (sym (keep_no stands_at cell rest e)))

  places_in_rows_lem : (k base arity : ℕ) (colours : List ℕ) (lines rows : List (List ℕ)) → places_in_rows k colours x rows ≡ places_among (cells_in_rows k base arity colours lines rows)
  unfolding places_in_rows cells_in_rows
  places_in_rows_lem k base arity colours lines [] = sym among_none
  places_in_rows_lem k base arity colours lines (row ∷ rows) =
      let start = base + first_at (same_row (line_of colours row)) lines * arity in
      ap₂ (λ ps qs. ps ++ qs) (places_in_row_lem k (line_of colours row) 0 start row) (places_in_rows_lem k base arity colours lines rows)
      ∙ sym (among_append (cells_in_row k (line_of colours row) 0 start row) (cells_in_rows k base arity colours lines rows))

  pub places_from_lem : (k base : ℕ) (colours : List ℕ) (rs : List Rel) → places_from k colours x rs ≡ places_among (cells_from k base colours rs)
  unfolding places_from cells_from
  places_from_lem k base colours [] = sym among_none
  places_from_lem k base colours (r ∷ rs) =
      let here = cells_in_rows k base (length r.columns) colours (map (line_of colours) r.rows) r.rows in
      let rest = cells_from (suc k) (base + length r.rows * length r.columns) colours rs in
      ap₂ (λ ps qs. ps ++ qs)
      (places_in_rows_lem k base (length r.columns) colours (map (line_of colours) r.rows) r.rows)
      (places_from_lem (suc k) (base + length r.rows * length r.columns) colours rs)
      ∙ sym (among_append here rest)

  -- the numbers picked for it
  pub picked_among : (cells : List Cell) → picked x (elements cells) (numbers cells) ≡ numbers (keep stands_at cells)
  unfolding picked
  picked_among [] = ap numbers (sym (keep_none stands_at))
  picked_among (c ∷ cells) = by_test (split (eqb x c.element)) (picked_among cells)
    where
      by_test :
          (eqb x c.element ≡ true) ⊎ (eqb x c.element ≡ false) → picked x (elements cells) (numbers cells) ≡ numbers (keep stands_at cells) → picked x (elements (c ∷ cells)) (numbers (c ∷ cells)) ≡ numbers (keep stands_at (c ∷ cells))
      by_test (inl e) ih = rw (e, picked) (ap (λ ns. c.number ∷ ns) ih ∙ ap numbers (sym (keep_yes stands_at c cells e)))
      by_test (inr e) ih = rw (e, picked) (ih ∙ ap numbers (sym (keep_no stands_at c cells e)))
