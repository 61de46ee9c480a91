-- Numbered: equal numbers stand for equal places, so that two elements have the same bag of places exactly if each number is picked as often for both; and the numbers are no more than the cells. Assumes
-- nothing.
use Prim.Native.Nat.{ℕ, zero, suc, ◌+◌, ◌*◌, ◌<◌, ◌≤◌}
use mathlib.Core.Path.{◌≡◌, refl, sym, ◌∙◌, ap, ap₂, subst}
use mathlib.Core.Logic.{◌⊎◌, inl, inr}
use mathlib.Core.Bool.{Bool, true, false}
use mathlib.Core.List.{List, [], ◌∷◌, ◌++◌, map, map-append, Memᴰ}
use native.Mathlib.Omega.{arith}
use native.Mathlib.Nat.{suc-mul}
use borrow.Author.Tests.{eqb-true, eq-eqb}
use lib.Dec.{eqb}
use lib.ListN.{length, get_or, drop, length-map, length-append}
use Rattle.lists.specs.Every.{all, keep, how_many}
use Rattle.lists.specs.First.{first_at}
use Rattle.lists.specs.Order.{same_row}
use Rattle.lists.proofs.Laws.Tests.{split, same_test}
use Rattle.lists.proofs.Laws.Every.{all_none, all_yes, all_no, mem_keep, get_d_mem}
use Rattle.lists.proofs.Laws.Order.{same_row_lem, same_row_refl, same_row_sym, same_row_trans}
use Rattle.lists.proofs.Laws.Sets.{mem_map, map_mem}
use Rattle.lists.proofs.Laws.Counting.{how_many_agree, how_many-map, first_at_reached, class_same}
use Rattle.stored.specs.Model.{Rel}
use Rattle.rounds.specs.Keys.{places_from, same_bag}
use Rattle.rounds.specs.Board.{flat, cells_of, line_of, numbers_from, picked, same_numbers}
use Rattle.rounds.proofs.Laws.Places.{Cell, cells_in_row, cells_in_rows, cells_from, EvenRows, Even, numbers, elements_from, numbers_from_lem, stands_at, places_among, places_from_lem, picked_among}

-- tests that agree on the members of two lists in step count alike
count_alike :
    {A B C : Type 0} (f : A → B) (g : A → C) (p : B → Bool) (q : C → Bool) (xs : List A) → ((x : A) → Memᴰ x xs → p (f x) ≡ q (g x)) → how_many p (map f xs) ≡ how_many q (map g xs)
count_alike {A} f g p q xs h = how_many-map p f xs ∙ how_many_agree (λ (x : A). p (f x)) (λ (x : A). q (g x)) xs h ∙ sym (how_many-map q g xs)

all_alike : {A B C : Type 0} (f : A → B) (g : A → C) (p : B → Bool) (q : C → Bool) (xs : List A) → ((x : A) → Memᴰ x xs → p (f x) ≡ q (g x)) → all p (map f xs) ≡ all q (map g xs)
all_alike f g p q [] h = all_none p ∙ sym (all_none q)
all_alike f g p q (x ∷ xs) h = by_test (split (p (f x))) (all_alike f g p q xs (λ y m. h y (mathlib.Core.List.Memᴰ.tail m)))
  where
    same : p (f x) ≡ q (g x)
    same = h x (mathlib.Core.List.Memᴰ.head refl)

    by_test : (p (f x) ≡ true) ⊎ (p (f x) ≡ false) → all p (map f xs) ≡ all q (map g xs) → all p (f x ∷ map f xs) ≡ all q (g x ∷ map g xs)
    by_test (inl e) ih = all_yes p (f x) (map f xs) e ∙ ih ∙ sym (all_yes q (g x) (map g xs) (sym same ∙ e))
    by_test (inr e) ih = all_no p (f x) (map f xs) e ∙ sym (all_no q (g x) (map g xs) (sym same ∙ e))

module _ {A : Type 0} (place : A → List ℕ) (number : A → ℕ) (xs ys : List A) (told : (x y : A) → Memᴰ x (xs ++ ys) → Memᴰ y (xs ++ ys) → same_row (place x) (place y) ≡ eqb (number x) (number y)) where
  counts_left : (z : A) → Memᴰ z (xs ++ ys) → how_many (same_row (place z)) (map place xs) ≡ how_many (eqb (number z)) (map number xs)
  counts_left z m = count_alike place number (same_row (place z)) (eqb (number z)) xs (λ x k. told z x m (mathlib.Core.List.Memᴰ.append_left ys k))

  counts_right : (z : A) → Memᴰ z (xs ++ ys) → how_many (same_row (place z)) (map place ys) ≡ how_many (eqb (number z)) (map number ys)
  counts_right z m = count_alike place number (same_row (place z)) (eqb (number z)) ys (λ y k. told z y m (mathlib.Core.List.Memᴰ.append_right xs k))

  pub bag_by_number : same_bag (map place xs) (map place ys) ≡ same_numbers (map number xs) (map number ys)
  unfolding same_bag same_numbers
  bag_by_number =
      ap (all (λ (e : List ℕ). eqb (how_many (same_row e) (map place xs)) (how_many (same_row e) (map place ys)))) (sym (map-append place xs ys))
      ∙ all_alike place number _ (λ (n : ℕ). eqb (how_many (eqb n) (map number xs)) (how_many (eqb n) (map number ys))) (xs ++ ys) (λ z m. ap₂ eqb (counts_left z m) (counts_right z m))
      ∙ ap (all (λ (n : ℕ). eqb (how_many (eqb n) (map number xs)) (how_many (eqb n) (map number ys)))) (map-append number xs ys)

-- a number below that of all cells tells row and column
row_of : (a f g j i : ℕ) → j < a → i < a → f * a + j ≡ g * a + i → f ≡ g
row_of a zero zero j i h k e = refl
row_of a zero (suc g) j i h k e = let z : 0 * a ≡ 0 = omega arith in absurd (omega (arith, suc-mul g a))
row_of a (suc f) zero j i h k e = let z : 0 * a ≡ 0 = omega arith in absurd (omega (arith, suc-mul f a))
row_of a (suc f) (suc g) j i h k e = ap suc (row_of a f g j i h k (omega (arith, suc-mul f a, suc-mul g a)))

row_below : (a f n j : ℕ) → j < a → f < n → f * a + j < n * a
row_below a f zero j h k = absurd (omega arith)
row_below a zero (suc n) j h k = let z : 0 * a ≡ 0 = omega arith in omega (arith, suc-mul n a)
row_below a (suc f) (suc n) j h k = let r = row_below a f n j h (omega arith) in omega (arith, suc-mul f a, suc-mul n a)

-- what is known of a cell of a relation: its place, and the number that comes of it
pub record Known (k base arity : ℕ) (lines : List (List ℕ)) (c : Cell) : Type 0 where
  pub column : ℕ
  pub line : List ℕ
  pub is_place : c.place ≡ k ∷ column ∷ line
  pub is_number : c.number ≡ base + (first_at (same_row line) lines * arity + column)
  pub column_there : column < arity
  pub line_there : first_at (same_row line) lines < length lines

known_in_row :
    (k : ℕ) (line : List ℕ) (j n : ℕ) (row : List ℕ) (c : Cell) → Memᴰ c (cells_in_row k line j n row) → (i : ℕ) × (i < length row) × (c.place ≡ k ∷ (j + i) ∷ line) × (c.number ≡ n + i)
unfolding cells_in_row
known_in_row k line j n [] c m = absurd (mathlib.Core.List.Memᴰ.not-nil m)
known_in_row k line j n (y ∷ row) c m = by_place (mathlib.Core.List.Memᴰ.cases_cons m) (known_in_row k line (suc j) (suc n) row c)
  where
    first : Cell
    first = record { element = y; place = k ∷ j ∷ line; number = n }

    by_place :
        (c ≡ first) ⊎ Memᴰ c (cells_in_row k line (suc j) (suc n) row)
        → (Memᴰ c (cells_in_row k line (suc j) (suc n) row) → (i : ℕ) × (i < length row) × (c.place ≡ k ∷ (suc j + i) ∷ line) × (c.number ≡ suc n + i))
        → (i : ℕ) × (i < suc (length row)) × (c.place ≡ k ∷ (j + i) ∷ line) × (c.number ≡ n + i)
    by_place (inl e) ih =
        let z : j ≡ j + 0 = omega arith in
        let y : n ≡ n + 0 = omega arith in
        (0, omega arith, ap (λ (d : Cell). d.place) e ∙ ap (λ (i : ℕ). k ∷ i ∷ line) z, ap (λ (d : Cell). d.number) e ∙ y)
    by_place (inr m) ih =
        let r = ih m in
        let z : suc j + r.0 ≡ j + suc r.0 = omega arith in
        let y : suc n + r.0 ≡ n + suc r.0 = omega arith in
        (suc r.0, omega (arith, r.1), r.2 ∙ ap (λ (i : ℕ). k ∷ i ∷ line) z, r.3 ∙ y)

module _ (k base arity : ℕ) (colours : List ℕ) (lines : List (List ℕ)) where
  known_in_rows :
      (rows : List (List ℕ)) → EvenRows arity rows → ((row : List ℕ) → Memᴰ row rows → Memᴰ (line_of colours row) lines) → (c : Cell) → Memᴰ c (cells_in_rows k base arity colours lines rows) → Known k base arity lines c
  unfolding cells_in_rows
  known_in_rows [] even there c m = absurd (mathlib.Core.List.Memᴰ.not-nil m)
  known_in_rows (row ∷ rows) even there c m = by_row (mathlib.Core.List.Memᴰ.append_cases (cells_in_row k line 0 start row) m) (known_in_rows rows (λ q n. even q (mathlib.Core.List.Memᴰ.tail n)) (λ q n. there q (mathlib.Core.List.Memᴰ.tail n)) c)
    where
      line : List ℕ
      line = line_of colours row

      start : ℕ
      start = base + first_at (same_row line) lines * arity

      by_row :
          Memᴰ c (cells_in_row k line 0 start row) ⊎ Memᴰ c (cells_in_rows k base arity colours lines rows)
          → (Memᴰ c (cells_in_rows k base arity colours lines rows) → Known k base arity lines c) → Known k base arity lines c
      by_row (inr n) ih = ih n
      by_row (inl n) ih =
          let r = known_in_row k line 0 start row c n in
          let z : 0 + r.0 ≡ r.0 = omega arith in
          record {
            column = r.0;
            line = line;
            is_place = r.2 ∙ ap (λ (i : ℕ). k ∷ i ∷ line) z;
            is_number = omega (arith, r.3);
            column_there = omega (arith, r.1, even row (mathlib.Core.List.Memᴰ.head refl));
            line_there = first_at_reached (same_row line) lines line (there row (mathlib.Core.List.Memᴰ.head refl)) (same_row_refl line);
          }

-- two cells of one relation
module _ {k base arity : ℕ} {lines : List (List ℕ)} {c d : Cell} (p : Known k base arity lines c) (q : Known k base arity lines d) where
  place_number : c.place ≡ d.place → c.number ≡ d.number
  place_number e =
      let f : k ∷ p.column ∷ p.line ≡ k ∷ q.column ∷ q.line = sym p.is_place ∙ e ∙ q.is_place in
      let same_column : p.column ≡ q.column = ap (λ (l : List ℕ). get_or l 1 0) f in
      let same_line : p.line ≡ q.line = ap (λ (l : List ℕ). drop 2 l) f in
      p.is_number ∙ ap₂ (λ (l : List ℕ) (j : ℕ). base + (first_at (same_row l) lines * arity + j)) same_line same_column ∙ sym q.is_number

  number_place : c.number ≡ d.number → c.place ≡ d.place
  number_place e =
      let f : first_at (same_row p.line) lines * arity + p.column ≡ first_at (same_row q.line) lines * arity + q.column = omega (arith, p.is_number, q.is_number) in
      let same_class : first_at (same_row p.line) lines ≡ first_at (same_row q.line) lines = row_of arity _ _ p.column q.column p.column_there q.column_there f in
      let same_column : p.column ≡ q.column = omega (arith, ap (λ (i : ℕ). i * arity) same_class) in
      let same_line : p.line ≡ q.line = same_row_lem _ _ (class_same same_row same_row_refl same_row_sym same_row_trans lines p.line q.line p.line_there same_class) in
      p.is_place ∙ ap₂ (λ (l : List ℕ) (j : ℕ). k ∷ j ∷ l) same_line same_column ∙ sym q.is_place

  told_within : same_row c.place d.place ≡ eqb c.number d.number
  told_within =
      same_test (same_row c.place d.place) (eqb c.number d.number)
      (λ h. eq-eqb _ _ (place_number (same_row_lem _ _ h)))
      (λ h. subst (λ (l : List ℕ). same_row c.place l ≡ true) (number_place (eqb-true _ _ h)) (same_row_refl c.place))

-- the numbers and the relation of a cell of some relations, of which the first is relation k
pub record Within (k low high : ℕ) (c : Cell) : Type 0 where
  pub relation : k ≤ get_or c.place 0 0
  pub above : low ≤ c.number
  pub below : c.number < high

length_flat : (arity : ℕ) (rows : List (List ℕ)) → EvenRows arity rows → length (flat rows) ≡ length rows * arity
unfolding flat
length_flat arity [] even = let z : 0 * arity ≡ 0 = omega arith in sym z
length_flat arity (row ∷ rows) even =
    omega (arith, length-append row (flat rows), even row (mathlib.Core.List.Memᴰ.head refl), length_flat arity rows (λ q m. even q (mathlib.Core.List.Memᴰ.tail m)), suc-mul (length rows) arity)

module _ (colours : List ℕ) where
  -- the cells of a relation
  abbrev cells_here : ℕ → ℕ → Rel → List Cell
  cells_here k base r = cells_in_rows k base (length r.columns) colours (map (line_of colours) r.rows) r.rows

  abbrev next : ℕ → Rel → ℕ
  next base r = base + length r.rows * length r.columns

  module _ (k base : ℕ) (r : Rel) (rs : List Rel) (even : Even (r ∷ rs)) where
    even_here : EvenRows (length r.columns) r.rows
    even_here = even r (mathlib.Core.List.Memᴰ.head refl)

    even_rest : Even rs
    even_rest q m = even q (mathlib.Core.List.Memᴰ.tail m)

    known_here : (c : Cell) → Memᴰ c (cells_here k base r) → Known k base (length r.columns) (map (line_of colours) r.rows) c
    known_here = known_in_rows k base (length r.columns) colours (map (line_of colours) r.rows) r.rows even_here (λ row m. map_mem (line_of colours) r.rows row m)

    number_here : (c : Cell) → Memᴰ c (cells_here k base r) → c.number < next base r
    number_here c m =
        let p = known_here c m in
        omega (arith, p.is_number, row_below (length r.columns) _ (length (map (line_of colours) r.rows)) p.column p.column_there p.line_there, ap (λ (n : ℕ). n * length r.columns) (length-map r.rows (line_of colours)))

    last : next base r + length (cells_of rs) ≡ base + length (cells_of (r ∷ rs))
    unfolding cells_of
    last = omega (arith, length-append (flat r.rows) (cells_of rs), length_flat (length r.columns) r.rows even_here)

    within_here : (c : Cell) → Memᴰ c (cells_here k base r) → Within k base (base + length (cells_of (r ∷ rs))) c
    within_here c m =
        let p = known_here c m in
        record {
          relation = let e : get_or c.place 0 0 ≡ k = ap (λ (l : List ℕ). get_or l 0 0) p.is_place in omega arith;
          above = omega (arith, p.is_number);
          below = omega (arith, number_here c m, last);
        }

    within_rest : (c : Cell) → Within (suc k) (next base r) (next base r + length (cells_of rs)) c → Within k base (base + length (cells_of (r ∷ rs))) c
    within_rest c w = record { relation = omega (arith, w.relation); above = omega (arith, w.above); below = omega (arith, w.below, last) }

  within_from : (k base : ℕ) (rs : List Rel) → Even rs → (c : Cell) → Memᴰ c (cells_from k base colours rs) → Within k base (base + length (cells_of rs)) c
  unfolding cells_from
  within_from k base [] even c m = absurd (mathlib.Core.List.Memᴰ.not-nil m)
  within_from k base (r ∷ rs) even c m = by_relation (mathlib.Core.List.Memᴰ.append_cases (cells_here k base r) m) (within_from (suc k) (next base r) rs (even_rest k base r rs even) c)
    where
      by_relation :
          Memᴰ c (cells_here k base r) ⊎ Memᴰ c (cells_from (suc k) (next base r) colours rs)
          → (Memᴰ c (cells_from (suc k) (next base r) colours rs) → Within (suc k) (next base r) (next base r + length (cells_of rs)) c) → Within k base (base + length (cells_of (r ∷ rs))) c
      by_relation (inl n) ih = within_here k base r rs even c n
      by_relation (inr n) ih = within_rest k base r rs even c (ih n)

  -- cells of different relations
  apart : (k base : ℕ) (r : Rel) (rs : List Rel) → Even (r ∷ rs) → (c d : Cell) → Memᴰ c (cells_here k base r) → Memᴰ d (cells_from (suc k) (next base r) colours rs) → (c.place ≡ d.place → ⊥) × (c.number ≡ d.number → ⊥)
  apart k base r rs even c d m n =
      let p = known_here k base r rs even c m in
      let w = within_from (suc k) (next base r) rs (even_rest k base r rs even) d n in
      let z : get_or c.place 0 0 ≡ k = ap (λ (l : List ℕ). get_or l 0 0) p.is_place in (
        (λ e. let f : get_or c.place 0 0 ≡ get_or d.place 0 0 = ap (λ (l : List ℕ). get_or l 0 0) e in omega (arith, w.relation)),
        λ e. omega (arith, number_here k base r rs even c m, w.above),
      )

  pub told : (k base : ℕ) (rs : List Rel) → Even rs → (c d : Cell) → Memᴰ c (cells_from k base colours rs) → Memᴰ d (cells_from k base colours rs) → same_row c.place d.place ≡ eqb c.number d.number
  unfolding cells_from
  told k base [] even c d m n = absurd (mathlib.Core.List.Memᴰ.not-nil m)
  told k base (r ∷ rs) even c d m n =
      by_relation (mathlib.Core.List.Memᴰ.append_cases (cells_here k base r) m) (mathlib.Core.List.Memᴰ.append_cases (cells_here k base r) n) (told (suc k) (next base r) rs (even_rest k base r rs even) c d)
    where
      rest : List Cell
      rest = cells_from (suc k) (next base r) colours rs

      differ : (c.place ≡ d.place → ⊥) → (c.number ≡ d.number → ⊥) → same_row c.place d.place ≡ eqb c.number d.number
      differ f g = same_test (same_row c.place d.place) (eqb c.number d.number) (λ h. absurd (f (same_row_lem _ _ h))) (λ h. absurd (g (eqb-true _ _ h)))

      by_relation :
          Memᴰ c (cells_here k base r) ⊎ Memᴰ c rest → Memᴰ d (cells_here k base r) ⊎ Memᴰ d rest
          → (Memᴰ c rest → Memᴰ d rest → same_row c.place d.place ≡ eqb c.number d.number) → same_row c.place d.place ≡ eqb c.number d.number
      by_relation (inl u) (inl v) ih = told_within (known_here k base r rs even c u) (known_here k base r rs even d v)
      by_relation (inl u) (inr v) ih = let a = apart k base r rs even c d u v in differ a.0 a.1
      by_relation (inr u) (inl v) ih = let a = apart k base r rs even d c v u in differ (λ e. a.0 (sym e)) (λ e. a.1 (sym e))
      by_relation (inr u) (inr v) ih = ih u v

-- the numbers of the cells of some relations
module _ (colours : List ℕ) (rs : List Rel) (even : Even rs) where
  pub numbers_length : (base : ℕ) → length (numbers_from base colours rs) ≡ length (cells_of rs)
  numbers_length base =
      let cells = cells_from 0 base colours rs in
      sym (ap length (numbers_from_lem 0 base colours rs even))
      ∙ length-map cells (λ (c : Cell). c.number)
      ∙ sym (length-map cells (λ (c : Cell). c.element))
      ∙ ap length (elements_from 0 base colours rs)

  pub numbers_small : (base c : ℕ) → c < length (cells_of rs) → get_or (numbers_from base colours rs) c 0 < base + length (cells_of rs)
  numbers_small base c h =
      let there : Memᴰ (get_or (numbers_from base colours rs) c 0) (numbers_from base colours rs) = get_d_mem (numbers_from base colours rs) c 0 (omega (arith, numbers_length base)) in
      let r = mem_map (λ (d : Cell). d.number) (cells_from 0 base colours rs) _ (subst (λ (l : List ℕ). Memᴰ (get_or (numbers_from base colours rs) c 0) l) (sym (numbers_from_lem 0 base colours rs even)) there) in
      omega (arith, r.2, (within_from colours 0 base rs even r.0 r.1).below)

  pub bag_by_numbers :
      (x y : ℕ) → same_bag (places_from 0 colours x rs) (places_from 0 colours y rs) ≡ same_numbers (picked x (cells_of rs) (numbers_from 0 colours rs)) (picked y (cells_of rs) (numbers_from 0 colours rs))
  unfolding places_among
  bag_by_numbers x y =
      ap₂ same_bag (places_from_lem x 0 0 colours rs) (places_from_lem y 0 0 colours rs)
      ∙ bag_by_number (λ (c : Cell). c.place) (λ (c : Cell). c.number) (keep (stands_at x) cells) (keep (stands_at y) cells) (λ c d m n. told colours 0 0 rs even c d (inside c m) (inside d n))
      ∙ ap₂ same_numbers (among x) (among y)
    where
      cells : List Cell
      cells = cells_from 0 0 colours rs

      among : (z : ℕ) → numbers (keep (stands_at z) cells) ≡ picked z (cells_of rs) (numbers_from 0 colours rs)
      among z = sym (picked_among z cells) ∙ ap₂ (picked z) (elements_from 0 0 colours rs) (numbers_from_lem 0 0 colours rs even)

      either : (c : Cell) → Memᴰ c (keep (stands_at x) cells) ⊎ Memᴰ c (keep (stands_at y) cells) → Memᴰ c cells
      either c (inl m) = (mem_keep (stands_at x) cells c m).0
      either c (inr m) = (mem_keep (stands_at y) cells c m).0

      inside : (c : Cell) → Memᴰ c (keep (stands_at x) cells ++ keep (stands_at y) cells) → Memᴰ c cells
      inside c m = either c (mathlib.Core.List.Memᴰ.append_cases (keep (stands_at x) cells) m)
