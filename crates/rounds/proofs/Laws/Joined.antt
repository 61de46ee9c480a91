-- Joined: two well formed models of one signature as one model. Its rows are as long as their relations have columns, and the places of an element of either side are those in its own model. Assumes nothing.
use Prim.Native.Nat.{ℕ, zero, suc, ◌+◌, ◌<◌, ◌≤◌}
use mathlib.Core.Path.{◌≡◌, refl, sym, ◌∙◌, ap, ap₂, subst}
use mathlib.Core.Logic.{◌⊎◌, inl, inr}
use mathlib.Core.Bool.{true, false}
use mathlib.Core.List.Memᴰ
use mathlib.Core.List.{List, [], ◌∷◌, ◌++◌, map, map-map, append_assoc, append-nil, Memᴰ}
use native.Mathlib.Omega.{arith}
use borrow.Author.Tests.{eqb-true, eq-eqb, ne_eqb}
use lib.Dec.{eqb}
use lib.ListN.{length, get_or, drop, length-map, drop_of_length-le}
use lib.Seq.{drop-cons}
use Rattle.lists.proofs.Laws.Tests.{split, same_test}
use Rattle.lists.proofs.Laws.Sets.{mem_map}
use Rattle.lists.proofs.Laws.Groups.{map_alike}
use Rattle.stored.specs.Model.{Rel, Model, size, no_relation, relation_at}
use Rattle.stored.specs.Signature.{Signature, signature, same_signature}
use Rattle.stored.proofs.Laws.WellFormed.{WellFormed}
use Rattle.stored.proofs.Laws.Signature.{same_signature_lem, signature_length, signature_columns}
use Rattle.stored.proofs.Laws.Representatives.{entry_known, row_even}
use Rattle.rounds.specs.Colours.{colour_at}
use Rattle.rounds.specs.Keys.{places_in_row, places_in_rows, places_from}
use Rattle.rounds.specs.Board.{line_of, raised, joined_at, joined_from, joined}
use Rattle.rounds.proofs.Laws.Places.{Even}

-- the clauses of the places in a row
module _ (k : ℕ) (line : List ℕ) (x j y : ℕ) (row : List ℕ) where
  in_row_yes : eqb x y ≡ true → places_in_row k line x j (y ∷ row) ≡ (k ∷ j ∷ line) ∷ places_in_row k line x (suc j) row
  unfolding places_in_row
  in_row_yes e = rw (e, places_in_row)

  in_row_no : eqb x y ≡ false → places_in_row k line x j (y ∷ row) ≡ places_in_row k line x (suc j) row
  unfolding places_in_row
  in_row_no e = rw (e, places_in_row)

-- where an element does not stand, it has no place
none_in_row : (k : ℕ) (line : List ℕ) (x j : ℕ) (row : List ℕ) → ((y : ℕ) → Memᴰ y row → x ≡ y → ⊥) → places_in_row k line x j row ≡ []
unfolding places_in_row
none_in_row k line x j [] h = refl
none_in_row k line x j (y ∷ row) h =
    in_row_no k line x j y row (ne_eqb x y (h y (Memᴰ.head refl))) ∙ none_in_row k line x (suc j) row (λ z m. h z (Memᴰ.tail m))

none_in_rows : (k : ℕ) (colours : List ℕ) (x : ℕ) (rows : List (List ℕ)) → ((row : List ℕ) → Memᴰ row rows → (y : ℕ) → Memᴰ y row → x ≡ y → ⊥) → places_in_rows k colours x rows ≡ []
unfolding places_in_rows
none_in_rows k colours x [] h = refl
none_in_rows k colours x (row ∷ rows) h =
    ap₂ (λ ps qs. ps ++ qs) (none_in_row k (line_of colours row) x 0 row (h row (Memᴰ.head refl))) (none_in_rows k colours x rows (λ q m. h q (Memᴰ.tail m)))

rows_append : (k : ℕ) (colours : List ℕ) (x : ℕ) (ps qs : List (List ℕ)) → places_in_rows k colours x (ps ++ qs) ≡ places_in_rows k colours x ps ++ places_in_rows k colours x qs
unfolding places_in_rows
rows_append k colours x [] qs = refl
rows_append k colours x (row ∷ ps) qs =
    ap (λ l. places_in_row k (line_of colours row) x 0 row ++ l) (rows_append k colours x ps qs)
    ∙ sym (append_assoc (places_in_row k (line_of colours row) x 0 row) (places_in_rows k colours x ps) (places_in_rows k colours x qs))

-- colours that agree on the entries of some rows
rows_alike :
    (k : ℕ) (colours others : List ℕ) (x : ℕ) (rows : List (List ℕ)) → ((row : List ℕ) → Memᴰ row rows → (y : ℕ) → Memᴰ y row → colour_at colours y ≡ colour_at others y) → places_in_rows k colours x rows ≡ places_in_rows k others x rows
unfolding places_in_rows
rows_alike k colours others x [] h = refl
rows_alike k colours others x (row ∷ rows) h =
    ap₂ (λ ps qs. ps ++ qs)
    (ap (λ (line : List ℕ). places_in_row k line x 0 row) (map_alike (colour_at colours) (colour_at others) row (h row (Memᴰ.head refl))))
    (rows_alike k colours others x rows (λ q m. h q (Memᴰ.tail m)))

-- rows of the right
raised_test : (x y : ℕ) → eqb (raised x) (raised y) ≡ eqb x y
unfolding raised
raised_test x y = same_test (eqb (x + 64) (y + 64)) (eqb x y) (λ h. eq-eqb x y (let e = eqb-true (x + 64) (y + 64) h in omega arith)) (λ h. eq-eqb (x + 64) (y + 64) (ap (λ (n : ℕ). n + 64) (eqb-true x y h)))

raised_row : (k : ℕ) (line : List ℕ) (x j : ℕ) (row : List ℕ) → places_in_row k line (raised x) j (map raised row) ≡ places_in_row k line x j row
unfolding places_in_row
raised_row k line x j [] = refl
raised_row k line x j (y ∷ row) = by_test (split (eqb x y)) (raised_row k line x (suc j) row)
  where
    by_test : (eqb x y ≡ true) ⊎ (eqb x y ≡ false) → places_in_row k line (raised x) (suc j) (map raised row) ≡ places_in_row k line x (suc j) row → places_in_row k line (raised x) j (map raised (y ∷ row)) ≡ places_in_row k line x j (y ∷ row)
    by_test (inl e) ih = in_row_yes k line (raised x) j (raised y) (map raised row) (raised_test x y ∙ e) ∙ ap (λ l. (k ∷ j ∷ line) ∷ l) ih ∙ sym (in_row_yes k line x j y row e)
    by_test (inr e) ih = in_row_no k line (raised x) j (raised y) (map raised row) (raised_test x y ∙ e) ∙ ih ∙ sym (in_row_no k line x j y row e)

raised_rows :
    (k : ℕ) (colours right : List ℕ) (x : ℕ) (rows : List (List ℕ)) → ((row : List ℕ) → Memᴰ row rows → (y : ℕ) → Memᴰ y row → colour_at colours (raised y) ≡ colour_at right y)
    → places_in_rows k colours (raised x) (map (map raised) rows) ≡ places_in_rows k right x rows
unfolding places_in_rows
raised_rows k colours right x [] h = refl
raised_rows k colours right x (row ∷ rows) h =
    let same_line : line_of colours (map raised row) ≡ line_of right row =
    map-map (colour_at colours) raised row ∙ map_alike (λ (y : ℕ). colour_at colours (raised y)) (colour_at right) row (h row (Memᴰ.head refl)) in
    ap₂ (λ ps qs. ps ++ qs)
    (ap (λ (line : List ℕ). places_in_row k line (raised x) 0 (map raised row)) same_line ∙ raised_row k (line_of right row) x 0 row)
    (raised_rows k colours right x rows (λ q m. h q (Memᴰ.tail m)))

-- relations that have the same places one by one
module _ (a b m : Model) (colours own : List ℕ) (x y : ℕ) (each : (k i : ℕ) → places_in_rows k colours x (joined_at a b i).rows ≡ places_in_rows k own y (relation_at m i).rows) where
  joined_places : (n k i : ℕ) → i + n ≡ length m.relations → places_from k colours x (joined_from n a b i) ≡ places_from k own y (drop i m.relations)
  unfolding places_from joined_from
  joined_places zero k i e = rw (drop_of_length-le m.relations (let l : length m.relations ≤ i = omega arith in l))
  joined_places (suc n) k i e =
      rw (drop-cons m.relations i no_relation (let l : i < length m.relations = omega arith in l))
      (ap₂ (λ ps qs. ps ++ qs) (each k i) (joined_places n (suc k) (suc i) (omega arith)))

-- the relations of both models as one
joined_mem : (a b : Model) (n i : ℕ) (r : Rel) → Memᴰ r (joined_from n a b i) → (k : ℕ) × (r ≡ joined_at a b k)
unfolding joined_from
joined_mem a b zero i r m = absurd (Memᴰ.not-nil m)
joined_mem a b (suc n) i r m = go (Memᴰ.cases_cons m) (joined_mem a b n (suc i) r)
  where
    go : (r ≡ joined_at a b i) ⊎ Memᴰ r (joined_from n a b (suc i)) → (Memᴰ r (joined_from n a b (suc i)) → (k : ℕ) × (r ≡ joined_at a b k)) → (k : ℕ) × (r ≡ joined_at a b k)
    go (inl e) ih = (i, e)
    go (inr n) ih = ih n

module _ (a b : Model) (v : WellFormed a) (w : WellFormed b) (one : same_signature (signature a) (signature b) ≡ true) where
  equal : signature a ≡ signature b
  equal = same_signature_lem _ _ one

  as_many_relations : length a.relations ≡ length b.relations
  as_many_relations = sym (signature_length a) ∙ ap (λ (g : Signature). length g.columns) equal ∙ signature_length b

  same_columns : (k : ℕ) → (relation_at a k).columns ≡ (relation_at b k).columns
  same_columns k = sym (signature_columns a k) ∙ ap (λ (g : Signature). get_or g.columns k []) equal ∙ signature_columns b k

  even_at : (k : ℕ) (row : List ℕ) → Memᴰ row (joined_at a b k).rows → length row ≡ length (joined_at a b k).columns
  unfolding joined_at
  even_at k row m = go (Memᴰ.append_cases (relation_at a k).rows m)
    where
      go : Memᴰ row (relation_at a k).rows ⊎ Memᴰ row (map (map raised) (relation_at b k).rows) → length row ≡ length (relation_at a k).columns
      go (inl n) = row_even a v k row n
      go (inr n) =
          let r = mem_map (map raised) (relation_at b k).rows row n in
          ap length r.2 ∙ length-map r.0 raised ∙ row_even b w k r.0 r.1 ∙ ap length (sym (same_columns k))

  pub joined_even : Even (joined a b)
  joined_even r m =
      let p = joined_mem a b (length a.relations) 0 r m in
      subst (λ (q : Rel). (row : List ℕ) → Memᴰ row q.rows → length row ≡ length q.columns) (sym p.1) (even_at p.0)

  pub joined_left : (colours left : List ℕ) → ((e : ℕ) → e < size a → colour_at colours e ≡ colour_at left e) → (x : ℕ) → x < 64 → places_from 0 colours x (joined a b) ≡ places_from 0 left x a.relations
  unfolding raised joined_at
  joined_left colours left agree x small = joined_places a b a colours left x x each (length a.relations) 0 0 (omega arith)
    where
      apart : (k : ℕ) (row : List ℕ) → Memᴰ row (map (map raised) (relation_at b k).rows) → (y : ℕ) → Memᴰ y row → x ≡ y → ⊥
      apart k row m y n e =
          let r = mem_map (map raised) (relation_at b k).rows row m in
          let s = mem_map raised r.0 y (subst (λ (l : List ℕ). Memᴰ y l) r.2 n) in
          let z : y ≡ s.0 + 64 = s.2 in
          omega arith

      each : (k i : ℕ) → places_in_rows k colours x (joined_at a b i).rows ≡ places_in_rows k left x (relation_at a i).rows
      each k i =
          rows_append k colours x (relation_at a i).rows (map (map raised) (relation_at b i).rows)
          ∙ ap₂ (λ ps qs. ps ++ qs)
          (rows_alike k colours left x (relation_at a i).rows (λ row m y n. agree y (entry_known a v i row m y n)))
          (none_in_rows k colours x (map (map raised) (relation_at b i).rows) (apart i))
          ∙ append-nil (places_in_rows k left x (relation_at a i).rows)

  pub joined_right : (colours right : List ℕ) → ((e : ℕ) → e < size b → colour_at colours (raised e) ≡ colour_at right e) → (y : ℕ) → places_from 0 colours (raised y) (joined a b) ≡ places_from 0 right y b.relations
  unfolding raised joined_at
  joined_right colours right agree y = joined_places a b b colours right (raised y) y each (length a.relations) 0 0 (omega (arith, as_many_relations))
    where
      apart : (k : ℕ) (row : List ℕ) → Memᴰ row (relation_at a k).rows → (x : ℕ) → Memᴰ x row → raised y ≡ x → ⊥
      apart k row m x n e = omega (arith, entry_known a v k row m x n, v.few_elements)

      each : (k i : ℕ) → places_in_rows k colours (raised y) (joined_at a b i).rows ≡ places_in_rows k right y (relation_at b i).rows
      each k i =
          rows_append k colours (raised y) (relation_at a i).rows (map (map raised) (relation_at b i).rows)
          ∙ ap₂ (λ ps qs. ps ++ qs)
          (none_in_rows k colours (raised y) (relation_at a i).rows (apart i))
          (raised_rows k colours right y (relation_at b i).rows (λ row m x n. agree x (entry_known b w i row m x n)))
