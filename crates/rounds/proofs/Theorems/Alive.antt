-- Alive: where a function that carries the left model onto the right one agrees with the colours, it agrees with them after a round too, and every
-- colour then stands as often on both sides. Assumes nothing.
use Prim.Native.Nat.{ℕ, suc, ◌+◌}
use mathlib.Core.Path.{◌≡◌, refl, sym, ◌∙◌, ap, ap₂, subst}
use mathlib.Core.Logic.{◌⊎◌, inl, inr}
use mathlib.Core.Bool.{Bool, true, false}
use mathlib.Core.List.{List, [], ◌∷◌, ◌++◌, map, Memᴰ, Permᴰ}
use native.Mathlib.Omega.{arith}
use borrow.Author.Tests.{eqb-true, eqb-false, eq-eqb, ne_eqb}
use lib.Dec.{eqb}
use lib.ListN.{get_or}
use Rattle.lists.specs.Every.{how_many}
use Rattle.lists.specs.Numbers.{up_from}
use Rattle.lists.specs.Order.{same_row}
use Rattle.lists.proofs.Laws.Tests.{split}
use Rattle.lists.proofs.Laws.Every.{mem_all}
use Rattle.lists.proofs.Laws.Sets.{Distinct, keep_distinct, map_distinct, mem_map, map_mem}
use Rattle.stored.specs.Model.{Rel, Model, size, is_rep, no_relation, relation_at}
use Rattle.rounds.specs.Colours.{colour_at}
use Rattle.rounds.specs.Keys.{places_in_row, places_in_rows, places_from, key_of, same_key}
use Rattle.rounds.specs.Round.{reps, Sides, round, colours_of, equal_counts}
use Rattle.lists.proofs.Laws.Counting.{how_many_append, how_many_parts, how_many_agree, how_many-map, perm_how_many, same_members, up_from_distinct}
use Rattle.rounds.proofs.Theorems.Keys.{on_left, on_right, make_same, key_round}

-- f carries the left model onto the right one: its representatives one to one onto those of the other, the rows of each relation, entry by entry,
-- onto those of its counterpart up to order, where what stands in rows is a representative
pub record Carries (a b : Model) (f : ℕ → ℕ) : Type 0 where
  pub to_rep : (x : ℕ) → Memᴰ x (reps a) → Memᴰ (f x) (reps b)
  pub keeps_apart : (x y : ℕ) → Memᴰ x (reps a) → Memᴰ y (reps a) → f x ≡ f y → x ≡ y
  pub onto : (y : ℕ) → Memᴰ y (reps b) → (x : ℕ) × Memᴰ x (reps a) × (f x ≡ y)
  pub rows_within : (k : ℕ) (row : List ℕ) → Memᴰ row (relation_at a k).rows → (y : ℕ) → Memᴰ y row → Memᴰ y (reps a)
  pub rows_carried : (k : ℕ) → Permᴰ (map (map f) (relation_at a k).rows) (relation_at b k).rows

-- f agrees with the colours of both sides
abbrev pub Agrees : Model → (ℕ → ℕ) → Sides → Type 0
Agrees a f c = (x : ℕ) → Memᴰ x (reps a) → colour_at c.right (f x) ≡ colour_at c.left x

-- the places of an element, along a function that is one to one on what stands in the rows
module _ (f : ℕ → ℕ) where
  abbrev OnlyItself : ℕ → List ℕ → Type 0
  OnlyItself x row = (y : ℕ) → Memᴰ y row → f x ≡ f y → x ≡ y

  module _ (k : ℕ) (colours : List ℕ) (x : ℕ) where
    places_in_row_lem : (j : ℕ) (row : List ℕ) → OnlyItself x row → places_in_row k colours (f x) j (map f row) ≡ places_in_row k colours x j row
    unfolding places_in_row
    places_in_row_lem j [] h = refl
    places_in_row_lem j (y ∷ ys) h = go (split (eqb x y)) (places_in_row_lem (suc j) ys (λ z m. h z (Memᴰ.tail m)))
      where
        goal : ℕ → List ℕ → Type 0
        goal j row = places_in_row k colours (f x) j (map f row) ≡ places_in_row k colours x j row

        go : (eqb x y ≡ true) ⊎ (eqb x y ≡ false) → goal (suc j) ys → goal j (y ∷ ys)
        go (inl t) ih = rw (t, places_in_row, eq-eqb (f x) (f y) (ap f (eqb-true x y t))) (ap (λ (r : List (List ℕ)). (k ∷ j ∷ colours) ∷ r) ih)
        go (inr t) ih = rw (t, places_in_row, ne_eqb (f x) (f y) (λ q. eqb-false x y t (h y (Memᴰ.head refl) q))) ih

  module _ (left right : List ℕ) where
    abbrev Agree : List ℕ → Type 0
    Agree row = (y : ℕ) → Memᴰ y row → colour_at right (f y) ≡ colour_at left y

    colours_along : (row : List ℕ) → Agree row → map (colour_at right) (map f row) ≡ map (colour_at left) row
    colours_along [] h = refl
    colours_along (y ∷ ys) h = ap₂ ◌∷◌ (h y (Memᴰ.head refl)) (colours_along ys (λ z m. h z (Memᴰ.tail m)))

    module _ (k x : ℕ) where
      abbrev Along : List (List ℕ) → Type 0
      Along rows = (row : List ℕ) → Memᴰ row rows → Agree row × OnlyItself x row

      places_in_rows_lem : (rows : List (List ℕ)) → Along rows → places_in_rows k right (f x) (map (map f) rows) ≡ places_in_rows k left x rows
      unfolding places_in_rows
      places_in_rows_lem [] h = refl
      places_in_rows_lem (r ∷ rs) h =
          let its = h r (Memᴰ.head refl) in
          let here : places_in_row k (map (colour_at right) (map f r)) (f x) 0 (map f r) ≡ places_in_row k (map (colour_at left) r) x 0 r =
          rw (colours_along r its.0) (places_in_row_lem k (map (colour_at left) r) x 0 r its.1)
          in
          ap₂ ◌++◌ here (places_in_rows_lem rs (λ q m. h q (Memᴰ.tail m)))

-- the order of the rows does not matter
module _ (p : List ℕ → Bool) (k : ℕ) (colours : List ℕ) (x : ℕ) where
  abbrev places_of : List (List ℕ) → List (List ℕ)
  places_of rows = places_in_rows k colours x rows

  abbrev places_at : List ℕ → List (List ℕ)
  places_at row = places_in_row k (map (colour_at colours) row) x 0 row

  places_any_order : {rs qs : List (List ℕ)} → Permᴰ rs qs → how_many p (places_of rs) ≡ how_many p (places_of qs)
  unfolding places_in_rows
  places_any_order Permᴰ.nil = refl
  places_any_order (Permᴰ.cons {a = a} {b = b} {l₁ = xs} {l₂ = ys} e d) =
      rw e (how_many_parts p (places_at b) (places_of xs) (places_at b) (places_of ys) refl (places_any_order d))
  places_any_order (Permᴰ.swap {a = a} {b = b} {a' = a'} {b' = b'} {l = l} e₁ e₂) =
      let both : (r q : List ℕ) → how_many p (places_of (r ∷ q ∷ l)) ≡ how_many p (places_at r) + (how_many p (places_at q) + how_many p (places_of l)) =
      λ r q. omega (arith, how_many_append p (places_at r) (places_of (q ∷ l)), how_many_append p (places_at q) (places_of l))
      in
      rw (e₁, e₂) (omega (arith, both b' a', both a' b'))
  places_any_order (Permᴰ.trans d₁ d₂) = places_any_order d₁ ∙ places_any_order d₂

-- f on the members of a list, and the colours of both sides
record On (f : ℕ → ℕ) (left right xs : List ℕ) : Type 0 where
  one : (x y : ℕ) → Memᴰ x xs → Memᴰ y xs → f x ≡ f y → x ≡ y
  agree : (x : ℕ) → Memᴰ x xs → colour_at right (f x) ≡ colour_at left x

-- the places of x and those of f x, relation by relation; a relation that is not there has no rows
module _ (f : ℕ → ℕ) (left right xs : List ℕ) (on : On f left right xs) (p : List ℕ → Bool) (x : ℕ) (there : Memᴰ x xs) where
  abbrev Within : List (List ℕ) → Type 0
  Within rows = (row : List ℕ) → Memᴰ row rows → (y : ℕ) → Memᴰ y row → Memᴰ y xs

  abbrev Onto : List (List ℕ) → List (List ℕ) → Type 0
  Onto rows others = Permᴰ (map (map f) rows) others

  module _ (k : ℕ) (rows others : List (List ℕ)) where
    relation_carried : Within rows → Onto rows others → how_many p (places_in_rows k left x rows) ≡ how_many p (places_in_rows k right (f x) others)
    relation_carried w d =
        let along : Along f left right k x rows = λ row n. ((λ y o. on.agree y (w row n y o)), (λ y o. on.one x y there (w row n y o))) in
        ap (how_many p) (sym (places_in_rows_lem f left right k x rows along)) ∙ places_any_order p k right (f x) d

  abbrev rows_at : List Rel → ℕ → List (List ℕ)
  rows_at rs j = (get_or rs j no_relation).rows

  abbrev Carried : List Rel → List Rel → Type 0
  Carried rs qs = (j : ℕ) → Within (rows_at rs j) × Onto (rows_at rs j) (rows_at qs j)

  relations_carried : (k : ℕ) (rs qs : List Rel) → Carried rs qs → how_many p (places_from k left x rs) ≡ how_many p (places_from k right (f x) qs)
  unfolding places_from places_in_rows
  relations_carried k [] [] h = refl
  relations_carried k [] (q ∷ qs) h =
      how_many_parts p [] [] (places_in_rows k right (f x) q.rows) (places_from (suc k) right (f x) qs)
      (relation_carried k [] q.rows (h 0).0 (h 0).1) (relations_carried (suc k) [] qs (λ j. h (suc j)))
  relations_carried k (r ∷ rs) [] h =
      how_many_parts p (places_in_rows k left x r.rows) (places_from (suc k) left x rs) [] []
      (relation_carried k r.rows [] (h 0).0 (h 0).1) (relations_carried (suc k) rs [] (λ j. h (suc j)))
  relations_carried k (r ∷ rs) (q ∷ qs) h =
      how_many_parts p (places_in_rows k left x r.rows) (places_from (suc k) left x rs) (places_in_rows k right (f x) q.rows) (places_from (suc k) right (f x) qs)
      (relation_carried k r.rows q.rows (h 0).0 (h 0).1) (relations_carried (suc k) rs qs (λ j. h (suc j)))

pub reps_distinct : (m : Model) → Distinct (reps m)
unfolding reps
reps_distinct m = keep_distinct (is_rep m) (up_from 0 (size m)) (up_from_distinct 0 (size m))

module _ (a b : Model) (f : ℕ → ℕ) (carries : Carries a b f) where
  -- the representatives go onto those of the other up to order
  pub reps_carried : Permᴰ (map f (reps a)) (reps b)
  reps_carried = same_members (map f (reps a)) (reps b) (map_distinct f (reps a) carries.keeps_apart (reps_distinct a)) (reps_distinct b) to from
    where
      to : (y : ℕ) → Memᴰ y (map f (reps a)) → Memᴰ y (reps b)
      to y m = let r = mem_map f (reps a) y m in subst (λ (v : ℕ). Memᴰ v (reps b)) (sym r.2) (carries.to_rep r.0 r.1)

      from : (y : ℕ) → Memᴰ y (reps b) → Memᴰ y (map f (reps a))
      from y m = let r = carries.onto y m in subst (λ (v : ℕ). Memᴰ v (map f (reps a))) r.2 (map_mem f (reps a) r.0 r.1)

  module _ (c : Sides) (agrees : Agrees a f c) where
    -- an element and its image have the same key
    pub key_carried : (x : ℕ) → Memᴰ x (reps a) → same_key (key_of a c.left x) (key_of b c.right (f x)) ≡ true
    unfolding key_of
    key_carried x m =
        make_same (key_of a c.left x) (key_of b c.right (f x)) (sym (agrees x m))
        (λ e. relations_carried f c.left c.right (reps a) (record { one = carries.keeps_apart; agree = agrees }) (same_row e) x m 0 a.relations b.relations
        (λ j. (carries.rows_within j, carries.rows_carried j)))

    -- so f agrees with the colours after the round
    pub round_agrees : Agrees a f (round a b c)
    round_agrees x m = sym (key_round a b c on_left on_right x (f x) m (carries.to_rep x m) (key_carried x m))

    -- and every colour stands as often on both sides
    pub counts_agree : (k : ℕ) → how_many (eqb k) (colours_of a c.left) ≡ how_many (eqb k) (colours_of b c.right)
    unfolding colours_of
    counts_agree k =
        how_many-map (eqb k) (colour_at c.left) (reps a)
        ∙ how_many_agree (λ (x : ℕ). eqb k (colour_at c.left x)) (λ (x : ℕ). eqb k (colour_at c.right (f x))) (reps a) (λ x m. ap (eqb k) (sym (agrees x m)))
        ∙ sym (how_many-map (λ (y : ℕ). eqb k (colour_at c.right y)) f (reps a))
        ∙ perm_how_many (λ (y : ℕ). eqb k (colour_at c.right y)) reps_carried
        ∙ sym (how_many-map (eqb k) (colour_at c.right) (reps b))

    pub agrees_equal : equal_counts a b c ≡ true
    unfolding equal_counts
    agrees_equal =
        mem_all (λ (k : ℕ). eqb (how_many (eqb k) (colours_of a c.left)) (how_many (eqb k) (colours_of b c.right))) (colours_of a c.left ++ colours_of b c.right)
        (λ k m. eq-eqb _ _ (counts_agree k))

  pub round_equal : (c : Sides) → Agrees a f c → equal_counts a b (round a b c) ≡ true
  round_equal c agrees = agrees_equal (round a b c) (round_agrees c agrees)
