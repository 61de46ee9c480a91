-- Promise 6, Find agrees with the maps: what find with pairs and find under a base answer with 0 is a map, as 19 would judge it; inverse answers 0 for it; and check accepts the list of
-- each class with its image, and writes the same map. Assumes nothing.
use Prim.Native.Nat.{ℕ, zero, suc, ◌+◌, ◌*◌, ◌<◌, ◌≤◌}
use mathlib.Core.Path.{◌≡◌, refl, sym, ◌∙◌, ap, subst}
use mathlib.Core.Logic.{◌⊎◌, inl, inr, by_cases}
use mathlib.Core.Bool.{true, false}
use mathlib.Core.List.{List, [], ◌∷◌, map, map-id, Memᴰ}
use native.Mathlib.Omega.{arith}
use native.Mathlib.Decide.{ℕ_discrete}
use borrow.Author.Tests.{eqb-true, eq-eqb}
use lib.ListN.{length, get_or}
use lib.Dec.{eqb}
use Rattle.lists.specs.First.{first_at, firsts}
use Rattle.lists.specs.Numbers.{up_from}
use Rattle.lists.specs.Order.{same_row}
use Rattle.lists.proofs.Laws.Tests.{split}
use Rattle.lists.proofs.Laws.Every.{mem_all, get_d_mem, get_d_inside, mem_place}
use Rattle.lists.proofs.Laws.First.{first_at_passes, first_at_some}
use Rattle.lists.proofs.Laws.Numbers.{mem_up_from}
use Rattle.lists.proofs.Laws.Order.{same_row_lem, same_row_refl}
use Rattle.lists.proofs.Laws.Sets.{Distinct, map_mem, mem_firsts, firsts_distinct, firsts_mem}
use Rattle.lists.proofs.Laws.Counting.{distinct_fits}
use Rattle.lists.proofs.Laws.Groups.{map_alike}
use Rattle.stored.specs.Model.{Model, size, type_of, root_of, is_rep, relation_at}
use Rattle.stored.specs.Parse.{model, parse}
use Rattle.stored.specs.Canonical.{canonical}
use Rattle.stored.specs.Signature.{signature, same_signature}
use Rattle.stored.proofs.Laws.WellFormed.{WellFormed, well_formed}
use Rattle.stored.proofs.Laws.Representatives.{rep_below, rep_root}
use Rattle.rows.specs.Rows.{through, has_row, images_of, normal_count, kept}
use Rattle.rows.specs.Maps.{is_map, alone, one_to_one, reached, onto, same_count, same_counts, invertible, inverse_of}
use Rattle.rows.specs.Pairs.{pair_count, left_at, right_at}
use Rattle.rows.specs.Answer.{accepted, refused, numbers}
use Rattle.rows.specs.Check.{check_models, check_files}
use Rattle.rows.specs.Inverse.{inverse_models, inverse_files}
use Rattle.rows.proofs.Laws.Answer.{answer_accepted, written_accepted}
use Rattle.rows.proofs.Laws.Files.{with_models}
use Rattle.rows.proofs.Laws.Check.{check_files_lem}
use Rattle.rows.proofs.Laws.Inverse.{alone_none, alone_first, reached_alias, reached_there, by_counts}
use Rattle.rows.proofs.Laws.Rows.{kept_each, kept_rows, images_through}
use Rattle.rows.proofs.Theorems.Among.{among_row, through_map}
use Rattle.rows.proofs.Theorems.Through.{through_through, through_self}
use Rattle.rows.proofs.Theorems.Maps.{Map, kept_keeps, facts_map}
use Rattle.rows.proofs.Theorems.Pairs.{GoodPair, named, meant}
use Rattle.rows.proofs.Theorems.Check.{check_accepts}
use Rattle.rows.proofs.Theorems.Answers.{inverse_exists}
use Rattle.rounds.specs.Round.{reps}
use Rattle.rounds.proofs.Theorems.Keys.{reps_below_lem, reps_rep}
use Rattle.rounds.proofs.Theorems.Carrying.{known_reps, rows_distinct, canonical_within, sets_carry}
use Rattle.search.proofs.Theorems.Never.{same_rows}
use Rattle.search.proofs.Theorems.Ends.{Comparable}
use Rattle.promises.specs.Isomorphism.{image_by, map_in, Wrote, own_pairs}
use Rattle.promises.specs.Calls.{find_says, find_writes, under_says, under_writes, Checks, Inverts}
use Rattle.promises.proofs.Laws.{carries_sets}
use Rattle.rows.proofs.Laws.Invertible.{one_to_one_each, onto_each, counts_each, count_same, normal_count_lem, inverse_files_lem}
use Rattle.promises.proofs.Found.{found, found_comparable}
use Rattle.promises.proofs.UnderABase.{found_under, under_comparable}

-- rows without repetition are all first appearances
firsts_all : (rows : List (List ℕ)) → Distinct rows → length (firsts same_row rows) ≡ length rows
firsts_all rows d =
    let few = distinct_fits (firsts same_row rows) rows (firsts_distinct same_row same_row_lem same_row_refl rows) (λ row m. mem_firsts same_row rows row m) in
    let many = distinct_fits rows (firsts same_row rows) d (λ row m. firsts_mem same_row same_row_lem same_row_refl rows row m) in
    omega (arith, few, many)

-- in a canonical model rows are normalised as they stand
module _ (m : Model) (w : WellFormed m) (plain : canonical m ≡ true) where
  row_normal : (k : ℕ) (row : List ℕ) → Memᴰ row (relation_at m k).rows → through m.roots row ≡ row
  row_normal k row n = through_self m.roots row (λ x i.
      let r = reps_rep m x (canonical_within m w plain k row n x i) in
      get_d_inside m.roots x 255 0 (rep_below m.roots x r) ∙ rep_root m.roots x r)

  plain_count : (k : ℕ) → normal_count m (relation_at m k) ≡ length (relation_at m k).rows
  plain_count k =
      normal_count_lem m (relation_at m k)
      ∙ ap (λ (rows : List (List ℕ)). length (firsts same_row rows)) (map_alike (through m.roots) (λ (row : List ℕ). row) (relation_at m k).rows (row_normal k) ∙ map-id (relation_at m k).rows)
      ∙ firsts_all (relation_at m k).rows (rows_distinct m w k)

-- the pair list of a map, pair by pair
module _ (f : List ℕ) where
  own_length : (xs : List ℕ) → length (own_pairs f xs) ≡ 2 * length xs
  unfolding own_pairs
  own_length [] = refl
  own_length (x ∷ xs) = omega (arith, own_length xs)

  own_left : (xs : List ℕ) (j : ℕ) → j < length xs → left_at (own_pairs f xs) j ≡ get_or xs j 0
  unfolding own_pairs
  own_left [] j l = absurd (omega arith)
  own_left (x ∷ xs) zero l = refl
  own_left (x ∷ xs) (suc j) l = let e : 2 * suc j ≡ suc (suc (2 * j)) = omega arith in rw e (own_left xs j (omega arith))

  own_right : (xs : List ℕ) (j : ℕ) → j < length xs → right_at (own_pairs f xs) j ≡ image_by f (get_or xs j 0)
  unfolding own_pairs
  own_right [] j l = absurd (omega arith)
  own_right (x ∷ xs) zero l = refl
  own_right (x ∷ xs) (suc j) l = let e : 2 * suc j + 1 ≡ suc (suc (2 * j + 1)) = omega arith in rw e (own_right xs j (omega arith))

-- an isomorphism that was written
module _ (a b : Model) (wa : WellFormed a) (wb : WellFormed b) (left_plain : canonical a ≡ true) (right_plain : canonical b ≡ true) (before after : List ℕ) (w : Wrote a b before after) where
  abbrev f : List ℕ
  f = map_in a after

  small : length f ≤ 255
  small = omega (arith, w.its_length, wa.few_elements)

  row_goes : (k : ℕ) (row : List ℕ) → Memᴰ row (relation_at a k).rows → Memᴰ (through (images_of a f) row) (map (through b.roots) (relation_at b k).rows)
  row_goes k row n =
      let there = w.isomorphism.rows_into k row n in
      let e : through (images_of a f) row ≡ through b.roots (map (image_by f) row) =
      ap (λ (t : List ℕ). through t row) (sym (images_through a f))
      ∙ through_through f a.roots row small
      ∙ ap (through f) (row_normal a wa left_plain k row n)
      ∙ through_map f row
      ∙ sym (row_normal b wb right_plain k (map (image_by f) row) there)
      in
      subst (λ (v : List ℕ). Memᴰ v (map (through b.roots) (relation_at b k).rows)) (sym e) (map_mem (through b.roots) (relation_at b k).rows (map (image_by f) row) there)

  keeps_all : (k : ℕ) → kept a b f k ≡ true
  keeps_all k =
      kept_rows a b (images_of a f) k
      ∙ kept_each (images_of a f) (relation_at a k).rows (map (through b.roots) (relation_at b k).rows)
      ∙ mem_all (λ (row : List ℕ). has_row (through (images_of a f) row) (map (through b.roots) (relation_at b k).rows)) (relation_at a k).rows
      (λ row n. among_row (through (images_of a f) row) (map (through b.roots) (relation_at b k).rows) (row_goes k row n))

  its_facts : Map a b f
  its_facts = record {
    its_length = w.its_length;
    at_rep = λ x l r. let m = known_reps a wa x r in (reps_rep b (image_by f x) (w.isomorphism.to_class x m), w.isomorphism.keeps_types x m);
    at_alias = λ x l r. w.at_alias x r;
    keeps = λ k l. kept_keeps a b f k (keeps_all k);
  }

  pub wrote_is_map : is_map a b f ≡ true
  wrote_is_map = facts_map a b f its_facts

  -- where there is an image there is a class
  image_class : (x : ℕ) → (image_by f x ≡ 255 → ⊥) → Memᴰ x (reps a)
  image_class x n = by_class (split (is_rep a x))
    where
      by_class : (is_rep a x ≡ true) ⊎ (is_rep a x ≡ false) → Memᴰ x (reps a)
      by_class (inl r) = known_reps a wa x r
      by_class (inr r) = absurd (n (w.at_alias x r))

  stands_first : (x : ℕ) → x < length f → (image_by f x ≡ 255 → ⊥) → first_at (eqb (image_by f x)) f ≡ x
  stands_first x l n =
      let j = first_at (eqb (image_by f x)) f in
      let low = first_at_some (eqb (image_by f x)) 255 f x l (eq-eqb (image_by f x) (image_by f x) refl) in
      let e : image_by f x ≡ image_by f j = eqb-true (image_by f x) (image_by f j) (first_at_passes (eqb (image_by f x)) 255 f (omega (arith, low, l))) in
      w.isomorphism.keeps_apart j x (image_class j (λ z. n (e ∙ z))) (image_class x n) (sym e)

  is_one_to_one : one_to_one f ≡ true
  is_one_to_one = sym (one_to_one_each f) ∙ mem_all (alone f) (up_from 0 (length f)) (λ x m. each x (omega (arith, (mem_up_from 0 (length f) x m).1)))
    where
      each : (x : ℕ) → x < length f → alone f x ≡ true
      each x l = by_cases (ℕ_discrete (image_by f x) 255) (λ e. alone_none f x (image_by f x) refl e) (λ n. alone_first f x (image_by f x) refl n (stands_first x l n))

  is_onto : onto b f ≡ true
  is_onto = sym (onto_each b f) ∙ mem_all (reached b.roots f) (up_from 0 (size b)) (λ y m. each y (split (is_rep b y)))
    where
      each : (y : ℕ) → (is_rep b y ≡ true) ⊎ (is_rep b y ≡ false) → reached b.roots f y ≡ true
      each y (inr r) = reached_alias b.roots f y r
      each y (inl r) =
          let o = w.isomorphism.onto y (known_reps b wb y r) in
          let l : o.0 < length f = omega (arith, reps_below_lem a o.0 o.1, w.its_length) in
          let low = first_at_some (eqb y) 255 f o.0 l (eq-eqb y (image_by f o.0) (sym o.2)) in
          reached_there b.roots f y r (omega (arith, low, l))

  has_counts : same_counts a b ≡ true
  has_counts = sym (counts_each a b) ∙ mem_all (same_count a b) (up_from 0 (length a.relations)) (λ k m. count_same a b k (as_many k))
    where
      as_many : (k : ℕ) → normal_count a (relation_at a k) ≡ normal_count b (relation_at b k)
      as_many k =
          plain_count a wa left_plain k
          ∙ same_rows a b (image_by f) (sets_carry a b (image_by f) wa wb left_plain (carries_sets a b (image_by f) w.isomorphism)) k
          ∙ sym (plain_count b wb right_plain k)

  pub wrote_invertible : invertible a b f ≡ true
  wrote_invertible = by_counts a b f is_one_to_one is_onto ∙ has_counts

  -- its own pair list
  abbrev own : List ℕ
  own = own_pairs f (reps a)

  own_count : pair_count own ≡ length (reps a)
  own_count = omega (arith, own_length f (reps a))

  module _ (j : ℕ) (l : j < length (reps a)) where
    abbrev x : ℕ
    x = get_or (reps a) j 0

    x_class : Memᴰ x (reps a)
    x_class = get_d_mem (reps a) j 0 l

    image_in_lem : Memᴰ (image_by f x) (reps b)
    image_in_lem = w.isomorphism.to_class x x_class

    own_named : named a own j ≡ x
    own_named = ap (root_of a) (own_left f (reps a) j l) ∙ rep_root a.roots x (reps_rep a x x_class)

    own_meant : meant b own j ≡ image_by f x
    own_meant = ap (root_of b) (own_right f (reps a) j l) ∙ rep_root b.roots (image_by f x) (reps_rep b (image_by f x) image_in_lem)

    own_good : GoodPair a b own j
    own_good = record {
      left_known = subst (λ (z : ℕ). z < size a) (sym (own_left f (reps a) j l)) (reps_below_lem a x x_class);
      right_known = subst (λ (z : ℕ). z < size b) (sym (own_right f (reps a) j l)) (reps_below_lem b (image_by f x) image_in_lem);
      one_type = ap (type_of a) (own_left f (reps a) j l) ∙ sym (w.isomorphism.keeps_types x x_class) ∙ ap (type_of b) (sym (own_right f (reps a) j l));
    }

  pub wrote_checked : (room : ℕ) → size a ≤ room → same_signature (signature a) (signature b) ≡ true → check_models own room a b ≡ accepted f
  wrote_checked room fits s =
      check_accepts a b wa wb own room (record { has_room = fits; one_signature = s; even = omega (arith, own_length f (reps a)) }) f wrote_is_map
      (λ j l. let i : j < length (reps a) = omega (arith, own_count) in (own_good j i, ap (image_by f) (own_named j i) ∙ sym (own_meant j i)))
      (λ x r. let p = mem_place (reps a) x (known_reps a wa x r) in (p.0, omega (arith, p.1, own_count), p.2 ∙ sym (own_named p.0 p.1)))

-- so of two files that hold the models
module _ (s t : List ℕ) (a b : Model) (p : parse s ≡ model a) (q : parse t ≡ model b) (c : Comparable a b) (before after : List ℕ) (w : Wrote a b before after) where
  files_is_map : is_map a b (map_in a after) ≡ true
  files_is_map = wrote_is_map a b (well_formed s a p) (well_formed t b q) c.left_canonical c.right_canonical before after w

  files_has_inverse : (other : List ℕ) → size b ≤ length other → Inverts s t b (map_in a after) other
  files_has_inverse other fits =
      let f = map_in a after in
      let i = wrote_invertible a b (well_formed s a p) (well_formed t b q) c.left_canonical c.right_canonical before after w in
      let e =
      inverse_files_lem s t f (length other)
      ∙ with_models refused (inverse_models f (length other)) s t a b p q
      ∙ inverse_exists a b (well_formed s a p) (well_formed t b q) f (length other) fits c.one_signature files_is_map i
      in
      (ap numbers (answer_accepted (inverse_files s t f (length other)) (inverse_of b f) e), written_accepted (inverse_files s t f (length other)) (inverse_of b f) e other)

  files_is_checked : (other : List ℕ) → size a ≤ length other → Checks s t (own_pairs (map_in a after) (reps a)) (map_in a after) other
  files_is_checked other fits =
      let f = map_in a after in
      let list = own_pairs f (reps a) in
      let k = wrote_checked a b (well_formed s a p) (well_formed t b q) c.left_canonical c.right_canonical before after w (length other) fits c.one_signature in
      let e = check_files_lem s t list (length other) ∙ with_models refused (check_models list (length other)) s t a b p q ∙ k in
      (ap numbers (answer_accepted (check_files s t list (length other)) f e), written_accepted (check_files s t list (length other)) f e other)

-- what find with pairs answers with 0
module _ (s t pairs : List ℕ) (budget : ℕ) (out work : List ℕ) (u : ℕ) (says : find_says s t pairs budget out work ≡ 0 ∷ u ∷ []) (a b : Model) (p : parse s ≡ model a) (q : parse t ≡ model b) where
  abbrev pub map_found : List ℕ
  map_found = map_in a (find_writes s t pairs budget out work)

  its_models : Comparable a b
  its_models = found_comparable s t pairs budget out work u says a b p q

  its_output : Wrote a b out (find_writes s t pairs budget out work)
  its_output = (found s t pairs budget out work u says a b p q).wrote

  -- "accepted by the definition of a map"
  pub found_is_map : is_map a b map_found ≡ true
  found_is_map = files_is_map s t a b p q its_models _ _ its_output

  -- "inverse answers 0 for it"
  pub found_has_inverse : (other : List ℕ) → size b ≤ length other → Inverts s t b map_found other
  found_has_inverse = files_has_inverse s t a b p q its_models _ _ its_output

  -- "check accepts its own pair list"
  pub found_is_checked : (other : List ℕ) → size a ≤ length other → Checks s t (own_pairs map_found (reps a)) map_found other
  found_is_checked = files_is_checked s t a b p q its_models _ _ its_output

-- and what find under a base answers with 0
module _ (r s t toLeft toRight : List ℕ) (budget : ℕ) (out work : List ℕ) (u : ℕ) (says : under_says r s t toLeft toRight budget out work ≡ 0 ∷ u ∷ []) where
  module _ (o a b : Model) (held : parse r ≡ model o) (p : parse s ≡ model a) (q : parse t ≡ model b) where
    abbrev pub map_under : List ℕ
    map_under = map_in a (under_writes r s t toLeft toRight budget out work)

    models_under : Comparable a b
    models_under = under_comparable r s t toLeft toRight budget out work u says o a b held p q

    output_under : Wrote a b out (under_writes r s t toLeft toRight budget out work)
    output_under = (found_under r s t toLeft toRight budget out work u says o a b held p q).wrote

    pub under_is_map : is_map a b map_under ≡ true
    under_is_map = files_is_map s t a b p q models_under _ _ output_under

    pub under_has_inverse : (other : List ℕ) → size b ≤ length other → Inverts s t b map_under other
    under_has_inverse = files_has_inverse s t a b p q models_under _ _ output_under

    pub under_is_checked : (other : List ℕ) → size a ≤ length other → Checks s t (own_pairs map_under (reps a)) map_under other
    under_is_checked = files_is_checked s t a b p q models_under _ _ output_under
