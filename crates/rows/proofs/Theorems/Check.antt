-- Check accepts exactly the lists that give every source class one image of its type and keep all relations, its map is then that assignment, and
-- 16, 17 and 18 are answered exactly under their conditions. Assumes nothing.
use Prim.Native.Nat.{ℕ, suc, ◌+◌, ◌<◌, ◌≤◌, ◌%◌, zero-le}
use mathlib.Core.Path.{◌≡◌, refl, sym, ◌∙◌, ap, subst, subst⁻¹}
use mathlib.Core.Logic.{◌⊎◌, inl, inr, by_cases}
use mathlib.Core.Bool.{true, false, not}
use mathlib.Core.List.{List}
use native.Mathlib.Omega.{arith}
use native.Mathlib.Decide.{dec_le}
use borrow.Author.Tests.{eqb-true, ltb-false, eq-eqb, le-ltb, not-true, not-false}
use lib.ListN.{length, get_or, replicate, length-replicate, get_or-replicate, get_or-eq_default}
use lib.Seq.{ext_get_or}
use lib.Dec.{eqb, ltb}
use Rattle.std.proofs.Common.{Ok, Err}
use Rattle.lists.specs.First.{lowest}
use Rattle.lists.proofs.Laws.Tests.{split, clash}
use Rattle.lists.proofs.Laws.First.{lowest_passes, lowest_below, lowest_none}
use Rattle.stored.specs.declared.refusal.Refusal.{Refusal}
use Rattle.stored.specs.declared.refusal.Refusal.TheVariants.{Malformed, NoRoom, NotCanonical, SignaturesDiffer, UnknownElement, TypesDiffer, ImageMissing, ConflictingImages, RelationNotKept, NotAMap, OddPairs}
use Rattle.stored.specs.Model.{Model, size, type_of, is_rep}
use Rattle.stored.specs.Signature.{signature, same_signature}
use Rattle.stored.proofs.Laws.WellFormed.{WellFormed}
use Rattle.stored.proofs.Laws.Representatives.{rep_known, root_rep}
use Rattle.rows.specs.Rows.{kept, first_unkept_by, first_unkept}
use Rattle.rows.specs.Maps.{is_map}
use Rattle.rows.specs.Pairs.{pair_count, left_at, right_at, pair_in, pair_at, Given, images, conflicts, give_from}
use Rattle.rows.specs.Pairs as given
use Rattle.rows.specs.Answer.{Outcome, accepted, none, refused}
use Rattle.rows.specs.Check.{is_missing, first_missing, judged, judged_if, blank, check_models}
use Rattle.rows.proofs.Laws.Check.{missing_alias, missing_none, missing_given, missing_class, missing_image, length_blank, judged_missing, judged_unkept, judged_accepted}
use Rattle.rows.proofs.Theorems.Maps.{Keeps, Map, map_facts, facts_map, kept_keeps, keeps_kept}
use Rattle.rows.proofs.Theorems.Pairs.{named, meant, GoodPair, Gave, WrongAt, Failed, GivenKnown, given_known, gives}

-- no image stands in no images
pub blank_at : (n x : ℕ) → get_or (blank n) x 255 ≡ 255
unfolding blank
blank_at n x = by_cases (dec_le (suc x) n) (λ l. get_or-replicate n x 255 255 l) (λ l. get_or-eq_default (replicate n 255) 255 (let k : length (replicate {A = ℕ} n 255) ≡ n = length-replicate n 255 in omega arith))

-- the images that a pair list gives from the start
abbrev pub GaveAll : Model → Model → List ℕ → List ℕ → Type 0
GaveAll a b pairs g = Gave a b pairs (pair_count pairs) 0 (blank (size a)) g

module _ (a b : Model) (wa : WellFormed a) (wb : WellFormed b) (pairs g : List ℕ) (v : GaveAll a b pairs g) where
  gave_length : length g ≡ size a
  gave_length = v.same_length ∙ length_blank (size a)

  -- an entry is given by a pair, or there is none
  pub origin : (x : ℕ) → (get_or g x 255 ≡ 255) ⊎ ((j : ℕ) × (j < pair_count pairs) × (x ≡ named a pairs j) × (get_or g x 255 ≡ meant b pairs j) × GoodPair a b pairs j)
  origin x = go (v.from_pairs x)
    where
      go : (get_or g x 255 ≡ get_or (blank (size a)) x 255) ⊎ ((j : ℕ) × (0 ≤ j) × (j < 0 + pair_count pairs) × (x ≡ named a pairs j)) → (get_or g x 255 ≡ 255) ⊎ ((j : ℕ) × (j < pair_count pairs) × (x ≡ named a pairs j) × (get_or g x 255 ≡ meant b pairs j) × GoodPair a b pairs j)
      go (inl e) = inl (e ∙ blank_at (size a) x)
      go (inr p) = let q = v.pairs_good p.0 p.1 p.2 in inr (p.0, omega (arith, p.2), p.3, ap (λ (z : ℕ). get_or g z 255) p.3 ∙ q.1, q.0)

  -- an alias has no entry
  gave_alias : (x : ℕ) → is_rep a x ≡ false → get_or g x 255 ≡ 255
  gave_alias x r = go (origin x)
    where
      go : (get_or g x 255 ≡ 255) ⊎ ((j : ℕ) × (j < pair_count pairs) × (x ≡ named a pairs j) × (get_or g x 255 ≡ meant b pairs j) × GoodPair a b pairs j) → get_or g x 255 ≡ 255
      go (inl e) = e
      go (inr p) = clash (rw p.2 (root_rep a wa (left_at pairs p.0) p.4.left_known)) r

  -- an entry that is there is a target representative of its type
  gave_rep : (x : ℕ) → (get_or g x 255 ≡ 255 → ⊥) → (is_rep b (get_or g x 255) ≡ true) × (type_of b (get_or g x 255) ≡ type_of a x)
  gave_rep x n = go (origin x)
    where
      go : (get_or g x 255 ≡ 255) ⊎ ((j : ℕ) × (j < pair_count pairs) × (x ≡ named a pairs j) × (get_or g x 255 ≡ meant b pairs j) × GoodPair a b pairs j) → (is_rep b (get_or g x 255) ≡ true) × (type_of b (get_or g x 255) ≡ type_of a x)
      go (inl e) = absurd (n e)
      go (inr p) =
          let l = p.4.left_known in
          let r = p.4.right_known in
          rw p.3 (root_rep b wb (right_at pairs p.0) r, wb.root_type (right_at pairs p.0) r ∙ sym p.4.one_type ∙ sym (wa.root_type (left_at pairs p.0) l) ∙ ap (type_of a) (sym p.2))

  -- images that lack nothing and keep all relations are a map
  pub gave_map : size a ≤ first_missing a g → length a.relations ≤ first_unkept a b g → Map a b g
  unfolding first_missing first_unkept_by
  gave_map h k = record {
    its_length = gave_length;
    at_rep = λ x l r. gave_rep x (given x l r);
    at_alias = λ x l r. gave_alias x r;
    keeps = λ i l. kept_keeps a b g i (not-false _ (lowest_below (λ (i : ℕ). not (kept a b g i)) 0 (length a.relations) i zero-le (omega arith)));
  }
    where
      given : (x : ℕ) → x < size a → is_rep a x ≡ true → get_or g x 255 ≡ 255 → ⊥
      given x l r e = clash (missing_none a.roots g x e ∙ r) (lowest_below (is_missing a.roots g) 0 (size a) x zero-le (omega arith))

-- what comes before the pair list is in order: room, one signature, an even length
pub record Ready (a b : Model) (pairs : List ℕ) (room : ℕ) : Type 0 where
  pub has_room : size a ≤ room
  pub one_signature : same_signature (signature a) (signature b) ≡ true
  pub even : length pairs % 2 ≡ 0

module _ (a b : Model) (pairs : List ℕ) (room : ℕ) where
  pub check_ready : Ready a b pairs room → check_models pairs room a b ≡ judged_if a b (give_from (pair_count pairs) a b pairs 0 (blank (size a)))
  unfolding check_models
  check_ready r = rw (le-ltb room (size a) r.has_room, check_models, r.one_signature, eq-eqb (length pairs % 2) 0 r.even)

  -- what is known of an answer
  CheckKnown : Outcome → Type 0
  CheckKnown (accepted g) = Ready a b pairs room × (give_from (pair_count pairs) a b pairs 0 (blank (size a)) ≡ images g) × (size a ≤ first_missing a g) × (length a.relations ≤ first_unkept a b g)
  CheckKnown none = ⊥
  CheckKnown (refused r) = (r ≡ NoRoom) ⊎ ((r ≡ SignaturesDiffer) ⊎ ((r ≡ OddPairs) ⊎ (Ready a b pairs room × (judged_if a b (give_from (pair_count pairs) a b pairs 0 (blank (size a))) ≡ refused r))))

  judged_known : Ready a b pairs room → (g : List ℕ) → give_from (pair_count pairs) a b pairs 0 (blank (size a)) ≡ images g → CheckKnown (judged a b g)
  unfolding CheckKnown judged_if
  judged_known r g e =
      by_cases (dec_le (size a) (first_missing a g))
      (λ h. by_cases (dec_le (length a.relations) (first_unkept a b g))
      (λ k. rw (judged_accepted a b g h k) (r, e, h, k))
      (λ k. rw (judged_unkept a b g h (omega arith)) (inr (inr (inr (r, rw (e, judged_if) (judged_unkept a b g h (omega arith))))))))
      (λ h. rw (judged_missing a b g (omega arith)) (inr (inr (inr (r, rw (e, judged_if) (judged_missing a b g (omega arith)))))))

  check_known : CheckKnown (check_models pairs room a b)
  unfolding CheckKnown check_models judged_if
  check_known = by_room (split (ltb room (size a)))
    where
      by_given : Ready a b pairs room → (x : Given) → give_from (pair_count pairs) a b pairs 0 (blank (size a)) ≡ x → CheckKnown (judged_if a b x)
      by_given r (images g) e = judged_known r g e
      by_given r (given.refused y) e = inr (inr (inr (r, rw (e, judged_if))))

      by_even : ltb room (size a) ≡ false → same_signature (signature a) (signature b) ≡ true → (eqb (length pairs % 2) 0 ≡ true) ⊎ (eqb (length pairs % 2) 0 ≡ false) → CheckKnown (check_models pairs room a b)
      by_even p q (inr e) = rw (p, check_models, q, e) (inr (inr (inl refl)))
      by_even p q (inl e) = let r : Ready a b pairs room = record { has_room = ltb-false _ _ p; one_signature = q; even = eqb-true _ _ e } in rw (check_ready r) (by_given r (give_from (pair_count pairs) a b pairs 0 (blank (size a))) refl)

      by_signature : ltb room (size a) ≡ false → (same_signature (signature a) (signature b) ≡ true) ⊎ (same_signature (signature a) (signature b) ≡ false) → CheckKnown (check_models pairs room a b)
      by_signature p (inr q) = rw (p, check_models, q) (inr (inl refl))
      by_signature p (inl q) = by_even p q (split (eqb (length pairs % 2) 0))

      by_room : (ltb room (size a) ≡ true) ⊎ (ltb room (size a) ≡ false) → CheckKnown (check_models pairs room a b)
      by_room (inl p) = rw (p, check_models) (inl refl)
      by_room (inr p) = by_signature p (split (same_signature (signature a) (signature b)))

module _ (a b : Model) (wa : WellFormed a) (wb : WellFormed b) (pairs : List ℕ) (room : ℕ) where
  gave_all : (g : List ℕ) → give_from (pair_count pairs) a b pairs 0 (blank (size a)) ≡ images g → GaveAll a b pairs g
  gave_all g e = subst (GivenKnown a b pairs (pair_count pairs) 0 (blank (size a))) e (given_known a b wa wb pairs (pair_count pairs) 0 (blank (size a)) (length_blank (size a)))

  -- what is accepted is a map, and each pair has its image in it
  pub check_accepted : (g : List ℕ) → check_models pairs room a b ≡ accepted g → Ready a b pairs room × GaveAll a b pairs g × (is_map a b g ≡ true)
  unfolding CheckKnown
  check_accepted g e =
      let k = subst (CheckKnown a b pairs room) e (check_known a b pairs room) in
      let v = gave_all g k.1 in
      (k.0, v, facts_map a b g (gave_map a b wa wb pairs g v k.2 k.3))

  -- a list whose pairs are good, agree with a map, and name every class is accepted with that map
  pub check_accepts : Ready a b pairs room → (F : List ℕ) → is_map a b F ≡ true → ((j : ℕ) → j < pair_count pairs → GoodPair a b pairs j × (get_or F (named a pairs j) 255 ≡ meant b pairs j)) → ((x : ℕ) → is_rep a x ≡ true → (j : ℕ) × (j < pair_count pairs) × (x ≡ named a pairs j)) → check_models pairs room a b ≡ accepted F
  unfolding judged_if first_missing first_unkept_by
  check_accepts r F isF good names =
      check_ready a b pairs room r
      ∙ ap (judged_if a b) offer.1
      ∙ judged_accepted a b offer.0 (omega (arith, none_missing)) (omega (arith, none_unkept))
      ∙ ap accepted same
    where
      m : Map a b F
      m = map_facts a b F isF

      offer : (g : List ℕ) × (give_from (pair_count pairs) a b pairs 0 (blank (size a)) ≡ images g) × ((x : ℕ) → (get_or g x 255 ≡ 255 → ⊥) → get_or g x 255 ≡ get_or F x 255)
      offer = gives a b wa wb pairs F (pair_count pairs) 0 (blank (size a)) (length_blank (size a)) (λ x n. absurd (n (blank_at (size a) x))) (λ j l u. good j (omega arith))

      v : GaveAll a b pairs offer.0
      v = gave_all offer.0 offer.1

      at_class : (x : ℕ) → is_rep a x ≡ true → get_or offer.0 x 255 ≡ get_or F x 255
      at_class x q =
          let p = names x q in
          let w = good p.0 p.1 in
          let u = v.pairs_good p.0 zero-le (omega (arith, p.1)) in
          rw p.2 (u.1 ∙ sym w.1)

      same : offer.0 ≡ F
      same = ext_get_or 255 offer.0 F (gave_length a b wa wb pairs offer.0 v ∙ sym m.its_length) (λ x l. either x (omega (arith, l, gave_length a b wa wb pairs offer.0 v)) (split (is_rep a x)))
        where
          either : (x : ℕ) → x < size a → (is_rep a x ≡ true) ⊎ (is_rep a x ≡ false) → get_or offer.0 x 255 ≡ get_or F x 255
          either x l (inl q) = at_class x q
          either x l (inr q) = gave_alias a b wa wb pairs offer.0 v x q ∙ sym (m.at_alias x l q)

      none_missing : lowest (is_missing a.roots offer.0) 0 (size a) ≡ 0 + size a
      none_missing = lowest_none (is_missing a.roots offer.0) 0 (size a) (λ x u l. either x (omega arith) (split (is_rep a x)))
        where
          either : (x : ℕ) → x < size a → (is_rep a x ≡ true) ⊎ (is_rep a x ≡ false) → is_missing a.roots offer.0 x ≡ false
          either x l (inr q) = missing_alias a.roots offer.0 x q
          either x l (inl q) = missing_given a.roots offer.0 x (λ z. omega (arith, sym (at_class x q) ∙ z, rep_known b wb (get_or F x 255) (m.at_rep x l q).0, wb.few_elements))

      none_unkept : lowest (λ (k : ℕ). not (kept a b offer.0 k)) 0 (length a.relations) ≡ 0 + length a.relations
      none_unkept = lowest_none (λ (k : ℕ). not (kept a b offer.0 k)) 0 (length a.relations) (λ k u l. rw (keeps_kept a b offer.0 k (subst⁻¹ (λ (h : List ℕ). Keeps a b h k) same (m.keeps k (omega arith)))))

-- 16: every pair is good and none conflicts; the class has no image, every class before it has one
pub record Missing (a b : Model) (pairs : List ℕ) (x : ℕ) : Type 0 where
  pub given : List ℕ
  pub gave : GaveAll a b pairs given
  pub is_class : is_rep a x ≡ true
  pub no_image : get_or given x 255 ≡ 255
  pub lower : (y : ℕ) → y < x → is_rep a y ≡ true → get_or given y 255 ≡ 255 → ⊥

-- 17: the first place that fails is that of a good pair which gives its class another image than an earlier one
pub record Conflict (a b : Model) (pairs : List ℕ) (x : ℕ) : Type 0 where
  pub place : ℕ
  pub within : place < pair_count pairs
  pub given : List ℕ
  pub gave : Gave a b pairs place 0 (blank (size a)) given
  pub good : GoodPair a b pairs place
  pub is_class : x ≡ named a pairs place
  pub conflict : conflicts given (named a pairs place) (meant b pairs place) ≡ true

-- 18: every class has an image; the relation is not kept, every one before it is
pub record Unkept (a b : Model) (pairs : List ℕ) (k : ℕ) : Type 0 where
  pub given : List ℕ
  pub gave : GaveAll a b pairs given
  pub every : (x : ℕ) → is_rep a x ≡ true → get_or given x 255 ≡ 255 → ⊥
  pub in_range : k < length a.relations
  pub not_kept : kept a b given k ≡ false
  pub lower : (i : ℕ) → i < k → kept a b given i ≡ true

module _ (a b : Model) (wa : WellFormed a) (wb : WellFormed b) (pairs : List ℕ) where
  -- what each of the three refusals says
  unfoldable pub Told : Refusal → Type 0
  Told (ImageMissing e) = Missing a b pairs e.0
  Told (ConflictingImages e) = Conflict a b pairs e.0
  Told (RelationNotKept k) = Unkept a b pairs k.0
  Told (Malformed m f) = Unit {0}
  Told NoRoom = Unit {0}
  Told (NotCanonical m) = Unit {0}
  Told SignaturesDiffer = Unit {0}
  Told (UnknownElement p s) = Unit {0}
  Told (TypesDiffer p) = Unit {0}
  Told (NotAMap m) = Unit {0}
  Told OddPairs = Unit {0}

  ToldOf : Outcome → Type 0
  ToldOf (accepted g) = Unit {0}
  ToldOf none = Unit {0}
  ToldOf (refused r) = Told r

  judged_told : (g : List ℕ) → GaveAll a b pairs g → ToldOf (judged a b g)
  unfolding Told ToldOf first_missing first_unkept_by
  judged_told g v =
      by_cases (dec_le (size a) (first_missing a g))
      (λ h. by_cases (dec_le (length a.relations) (first_unkept a b g))
      (λ k. rw (judged_accepted a b g h k) tt)
      (λ k.
      rw (judged_unkept a b g h (omega arith))
      (record {
        given = g;
        gave = v;
        every = λ x r e. clash (missing_none a.roots g x e ∙ r) (lowest_below (is_missing a.roots g) 0 (size a) x zero-le (omega (arith, rep_known a wa x r)));
        in_range = omega arith;
        not_kept = not-true _ (lowest_passes (λ (i : ℕ). not (kept a b g i)) 0 (length a.relations) (omega arith));
        lower = λ i l. not-false _ (lowest_below (λ (i : ℕ). not (kept a b g i)) 0 (length a.relations) i zero-le l);
      })))
      (λ h.
      let p = lowest_passes (is_missing a.roots g) 0 (size a) (omega arith) in
      rw (judged_missing a b g (omega arith))
      (record {
        given = g;
        gave = v;
        is_class = missing_class a.roots g (first_missing a g) p;
        no_image = missing_image a.roots g (first_missing a g) p;
        lower = λ y l r e. clash (missing_none a.roots g y e ∙ r) (lowest_below (is_missing a.roots g) 0 (size a) y zero-le l);
      }))

  -- a pair by itself is refused with 14 or 15 alone
  pair_told : (i : ℕ) (r : Refusal) → pair_at a b pairs i ≡ Err r → Told r
  unfolding Told pair_in
  pair_told i r h = left (split (ltb (left_at pairs i) (size a)))
    where
      other : (q : Refusal) → pair_at a b pairs i ≡ Err q → Told q → Told r
      other q f t = subst Told (let e : q ≡ r = cc in e) t

      types : ltb (left_at pairs i) (size a) ≡ true → ltb (right_at pairs i) (size b) ≡ true → (eqb (type_of a (left_at pairs i)) (type_of b (right_at pairs i)) ≡ true) ⊎ (eqb (type_of a (left_at pairs i)) (type_of b (right_at pairs i)) ≡ false) → Told r
      types p q (inl t) = let f : pair_at a b pairs i ≡ Ok tt = rw (p, pair_in, q, t) in let z : ◌≡◌ {A = ℕ} 0 1 = cc in absurd (omega arith)
      types p q (inr t) = other (TypesDiffer i) (rw (p, pair_in, q, t)) tt

      right : ltb (left_at pairs i) (size a) ≡ true → (ltb (right_at pairs i) (size b) ≡ true) ⊎ (ltb (right_at pairs i) (size b) ≡ false) → Told r
      right p (inl q) = types p q (split (eqb (type_of a (left_at pairs i)) (type_of b (right_at pairs i))))
      right p (inr q) = other (UnknownElement i 2) (rw (p, pair_in, q)) tt

      left : (ltb (left_at pairs i) (size a) ≡ true) ⊎ (ltb (left_at pairs i) (size a) ≡ false) → Told r
      left (inl p) = right p (split (ltb (right_at pairs i) (size b)))
      left (inr p) = other (UnknownElement i 1) (rw (p, pair_in)) tt

  failed_told : (r : Refusal) → Failed a b pairs (pair_count pairs) 0 (blank (size a)) r → Told r
  unfolding Told
  failed_told r v = go v.wrong
    where
      go : WrongAt a b pairs (0 + v.passed) v.sofar r → Told r
      go (inl e) = pair_told (0 + v.passed) r e
      go (inr w) =
          let z : 0 + v.passed ≡ v.passed = omega arith in
          subst Told (sym w.2)
          (record {
            place = 0 + v.passed;
            within = omega (arith, v.within);
            given = v.sofar;
            gave = subst (λ (n : ℕ). Gave a b pairs n 0 (blank (size a)) v.sofar) (sym z) v.gave;
            good = w.0;
            is_class = refl;
            conflict = w.1;
          })

  given_told : (x : Given) → give_from (pair_count pairs) a b pairs 0 (blank (size a)) ≡ x → ToldOf (judged_if a b x)
  unfolding judged_if ToldOf
  given_told (images g) e = judged_told g (gave_all a b wa wb pairs 0 g e)
  given_told (given.refused r) e = failed_told r (subst (GivenKnown a b pairs (pair_count pairs) 0 (blank (size a))) e (given_known a b wa wb pairs (pair_count pairs) 0 (blank (size a)) (length_blank (size a))))

  -- 16, 17 and 18 are answered under their conditions alone ..
  pub check_told : (room : ℕ) (r : Refusal) → check_models pairs room a b ≡ refused r → Told r
  unfolding CheckKnown Told ToldOf
  check_told room r e = go (subst (CheckKnown a b pairs room) e (check_known a b pairs room))
    where
      go : (r ≡ NoRoom) ⊎ ((r ≡ SignaturesDiffer) ⊎ ((r ≡ OddPairs) ⊎ (Ready a b pairs room × (judged_if a b (give_from (pair_count pairs) a b pairs 0 (blank (size a))) ≡ refused r)))) → Told r
      go (inl q) = subst Told (sym q) tt
      go (inr (inl q)) = subst Told (sym q) tt
      go (inr (inr (inl q))) = subst Told (sym q) tt
      go (inr (inr (inr p))) = subst ToldOf p.1 (given_told (give_from (pair_count pairs) a b pairs 0 (blank (size a))) refl)

-- .. and always under them
module _ (a b : Model) (pairs : List ℕ) (room : ℕ) (r : Ready a b pairs room) where
  pub answers_refusal : (x : Refusal) → give_from (pair_count pairs) a b pairs 0 (blank (size a)) ≡ given.refused x → check_models pairs room a b ≡ refused x
  unfolding judged_if
  answers_refusal x e = check_ready a b pairs room r ∙ ap (judged_if a b) e

  module _ (g : List ℕ) (e : give_from (pair_count pairs) a b pairs 0 (blank (size a)) ≡ images g) where
    pub answers_missing : first_missing a g < size a → check_models pairs room a b ≡ refused (ImageMissing (record { 0 = first_missing a g }))
    unfolding judged_if
    answers_missing h = check_ready a b pairs room r ∙ ap (judged_if a b) e ∙ judged_missing a b g h

    pub answers_unkept : size a ≤ first_missing a g → first_unkept a b g < length a.relations → check_models pairs room a b ≡ refused (RelationNotKept (record { 0 = first_unkept a b g }))
    unfolding judged_if
    answers_unkept h k = check_ready a b pairs room r ∙ ap (judged_if a b) e ∙ judged_unkept a b g h k
