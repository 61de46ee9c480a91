-- Grouped: numbering the representatives of the left and then of the right by the first holder that passes for the same gives each the number of its key in the palette, so that both sides get the colours of
-- the round. What is held after some representatives stands for the first appearances of their keys. Assumes nothing.
use Prim.Native.Nat.{ℕ, suc, ◌+◌, ◌<◌, ◌≤◌}
use mathlib.Core.Path.{◌≡◌, refl, sym, ◌∙◌, ap, ap₂, subst}
use mathlib.Core.Logic.{◌⊎◌, inl, inr, by_cases}
use mathlib.Core.Bool.{Bool, true, false}
use mathlib.Core.List.Memᴰ
use mathlib.Core.List.{List, [], ◌∷◌, ◌++◌, map, map-append, append_assoc, append-nil, Memᴰ}
use native.Mathlib.Omega.{arith}
use native.Mathlib.Decide.{dec_le}
use borrow.Author.Tests.{lt-ltb, le-ltb}
use lib.ListN.{length, length-map, length-append}
use Rattle.lists.specs.Every.{keep}
use Rattle.lists.specs.First.{first_at, firsts}
use Rattle.lists.specs.Numbers.{up_from}
use Rattle.lists.proofs.Laws.Tests.{split}
use Rattle.lists.proofs.Laws.Every.{keep_none, keep_yes, keep_no, keep_mem}
use Rattle.lists.proofs.Laws.Sets.{map_mem}
use Rattle.lists.proofs.Laws.Counting.{first_at_agree}
use Rattle.lists.proofs.Laws.Groups.{first_at-map, firsts_none, known_firsts, new_firsts, number_told}
use Rattle.stored.specs.Model.{Model, size, is_rep_in, is_rep}
use Rattle.rounds.specs.Colours.{no_colour}
use Rattle.rounds.specs.Keys.{Key, key_of, same_key}
use Rattle.rounds.specs.Round.{reps, Sides, palette, new_colour, recoloured}
use Rattle.rounds.specs.Board.{held_at, held, held_after, grouped}
use Rattle.rounds.proofs.Theorems.Keys.{key_refl, key_sym, key_trans}

-- one element more, by its test
module _ (same : ℕ → ℕ → Bool) (roots : List ℕ) (raise : ℕ) (holders : List ℕ) where
  pub held_none : held_after same roots raise holders [] ≡ holders
  unfolding held_after
  held_none = refl

  pub grouped_none : grouped same roots raise holders [] ≡ []
  unfolding grouped
  grouped_none = refl

  module _ (x : ℕ) (xs : List ℕ) where
    pub held_yes : is_rep_in roots x ≡ true → held_after same roots raise holders (x ∷ xs) ≡ held_after same roots raise (held same holders (x + raise)) xs
    unfolding held_after
    held_yes e = rw (e, held_after)

    pub held_no : is_rep_in roots x ≡ false → held_after same roots raise holders (x ∷ xs) ≡ held_after same roots raise holders xs
    unfolding held_after
    held_no e = rw (e, held_after)

    pub grouped_yes :
        is_rep_in roots x ≡ true → grouped same roots raise holders (x ∷ xs) ≡ first_at (same (x + raise)) holders ∷ grouped same roots raise (held same holders (x + raise)) xs
    unfolding grouped
    grouped_yes e = rw (e, grouped)

    pub grouped_no : is_rep_in roots x ≡ false → grouped same roots raise holders (x ∷ xs) ≡ no_colour ∷ grouped same roots raise holders xs
    unfolding grouped
    grouped_no e = rw (e, grouped)

-- an element whose key was found changes nothing, one whose key is new comes last
module _ (i : ℕ) (holders : List ℕ) (x : ℕ) where
  pub at_known : i < length holders → held_at i holders x ≡ holders
  unfolding held_at
  at_known h = rw (lt-ltb i (length holders) h, held_at)

  pub at_new : length holders ≤ i → held_at i holders x ≡ holders ++ x ∷ []
  unfolding held_at
  at_new h = rw (le-ltb i (length holders) h, held_at)

module _ (same : ℕ → ℕ → Bool) (holders : List ℕ) (x : ℕ) where
  pub held_known : first_at (same x) holders < length holders → held same holders x ≡ holders
  held_known l = at_known (first_at (same x) holders) holders x l

  pub held_new : length holders ≤ first_at (same x) holders → held same holders x ≡ holders ++ x ∷ []
  held_new l = at_new (first_at (same x) holders) holders x l

  held_one : length (held same holders x) ≤ suc (length holders)
  held_one =
      by_cases (dec_le (length holders) (first_at (same x) holders))
      (λ l. omega (arith, ap length (held_new l), length-append holders (x ∷ [])))
      (λ l. omega (arith, ap length (held_known (omega arith))))

-- no more are held than there were and came
pub held_few : (same : ℕ → ℕ → Bool) (roots : List ℕ) (raise : ℕ) (holders xs : List ℕ) → length (held_after same roots raise holders xs) ≤ length holders + length xs
held_few same roots raise holders [] = omega (arith, ap length (held_none same roots raise holders))
held_few same roots raise holders (x ∷ xs) = by_test (split (is_rep_in roots x)) (λ holders. held_few same roots raise holders xs)
  where
    by_test :
        (is_rep_in roots x ≡ true) ⊎ (is_rep_in roots x ≡ false)
        → ((holders : List ℕ) → length (held_after same roots raise holders xs) ≤ length holders + length xs) → length (held_after same roots raise holders (x ∷ xs)) ≤ length holders + suc (length xs)
    by_test (inl e) ih = omega (arith, ap length (held_yes same roots raise holders x xs e), ih (held same holders (x + raise)), held_one same holders (x + raise))
    by_test (inr e) ih = omega (arith, ap length (held_no same roots raise holders x xs e), ih holders)

-- a test of two numbers that passes, among some numbers, where their keys are the same
module _ (key : ℕ → Key) (same : ℕ → ℕ → Bool) (ids : List ℕ) (agree : (x y : ℕ) → Memᴰ x ids → Memᴰ y ids → same x y ≡ same_key (key x) (key y)) where
  -- holders that stand for the first appearances of some keys
  pub record Holds (ks : List Key) (holders : List ℕ) : Type 0 where
    pub stand : map key holders ≡ firsts same_key ks
    pub inside : (x : ℕ) → Memᴰ x holders → Memᴰ x ids

  holds_none : Holds [] []
  holds_none = record { stand = sym (firsts_none same_key); inside = λ x m. absurd (Memᴰ.not-nil m) }

  module _ (ks : List Key) (holders : List ℕ) (h : Holds ks holders) (x : ℕ) (m : Memᴰ x ids) where
    -- the first holder that passes is the number of the key so far
    holder_is : first_at (same x) holders ≡ first_at (same_key (key x)) (firsts same_key ks)
    holder_is =
        first_at_agree (same x) (λ (y : ℕ). same_key (key x) (key y)) holders (λ y n. agree x y m (h.inside y n))
        ∙ sym (first_at-map (same_key (key x)) key holders)
        ∙ ap (first_at (same_key (key x))) h.stand

    as_many : length holders ≡ length (firsts same_key ks)
    as_many = sym (length-map holders key) ∙ ap length h.stand

    holds_known : first_at (same x) holders < length holders → Holds (ks ++ key x ∷ []) holders
    holds_known l = record {
      stand = h.stand ∙ sym (known_firsts same_key key_refl key_sym key_trans ks (key x) (omega (arith, holder_is, as_many)));
      inside = h.inside;
    }

    holds_new : length holders ≤ first_at (same x) holders → Holds (ks ++ key x ∷ []) (holders ++ x ∷ [])
    holds_new l = record {
      stand =
          map-append key holders (x ∷ [])
          ∙ ap (λ (l : List Key). l ++ key x ∷ []) h.stand
          ∙ sym (new_firsts same_key key_refl key_sym key_trans ks (key x) (omega (arith, holder_is, as_many)));
      inside = λ y n. either y (Memᴰ.append_cases holders n);
    }
      where
        last : (y : ℕ) → (y ≡ x) ⊎ Memᴰ y [] → Memᴰ y ids
        last y (inl e) = subst (λ (z : ℕ). Memᴰ z ids) (sym e) m
        last y (inr n) = absurd (Memᴰ.not-nil n)

        either : (y : ℕ) → Memᴰ y holders ⊎ Memᴰ y (x ∷ []) → Memᴰ y ids
        either y (inl n) = h.inside y n
        either y (inr n) = last y (Memᴰ.cases_cons n)

    holds_more : Holds (ks ++ key x ∷ []) (held same holders x)
    holds_more =
        by_cases (dec_le (length holders) (first_at (same x) holders))
        (λ l. subst (Holds (ks ++ key x ∷ [])) (sym (held_new same holders x l)) (holds_new l))
        (λ l. subst (Holds (ks ++ key x ∷ [])) (sym (held_known same holders x (omega arith))) (holds_known (omega arith)))

  -- the representatives of a side, raised by a number
  module _ (m : Model) (colours : List ℕ) (raise : ℕ) (keyed : (x : ℕ) → is_rep m x ≡ true → key (x + raise) ≡ key_of m colours x) where
    abbrev keys_of : List ℕ → List Key
    keys_of xs = map (key_of m colours) (keep (is_rep m) xs)

    abbrev Inside : List ℕ → Type 0
    Inside xs = (x : ℕ) → Memᴰ x xs → is_rep m x ≡ true → Memᴰ (x + raise) ids

    keys_yes : (x : ℕ) (xs : List ℕ) → is_rep m x ≡ true → keys_of (x ∷ xs) ≡ key (x + raise) ∷ keys_of xs
    keys_yes x xs e = ap (map (key_of m colours)) (keep_yes (is_rep m) x xs e) ∙ ap (λ (k : Key). k ∷ keys_of xs) (sym (keyed x e))

    keys_no : (x : ℕ) (xs : List ℕ) → is_rep m x ≡ false → keys_of (x ∷ xs) ≡ keys_of xs
    keys_no x xs e = ap (map (key_of m colours)) (keep_no (is_rep m) x xs e)

    holds_after : (ks : List Key) (holders xs : List ℕ) → Inside xs → Holds ks holders → Holds (ks ++ keys_of xs) (held_after same m.roots raise holders xs)
    holds_after ks holders [] inside h =
        let e : ks ++ keys_of [] ≡ ks = ap (λ (xs : List ℕ). ks ++ map (key_of m colours) xs) (keep_none (is_rep m)) ∙ append-nil ks in
        rw (e, held_none same m.roots raise holders) h
    holds_after ks holders (x ∷ xs) inside h = by_test (split (is_rep m x)) (λ ks holders. holds_after ks holders xs (λ y n. inside y (Memᴰ.tail n)))
      where
        by_test :
            (is_rep m x ≡ true) ⊎ (is_rep m x ≡ false) → ((ks : List Key) (holders : List ℕ) → Holds ks holders → Holds (ks ++ keys_of xs) (held_after same m.roots raise holders xs))
            → Holds (ks ++ keys_of (x ∷ xs)) (held_after same m.roots raise holders (x ∷ xs))
        by_test (inl e) ih =
            rw (keys_yes x xs e, held_yes same m.roots raise holders x xs e)
            (subst (λ (l : List Key). Holds l (held_after same m.roots raise (held same holders (x + raise)) xs)) (append_assoc ks (key (x + raise) ∷ []) (keys_of xs))
            (ih (ks ++ key (x + raise) ∷ []) (held same holders (x + raise)) (holds_more ks holders h (x + raise) (inside x (Memᴰ.head refl) e))))
        by_test (inr e) ih = rw (keys_no x xs e, held_no same m.roots raise holders x xs e) (ih ks holders h)

    colour_yes : (keys : List Key) (x : ℕ) → is_rep m x ≡ true → new_colour keys m colours x ≡ first_at (same_key (key (x + raise))) keys
    unfolding new_colour
    colour_yes keys x e = rw (e, new_colour) (ap (λ (k : Key). first_at (same_key k) keys) (sym (keyed x e)))

    colour_no : (keys : List Key) (x : ℕ) → is_rep m x ≡ false → new_colour keys m colours x ≡ no_colour
    unfolding new_colour
    colour_no keys x e = rw (e, new_colour)

    grouped_from :
        (ks later : List Key) (holders xs : List ℕ) → Inside xs → Holds ks holders → grouped same m.roots raise holders xs ≡ map (new_colour (firsts same_key (ks ++ (keys_of xs ++ later))) m colours) xs
    grouped_from ks later holders [] inside h = grouped_none same m.roots raise holders
    grouped_from ks later holders (x ∷ xs) inside h = by_test (split (is_rep m x)) (λ ks holders. grouped_from ks later holders xs (λ y n. inside y (Memᴰ.tail n)))
      where
        n : ℕ
        n = x + raise

        by_test :
            (is_rep m x ≡ true) ⊎ (is_rep m x ≡ false)
            → ((ks : List Key) (holders : List ℕ) → Holds ks holders → grouped same m.roots raise holders xs ≡ map (new_colour (firsts same_key (ks ++ (keys_of xs ++ later))) m colours) xs)
            → grouped same m.roots raise holders (x ∷ xs) ≡ map (new_colour (firsts same_key (ks ++ (keys_of (x ∷ xs) ++ later))) m colours) (x ∷ xs)
        by_test (inl e) ih =
            let there = inside x (Memᴰ.head refl) e in
            let keys : List Key = firsts same_key (ks ++ key n ∷ (keys_of xs ++ later)) in
            grouped_yes same m.roots raise holders x xs e
            ∙ ap₂ (λ (i : ℕ) (l : List ℕ). i ∷ l)
            (holder_is ks holders h n there ∙ sym (number_told same_key key_refl key_sym key_trans ks (key n) (keys_of xs ++ later)) ∙ sym (colour_yes keys x e))
            (ih (ks ++ key n ∷ []) (held same holders n) (holds_more ks holders h n there)
            ∙ ap (λ (l : List Key). map (new_colour (firsts same_key l) m colours) xs) (append_assoc ks (key n ∷ []) (keys_of xs ++ later)))
            ∙ ap (λ (l : List Key). map (new_colour (firsts same_key (ks ++ (l ++ later))) m colours) (x ∷ xs)) (sym (keys_yes x xs e))
        by_test (inr e) ih =
            grouped_no same m.roots raise holders x xs e
            ∙ ap₂ (λ (i : ℕ) (l : List ℕ). i ∷ l) (sym (colour_no (firsts same_key (ks ++ (keys_of xs ++ later))) x e)) (ih ks holders h)
            ∙ ap (λ (l : List Key). map (new_colour (firsts same_key (ks ++ (l ++ later))) m colours) (x ∷ xs)) (sym (keys_no x xs e))

-- the numbers of the representatives of both sides, as they stand on one board
unfoldable pub ids_of : Model → Model → List ℕ
ids_of a b = map (λ (x : ℕ). x + 0) (reps a) ++ map (λ (y : ℕ). y + 64) (reps b)

pub left_id : (a b : Model) (x : ℕ) → Memᴰ x (reps a) → Memᴰ (x + 0) (ids_of a b)
unfolding ids_of
left_id a b x m = Memᴰ.append_left (map (λ (y : ℕ). y + 64) (reps b)) (map_mem (λ (y : ℕ). y + 0) (reps a) x m)

pub right_id : (a b : Model) (y : ℕ) → Memᴰ y (reps b) → Memᴰ (y + 64) (ids_of a b)
unfolding ids_of
right_id a b y m = Memᴰ.append_right (map (λ (x : ℕ). x + 0) (reps a)) (map_mem (λ (x : ℕ). x + 64) (reps b) y m)

module _ (a b : Model) (c : Sides) (key : ℕ → Key) (same : ℕ → ℕ → Bool)
    (left_key : (x : ℕ) → is_rep a x ≡ true → key (x + 0) ≡ key_of a c.left x) (right_key : (y : ℕ) → is_rep b y ≡ true → key (y + 64) ≡ key_of b c.right y)
    (agree : (x y : ℕ) → Memᴰ x (ids_of a b) → Memᴰ y (ids_of a b) → same x y ≡ same_key (key x) (key y)) where
  left_inside : (x : ℕ) → Memᴰ x (up_from 0 (size a)) → is_rep a x ≡ true → Memᴰ (x + 0) (ids_of a b)
  unfolding reps
  left_inside x m h = left_id a b x (keep_mem (is_rep a) (up_from 0 (size a)) x m h)

  right_inside : (y : ℕ) → Memᴰ y (up_from 0 (size b)) → is_rep b y ≡ true → Memᴰ (y + 64) (ids_of a b)
  unfolding reps
  right_inside y m h = right_id a b y (keep_mem (is_rep b) (up_from 0 (size b)) y m h)

  pub grouped_left : grouped same a.roots 0 [] (up_from 0 (size a)) ≡ recoloured (palette a b c) a c.left
  unfolding recoloured palette reps
  grouped_left =
      grouped_from key same (ids_of a b) agree a c.left 0 left_key [] (map (key_of b c.right) (reps b)) [] (up_from 0 (size a)) left_inside (holds_none key same (ids_of a b) agree)

  pub grouped_right : grouped same b.roots 64 (held_after same a.roots 0 [] (up_from 0 (size a))) (up_from 0 (size b)) ≡ recoloured (palette a b c) b c.right
  unfolding recoloured palette reps
  grouped_right =
      let lefts : List Key = map (key_of a c.left) (reps a) in
      let rights : List Key = map (key_of b c.right) (reps b) in
      let after = holds_after key same (ids_of a b) agree a c.left 0 left_key [] [] (up_from 0 (size a)) left_inside (holds_none key same (ids_of a b) agree) in
      grouped_from key same (ids_of a b) agree b c.right 64 right_key lefts [] (held_after same a.roots 0 [] (up_from 0 (size a))) (up_from 0 (size b)) right_inside after
      ∙ ap (λ (l : List Key). map (new_colour (firsts same_key (lefts ++ l)) b c.right) (up_from 0 (size b))) (append-nil rights)
