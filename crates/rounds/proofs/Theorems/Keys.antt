-- Keys: `same_key` is an equivalence, and two representatives, of one side or of both, get one new colour exactly where their keys are the same.
-- Assumes nothing.
use Prim.Native.Nat.{ℕ, zero, suc, ◌<◌, zero-le}
use mathlib.Core.Path.{◌≡◌, refl, sym, ◌∙◌}
use mathlib.Core.Logic.{◌⊎◌, inl, inr}
use mathlib.Core.Bool.{Bool, true, false, false≢true}
use mathlib.Core.List.Memᴰ
use mathlib.Core.List.{List, ◌++◌, map, Memᴰ}
use native.Mathlib.Omega.{arith}
use borrow.Author.Tests.{eqb-true, eq-eqb}
use lib.Dec.{eqb}
use lib.ListN.{length}
use Rattle.lists.specs.Every.{how_many, keep}
use Rattle.lists.specs.First.{first_at}
use Rattle.lists.specs.Numbers.{up_from}
use Rattle.lists.specs.Order.{same_row}
use Rattle.lists.proofs.Laws.Tests.{split}
use Rattle.lists.proofs.Laws.Every.{all_mem, mem_all, keep_mem, mem_keep}
use Rattle.lists.proofs.Laws.Entries.{entry_at_lem}
use Rattle.lists.proofs.Laws.Numbers.{up_from_mem, mem_up_from}
use Rattle.lists.proofs.Laws.Order.{same_row_lem}
use Rattle.lists.proofs.Laws.Sets.{map_mem}
use Rattle.stored.specs.Model.{Model, size, is_rep}
use Rattle.rounds.specs.Colours.{no_colour, colour_at}
use Rattle.rounds.specs.Keys.{Key, key_of, same_bag, same_key}
use Rattle.rounds.specs.Round.{reps, Sides, palette, new_colour, recoloured, round}
use Rattle.lists.proofs.Laws.Counting.{how_many_append, how_many_some, class_known, same_class, class_same}

-- bags: the same exactly where every row stands as often in both
module _ (p q : List (List ℕ)) where
  as_often : List ℕ → Bool
  as_often e = eqb (how_many (same_row e) p) (how_many (same_row e) q)

  pub bag_counts : same_bag p q ≡ true → (e : List ℕ) → how_many (same_row e) p ≡ how_many (same_row e) q
  unfolding same_bag as_often
  bag_counts h e = go (how_many (same_row e) (p ++ q)) refl
    where
      go : (n : ℕ) → how_many (same_row e) (p ++ q) ≡ n → how_many (same_row e) p ≡ how_many (same_row e) q
      go zero k = omega (arith, how_many_append (same_row e) p q)
      go (suc n) k =
          let r = how_many_some (same_row e) (p ++ q) (omega arith) in
          let w : e ≡ r.0 = same_row_lem e r.0 r.2 in
          rw w (eqb-true _ _ (all_mem as_often (p ++ q) h r.0 r.1))

  pub counts_bag : ((e : List ℕ) → how_many (same_row e) p ≡ how_many (same_row e) q) → same_bag p q ≡ true
  unfolding same_bag as_often
  counts_bag h = mem_all as_often (p ++ q) (λ e m. eq-eqb _ _ (h e))

-- keys: the same exactly where the own colours and the bags of places are
module _ (k l : Key) where
  pub same_own : same_key k l ≡ true → k.own ≡ l.own
  unfolding same_key
  same_own h = go (split (eqb k.own l.own))
    where
      go : (eqb k.own l.own ≡ true) ⊎ (eqb k.own l.own ≡ false) → k.own ≡ l.own
      go (inl e) = eqb-true _ _ e
      go (inr e) = absurd (false≢true (rw (e, same_key) at h))

  pub same_places : same_key k l ≡ true → (e : List ℕ) → how_many (same_row e) k.places ≡ how_many (same_row e) l.places
  unfolding same_key
  same_places h = bag_counts k.places l.places (rw (eq-eqb _ _ (same_own h), same_key) at h)

  pub make_same : k.own ≡ l.own → ((e : List ℕ) → how_many (same_row e) k.places ≡ how_many (same_row e) l.places) → same_key k l ≡ true
  unfolding same_key
  make_same o h = rw (eq-eqb _ _ o, same_key) (counts_bag k.places l.places h)

pub key_refl : (k : Key) → same_key k k ≡ true
key_refl k = make_same k k refl (λ e. refl)

pub key_sym : (k l : Key) → same_key k l ≡ true → same_key l k ≡ true
key_sym k l h = make_same l k (sym (same_own k l h)) (λ e. sym (same_places k l h e))

pub key_trans : (k l m : Key) → same_key k l ≡ true → same_key l m ≡ true → same_key k m ≡ true
key_trans k l m h i = make_same k m (same_own k l h ∙ same_own l m i) (λ e. same_places k l h e ∙ same_places l m i e)

-- representatives
pub reps_kept : (m : Model) → reps m ≡ keep (is_rep m) (up_from 0 (size m))
unfolding reps
reps_kept m = refl

module _ (m : Model) (x : ℕ) where
  pub reps_below_lem : Memᴰ x (reps m) → x < size m
  unfolding reps
  reps_below_lem h = let r = mem_up_from 0 (size m) x (mem_keep (is_rep m) (up_from 0 (size m)) x h).0 in omega arith

  pub reps_rep : Memᴰ x (reps m) → is_rep m x ≡ true
  unfolding reps
  reps_rep h = (mem_keep (is_rep m) (up_from 0 (size m)) x h).1

  pub rep_reps : x < size m → is_rep m x ≡ true → Memᴰ x (reps m)
  unfolding reps
  rep_reps l h = keep_mem (is_rep m) (up_from 0 (size m)) x (up_from_mem 0 (size m) x zero-le (omega arith)) h

  -- the new colour of a representative is the number of its key
  pub new_number : (keys : List Key) (colours : List ℕ) → Memᴰ x (reps m) → new_colour keys m colours x ≡ first_at (same_key (key_of m colours x)) keys
  unfolding new_colour
  new_number keys colours h = rw (reps_rep h, new_colour)

  pub recoloured_at : (keys : List Key) (colours : List ℕ) → Memᴰ x (reps m) → colour_at (recoloured keys m colours) x ≡ new_colour keys m colours x
  unfolding recoloured
  recoloured_at keys colours h = entry_at_lem (new_colour keys m colours) (size m) x no_colour (reps_below_lem h)

-- one of the two sides: its model and its colours
pub data Side : Type 0 where
  on_left : Side
  on_right : Side

abbrev pub model_on : Model → Model → Side → Model
model_on a b on_left = a
model_on a b on_right = b

abbrev pub colours_on : Sides → Side → List ℕ
colours_on c on_left = c.left
colours_on c on_right = c.right

module _ (a b : Model) (c : Sides) where
  abbrev pub key_on : Side → ℕ → Key
  key_on s x = key_of (model_on a b s) (colours_on c s) x

  abbrev pub new_on : Side → ℕ → ℕ
  new_on s x = new_colour (palette a b c) (model_on a b s) (colours_on c s) x

  abbrev pub RepOn : Side → ℕ → Type 0
  RepOn s x = Memᴰ x (reps (model_on a b s))

  -- the keys of all representatives, those of the left first
  all_keys : List Key
  all_keys = map (key_of a c.left) (reps a) ++ map (key_of b c.right) (reps b)

  key_there : (s : Side) (x : ℕ) → RepOn s x → Memᴰ (key_on s x) all_keys
  unfolding all_keys
  key_there on_left x m = Memᴰ.append_left (map (key_of b c.right) (reps b)) (map_mem (key_of a c.left) (reps a) x m)
  key_there on_right x m = Memᴰ.append_right (map (key_of a c.left) (reps a)) (map_mem (key_of b c.right) (reps b) x m)

  -- the number of a representative's key lies inside the palette
  pub number_known : (s : Side) (x : ℕ) → RepOn s x → first_at (same_key (key_on s x)) (palette a b c) < length (palette a b c)
  unfolding palette all_keys
  number_known s x m = class_known same_key key_refl key_sym key_trans all_keys (key_on s x) (key_there s x m)

  -- the colour after the round is the number of the key
  pub round_at : (s : Side) (x : ℕ) → RepOn s x → colour_at (colours_on (round a b c) s) x ≡ first_at (same_key (key_on s x)) (palette a b c)
  unfolding round
  round_at on_left x m = recoloured_at a x (palette a b c) c.left m ∙ new_number a x (palette a b c) c.left m
  round_at on_right x m = recoloured_at b x (palette a b c) c.right m ∙ new_number b x (palette a b c) c.right m

  new_at : (s : Side) (x : ℕ) → RepOn s x → new_on s x ≡ first_at (same_key (key_on s x)) (palette a b c)
  new_at s x m = new_number (model_on a b s) x (palette a b c) (colours_on c s) m

  module _ (s t : Side) (x y : ℕ) (m : RepOn s x) (n : RepOn t y) where
    -- one number, then the same key
    pub number_key : new_on s x ≡ new_on t y → same_key (key_on s x) (key_on t y) ≡ true
    number_key e =
        class_same same_key key_refl key_sym key_trans (palette a b c) (key_on s x) (key_on t y) (number_known s x m)
        (sym (new_at s x m) ∙ e ∙ new_at t y n)

    -- the same key, then one number
    pub key_number : same_key (key_on s x) (key_on t y) ≡ true → new_on s x ≡ new_on t y
    key_number h =
        new_at s x m
        ∙ same_class same_key key_refl key_sym key_trans (palette a b c) (key_on s x) (key_on t y) h
        ∙ sym (new_at t y n)

    -- the same for the colours after the round
    pub round_key : colour_at (colours_on (round a b c) s) x ≡ colour_at (colours_on (round a b c) t) y → same_key (key_on s x) (key_on t y) ≡ true
    round_key e =
        class_same same_key key_refl key_sym key_trans (palette a b c) (key_on s x) (key_on t y) (number_known s x m)
        (sym (round_at s x m) ∙ e ∙ round_at t y n)

    pub key_round : same_key (key_on s x) (key_on t y) ≡ true → colour_at (colours_on (round a b c) s) x ≡ colour_at (colours_on (round a b c) t) y
    key_round h = round_at s x m ∙ same_class same_key key_refl key_sym key_trans (palette a b c) (key_on s x) (key_on t y) h ∙ sym (round_at t y n)
