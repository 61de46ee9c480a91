-- Elements with no places among the holders of keys: a table of colours leads to them, and stays right after one more element. Assumes nothing.
use Prim.Native.Nat.{ℕ, ◌+◌, ◌-◌, ◌<◌, ◌≤◌}
use mathlib.Core.Path.{◌≡◌, sym, ◌∙◌, ap}
use mathlib.Core.Logic.{◌⊎◌, inl, inr, by_cases}
use mathlib.Core.Bool.{Bool, true, false, ◌&&◌}
use mathlib.Core.List.{List, [], ◌∷◌, ◌++◌}
use native.Mathlib.Omega.{arith}
use native.Mathlib.Numerals.{add-one}
use native.Mathlib.Decide.{dec_le, ℕ_discrete}
use borrow.Author.Tests.{eq-eqb, eqb-true}
use lib.Dec.{eqb}
use lib.ListN.{length, get_or, take, set, length-set, get_or-append}
use lib.Seq.{get_or-set_same, get_or-set_other, get_or-take, length-take-le, get_or-append_seam}
use Rattle.lists.specs.First.{first_at}
use Rattle.lists.proofs.Laws.Tests.{split, clash, and_left, and_right, and_both}
use Rattle.rounds.specs.Colours.{colour_at}
use Rattle.rounds.specs.Board.{colours_on, mark_on, last_below, last_lone, held_at, held_count, alike_on, Chained, Holding, Placed}
use Rattle.rounds.proofs.Laws.Keys.{alike_mark, alike_colour, lone_alike}
use Rattle.rounds.proofs.Laws.Holders.{last_none, last_yes, last_no, last_low, last_passes, last_above, last_agree, none_first, one_first, count_known, count_new, chained_none}
use Rattle.rounds.proofs.Laws.Grouped.{at_known, at_new}

-- whether a holder has no places and a colour
module _ (cells : ℕ) (w holders : List ℕ) (colour j : ℕ) where
  abbrev none : Bool
  none = eqb (mark_on cells w (get_or holders j 0)) 0

  abbrev own : Bool
  own = eqb (colour_at (colours_on w) (get_or holders j 0)) colour

  abbrev lone_at : Bool
  lone_at = none && own

  lone_yes : mark_on cells w (get_or holders j 0) ≡ 0 → colour_at (colours_on w) (get_or holders j 0) ≡ colour → lone_at ≡ true
  lone_yes h e = and_both none own (eq-eqb _ _ h) (eq-eqb _ _ e)

  lone_told : lone_at ≡ true → (mark_on cells w (get_or holders j 0) ≡ 0) × (colour_at (colours_on w) (get_or holders j 0) ≡ colour)
  lone_told h = (eqb-true _ _ (and_left none own h), eqb-true _ _ (and_right none own h))

  lone_not : (mark_on cells w (get_or holders j 0) ≡ 0 → colour_at (colours_on w) (get_or holders j 0) ≡ colour → ⊥) → lone_at ≡ false
  lone_not d = go (split lone_at)
    where
      go : (lone_at ≡ true) ⊎ (lone_at ≡ false) → lone_at ≡ false
      go (inl e) = absurd (d (lone_told e).0 (lone_told e).1)
      go (inr e) = e

-- no holders at all
pub holding_none :
    (cells : ℕ) (w holders marks heads links lone : List ℕ) → length holders ≡ 128 → length marks ≡ 128 → (length heads ≡ 256) × ((b : ℕ) → b < 256 → get_or heads b 0 ≡ 0) → length links ≡ 128
    → (length lone ≡ 128) × ((k : ℕ) → k < 128 → get_or lone k 0 ≡ 0) → Holding cells w holders marks heads links lone 0
holding_none cells w holders marks heads links lone h m d l o = record {
  chained = chained_none cells w holders marks heads links h m d l;
  lone_room = o.0;
  by_colour = λ k u. o.1 k u ∙ sym (last_none (lone_at cells w holders k));
}

-- the holders after one more element: those before, and a new one last
module _ (holders holders' : List ℕ) (count x i : ℕ) (few : count ≤ length holders) (e : take (held_count i count) holders' ≡ held_at i (take count holders) x) where
  long : length (take count holders) ≡ count
  long = length-take-le count holders few

  taken_known : i < count → take count holders' ≡ take count holders
  taken_known l = ap (λ (n : ℕ). take n holders') (sym (count_known i count l)) ∙ e ∙ at_known i (take count holders) x (omega (arith, l, long))

  taken_new : count ≤ i → take (count + 1) holders' ≡ take count holders ++ x ∷ []
  taken_new l = ap (λ (n : ℕ). take n holders') (sym (count_new i count l)) ∙ e ∙ at_new i (take count holders) x (omega (arith, l, long))

  kept : (j : ℕ) → j < count → get_or holders' j 0 ≡ get_or holders j 0
  kept j h = by_cases (dec_le count i) new (λ d. known (omega (arith, d)))
    where
      new : count ≤ i → get_or holders' j 0 ≡ get_or holders j 0
      new l =
          sym (get_or-take (count + 1) holders' j 0 (omega (arith, h))) ∙ ap (λ (t : List ℕ). get_or t j 0) (taken_new l)
          ∙ get_or-append (take count holders) (x ∷ []) 0 j (omega (arith, h, long)) ∙ get_or-take count holders j 0 h

      known : i < count → get_or holders' j 0 ≡ get_or holders j 0
      known l = sym (get_or-take count holders' j 0 h) ∙ ap (λ (t : List ℕ). get_or t j 0) (taken_known l) ∙ get_or-take count holders j 0 h

  added : count ≤ i → get_or holders' count 0 ≡ x
  added l =
      sym (get_or-take (count + 1) holders' count 0 (omega arith)) ∙ ap (λ (t : List ℕ). get_or t count 0) (taken_new l)
      ∙ ap (λ (n : ℕ). get_or (take count holders ++ x ∷ []) n 0) (sym long) ∙ get_or-append_seam (take count holders) x [] 0

  lones_agree : (cells : ℕ) (w : List ℕ) (k : ℕ) → last_lone cells w holders k count ≡ last_lone cells w holders' k count
  lones_agree cells w k =
      last_agree (lone_at cells w holders k) (lone_at cells w holders' k) count (λ j h. ap (λ (y : ℕ). eqb (mark_on cells w y) 0 && eqb (colour_at (colours_on w) y) k) (sym (kept j h)))

  -- a new one that does not count
  lones_pass :
      (cells : ℕ) (w : List ℕ) (k : ℕ) → (mark_on cells w x ≡ 0 → colour_at (colours_on w) x ≡ k → ⊥)
      → last_lone cells w holders k count ≡ last_lone cells w holders' k (held_count i count)
  lones_pass cells w k other = lones_agree cells w k ∙ by_cases (dec_le count i) new (λ d. known (omega (arith, d)))
    where
      new : count ≤ i → last_lone cells w holders' k count ≡ last_lone cells w holders' k (held_count i count)
      new l =
          sym (last_no (lone_at cells w holders' k) count
          (lone_not cells w holders' k count (λ m c. other (ap (mark_on cells w) (sym (added l)) ∙ m) (ap (colour_at (colours_on w)) (sym (added l)) ∙ c))))
          ∙ ap (last_below (lone_at cells w holders' k)) (sym (count_new i count l ∙ add-one count))

      known : i < count → last_lone cells w holders' k count ≡ last_lone cells w holders' k (held_count i count)
      known l = ap (last_below (lone_at cells w holders' k)) (sym (count_known i count l))

module _ (cells : ℕ) (w holders marks heads links lone : List ℕ) (count : ℕ) (k : Holding cells w holders marks heads links lone count) where
  room : count ≤ length holders
  room = omega (arith, k.chained.few, k.chained.holders_room)

  pub holding_as : (count' : ℕ) → count' ≡ count → Holding cells w holders marks heads links lone count'
  holding_as count' e = rw e k

  -- an element that the table has no entry for
  pub placed_key :
      (x i : ℕ) (holders' marks' heads' links' : List ℕ) → (mark_on cells w x ≡ 0 → colour_at (colours_on w) x < 128 → ⊥) → i ≡ first_at (alike_on cells w x) (take count holders)
      → Chained cells w holders' marks' heads' links' (held_count i count) → take (held_count i count) holders' ≡ held_at i (take count holders) x
      → Placed cells w holders count x i holders' marks' heads' links' lone
  placed_key x i holders' marks' heads' links' other q c e = record {
    first = q;
    after = e;
    holding = record {
      chained = c;
      lone_room = k.lone_room;
      by_colour = λ n h. k.by_colour n h ∙ lones_pass holders holders' count x i room e cells w n (λ m u. other m (omega (arith, u, h)));
    };
  }

  -- an element with no places whose colour has an entry
  module _ (x colour : ℕ) (none : mark_on cells w x ≡ 0) (its : colour ≡ colour_at (colours_on w) x) (low : colour < 128) where
    leads : get_or lone colour 0 ≡ last_lone cells w holders colour count
    leads = k.by_colour colour low

    -- it leads to the holder of its key
    pub placed_known : 0 < get_or lone colour 0 → Placed cells w holders count x (get_or lone colour 0 - 1) holders marks heads links lone
    placed_known h = record {
      first = one_first cells w holders marks heads links count k.chained x (get_or lone colour 0 - 1) before alike;
      after =
          ap (λ (n : ℕ). take n holders) (count_known _ count before)
          ∙ sym (at_known (get_or lone colour 0 - 1) (take count holders) x (omega (arith, before, length-take-le count holders room)));
      holding = holding_as (held_count (get_or lone colour 0 - 1) count) (count_known _ count before);
    }
      where
        before : get_or lone colour 0 - 1 < count
        before = omega (arith, h, leads, last_low (lone_at cells w holders colour) count)

        told : (mark_on cells w (get_or holders (get_or lone colour 0 - 1) 0) ≡ 0) × (colour_at (colours_on w) (get_or holders (get_or lone colour 0 - 1) 0) ≡ colour)
        told = lone_told cells w holders colour (get_or lone colour 0 - 1) (last_passes (lone_at cells w holders colour) count (get_or lone colour 0 - 1) (omega (arith, h, leads)))

        alike : alike_on cells w x (get_or holders (get_or lone colour 0 - 1) 0) ≡ true
        alike = lone_alike cells w x (get_or holders (get_or lone colour 0 - 1) 0) none told.0 (sym its ∙ sym told.1)

    module _ (h : get_or lone colour 0 ≤ 0) where
      unlike : (j : ℕ) → j < count → alike_on cells w x (get_or holders j 0) ≡ false
      unlike j l = go (split (alike_on cells w x (get_or holders j 0)))
        where
          go : (alike_on cells w x (get_or holders j 0) ≡ true) ⊎ (alike_on cells w x (get_or holders j 0) ≡ false) → alike_on cells w x (get_or holders j 0) ≡ false
          go (inl e) =
              clash
              (lone_yes cells w holders colour j (sym (alike_mark cells w x (get_or holders j 0) e) ∙ none) (sym (alike_colour cells w x (get_or holders j 0) e) ∙ sym its))
              (last_above (lone_at cells w holders colour) count j (omega (arith, h, leads)) l)
          go (inr e) = e

      -- no holder has its key
      pub lone_new : count ≡ first_at (alike_on cells w x) (take count holders)
      lone_new = none_first cells w holders marks heads links count k.chained x unlike

      -- it becomes the holder that its colour leads to
      module _ (holders' marks' heads' links' : List ℕ) (c : Chained cells w holders' marks' heads' links' (held_count count count))
          (e : take (held_count count count) holders' ≡ held_at count (take count holders) x) where
        last : get_or holders' count 0 ≡ x
        last = added holders holders' count x count room e (omega arith)

        leads_after : (n : ℕ) → n < 128 → get_or (set lone colour (count + 1)) n 0 ≡ last_lone cells w holders' n (held_count count count)
        leads_after n l = by_cases (ℕ_discrete n colour) here there
          where
            here : n ≡ colour → get_or (set lone colour (count + 1)) n 0 ≡ last_lone cells w holders' n (held_count count count)
            here z =
                ap (λ (i : ℕ). get_or (set lone colour (count + 1)) i 0) z ∙ get_or-set_same lone colour (count + 1) 0 (omega (arith, low, k.lone_room))
                ∙ add-one count
                ∙ sym (last_yes (lone_at cells w holders' n) count
                (lone_yes cells w holders' n count (ap (mark_on cells w) last ∙ none) (ap (colour_at (colours_on w)) last ∙ sym its ∙ sym z)))
                ∙ ap (last_below (lone_at cells w holders' n)) (sym (count_new count count (omega arith) ∙ add-one count))

            there : (n ≡ colour → ⊥) → get_or (set lone colour (count + 1)) n 0 ≡ last_lone cells w holders' n (held_count count count)
            there d =
                get_or-set_other lone colour n (count + 1) 0 d ∙ k.by_colour n l
                ∙ lones_pass holders holders' count x count room e cells w n (λ m u. d (sym u ∙ sym its))

        pub placed_new : Placed cells w holders count x count holders' marks' heads' links' (set lone colour (count + 1))
        placed_new = record {
          first = lone_new;
          after = e;
          holding = record { chained = c; lone_room = length-set lone colour (count + 1) ∙ k.lone_room; by_colour = leads_after };
        }
