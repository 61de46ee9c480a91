-- Grouping keys a side's element at a time: what is known before each turn. Assumes nothing.
use Prim.Native.Nat.{ℕ, suc, ◌+◌, ◌-◌, ◌<◌, ◌≤◌}
use mathlib.Core.Path.{◌≡◌, refl, sym, ◌∙◌, ap, ap₂}
use mathlib.Core.Logic.{◌⊎◌, inl, inr}
use mathlib.Core.Bool.{Bool, true, false}
use mathlib.Core.List.{List, [], ◌∷◌}
use native.Mathlib.Omega.{arith}
use native.Mathlib.Numerals.{add-one}
use lib.ListN.{length, get_or, take, drop, set}
use lib.Seq.{length-take-le, get_or-drop, drop-drop, take-suc-set}
use Rattle.lists.specs.First.{first_at}
use Rattle.lists.specs.Numbers.{up_from}
use Rattle.lists.specs.Part.{over}
use Rattle.lists.proofs.Laws.Tests.{split}
use Rattle.lists.proofs.Laws.First.{first_at_within}
use Rattle.lists.proofs.Laws.Numbers.{up_from_next, up_from_end, length-up_from}
use Rattle.lists.proofs.Laws.Over.{Written, written_none, written_length, written_more, written_all}
use Rattle.stored.specs.Model.{is_rep_in}
use Rattle.rounds.specs.Colours.{no_colour}
use Rattle.rounds.proofs.Laws.Grouped.{held_none, held_yes, held_no, grouped_yes, grouped_no, at_known, at_new}
use Rattle.rounds.proofs.Laws.Holders.{count_known, count_new, count_small}
use Rattle.rounds.proofs.Laws.Lone.{holding_none}
use Rattle.rounds.specs.Board.{alike_on, held_at, held, held_count, held_after, grouped, Ready, Holding, Placed}

module _ (w : List ℕ) (count found x : ℕ) (h : count < length w) where
  long : length (take count w) ≡ count
  long = length-take-le count w (omega arith)

  pub hold_known : found < count → take (held_count found count) w ≡ held_at found (take count w) x
  hold_known k = ap (λ (n : ℕ). take n w) (count_known found count k) ∙ sym (at_known found (take count w) x (omega (arith, long, k)))

  pub hold_new : count ≤ found → take (held_count found count) (set w count x) ≡ held_at found (take count w) x
  hold_new k = ap (λ (n : ℕ). take n (set w count x)) (count_new found count k ∙ add-one count) ∙ take-suc-set w count x h ∙ sym (at_new found (take count w) x (omega (arith, long, k)))

module _ (same : ℕ → ℕ → Bool) (roots : List ℕ) (raise : ℕ) where
  pub grouped_length : (holders xs : List ℕ) → length (grouped same roots raise holders xs) ≡ length xs
  unfolding grouped
  grouped_length holders [] = refl
  grouped_length holders (x ∷ xs) = by_test (split (is_rep_in roots x)) (grouped_length (held same holders (x + raise)) xs) (grouped_length holders xs)
    where
      by_test : (is_rep_in roots x ≡ true) ⊎ (is_rep_in roots x ≡ false) → length (grouped same roots raise (held same holders (x + raise)) xs) ≡ length xs → length (grouped same roots raise holders xs) ≡ length xs
          → length (grouped same roots raise holders (x ∷ xs)) ≡ suc (length xs)
      by_test (inl e) ih jh = rw (e, grouped) (ap suc ih)
      by_test (inr e) ih jh = rw (e, grouped) (ap suc jh)

-- elements before x are grouped
pub record Grouping (w₀ : List ℕ) (cells : ℕ) (roots : List ℕ) (raise : ℕ) (holders₀ : List ℕ) (count : ℕ) (out₀ w holders marks heads links lone : List ℕ) (n : ℕ) (out : List ℕ) (x : ℕ) : Type 0 where
  pub ready : Ready cells w₀
  pub few : length roots ≤ 64
  pub low : raise ≤ 64
  pub same : w ≡ w₀
  pub holding : Holding cells w₀ holders marks heads links lone n
  pub room : n + (length roots - x) ≤ 128
  pub within : x ≤ length roots
  pub so_many : n ≤ count + x
  pub written : Written (grouped (alike_on cells w₀) roots raise (take count holders₀) (up_from 0 (length roots))) out₀ out x
  pub rest :
      drop x (grouped (alike_on cells w₀) roots raise (take count holders₀) (up_from 0 (length roots)))
      ≡ grouped (alike_on cells w₀) roots raise (take n holders) (up_from x (length roots - x))
  pub after :
      held_after (alike_on cells w₀) roots raise (take n holders) (up_from x (length roots - x))
      ≡ held_after (alike_on cells w₀) roots raise (take count holders₀) (up_from 0 (length roots))

module _ (w₀ : List ℕ) (cells : ℕ) (roots : List ℕ) (raise : ℕ) (holders₀ : List ℕ) (count : ℕ) (out₀ : List ℕ) where
  abbrev S : ℕ → ℕ → Bool
  S = alike_on cells w₀

  abbrev G : List ℕ
  G = grouped (alike_on cells w₀) roots raise (take count holders₀) (up_from 0 (length roots))

  long_g : length G ≡ length roots
  long_g = grouped_length (alike_on cells w₀) roots raise (take count holders₀) (up_from 0 (length roots)) ∙ length-up_from 0 (length roots)

  pub grouping_start :
      (marks heads links lone : List ℕ) → Ready cells w₀ → length roots ≤ 64 → raise ≤ 64 → Holding cells w₀ holders₀ marks heads links lone count → count + length roots ≤ 128 → length roots ≤ length out₀
      → Grouping w₀ cells roots raise holders₀ count out₀ w₀ holders₀ marks heads links lone count out₀ 0
  grouping_start marks heads links lone r f l holding room fits =
      let e : length roots - 0 ≡ length roots = omega arith in
      record {
        ready = r;
        few = f;
        low = l;
        same = refl;
        holding = holding;
        room = omega (arith, room);
        within = omega arith;
        so_many = omega arith;
        written = written_none G out₀ (omega (arith, long_g, fits));
        rest = rw e refl;
        after = rw e refl;
      }

  module _ (w holders marks heads links lone : List ℕ) (n : ℕ) (out : List ℕ) (x : ℕ) (g : Grouping w₀ cells roots raise holders₀ count out₀ w holders marks heads links lone n out x) where
    pub out_long : length out ≡ length out₀
    out_long = written_length g.written

    pub grouping_over : length roots ≤ x → (out ≡ over G out₀) × (take n holders ≡ held_after S roots raise (take count holders₀) (up_from 0 (length roots))) × (n ≤ count + length roots)
    grouping_over h = (
      written_all g.written (omega (arith, long_g, h)),
      sym (held_none S roots raise (take n holders)) ∙ ap (held_after S roots raise (take n holders)) (sym (up_from_end x (length roots) h)) ∙ g.after,
      omega (arith, g.so_many, g.within),
    )

    module _ (h : x < length roots) where
      pub ready_now : Ready cells w
      ready_now = rw g.same g.ready

      pub one_more_fits : n < 128
      one_more_fits = omega (arith, g.room, h)

      taken_long : length (take n holders) ≡ n
      taken_long = length-take-le n holders (omega (arith, one_more_fits, g.holding.chained.holders_room))

      pub known_here : x + raise < 128
      known_here = omega (arith, g.low, g.few, h)

      pub holding_now : Holding cells w holders marks heads links lone n
      holding_now = rw g.same g.holding

      pub found_within : (p : ℕ → Bool) (i : ℕ) → i ≡ first_at p (take n holders) → i ≤ n
      found_within p i e = omega (arith, e, first_at_within p (take n holders), taken_long)

      pub inside_out : x < length out
      inside_out = omega (arith, h, out_long, g.written.fits, long_g)

      ahead : up_from x (length roots - x) ≡ x ∷ up_from (x + 1) (length roots - (x + 1))
      ahead = up_from_next x (length roots) h

      -- one entry more
      module _ (v : ℕ) (n' : ℕ) (holders' marks' heads' links' lone' : List ℕ) (H : List ℕ)
          (first : grouped S roots raise (take n holders) (x ∷ up_from (x + 1) (length roots - (x + 1))) ≡ v ∷ grouped S roots raise H (up_from (x + 1) (length roots - (x + 1))))
          (later : held_after S roots raise (take n holders) (x ∷ up_from (x + 1) (length roots - (x + 1))) ≡ held_after S roots raise H (up_from (x + 1) (length roots - (x + 1))))
          (holds : take n' holders' ≡ H) (little : n' ≤ n + 1) (holding' : Holding cells w₀ holders' marks' heads' links' lone' n') (w' : List ℕ) (kept : w' ≡ w) where
        here : drop x G ≡ v ∷ grouped S roots raise H (up_from (x + 1) (length roots - (x + 1)))
        here = g.rest ∙ ap (grouped S roots raise (take n holders)) ahead ∙ first

        entry : v ≡ get_or G x 0
        entry = ap (λ (t : List ℕ). get_or t 0 0) (sym here) ∙ get_or-drop x G 0 0 ∙ ap (λ (i : ℕ). get_or G i 0) (let e : x + 0 ≡ x = omega arith in e)

        pub grouping_more : Grouping w₀ cells roots raise holders₀ count out₀ w' holders' marks' heads' links' lone' n' (set out x v) (x + 1)
        grouping_more = record {
          ready = g.ready;
          few = g.few;
          low = g.low;
          same = kept ∙ g.same;
          holding = holding';
          room = omega (arith, g.room, little, h);
          within = omega (arith, h);
          so_many = omega (arith, g.so_many, little);
          written = written_more g.written 0 v (omega (arith, long_g, h)) entry;
          rest =
              sym (drop-drop 1 x G) ∙ ap (drop 1) here
              ∙ ap (λ (t : List ℕ). grouped S roots raise t (up_from (x + 1) (length roots - (x + 1)))) (sym holds);
          after =
              ap (λ (t : List ℕ). held_after S roots raise t (up_from (x + 1) (length roots - (x + 1)))) holds
              ∙ sym later ∙ ap (held_after S roots raise (take n holders)) (sym ahead) ∙ g.after;
        }

      pub grouping_alias : is_rep_in roots x ≡ false → Grouping w₀ cells roots raise holders₀ count out₀ w holders marks heads links lone n (set out x no_colour) (x + 1)
      grouping_alias e =
          grouping_more no_colour n holders marks heads links lone (take n holders) (grouped_no S roots raise (take n holders) x (up_from (x + 1) (length roots - (x + 1))) e)
          (held_no S roots raise (take n holders) x (up_from (x + 1) (length roots - (x + 1))) e) refl (omega arith) g.holding w refl

      pub grouping_rep :
          is_rep_in roots x ≡ true → (i : ℕ) (w' holders' marks' heads' links' lone' : List ℕ) → Placed cells w holders n (x + raise) i holders' marks' heads' links' lone' → w' ≡ w
          → Grouping w₀ cells roots raise holders₀ count out₀ w' holders' marks' heads' links' lone' (held_count i n) (set out x i) (x + 1)
      grouping_rep e i w' holders' marks' heads' links' lone' p kept =
          let z : i ≡ first_at (S (x + raise)) (take n holders) = p.first ∙ ap (λ (u : List ℕ). first_at (alike_on cells u (x + raise)) (take n holders)) g.same in
          grouping_more i (held_count i n) holders' marks' heads' links' lone' (held_at i (take n holders) (x + raise))
          (grouped_yes S roots raise (take n holders) x (up_from (x + 1) (length roots - (x + 1))) e
          ∙ ap (λ (j : ℕ). j ∷ grouped S roots raise (held_at j (take n holders) (x + raise)) (up_from (x + 1) (length roots - (x + 1)))) (sym z))
          (held_yes S roots raise (take n holders) x (up_from (x + 1) (length roots - (x + 1))) e
          ∙ ap (λ (j : ℕ). held_after S roots raise (held_at j (take n holders) (x + raise)) (up_from (x + 1) (length roots - (x + 1)))) (sym z))
          p.after (count_small i n) (rw (sym g.same) p.holding) w' kept

-- both sides, the right after the left
module _ (w : List ℕ) (cells : ℕ) (roots roots' out out' : List ℕ) (r : Ready cells w) (few : length roots ≤ 64) (few' : length roots' ≤ 64) where
  pub left_asks :
      (holders marks heads links lone : List ℕ) → length holders ≡ 128 → length marks ≡ 128 → (length heads ≡ 256) × ((b : ℕ) → b < 256 → get_or heads b 0 ≡ 0) → length links ≡ 128
      → (length lone ≡ 128) × ((k : ℕ) → k < 128 → get_or lone k 0 ≡ 0) → length roots ≤ length out
      → Ready cells w × (length roots ≤ 64) × (0 ≤ 64) × Holding cells w holders marks heads links lone 0 × (0 + length roots ≤ 128) × (length roots ≤ length out)
  left_asks holders marks heads links lone h k d e o fits = (r, few, omega arith, holding_none cells w holders marks heads links lone h k d e o, omega (arith, few), fits)

  pub right_asks :
      (w' holders marks heads links lone : List ℕ) (held : ℕ) → w' ≡ w → (held ≤ 0 + length roots) × Holding cells w holders marks heads links lone held → length roots' ≤ length out'
      → Ready cells w' × (length roots' ≤ 64) × (64 ≤ 64) × Holding cells w' holders marks heads links lone held × (held + length roots' ≤ 128) × (length roots' ≤ length out')
  right_asks w' holders marks heads links lone held e k fits = (rw e r, few', omega arith, rw e k.1, omega (arith, k.0, few, few'), fits)

pub right_done :
    (w w' : List ℕ) (cells : ℕ) (roots roots' holders holders₀ out out' : List ℕ) (held : ℕ) → w' ≡ w → take held holders ≡ held_after (alike_on cells w) roots 0 (take 0 holders₀) (up_from 0 (length roots))
    → out' ≡ over (grouped (alike_on cells w') roots' 64 (take held holders) (up_from 0 (length roots'))) out
    → out' ≡ over (grouped (alike_on cells w) roots' 64 (held_after (alike_on cells w) roots 0 [] (up_from 0 (length roots))) (up_from 0 (length roots'))) out
right_done w w' cells roots roots' holders holders₀ out out' held e h f =
    f ∙ ap₂ (λ (v H : List ℕ). over (grouped (alike_on cells v) roots' 64 H (up_from 0 (length roots'))) out) e h
