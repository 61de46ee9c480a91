-- The places of an element are a segment of the numbers: where it starts and ends, and what stands there. Assumes nothing.
use Prim.Native.Nat.{ℕ, ◌+◌, ◌-◌, ◌<◌, ◌≤◌}
use mathlib.Core.Path.{◌≡◌, refl, sym, ◌∙◌, ap, ap₂}
use mathlib.Core.List.{List}
use native.Mathlib.Omega.{arith}
use lib.Dec.{eqb}
use lib.ListN.{length, get_or}
use lib.Seq.{get_or-take}
use Rattle.lists.specs.Every.{how_many}
use Rattle.lists.specs.Part.{part}
use Rattle.rounds.specs.Board.{number_start, start_start, cells_on, start_of, places_on, mark_end, mark_on, segment, Listed, Segment, Ready}
use Rattle.rounds.proofs.Laws.Listed.{start_next, start_all, ends_fit, cells_long}
use Rattle.rounds.proofs.Laws.Tables.{segment_mark}

module _ (cells : ℕ) (w : List ℕ) (l : Listed cells w) where
  pub end_next : (x : ℕ) → x < 127 → get_or w (start_start + 1 + x) 0 ≡ start_of (cells_on cells w) x + how_many (eqb x) (cells_on cells w)
  end_next x h =
      let e : start_start + 1 + x ≡ start_start + (x + 1) = omega arith in
      ap (λ (i : ℕ). get_or w i 0) e ∙ l.start (x + 1) (omega (arith, h)) ∙ sym (start_next (cells_on cells w) x)

  pub end_last : (x : ℕ) → x < 128 → 127 ≤ x → cells ≡ start_of (cells_on cells w) x + how_many (eqb x) (cells_on cells w)
  end_last x h k =
      let e : x + 1 ≡ 128 = omega (arith, h, k) in
      let n = cells_long cells w l in
      sym n
      ∙ sym (start_all (cells_on cells w) 128 (λ c u. let v : c < cells = omega (arith, u, n) in omega (arith, get_or-take cells w c 0 v, l.known c v)))
      ∙ ap (start_of (cells_on cells w)) (sym e)
      ∙ sym (start_next (cells_on cells w) x)

  pub places_fit : (x : ℕ) → number_start + start_of (cells_on cells w) x + how_many (eqb x) (cells_on cells w) ≤ length w
  places_fit x = omega (arith, ends_fit (cells_on cells w) x, cells_long cells w l, l.few, l.room)

-- an element's segment
module _ (cells : ℕ) (w : List ℕ) (r : Ready cells w) (x from end : ℕ) (known : x < 128) (starts : from ≡ get_or w (start_start + x) 0)
    (ends : end ≡ start_of (cells_on cells w) x + how_many (eqb x) (cells_on cells w)) where
  from_is : from ≡ start_of (cells_on cells w) x
  from_is = starts ∙ r.listed.start x known

  pub segment_of : Segment from end w
  segment_of = record {
    room = r.listed.room;
    order = omega (arith, from_is, ends);
    few = omega (arith, ends, ends_fit (cells_on cells w) x, cells_long cells w r.listed, r.listed.few);
    low = λ i h k.
        let e : number_start + start_of (cells_on cells w) x + (i - from) ≡ number_start + i = omega (arith, h, from_is) in
        rw e at (r.small x (i - from) (omega (arith, h, k, from_is, ends)));
  }

  pub segment_is : segment from end w ≡ places_on cells w x
  segment_is = let e : end - from ≡ how_many (eqb x) (cells_on cells w) = omega (arith, from_is, ends) in ap₂ (λ (i n : ℕ). part w (number_start + i) n) from_is e

pub mark_few : (cells : ℕ) (w : List ℕ) → Ready cells w → (x : ℕ) → x < 128 → (mark : ℕ) → mark ≡ mark_on cells w x → mark < mark_end
mark_few cells w r x h mark q =
    let s = segment_of cells w r x (get_or w (start_start + x) 0) (start_of (cells_on cells w) x + how_many (eqb x) (cells_on cells w)) h refl refl in
    let e = segment_is cells w r x (get_or w (start_start + x) 0) (start_of (cells_on cells w) x + how_many (eqb x) (cells_on cells w)) h refl refl in
    rw (q, sym e) (segment_mark _ _ w s)
