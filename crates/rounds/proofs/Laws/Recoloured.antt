-- Recoloured: on a prepared board two elements are alike exactly if their keys are the same, so that grouping them gives the colours of the round. Assumes nothing.
use Prim.Native.Nat.{ℕ, ◌+◌, ◌<◌, ◌≤◌}
use mathlib.Core.Path.{◌≡◌, refl, sym, ◌∙◌, ap, ap₂, subst}
use mathlib.Core.Logic.{◌⊎◌, inl, inr}
use mathlib.Core.Bool.{true, false}
use mathlib.Core.List.Memᴰ
use mathlib.Core.List.{List, [], ◌∷◌, ◌++◌, Memᴰ}
use native.Mathlib.Omega.{arith}
use lib.Dec.{eqb}
use lib.ListN.{length, get_or, take, drop}
use Rattle.lists.specs.Every.{how_many}
use Rattle.lists.specs.Numbers.{up_from}
use Rattle.lists.specs.Part.{over}
use Rattle.lists.proofs.Laws.Tests.{split}
use Rattle.lists.proofs.Laws.Numbers.{length-up_from}
use Rattle.lists.proofs.Laws.Over.{over_whole, back_front}
use Rattle.lists.proofs.Laws.Every.{mem_place, get_d_mem}
use Rattle.lists.proofs.Laws.Part.{length_part, get_d_part}
use Rattle.stored.specs.Model.{Model, size, is_rep}
use Rattle.stored.specs.Signature.{signature, same_signature}
use Rattle.stored.proofs.Laws.WellFormed.{WellFormed}
use Rattle.stored.proofs.Laws.Representatives.{rep_known}
use Rattle.rounds.specs.Colours.{colour_at}
use Rattle.rounds.specs.Keys.{Key, key_of, same_bag, same_key, places_from}
use Rattle.rounds.specs.Round.{Sides, round}
use Rattle.rounds.specs.Board.{number_start, raised, joined, cells_of, numbers_from, same_numbers, picked, cells_on, colours_on, start_of, places_on, alike_on, held_after, grouped, Small, Ready, Board, Prepared}
use Rattle.rounds.proofs.Laws.Joined.{joined_even, joined_left, joined_right}
use Rattle.rounds.proofs.Laws.Numbered.{numbers_length, numbers_small, bag_by_numbers}
use Rattle.rounds.proofs.Laws.Grouped.{grouped_left, grouped_right}
use Rattle.rounds.proofs.Laws.Segments.{places_fit}
use Rattle.rounds.proofs.Laws.Grouping.{grouped_length}

-- keys with equal parts
same_keys : (own own' : ℕ) (places places' : List (List ℕ)) → own ≡ own' → places ≡ places' → ◌≡◌ {A = Key} (record { own = own; places = places }) (record { own = own'; places = places' })
same_keys own own' places places' e f = ap₂ (λ (o : ℕ) (p : List (List ℕ)). record { own = o; places = p }) e f

-- a number that stands for a place is the number of a cell
picked_mem : (x n : ℕ) (cells numbers : List ℕ) → Memᴰ n (picked x cells numbers) → Memᴰ n numbers
unfolding picked
picked_mem x n [] numbers m = absurd (Memᴰ.not-nil m)
picked_mem x n (y ∷ cells) [] m = absurd (Memᴰ.not-nil m)
picked_mem x n (y ∷ cells) (k ∷ numbers) m = by_test (split (eqb x y)) m (picked_mem x n cells numbers)
  where
    by_test : (eqb x y ≡ true) ⊎ (eqb x y ≡ false) → Memᴰ n (picked x (y ∷ cells) (k ∷ numbers)) → (Memᴰ n (picked x cells numbers) → Memᴰ n numbers) → Memᴰ n (k ∷ numbers)
    by_test (inl e) m' ih = by_place (Memᴰ.cases_cons (rw (e, picked) at m'))
      where
        by_place : (n ≡ k) ⊎ Memᴰ n (picked x cells numbers) → Memᴰ n (k ∷ numbers)
        by_place (inl q) = Memᴰ.head q
        by_place (inr q) = Memᴰ.tail (ih q)
    by_test (inr e) m' ih = Memᴰ.tail (ih (rw (e, picked) at m'))

module _ (a b : Model) (wa : WellFormed a) (wb : WellFormed b) (one : same_signature (signature a) (signature b) ≡ true) (cells : ℕ) (left right w : List ℕ) (p : Prepared a b cells left right w) where
  -- the key of an element of the board
  abbrev key_on : ℕ → Key
  key_on z = record { own = colour_at (colours_on w) z; places = places_from 0 (colours_on w) z (joined a b) }

  bags : (x y : ℕ) → same_numbers (places_on cells w x) (places_on cells w y) ≡ same_bag (places_from 0 (colours_on w) x (joined a b)) (places_from 0 (colours_on w) y (joined a b))
  bags x y = ap₂ same_numbers (p.numbered x) (p.numbered y) ∙ sym (bag_by_numbers (colours_on w) (joined a b) (joined_even a b wa wb one) x y)

  alike_keys : (x y : ℕ) → alike_on cells w x y ≡ same_key (key_on x) (key_on y)
  unfolding alike_on same_key
  alike_keys x y = by_test (split (eqb (colour_at (colours_on w) x) (colour_at (colours_on w) y)))
    where
      by_test : (eqb (colour_at (colours_on w) x) (colour_at (colours_on w) y) ≡ true) ⊎ (eqb (colour_at (colours_on w) x) (colour_at (colours_on w) y) ≡ false) → alike_on cells w x y ≡ same_key (key_on x) (key_on y)
      by_test (inl e) = rw (e, alike_on, same_key) (bags x y)
      by_test (inr e) = rw (e, alike_on, same_key) refl

  left_key : (x : ℕ) → is_rep a x ≡ true → key_on (x + 0) ≡ key_of a left x
  unfolding key_of
  left_key x h =
      let e : x + 0 ≡ x = omega arith in
      let l = rep_known a wa x h in
      ap key_on e ∙ same_keys _ _ _ _ (p.left_there x l) (joined_left a b wa wb one (colours_on w) left p.left_there x (omega (arith, l, wa.few_elements)))

  right_key : (y : ℕ) → is_rep b y ≡ true → key_on (y + 64) ≡ key_of b right y
  unfolding key_of raised
  right_key y h = same_keys _ _ _ _ (p.right_there y (rep_known b wb y h)) (joined_right a b wa wb one (colours_on w) right p.right_there y)

  abbrev sides : Sides
  sides = record { left = left; right = right }

  abbrev pub first_held : List ℕ
  first_held = held_after (alike_on cells w) a.roots 0 [] (up_from 0 (size a))

  pub new_left_lem : grouped (alike_on cells w) a.roots 0 [] (up_from 0 (size a)) ≡ (round a b (record { left = left; right = right })).left
  unfolding round
  new_left_lem = grouped_left a b sides key_on (alike_on cells w) left_key right_key (λ x y _ _. alike_keys x y)

  pub new_right_lem : grouped (alike_on cells w) b.roots 64 first_held (up_from 0 (size b)) ≡ (round a b (record { left = left; right = right })).right
  unfolding round
  new_right_lem = grouped_right a b sides key_on (alike_on cells w) left_key right_key (λ x y _ _. alike_keys x y)

  pub prepared_ready : Ready cells w
  prepared_ready = record { listed = p.board.listed; small = small; empty = p.board.empty }
    where
      -- each number of a place is the number of a cell
      of_a_cell : (n : ℕ) → Memᴰ n (numbers_from 0 (colours_on w) (joined a b)) → n < 4096
      of_a_cell n m =
          let q = mem_place (numbers_from 0 (colours_on w) (joined a b)) n m in
          let h : q.0 < length (cells_of (joined a b)) = omega (arith, q.1, numbers_length (colours_on w) (joined a b) (joined_even a b wa wb one) 0) in
          omega (arith, q.2, numbers_small (colours_on w) (joined a b) (joined_even a b wa wb one) 0 q.0 h, p.board.as_many, p.board.listed.few)

      small : Small cells w
      small x i h =
          let long = length_part w (number_start + start_of (cells_on cells w) x) (how_many (eqb x) (cells_on cells w)) (places_fit cells w p.board.listed x) in
          let there = get_d_mem (places_on cells w x) i 0 (omega (arith, h, long)) in
          omega (
            arith,
            get_d_part w (number_start + start_of (cells_on cells w) x) (how_many (eqb x) (cells_on cells w)) i 0 h,
            of_a_cell (get_or (places_on cells w x) i 0)
                (picked_mem x (get_or (places_on cells w x) i 0) (cells_of (joined a b)) (numbers_from 0 (colours_on w) (joined a b)) (subst (Memᴰ (get_or (places_on cells w x) i 0)) (p.numbered x) there)),
          )

-- the same, said of the roots of both sides as they are handed on
module _ (a b : Model) (wa : WellFormed a) (wb : WellFormed b) (one : same_signature (signature a) (signature b) ≡ true)
    (cells : ℕ) (left right w : List ℕ) (p : Prepared a b cells left right w) (fits : length left ≡ size a) (other_fits : length right ≡ size b)
    (xs ys : List ℕ) (ex : xs ≡ a.roots) (ey : ys ≡ b.roots) where
  as_many_left : length xs ≡ size a
  as_many_left = ap length ex ∙ wa.roots_length

  as_many_right : length ys ≡ size b
  as_many_right = ap length ey ∙ wb.roots_length

  pub sides_ready : Ready cells w × (length xs ≤ 64) × (length ys ≤ 64) × (length xs ≤ length left) × (length ys ≤ length right)
  sides_ready =
      (prepared_ready a b wa wb one cells left right w p, omega (arith, as_many_left, wa.few_elements), omega (arith, as_many_right, wb.few_elements), omega (arith, as_many_left, fits), omega (arith, as_many_right, other_fits))

  -- what each side's list is
  first_list : grouped (alike_on cells w) xs 0 [] (up_from 0 (length xs)) ≡ (round a b (record { left = left; right = right })).left
  first_list =
      ap₂ (λ (roots : List ℕ) (n : ℕ). grouped (alike_on cells w) roots 0 [] (up_from 0 n)) ex as_many_left
      ∙ new_left_lem a b wa wb one cells left right w p

  second_list :
      grouped (alike_on cells w) ys 64 (held_after (alike_on cells w) xs 0 [] (up_from 0 (length xs))) (up_from 0 (length ys))
      ≡ (round a b (record { left = left; right = right })).right
  second_list =
      ap (λ (H : List ℕ). grouped (alike_on cells w) ys 64 H (up_from 0 (length ys)))
      (ap₂ (λ (roots : List ℕ) (n : ℕ). held_after (alike_on cells w) roots 0 [] (up_from 0 n)) ex as_many_left)
      ∙ ap₂ (λ (roots : List ℕ) (n : ℕ). grouped (alike_on cells w) roots 64 (first_held a b wa wb one cells left right w p) (up_from 0 n)) ey as_many_right
      ∙ new_right_lem a b wa wb one cells left right w p

  pub recoloured_both :
      (left' right' : List ℕ)
      → left' ≡ over (grouped (alike_on cells w) xs 0 [] (up_from 0 (length xs))) left
      → right' ≡ over (grouped (alike_on cells w) ys 64 (held_after (alike_on cells w) xs 0 [] (up_from 0 (length xs))) (up_from 0 (length ys))) right
      → ◌≡◌ {A = Sides} (record { left = left'; right = right' }) (round a b (record { left = left; right = right }))
  recoloured_both left' right' e f =
      let held = held_after (alike_on cells w) xs 0 [] (up_from 0 (length xs)) in
      ap₂ (λ (x y : List ℕ). record { left = x; right = y })
      (e ∙ over_whole _ left (grouped_length (alike_on cells w) xs 0 [] (up_from 0 (length xs)) ∙ length-up_from 0 (length xs) ∙ as_many_left ∙ sym fits) ∙ first_list)
      (f ∙ over_whole _ right (grouped_length (alike_on cells w) ys 64 held (up_from 0 (length ys)) ∙ length-up_from 0 (length ys) ∙ as_many_right ∙ sym other_fits) ∙ second_list)

  -- the board is as it was
  pub board_kept : (w' : List ℕ) → w' ≡ w → Board a b cells w'
  board_kept w' e = rw e p.board

-- rows whose fronts were recoloured
module _ (a b : Model) (row other : List ℕ) (n m : ℕ) (en : n ≡ size a) (em : m ≡ size b) (fits : n ≤ length row) (other_fits : m ≤ length other)
    (new new' : List ℕ) (long : length new ≡ length (take n row)) (long' : length new' ≡ length (take m other)) where
  pub put_together :
      ◌≡◌ {A = Sides} (record { left = new; right = new' }) (round a b (record { left = take n row; right = take m other }))
      → ◌≡◌ {A = Sides} (record { left = take (size a) (new ++ drop n row); right = take (size b) (new' ++ drop m other) }) (round a b (record { left = take (size a) row; right = take (size b) other }))
  put_together e =
      ap₂ (λ (x y : List ℕ). record { left = x; right = y })
      (ap (λ (k : ℕ). take k (new ++ drop n row)) (sym en) ∙ back_front n row new fits long) (ap (λ (k : ℕ). take k (new' ++ drop m other)) (sym em) ∙ back_front m other new' other_fits long')
      ∙ e ∙ ap₂ (λ (j k : ℕ). round a b (record { left = take j row; right = take k other })) en em
