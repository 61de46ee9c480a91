-- The laws of find: its outcome, case by case. Assumes nothing.
use Prim.Native.Nat.{ℕ, ◌%◌, ◌<◌, ◌≤◌}
use native.Mathlib.Omega.{arith}
use mathlib.Core.Path.{◌≡◌, ap}
use mathlib.Core.Bool.{true, false}
use mathlib.Core.List.{List}
use borrow.Author.Tests.{lt-ltb, le-ltb, eq-eqb, ne_eqb}
use lib.ListN.{length}
use Rattle.std.proofs.Common.{Ok, Err}
use Rattle.stored.specs.declared.refusal.Refusal.{Refusal}
use Rattle.stored.specs.declared.refusal.Refusal.TheVariants.{NoRoom, NotCanonical, SignaturesDiffer, OddPairs, NotAMap}
use Rattle.stored.specs.Model.{Model, size}
use Rattle.stored.specs.Canonical.{canonical}
use Rattle.stored.specs.Signature.{signature, same_signature}
use Rattle.rows.specs.Pairs.{pair_count}
use Rattle.rows.specs.Maps.{is_map}
use Rattle.rounds.specs.Round.{reps}
use Rattle.search.specs.Partners.{pairs_from, partners, partners_of}
use Rattle.search.specs.Machine.{run}
use Rattle.search.specs.Answer.{ended, refused, work_room}
use Rattle.search.specs.Find.{round_cost, alike, start_from, searched, find_paired, find_among, find_models, pairs_under, under_models}

-- with the partners that the pairs give
module _ (a b : Model) (budget : ℕ) where
  pub searched_run : (f g : List ℕ) → alike a b ≡ true → searched a b budget (partners f g) ≡ run budget round_cost a b budget 0 (start_from a b f g)
  unfolding searched
  searched_run f g e = rw (e, searched)

  -- with pairs
  pub among_same : {pairs others : List ℕ} → pairs ≡ others → find_among a b pairs budget ≡ find_among a b others budget
  among_same e = ap (λ (ps : List ℕ). find_among a b ps budget) e

  module _ (pairs : List ℕ) where
    pub among_bad : (r : Refusal) → pairs_from (pair_count pairs) a b pairs 0 ≡ Err r → find_among a b pairs budget ≡ refused r
    unfolding find_among find_paired
    among_bad r e = rw e

    pub among_good : pairs_from (pair_count pairs) a b pairs 0 ≡ Ok tt → find_among a b pairs budget ≡ ended (searched a b budget (partners_of a b pairs))
    unfolding find_among find_paired
    among_good e = rw e

-- of two models
module _ (pairs : List ℕ) (budget room work : ℕ) (a b : Model) where
  pub find_cramped : room < size a → find_models pairs budget room work a b ≡ refused NoRoom
  unfolding find_models
  find_cramped h = rw (lt-ltb room (size a) h, find_models)

  module _ (h : size a ≤ room) where
    pub find_workless : work < work_room → find_models pairs budget room work a b ≡ refused NoRoom
    unfolding find_models
    find_workless w = rw (le-ltb room (size a) h, lt-ltb work work_room w, find_models)

    module _ (w : work_room ≤ work) where
      pub find_left : canonical a ≡ false → find_models pairs budget room work a b ≡ refused (NotCanonical 1)
      unfolding find_models
      find_left n = rw (le-ltb room (size a) h, le-ltb work work_room w, find_models, n)

      module _ (l : canonical a ≡ true) where
        pub find_right : canonical b ≡ false → find_models pairs budget room work a b ≡ refused (NotCanonical 2)
        unfolding find_models
        find_right n = rw (le-ltb room (size a) h, le-ltb work work_room w, find_models, l, n)

        module _ (r : canonical b ≡ true) where
          pub find_differing : same_signature (signature a) (signature b) ≡ false → find_models pairs budget room work a b ≡ refused SignaturesDiffer
          unfolding find_models
          find_differing n = rw (le-ltb room (size a) h, le-ltb work work_room w, find_models, l, r, n)

          module _ (s : same_signature (signature a) (signature b) ≡ true) where
            pub find_odd : (length pairs % 2 ≡ 0 → ⊥) → find_models pairs budget room work a b ≡ refused OddPairs
            unfolding find_models
            find_odd n = rw (le-ltb room (size a) h, le-ltb work work_room w, find_models, l, r, s, ne_eqb (length pairs % 2) 0 n)

            pub find_goes_on : length pairs % 2 ≡ 0 → find_models pairs budget room work a b ≡ find_among a b pairs budget
            unfolding find_models
            find_goes_on e = rw (le-ltb room (size a) h, le-ltb work work_room w, find_models, l, r, s, eq-eqb (length pairs % 2) 0 e)

-- under a base
module _ (f g : List ℕ) (budget room work : ℕ) (o a b : Model) where
  pub under_cramped : room < size a → under_models f g budget room work o a b ≡ refused NoRoom
  unfolding under_models
  under_cramped h = rw (lt-ltb room (size a) h, under_models)

  module _ (h : size a ≤ room) where
    pub under_workless : work < work_room → under_models f g budget room work o a b ≡ refused NoRoom
    unfolding under_models
    under_workless w = rw (le-ltb room (size a) h, lt-ltb work work_room w, under_models)

    module _ (w : work_room ≤ work) where
      pub under_left : canonical a ≡ false → under_models f g budget room work o a b ≡ refused (NotCanonical 2)
      unfolding under_models
      under_left n = rw (le-ltb room (size a) h, le-ltb work work_room w, under_models, n)

      module _ (l : canonical a ≡ true) where
        pub under_right : canonical b ≡ false → under_models f g budget room work o a b ≡ refused (NotCanonical 3)
        unfolding under_models
        under_right n = rw (le-ltb room (size a) h, le-ltb work work_room w, under_models, l, n)

        module _ (r : canonical b ≡ true) where
          pub left_differing : same_signature (signature o) (signature a) ≡ false → under_models f g budget room work o a b ≡ refused SignaturesDiffer
          unfolding under_models
          left_differing n = rw (le-ltb room (size a) h, le-ltb work work_room w, under_models, l, r, n)

          module _ (s : same_signature (signature o) (signature a) ≡ true) where
            pub right_differing : same_signature (signature o) (signature b) ≡ false → under_models f g budget room work o a b ≡ refused SignaturesDiffer
            unfolding under_models
            right_differing n = rw (le-ltb room (size a) h, le-ltb work work_room w, under_models, l, r, s, n)

            module _ (t : same_signature (signature o) (signature b) ≡ true) where
              pub left_no_map : is_map o a f ≡ false → under_models f g budget room work o a b ≡ refused (NotAMap 1)
              unfolding under_models
              left_no_map n = rw (le-ltb room (size a) h, le-ltb work work_room w, under_models, l, r, s, t, n)

              module _ (m : is_map o a f ≡ true) where
                pub right_no_map : is_map o b g ≡ false → under_models f g budget room work o a b ≡ refused (NotAMap 2)
                unfolding under_models
                right_no_map n = rw (le-ltb room (size a) h, le-ltb work work_room w, under_models, l, r, s, t, m, n)

                pub under_goes_on : is_map o b g ≡ true → under_models f g budget room work o a b ≡ find_among a b (pairs_under f g (reps o)) budget
                unfolding under_models
                under_goes_on n = rw (le-ltb room (size a) h, le-ltb work work_room w, under_models, l, r, s, t, m, n)

-- whether there is room for a byte for each element, told by their number
pub too_small : {n room many : ℕ} → n ≡ many → room < n → room < many
too_small e h = omega arith

pub large_enough : {n room many : ℕ} → n ≡ many → n ≤ room → many ≤ room
large_enough e h = omega arith
