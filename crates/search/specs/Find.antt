-- The calls: find, find with pairs, find under a base.
use Rattle.std.specs.Prelude.{ℕ, ◌%◌, Bool, true, false, ◌&&◌, ◌||◌, List, [], ◌∷◌, length, get_or, eqb, ltb, Result, Ok, Err}
use Rattle.lists.specs.Every.{all}
use Rattle.lists.specs.Numbers.{up_from}
use Rattle.stored.specs.declared.refusal.Refusal.TheVariants.{NoRoom, NotCanonical, SignaturesDiffer, OddPairs, NotAMap}
use Rattle.stored.specs.declared.layout.Layout.{Layout}
use Rattle.stored.specs.Model.{Model, size, relation_at}
use Rattle.stored.specs.Canonical.{canonical}
use Rattle.stored.specs.Signature.{signature, same_signature}
use Rattle.stored.specs.declared.refusal.Refusal.{Refusal}
use Rattle.rows.specs.Pairs.{pair_count}
use Rattle.rows.specs.Maps.{is_map}
use Rattle.rows.specs.Files.{with_model}
use Rattle.rounds.specs.Colours.{left_colours, right_colours}
use Rattle.rounds.specs.Round.{reps}
use Rattle.search.specs.Partners.{pairs_from, Partners, partners, clash, partners_of}
use Rattle.search.specs.Machine.{State, refine, Ended, none, run}
use Rattle.search.specs.Answer.{Outcome, ended, refused, work_room}

-- a round takes one unit
abbrev pub round_cost : ℕ
round_cost = 1

-- "If the total numbers of classes differ, or a relation's row counts, or one element is paired with two, the answer is 1 with 0 units."
unfoldable pub same_row_count : Model → Model → ℕ → Bool
same_row_count a b k = eqb (length (relation_at a k).rows) (length (relation_at b k).rows)

-- the same by the row counts of two layouts
unfoldable pub same_count_in : Layout → Layout → ℕ → Bool
same_count_in l m k = eqb (get_or l.count k 0) (get_or m.count k 0)

unfoldable pub alike : Model → Model → Bool
alike a b = eqb (length (reps a)) (length (reps b)) && all (same_row_count a b) (up_from 0 (length a.relations))

unfoldable pub start_from : Model → Model → List ℕ → List ℕ → State
start_from a b f g = refine (record { left = left_colours a f; right = right_colours b (left_colours a f) g }) []

unfoldable pub searched : Model → Model → ℕ → Partners → Ended
searched a b budget clash = none 0
searched a b budget (partners f g) = elim (alike a b) [ true ↦ run budget round_cost a b budget 0 (start_from a b f g) | false ↦ none 0 ]

-- what follows the refusals that need no pair
unfoldable pub find_paired : Model → Model → List ℕ → ℕ → Result (Unit {0}) Refusal → Outcome
find_paired a b pairs budget (Err r) = refused r
find_paired a b pairs budget (Ok u) = ended (searched a b budget (partners_of a b pairs))

unfoldable pub find_among : Model → Model → List ℕ → ℕ → Outcome
find_among a b pairs budget = find_paired a b pairs budget (pairs_from (pair_count pairs) a b pairs 0)

-- Order: 10, 11, 12, 13, 20; then the pairs
unfoldable pub find_models : List ℕ → ℕ → ℕ → ℕ → Model → Model → Outcome
find_models pairs budget room work a b = elim (ltb room (size a) || ltb work work_room) [
  | true ↦ refused NoRoom
  | false ↦ elim (canonical a) [
    | false ↦ refused (NotCanonical 1)
    | true ↦ elim (canonical b) [
      | false ↦ refused (NotCanonical 2)
      | true ↦ elim (same_signature (signature a) (signature b)) [
        | false ↦ refused SignaturesDiffer
        | true ↦ elim (eqb (length pairs % 2) 0) [ false ↦ refused OddPairs | true ↦ find_among a b pairs budget ]
      ]
    ]
  ]
]

unfoldable pub find_files : List ℕ → List ℕ → List ℕ → ℕ → ℕ → ℕ → Outcome
find_files s t pairs budget room work = with_model 1 refused (λ (a : Model). with_model 2 refused (λ (b : Model). find_models pairs budget room work a b) t) s

-- under a base the pairs are the images of the base's representatives under both maps
unfoldable pub pairs_under : List ℕ → List ℕ → List ℕ → List ℕ
pairs_under f g [] = []
pairs_under f g (x ∷ xs) = get_or f x 255 ∷ get_or g x 255 ∷ pairs_under f g xs

-- Order: 10, 11, 12, 13, 19; models numbered base 1, left 2, right 3
unfoldable pub under_models : List ℕ → List ℕ → ℕ → ℕ → ℕ → Model → Model → Model → Outcome
under_models f g budget room work o a b = elim (ltb room (size a) || ltb work work_room) [
  | true ↦ refused NoRoom
  | false ↦ elim (canonical a) [
    | false ↦ refused (NotCanonical 2)
    | true ↦ elim (canonical b) [
      | false ↦ refused (NotCanonical 3)
      | true ↦ elim (same_signature (signature o) (signature a) && same_signature (signature o) (signature b)) [
        | false ↦ refused SignaturesDiffer
        | true ↦ elim (is_map o a f) [
          | false ↦ refused (NotAMap 1)
          | true ↦ elim (is_map o b g) [ false ↦ refused (NotAMap 2) | true ↦ find_among a b (pairs_under f g (reps o)) budget ]
        ]
      ]
    ]
  ]
]

unfoldable pub under_files : List ℕ → List ℕ → List ℕ → List ℕ → List ℕ → ℕ → ℕ → ℕ → Outcome
under_files r s t f g budget room work =
    with_model 1 refused (λ (o : Model). with_model 2 refused (λ (a : Model). with_model 3 refused (λ (b : Model). under_models f g budget room work o a b) t) s) r
