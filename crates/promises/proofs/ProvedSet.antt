-- Promise 9, The proved set: the numbered examples of the document, 1 to 13, each a call with its answer, under one theorem that computes them all by the definitions on bytes. Assumes
-- nothing.
use Prim.Native.Nat.{ℕ, ◌+◌, ◌-◌, ◌*◌}
use mathlib.Core.Path.{◌≡◌, refl}
use mathlib.Core.List.{List, [], ◌∷◌, ◌++◌, map}
use lib.ListN.{length}
use Rattle.lists.specs.Every.{all, any, keep, how_many, pairwise}
use Rattle.lists.specs.First.{lowest, first_at, firsts}
use Rattle.lists.specs.Numbers.{sum, up_from}
use Rattle.lists.specs.Order.{same_row, row_before, ascending_from, ascending}
use Rattle.lists.specs.Part.{rows_of, over}
use Rattle.stored.specs.Field.{field_at}
use Rattle.stored.specs.Types.{types_from, type_in, types_hold}
use Rattle.stored.specs.Roots.{root_holds, roots_hold}
use Rattle.stored.specs.Relation.{column_holds, entry_typed, row_typed, shape_holds, rows_hold, relation_holds, head_if, head_of}
use Rattle.stored.specs.Model.{is_rep_in}
use Rattle.stored.specs.Parse.{Parsed, model, fault, end_at, item_at, before, rest_at, model_with, parse_roots, parse}
use Rattle.stored.specs.Signature.{signature, same_signature}
use Rattle.rows.specs.Rows.{through, has_row, normal_rows, normal_count, images_of, rows_kept, kept_by, first_unkept_by}
use Rattle.rows.specs.Maps.{entry_in, is_map, identity_entry, identity_of, alone, one_to_one, reached, onto, same_count, same_counts, invertible, inverse_entry, inverse_of}
use Rattle.rows.specs.Pairs.{pair_in, conflicts, give_from}
use Rattle.rows.specs.Answer.{Outcome, answer_of, written, numbers, applied_numbers}
use Rattle.rows.specs.Files.{with_model}
use Rattle.rows.specs.Check.{is_missing, first_missing, judged, judged_if, blank, check_models, check_files}
use Rattle.rows.specs.Identity.{identity_model, identity_file}
use Rattle.rows.specs.Apply.{apply_models, apply_files}
use Rattle.rows.specs.Inverse.{inverse_models, inverse_files}
use Rattle.stored.specs.Canonical.{relation_canonical, canonical}
use Rattle.rounds.specs.Colours.{paired, left_colour, left_colours, right_colour, right_colours}
use Rattle.rounds.specs.Keys.{places_in_row, places_in_rows, places_from, key_of, same_bag, same_key}
use Rattle.rounds.specs.Round.{reps, palette, new_colour, recoloured, round, colours_of, colour_count, equal_counts, outcome, round_outcome}
use Rattle.rounds.specs.Classes.{smaller, smallest_from, smallest_open, lowest_of}
use Rattle.search.specs.Partners.{pairs_from, partners_from, partners_of}
use Rattle.search.specs.Machine.{image_of, map_of, closes_at, closes, choice_at, after_stable, after_round, after_closing, gone_on, tried, try_candidate, next_choice, step, run}
use Rattle.search.specs.Answer as search
use Rattle.search.specs.Answer.{answer_of as foundOf, written as foundWritten}
use Rattle.promises.specs.Bound.{N, bound}
use Rattle.search.specs.Find.{same_row_count, alike, start_from, searched, find_paired, find_among, find_models, find_files, pairs_under, under_models, under_files}

-- a file of one type with so many elements, each its own representative, and no relation
pub elements : ℕ → List ℕ
elements n = 1 ∷ 0 ∷ 1 ∷ n ∷ 2 ∷ 0 ∷ n ∷ (up_from 0 n ++ (0 ∷ 0 ∷ 0 ∷ []))

-- V2 with a relation E of two columns: without rows, and with the one row given
pub no_link : List ℕ
no_link = 1 ∷ 0 ∷ 1 ∷ 2 ∷ 2 ∷ 0 ∷ 2 ∷ 0 ∷ 1 ∷ 3 ∷ 0 ∷ 5 ∷ 2 ∷ 0 ∷ 0 ∷ 0 ∷ 0 ∷ 0 ∷ 0 ∷ 0 ∷ []

pub link : ℕ → ℕ → List ℕ
link x y = 1 ∷ 0 ∷ 1 ∷ 2 ∷ 2 ∷ 0 ∷ 2 ∷ 0 ∷ 1 ∷ 3 ∷ 0 ∷ 7 ∷ 2 ∷ 0 ∷ 0 ∷ 0 ∷ 1 ∷ x ∷ y ∷ 0 ∷ 0 ∷ 0 ∷ []

-- no types, no relations
pub empty : List ℕ
empty = 1 ∷ 0 ∷ 0 ∷ 2 ∷ 0 ∷ 0 ∷ 0 ∷ 0 ∷ 0 ∷ []

-- no elements and a nullary relation with so many rows
pub nullary : ℕ → List ℕ
nullary c = 1 ∷ 0 ∷ 0 ∷ 2 ∷ 0 ∷ 0 ∷ 3 ∷ 0 ∷ 3 ∷ 0 ∷ 0 ∷ c ∷ 0 ∷ 0 ∷ 0 ∷ []

-- n elements and a relation of two columns with so many rows, given one after the other
pub graph : ℕ → ℕ → List ℕ → List ℕ
graph n c rows = 1 ∷ 0 ∷ 1 ∷ n ∷ 2 ∷ 0 ∷ n ∷ (up_from 0 n ++ (3 ∷ 0 ∷ (5 + 2 * c) ∷ 2 ∷ 0 ∷ 0 ∷ 0 ∷ c ∷ (rows ++ (0 ∷ 0 ∷ 0 ∷ []))))

-- two elements of one class
pub merged : List ℕ
merged = 1 ∷ 0 ∷ 1 ∷ 2 ∷ 2 ∷ 0 ∷ 2 ∷ 0 ∷ 0 ∷ 0 ∷ 0 ∷ 0 ∷ []

-- one element, of the first of two types or of the second
pub one_of : ℕ → ℕ → List ℕ
one_of x y = 1 ∷ 0 ∷ 2 ∷ x ∷ y ∷ 2 ∷ 0 ∷ 1 ∷ 0 ∷ 0 ∷ 0 ∷ 0 ∷ []

-- the calls of the examples; a call that writes has its output buffer last
pub data Call : Type 0 where
  reading : List ℕ → Call
  checking : List ℕ → List ℕ → List ℕ → List ℕ → Call
  identity : List ℕ → List ℕ → Call
  applying : List ℕ → List ℕ → List ℕ → ℕ → Call
  inverse : List ℕ → List ℕ → List ℕ → List ℕ → Call
  finding : List ℕ → List ℕ → List ℕ → ℕ → List ℕ → Call
  finding_under : List ℕ → List ℕ → List ℕ → List ℕ → List ℕ → ℕ → List ℕ → Call

-- what a call says: the number with the values it carries, and the output after it
pub record Said : Type 0 where
  pub numbers : List ℕ
  pub output : List ℕ

pub of_parsed : Parsed → Said
of_parsed (model m) = record { numbers = 0 ∷ []; output = [] }
of_parsed (fault f) = record { numbers = 10 ∷ 1 ∷ f.offset ∷ []; output = [] }

pub of_outcome : Outcome → List ℕ → Said
of_outcome o out = record { numbers = numbers (answer_of o); output = written o out }

pub of_search : search.Outcome → List ℕ → Said
of_search o out = record { numbers = search.numbers (foundOf o); output = foundWritten o out }

pub said : Call → Said
said (reading s) = of_parsed (parse s)
said (checking s t pairs out) = of_outcome (check_files s t pairs (length out)) out
said (identity s out) = of_outcome (identity_file s (length out)) out
said (applying s t f x) = record { numbers = applied_numbers (apply_files s t f x); output = [] }
said (inverse s t f out) = of_outcome (inverse_files s t f (length out)) out
said (finding s t pairs budget out) = of_search (find_files s t pairs budget (length out) 32768) out
said (finding_under r s t f g budget out) = of_search (under_files r s t f g budget (length out) 32768) out

pub record Example : Type 0 where
  pub call : Call
  pub answer : Said

pub says : Call → List ℕ → List ℕ → Example
says c n o = record { call = c; answer = record { numbers = n; output = o } }

pub proved : List Example
proved =
    -- 1. No types, no relations: 0, 2 units, empty map. Budget 1: answer 2, 1 unit
    says (finding empty empty [] 1000 (7 ∷ [])) (0 ∷ 2 ∷ []) (7 ∷ [])
    ∷ says (finding empty empty [] 1 (7 ∷ [])) (2 ∷ 1 ∷ []) (7 ∷ [])
    -- 2. V2 without relations: 0, 4 units, map 0 1
    ∷ says (finding (elements 2) (elements 2) [] 1000 (7 ∷ 7 ∷ 7 ∷ [])) (0 ∷ 4 ∷ []) (0 ∷ 1 ∷ 7 ∷ [])
    -- 3. V2, E(0,1) against E(1,0): 0, 3 units, map 1 0
    ∷ says (finding (link 0 1) (link 1 0) [] 1000 (7 ∷ 7 ∷ [])) (0 ∷ 3 ∷ []) (1 ∷ 0 ∷ [])
    -- 4. As 3 with pair (0,0): 1, 1 unit
    ∷ says (finding (link 0 1) (link 1 0) (0 ∷ 0 ∷ []) 1000 (7 ∷ 7 ∷ [])) (1 ∷ 1 ∷ []) (7 ∷ 7 ∷ [])
    -- 5. E(0,1) against E(0,0): 1, 1 unit
    ∷ says (finding (link 0 1) (link 0 0) [] 1000 (7 ∷ 7 ∷ [])) (1 ∷ 1 ∷ []) (7 ∷ 7 ∷ [])
    -- 6. As 2 with pairs (0,0),(0,1), or (0,0),(1,0): 1, 0 units
    ∷ says (finding (elements 2) (elements 2) (0 ∷ 0 ∷ 0 ∷ 1 ∷ []) 1000 (7 ∷ 7 ∷ [])) (1 ∷ 0 ∷ []) (7 ∷ 7 ∷ [])
    ∷ says (finding (elements 2) (elements 2) (0 ∷ 0 ∷ 1 ∷ 0 ∷ []) 1000 (7 ∷ 7 ∷ [])) (1 ∷ 0 ∷ []) (7 ∷ 7 ∷ [])
    -- 7. No elements, a nullary relation holding on both sides: 0, 2 units. On one side only: 1, 0 units
    ∷ says (finding (nullary 1) (nullary 1) [] 1000 []) (0 ∷ 2 ∷ []) []
    ∷ says (finding (nullary 1) (nullary 0) [] 1000 []) (1 ∷ 0 ∷ []) []
    -- 8. Directed ring 0→1→2→0 against 0→2→1→0: 0, 5 units, map 0 2 1
    ∷ says (finding (graph 3 3 (0 ∷ 1 ∷ 1 ∷ 2 ∷ 2 ∷ 0 ∷ [])) (graph 3 3 (0 ∷ 2 ∷ 1 ∷ 0 ∷ 2 ∷ 1 ∷ [])) [] 1000 (7 ∷ 7 ∷ 7 ∷ [])) (0 ∷ 5 ∷ []) (0 ∷ 2 ∷ 1 ∷ [])
    -- 9. Directed ring of six against two rings of three: 1, 19 units; budget 18: answer 2, 18 units
    ∷ says (finding (graph 6 6 (0 ∷ 1 ∷ 1 ∷ 2 ∷ 2 ∷ 3 ∷ 3 ∷ 4 ∷ 4 ∷ 5 ∷ 5 ∷ 0 ∷ [])) (graph 6 6 (0 ∷ 1 ∷ 1 ∷ 2 ∷ 2 ∷ 0 ∷ 3 ∷ 4 ∷ 4 ∷ 5 ∷ 5 ∷ 3 ∷ [])) [] 1000 (7 ∷ 7 ∷ 7 ∷ 7 ∷ 7 ∷ 7 ∷ [])) (1 ∷ 19 ∷ []) (7 ∷ 7 ∷ 7 ∷ 7 ∷ 7 ∷ 7 ∷ [])
    ∷ says (finding (graph 6 6 (0 ∷ 1 ∷ 1 ∷ 2 ∷ 2 ∷ 3 ∷ 3 ∷ 4 ∷ 4 ∷ 5 ∷ 5 ∷ 0 ∷ [])) (graph 6 6 (0 ∷ 1 ∷ 1 ∷ 2 ∷ 2 ∷ 0 ∷ 3 ∷ 4 ∷ 4 ∷ 5 ∷ 5 ∷ 3 ∷ [])) [] 18 (7 ∷ 7 ∷ 7 ∷ 7 ∷ 7 ∷ 7 ∷ [])) (2 ∷ 18 ∷ []) (7 ∷ 7 ∷ 7 ∷ 7 ∷ 7 ∷ 7 ∷ [])
    -- 10. V2 without rows to V2 with E(0,1): pairs (0,0),(1,1) accepted, inverse 1
    ∷ says (checking no_link (link 0 1) (0 ∷ 0 ∷ 1 ∷ 1 ∷ []) (7 ∷ 7 ∷ 7 ∷ [])) (0 ∷ []) (0 ∷ 1 ∷ 7 ∷ [])
    ∷ says (inverse no_link (link 0 1) (0 ∷ 1 ∷ []) (7 ∷ 7 ∷ 7 ∷ [])) (1 ∷ []) (7 ∷ 7 ∷ 7 ∷ [])
    -- 11. Base V2; left two elements with roots 0 0; right one element; both maps 0 0; with the map 0 255, apply to 1 gives 0
    ∷ says (applying (elements 2) merged (0 ∷ 0 ∷ []) 1) (0 ∷ 0 ∷ []) []
    ∷ says (applying (elements 2) (elements 1) (0 ∷ 0 ∷ []) 1) (0 ∷ 0 ∷ []) []
    ∷ says (applying merged (elements 1) (0 ∷ 255 ∷ []) 1) (0 ∷ 0 ∷ []) []
    ∷ says (finding_under (elements 2) merged (elements 1) (0 ∷ 0 ∷ []) (0 ∷ 0 ∷ []) 1000 (7 ∷ 7 ∷ 7 ∷ [])) (0 ∷ 2 ∷ []) (0 ∷ 255 ∷ 7 ∷ [])
    -- 12. 64 elements accepted; 65: malformed at offset 0
    ∷ says (reading (elements 64)) (0 ∷ []) []
    ∷ says (identity (elements 64) (up_from 100 65)) (0 ∷ []) (up_from 0 64 ++ (164 ∷ []))
    ∷ says (identity (elements 65) (7 ∷ [])) (10 ∷ 1 ∷ 0 ∷ []) (7 ∷ [])
    -- 13. Empty file: 10, model 1, offset 0
    ∷ says (reading []) (10 ∷ 1 ∷ 0 ∷ []) []
    ∷ says (checking [] [] [] []) (10 ∷ 1 ∷ 0 ∷ []) []
    -- not numbered in the document: the bound at r = 1, one element: 0, 2 units, map 0; with r·N(r) - 1 units the answer is 2
    ∷ says (finding (elements 1) (elements 1) [] (bound 1) (7 ∷ [])) (0 ∷ 2 ∷ []) (0 ∷ [])
    ∷ says (finding (elements 1) (elements 1) [] (1 * N 1 - 1) (7 ∷ [])) (2 ∷ 0 ∷ []) (7 ∷ [])
    -- and types: one element of the first type against one of the second: 1, 1 unit
    ∷ says (finding (one_of 1 0) (one_of 0 1) [] 1000 (7 ∷ [])) (1 ∷ 1 ∷ []) (7 ∷ [])
    ∷ []

pub proved_set : map (λ (e : Example). said e.call) proved ≡ map (λ (e : Example). e.answer) proved
unfolding proved says said of_parsed of_outcome elements no_link link merged parse parse_roots model_with rest_at before item_at end_at field_at types_hold type_in types_from root_holds roots_hold head_if head_of relation_holds shape_holds rows_hold row_typed entry_typed column_holds is_rep_in signature same_signature all any keep pairwise sum up_from lowest first_at firsts same_row ascending ascending_from row_before rows_of over through has_row normal_rows normal_count images_of rows_kept kept_by first_unkept_by entry_in is_map identity_entry identity_of alone one_to_one reached onto same_count same_counts invertible inverse_entry inverse_of pair_in conflicts give_from answer_of written with_model is_missing first_missing judged judged_if blank check_models check_files identity_model identity_file apply_models apply_files inverse_models inverse_files relation_canonical canonical how_many paired left_colour left_colours right_colour right_colours places_in_row places_in_rows places_from key_of same_bag same_key reps palette new_colour recoloured round colours_of colour_count equal_counts outcome round_outcome smaller smallest_from smallest_open lowest_of pairs_from partners_from partners_of image_of map_of closes_at closes choice_at after_stable after_round after_closing gone_on tried try_candidate next_choice step run same_row_count alike start_from searched find_paired find_among find_models find_files pairs_under under_models under_files foundOf foundWritten of_search empty nullary graph one_of N bound
proved_set = refl
