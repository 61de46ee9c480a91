-- `rounds::numbers::number_cells` meets its contract. The invariant: the cells of the first k relations are numbered, and those of the others are still to be numbered (`Numbering`).
-- Assumes nothing.
use Prim.Native.Nat.{ℕ, ◌+◌, ◌-◌, ◌*◌, ◌<◌, ◌≤◌}
use mathlib.Core.Path.{◌≡◌, sym, ◌∙◌, ap₂, subst}
use mathlib.Core.Logic.{by_cases}
use mathlib.Core.List.{List, ◌∷◌}
use native.Mathlib.Omega.{arith}
use native.Mathlib.Nat.{le-mul_of_pos_right}
use native.Mathlib.Decide.{dec_le}
use lib.ListN.{length, get_or}
use Rattle.lists.proofs.Laws.Every.{get_d_mem}
use Rattle.stored.specs.declared.layout.Layout.{Layout}
use Rattle.stored.specs.Limits.{max_relations}
use Rattle.stored.specs.Model.{Rel, no_relation, relation_at}
use Rattle.stored.specs.Reading.{Reads, model_of}
use Rattle.stored.proofs.Laws.Reading.{reads_formed, relations_is, few_relations, relation_there}
use Rattle.rows.proofs.Laws.Rows.{Alike, as_many_relations, same_arity}
use Rattle.rounds.specs.Board.{count_start, joined_at, joined_from, joined, cells_of, cells_on, colours_on, numbers_from, row_numbers_at, Listed, NumbersAt, Renumbered, Empty}
use Rattle.rounds.proofs.Laws.Joined.{joined_even}
use Rattle.rounds.proofs.Laws.Numbering.{joined_next, joined_end, joined_columns, joined_count, Numbering, numbering_none, numbering_all, relation_fits, numbering_more}
use Rattle.rounds.proofs.numbers.number_cells.Given as goal

-- the relations of both files from k on, the numbers of all cells, and how many cells there are
abbrev pub relations_from : List ℕ → List ℕ → ℕ → List Rel
relations_from s t k = joined_from (length (model_of s).relations - k) (model_of s) (model_of t) k

abbrev pub relations_of : List ℕ → List ℕ → List Rel
relations_of s t = joined (model_of s) (model_of t)

abbrev pub all_numbers : List ℕ → List ℕ → List ℕ → List ℕ
all_numbers s t old = numbers_from 0 (colours_on old) (relations_of s t)

pub record NumberedFrom (cells : ℕ) (s t old w : List ℕ) (l m : Layout) (at k : ℕ) : Type 0 where
  pub alike : Alike s t l m
  pub few : l.relations ≤ max_relations
  pub numbering : Numbering (all_numbers s t old) cells (relations_from s t k) old w at

pub start :
    (cells : ℕ) (s t old : List ℕ) (l m : Layout) → Alike s t l m → Listed cells old → Empty count_start old → cells ≡ length (cells_of (relations_of s t)) → cells_on cells old ≡ cells_of (relations_of s t)
    → NumberedFrom cells s t old old l m 0 0
start cells s t old l m h listed empty many laid =
    let v = reads_formed s l h.0 in
    let w = reads_formed t m h.1 in
    let e : length (model_of s).relations - 0 ≡ length (model_of s).relations = omega arith in
    record {
      alike = h;
      few = few_relations s l h.0;
      numbering =
          subst
          (λ (n : ℕ). Numbering (all_numbers s t old) cells (joined_from n (model_of s) (model_of t) 0) old old 0)
          (sym e)
          (numbering_none cells (relations_of s t) old listed empty (joined_even (model_of s) (model_of t) v w h.2) many laid);
    }

-- a relation with no columns has one row at most
pub nullary : (s : List ℕ) (l : Layout) → Reads s l → (k : ℕ) → k < l.relations → get_or l.arity k 0 ≡ 0 → get_or l.count k 0 ≤ 1
nullary s l reads k h e =
    let r = relation_there s l reads k h in
    let f = (reads_formed s l reads).each_formed (relation_at (model_of s) k) (get_d_mem (model_of s).relations k no_relation (omega (arith, relations_is s l reads))) in
    omega (arith, r.is_count, f.one_empty_row (sym r.is_arity ∙ e))

module _ (cells : ℕ) (s t old w : List ℕ) (l m : Layout) (at k : ℕ) (i : NumberedFrom cells s t old w l m at k) where
  -- no relation is left
  pub done : l.relations ≤ k → NumbersAt cells 0 (all_numbers s t old) w
  done h =
      numbering_all _ _ _ _ _ _ i.numbering
      (joined_end (model_of s) (model_of t) (length (model_of s).relations) k (omega (arith, relations_is s l i.alike.0)))

  -- relation k
  module _ (h : k < l.relations) where
    abbrev pub width : ℕ
    width = get_or l.arity k 0

    abbrev pub many : ℕ
    many = get_or l.count k 0 + get_or m.count k 0

    abbrev pub here : Rel
    here = joined_at (model_of s) (model_of t) k

    pub in_other : k < m.relations
    in_other = omega (arith, as_many_relations s t l m i.alike)

    pub is_width : length here.columns ≡ width
    is_width = joined_columns (model_of s) (model_of t) k ∙ sym (relation_there s l i.alike.0 k h).is_arity

    pub is_many : length here.rows ≡ many
    is_many =
        joined_count (model_of s) (model_of t) k
        ∙ ap₂ (λ (p q : ℕ). p + q) (sym (relation_there s l i.alike.0 k h).is_count) (sym (relation_there t m i.alike.1 k in_other).is_count)

    pub opened : Numbering (all_numbers s t old) cells (here ∷ relations_from s t (k + 1)) old w at
    opened =
        subst
        (λ (rs : List Rel). Numbering (all_numbers s t old) cells rs old w at)
        (joined_next (model_of s) (model_of t) (length (model_of s).relations) k (omega (arith, relations_is s l i.alike.0)))
        i.numbering

    pub fits : at + many * width ≤ cells
    fits = rw (is_many, is_width) at (relation_fits _ _ here (relations_from s t (k + 1)) _ _ _ opened)

    pub small : at + many * width ≤ 4096
    small = omega (arith, fits, i.numbering.listed.few)

    pub few_rows : many ≤ 4096
    few_rows =
        by_cases (dec_le 1 width)
        (λ p. omega (arith, small, le-mul_of_pos_right many p))
        (λ p.
        let z : width ≡ 0 = omega (arith, p) in
        let y : get_or m.arity k 0 ≡ 0 = same_arity s t l m i.alike k h ∙ z in
        omega (arith, nullary s l i.alike.0 k h z, nullary t m i.alike.1 k in_other y))

    pub more :
        (out : List ℕ) → NumbersAt cells at (row_numbers_at at width many w) out → Renumbered cells at w out
        → NumberedFrom cells s t old out l m (at + many * width) (k + 1)
    more out there kept = record {
      alike = i.alike;
      few = i.few;
      numbering =
          rw (is_many, is_width) at
          (numbering_more _ _ here (relations_from s t (k + 1)) _ _ _ opened out (rw (is_many, is_width) there) kept);
    }

abbrev pub invariant-loop-k : goal.invariant-loop-k
invariant-loop-k l = NumberedFrom l.cells l.both.left.bytes.now l.both.right.bytes.now l.initial.board l.board l.both.left.layout l.both.right.layout l.at l.k
