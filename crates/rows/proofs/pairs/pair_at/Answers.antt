-- `rows::pairs::pair_at` meets its contract: each return is one case of a pair. Assumes nothing.
use Prim.Native.Nat.{ℕ, ◌<◌, ◌≤◌}
use mathlib.Core.Path.{◌≡◌, sym, ◌∙◌}
use mathlib.Core.List.{List}
use native.Mathlib.Omega.{arith}
use Rattle.std.proofs.Common.{Ok, Err}
use Rattle.lists.specs.Numbers.{sum}
use Rattle.stored.specs.Types.{type_in}
use Rattle.stored.specs.declared.refusal.Refusal.TheVariants.{UnknownElement, TypesDiffer}
use Rattle.rows.specs.Pairs.{left_at, right_at, pair_in}
use Rattle.rows.proofs.Laws.Pairs.{pair_left_unknown, pair_right_unknown, pair_types_differ, pair_good}
use Rattle.rows.proofs.pairs.pair_at.Goals as goal

-- n and n' are the numbers of elements
module _ (sizes sizes' pairs : List ℕ) (i n : ℕ) (p : n ≡ sum sizes) where
  left_unknown : n ≤ left_at pairs i → Err (UnknownElement i 1) ≡ pair_in sizes sizes' pairs i
  left_unknown h = sym (pair_left_unknown sizes sizes' pairs i (omega arith))

  module _ (h : left_at pairs i < n) (n' : ℕ) (p' : n' ≡ sum sizes') where
    right_unknown : n' ≤ right_at pairs i → Err (UnknownElement i 2) ≡ pair_in sizes sizes' pairs i
    right_unknown k = sym (pair_right_unknown sizes sizes' pairs i (omega arith) (omega arith))

    module _ (k : right_at pairs i < n') (x y : ℕ) (e : x ≡ type_in sizes (left_at pairs i)) (e' : y ≡ type_in sizes' (right_at pairs i)) where
      differ : (x ≡ y → ⊥) → Err (TypesDiffer i) ≡ pair_in sizes sizes' pairs i
      differ d = sym (pair_types_differ sizes sizes' pairs i (omega arith) (omega arith) (λ q. d (e ∙ q ∙ sym e')))

      good : x ≡ y → Ok tt ≡ pair_in sizes sizes' pairs i
      good d = sym (pair_good sizes sizes' pairs i (omega arith) (omega arith) (sym e ∙ d ∙ e'))

pub returns-then-n-left : goal.returns-then-n-left
returns-then-n-left c = left_unknown _ _ _ _ _ c.requires.2 c.if-n-left.true

pub returns-then-other_n-right : goal.returns-then-other_n-right
returns-then-other_n-right c = right_unknown _ _ _ _ _ c.requires.2 c.if-n-left.false _ c.requires.3 c.if-other_n-right.true

pub returns-then-left_type-right_type : goal.returns-then-left_type-right_type
returns-then-left_type-right_type c = differ _ _ _ _ _ c.requires.2 c.if-n-left.false _ c.requires.3 c.if-other_n-right.false _ _ c.type_in-left_type.ensures c.type_in-right_type.ensures c.if-left_type-right_type.true

pub returns : goal.returns
returns c = good _ _ _ _ _ c.requires.2 c.if-n-left.false _ c.requires.3 c.if-other_n-right.false _ _ c.type_in-left_type.ensures c.type_in-right_type.ensures c.if-left_type-right_type.false
