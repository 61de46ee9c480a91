-- Parts of a list.
use Rattle.std.specs.Prelude.{ℕ, zero, suc, List, [], ◌∷◌, ◌++◌, length, take, drop}

module _ {A : Type 0} where
  -- the part that starts at a place and has a length
  abbrev pub part : List A → ℕ → ℕ → List A
  part s start len = take len (drop start s)

  -- the first `count` rows of `arity` members each, one after the other
  unfoldable pub rows_of : ℕ → ℕ → List A → List (List A)
  rows_of arity zero s = []
  rows_of arity (suc count) s = take arity s ∷ rows_of arity count (drop arity s)

  -- a list written over the front of another: the rest of the other is unchanged
  unfoldable pub over : List A → List A → List A
  over new old = new ++ drop (length new) old
