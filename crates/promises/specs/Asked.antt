-- What find is asked, and what it may answer.
use Rattle.std.specs.Prelude.{ℕ, ◌%◌, ◌<◌, ◌≤◌, ◌≡◌, true, List, [], ◌∷◌, length}
use Rattle.stored.specs.Model.{Model, size, type_of}
use Rattle.stored.specs.Parse.{model, parse}
use Rattle.stored.specs.Canonical.{canonical}
use Rattle.stored.specs.Signature.{signature, same_signature}
use Rattle.rows.specs.Pairs.{pair_count, left_at, right_at}
use Rattle.search.specs.Answer.{work_room}

-- "pairs of known elements with like types"
abbrev pub KnownPairs : Model → Model → List ℕ → Type 0
KnownPairs a b pairs = (j : ℕ) → j < pair_count pairs → (left_at pairs j < size a) × (right_at pairs j < size b) × (type_of a (left_at pairs j) ≡ type_of b (right_at pairs j))

-- "bytes that parse as two canonical models of one signature", and such pairs
pub record Asked (s t pairs : List ℕ) (a b : Model) : Type 0 where
  pub left_held : parse s ≡ model a
  pub right_held : parse t ≡ model b
  pub left_canonical : canonical a ≡ true
  pub right_canonical : canonical b ≡ true
  pub one_signature : same_signature (signature a) (signature b) ≡ true
  pub known_pairs : KnownPairs a b pairs

-- the same with "enough room", in a pair list of whole pairs
pub record WellAsked (s t pairs out work : List ℕ) (a b : Model) : Type 0 where
  pub asked : Asked s t pairs a b
  pub has_room : size a ≤ length out
  pub has_work : work_room ≤ length work
  pub whole_pairs : length pairs % 2 ≡ 0

-- 0, 1 or 2, with the units used
pub data Decision (says : List ℕ) : Type 0 where
  is_found : (u : ℕ) → says ≡ 0 ∷ u ∷ [] → Decision says
  is_none : (u : ℕ) → says ≡ 1 ∷ u ∷ [] → Decision says
  is_exhausted : (u : ℕ) → says ≡ 2 ∷ u ∷ [] → Decision says
