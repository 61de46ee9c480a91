-- What the closing check is handed besides two files.
use Rattle.std.specs.Prelude.{ℕ, ◌≡◌, get_or}
use mathlib.Core.List.{List, Memᴰ}
use Rattle.stored.specs.Model.{Model}
use Rattle.rounds.specs.Round.{reps}

-- a map that is one to one: no two representatives have one image
abbrev pub OneToOne : Model → List ℕ → Type 0
OneToOne a f = (x y : ℕ) → Memᴰ x (reps a) → Memᴰ y (reps a) → get_or f x 255 ≡ get_or f y 255 → x ≡ y
