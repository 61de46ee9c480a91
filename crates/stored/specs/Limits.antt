-- "At most 16 types, 64 elements, 16 relations, arity 8, and 2,048 cells (row count times arity, summed). Zero of any of these is allowed.
-- At the limit is accepted, one more is malformed."
use Rattle.std.specs.Prelude.{ℕ}

abbrev pub max_types : ℕ
max_types = 16

abbrev pub max_elements : ℕ
max_elements = 64

abbrev pub max_relations : ℕ
max_relations = 16

abbrev pub max_arity : ℕ
max_arity = 8

abbrev pub max_cells : ℕ
max_cells = 2048
