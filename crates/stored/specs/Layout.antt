-- Where things stand in the file of a model: each field follows the one before it, each has three bytes before its value.
use Rattle.std.specs.Prelude.{ℕ, ◌+◌, ◌*◌, List, [], ◌∷◌, map, length, replicate, set}
use Rattle.lists.specs.Part.{over}
use Rattle.stored.specs.declared.layout.Layout.{Layout}
use Rattle.stored.specs.Model.{Rel, Model, size}

abbrev pub arity : Rel → ℕ
arity r = length r.columns

abbrev pub count : Rel → ℕ
count r = length r.rows

-- a table of sixteen numbers, 0 where there is nothing to say
unfoldable pub table : List ℕ → List ℕ
table xs = over xs (replicate 16 0)

-- the first element of each type, type by type, where the first of all is x
unfoldable pub firsts_from : ℕ → List ℕ → List ℕ
firsts_from x [] = []
firsts_from x (n ∷ sizes) = x ∷ firsts_from (x + n) sizes

-- where the rows of each relation start, the first relation's field at an offset
unfoldable pub rows_from : ℕ → List Rel → List ℕ
rows_from at [] = []
rows_from at (r ∷ rs) = (at + 6 + arity r) ∷ rows_from (at + 6 + arity r + count r * arity r) rs

-- where the value of Roots starts, and where the first relation's field stands
abbrev pub roots_start : Model → ℕ
roots_start m = 6 + length m.sizes

abbrev pub roots_end : Model → ℕ
roots_end m = 6 + length m.sizes + size m

unfoldable pub layout_of : Model → Layout
layout_of m = record {
  types = length m.sizes;
  first = table (firsts_from 0 m.sizes);
  size = size m;
  roots = roots_start m;
  relations = length m.relations;
  arity = table (map arity m.relations);
  count = table (map count m.relations);
  rows = table (rows_from (roots_end m) m.relations);
}

-- nothing is anywhere
unfoldable pub no_layout : Layout
no_layout = record { types = 0; first = table []; size = 0; roots = 0; relations = 0; arity = table []; count = table []; rows = table [] }

-- a layout with one relation more
unfoldable pub with_relation : Layout → ℕ → ℕ → ℕ → Layout
with_relation l a c start = record {
  types = l.types;
  first = l.first;
  size = l.size;
  roots = l.roots;
  relations = l.relations + 1;
  arity = set l.arity l.relations a;
  count = set l.count l.relations c;
  rows = set l.rows l.relations start;
}
