-- `search::choices::try_choice` meets its contract: one store, one test, and the two rows loaded with the new colour. Assumes nothing.
use Prim.Native.Nat.{ℕ, ◌+◌, ◌-◌, ◌*◌, ◌<◌, ◌≤◌}
use mathlib.Core.Path.{◌≡◌}
use mathlib.Core.List.{List}
use native.Mathlib.Omega.{arith}
use lib.ListN.{length, get_or}
use Rattle.stored.specs.declared.file.File.{File}
use Rattle.stored.specs.Limits.{max_elements}
use Rattle.stored.specs.Model.{size}
use Rattle.stored.specs.File.{held}
use Rattle.stored.proofs.Laws.Reading.{reads_formed, size_is}
use Rattle.search.specs.Choices.{choice_length, candidate_in}
use Rattle.search.proofs.Laws.Choices.{Look, look_colour_room, look_right, looked_other, looked_same}
use Rattle.search.proofs.choices.try_choice.Goals as goal

look_of : (f : File) (w : List ℕ) (depth n y : ℕ) → (1 ≤ depth) × (depth * choice_length ≤ length w) × (candidate_in (held f) w (depth - 1) < size (held f)) × (get_or w ((depth - 1) * choice_length + 128) 0 < n) × (n ≤ max_elements)
    → y ≡ candidate_in (held f) w (depth - 1) → Look (held f) w depth n y
look_of f w depth n y p e = record { few_right = (reads_formed _ _ f.reads).few_elements; some = p.0; room = p.1; is = e; below = omega arith; known = p.3; few = p.4 }

pub overflow_add-choices : goal.overflow_add-choices
overflow_add-choices c = omega (arith, ((look_of c.args.right.now _ _ _ _ c.requires c.candidate-y.ensures)))

pub overflow_cast-choices-2 : goal.overflow_cast-choices-2
overflow_cast-choices-2 c = omega (arith, ((look_of c.args.right.now _ _ _ _ c.requires c.candidate-y.ensures)))

pub overflow_add-at-3 : goal.overflow_add-at-3
overflow_add-at-3 c = omega (arith, ((look_of c.args.right.now _ _ _ _ c.requires c.candidate-y.ensures)), look_colour_room ((look_of c.args.right.now _ _ _ _ c.requires c.candidate-y.ensures)))

pub offset_bounds-choices-at-3 : goal.offset_bounds-choices-at-3
offset_bounds-choices-at-3 c = omega (arith, ((look_of c.args.right.now _ _ _ _ c.requires c.candidate-y.ensures)), look_colour_room ((look_of c.args.right.now _ _ _ _ c.requires c.candidate-y.ensures)))

pub bounds-choices-at-3 : goal.bounds-choices-at-3
bounds-choices-at-3 c = look_colour_room ((look_of c.args.right.now _ _ _ _ c.requires c.candidate-y.ensures))

pub returns-then-choices-at : goal.returns-then-choices-at
returns-then-choices-at c = looked_other ((look_of c.args.right.now _ _ _ _ c.requires c.candidate-y.ensures)) _ c.if-choices-at.true

pub tried_row-right_row-requires : goal.tried_row-right_row-requires
tried_row-right_row-requires c = look_right ((look_of c.args.right.now _ _ _ _ c.requires c.candidate-y.ensures)) _ (size_is _ _ c.args.right.now.reads)

pub returns : goal.returns
returns c = looked_same ((look_of c.args.right.now _ _ _ _ c.requires c.candidate-y.ensures)) c.args.colours.now _ _ _ (size_is _ _ c.args.right.now.reads) c.tried_row-left_row.ensures c.tried_row-right_row.ensures c.if-choices-at.false
