use Prim.Native.Nat.{◌*◌}
use mathlib.Core.Path.{◌∙◌, sym}
use Rattle.lists.proofs.Laws.Part.{part_ends, get_d_rows_of}
use Rattle.stored.proofs.rows.Rows.row.Goals as goal

pub returns : goal.returns
returns c = part_ends c.args.self.now.cells.now (c.args.i * c.args.self.now.arity) c.args.self.now.arity ∙ sym (get_d_rows_of _ _ _ _ _ c.requires)
