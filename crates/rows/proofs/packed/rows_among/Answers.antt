-- `rows::packed::rows_among` meets its contract: rows that are their own normal form are looked up, others looked for. Assumes nothing.
use mathlib.Core.Path.{sym, ap, ◌∙◌}
use Rattle.rows.specs.Rows.{rows_kept}
use Rattle.rows.proofs.packed.rows_among.Goals as goal

pub rows_found-requires : goal.rows_found-requires
rows_found-requires c = let p = c.requires in (c.if-rows-gt0.true, p.0, p.1, p.2)

pub returns-then-rows-gt0 : goal.returns-then-rows-gt0
returns-then-rows-gt0 c = c.rows_found.ensures ∙ ap (rows_kept _ _) (sym (c.requires.3 c.if-plain.true))
