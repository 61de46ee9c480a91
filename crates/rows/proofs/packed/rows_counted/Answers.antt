-- `rows::packed::rows_counted` meets its contract: rows that are their own normal form are all different, others are counted. Assumes nothing.
use Prim.Native.Nat.{ℕ, ◌*◌, ◌≤◌}
use mathlib.Core.Path.{◌≡◌, sym, ap, ◌∙◌}
use mathlib.Core.Bool.{true}
use mathlib.Core.List.{List, map}
use native.Mathlib.Omega.{arith}
use lib.ListN.{length}
use Rattle.lists.specs.First.{firsts}
use Rattle.lists.specs.Order.{same_row, ascending}
use Rattle.lists.specs.Part.{rows_of}
use Rattle.lists.proofs.Laws.Part.{length-rows_of}
use Rattle.rows.specs.Rows.{through}
use Rattle.rows.proofs.Laws.Packed.{Bytes, numbers_rise, rising_firsts}
use Rattle.rows.proofs.packed.rows_counted.Goals as goal

as_many : (roots s : List ℕ) (a c : ℕ) → c * a ≤ length s → Bytes s → ascending (rows_of a c s) ≡ true → map (through roots) (rows_of a c s) ≡ rows_of a c s → c ≡ length (firsts same_row (map (through roots) (rows_of a c s)))
as_many roots s a c fits bytes h plain =
    sym (ap (λ (rows : List (List ℕ)). length (firsts same_row rows)) plain
    ∙ ap length (rising_firsts s a c (numbers_rise s a c fits bytes h) c (omega arith))
    ∙ length-rows_of a c s)

pub returns-then-plain : goal.returns-then-plain
returns-then-plain c =
    let p = c.requires in
    as_many _ _ _ _ c.args.rows.now.whole c.args.rows.now.bytes p.0 (p.1 c.if-plain.true)
