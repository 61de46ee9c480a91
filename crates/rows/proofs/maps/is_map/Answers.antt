-- `rows::maps::is_map` meets its contract: each `return` is one of the rules for a map. Assumes nothing.
use Prim.Native.Nat.{ℕ}
use mathlib.Core.Path.{◌≡◌, sym, ap, ap₂, ◌∙◌}
use mathlib.Core.Bool.{Bool}
use mathlib.Core.List.{List}
use native.Mathlib.Omega.{arith}
use borrow.Author.Tests.{not-true, not-false}
use lib.Dec.{eqb}
use lib.ListN.{length}
use Rattle.lists.specs.Every.{all}
use Rattle.lists.specs.Numbers.{up_from}
use Rattle.stored.specs.Model.{Model}
use Rattle.stored.specs.File.{held}
use Rattle.stored.proofs.Laws.Reading.{reads_formed}
use Rattle.rows.specs.Maps.{entry_in, entry_holds}
use Rattle.rows.proofs.Laws.Maps.{map_miscounted, map_bad_entry, map_entries}
use Rattle.rows.proofs.maps.is_map.Goals as goal

-- whether the entries hold, by the parts of two models as they are handed on
entries : (a b : Model) (f types roots types' roots' : List ℕ) → types ≡ a.sizes → roots ≡ a.roots → types' ≡ b.sizes → roots' ≡ b.roots → (r : Bool) → r ≡ all (entry_in types roots types' roots' f) (up_from 0 (length f)) → all (entry_holds a b f) (up_from 0 (length f)) ≡ r
entries a b f types roots types' roots' p q p' q' r e = sym (rw (p, q, p', q') at e)

pub returns-then-map-size : goal.returns-then-map-size
returns-then-map-size c = sym (map_miscounted _ _ _ (λ e. c.if-map-size.true (e ∙ sym c.size.ensures)))

pub entries_hold-requires : goal.entries_hold-requires
entries_hold-requires c =
    let source = reads_formed _ _ c.args.source.now.reads in
    let target = reads_formed _ _ c.args.target.now.reads in
    (omega (arith, ap length c.types.ensures, source.few_types), omega (arith, ap length c.types-2.ensures, target.few_types), omega (arith, c.size.ensures, c.if-map-size.false, source.few_elements))

pub returns-then-not-entries_hold : goal.returns-then-not-entries_hold
returns-then-not-entries_hold c =
    let held_entries = entries (held c.args.source.now) (held c.args.target.now) _ _ _ _ _ c.types.ensures c.roots.ensures c.types-2.ensures c.roots-2.ensures _ c.entries_hold.ensures in
    sym (map_bad_entry _ _ _ (c.if-map-size.false ∙ c.size.ensures) (held_entries ∙ not-true _ c.if-not-entries_hold.true-raw))

pub returns : goal.returns
returns c =
    let held_entries = entries (held c.args.source.now) (held c.args.target.now) _ _ _ _ _ c.types.ensures c.roots.ensures c.types-2.ensures c.roots-2.ensures _ c.entries_hold.ensures in
    ap₂ eqb c.unkept-relation.ensures c.relations.ensures ∙ sym (map_entries _ _ _ (c.if-map-size.false ∙ c.size.ensures) (held_entries ∙ not-false _ c.if-not-entries_hold.false-raw))
