use Prim.Native.Nat.{◌+◌, ◌-◌}
use mathlib.Core.Path.{◌≡◌, refl, sym, ap, ◌∙◌}
use native.Mathlib.Omega.{arith}
use Rattle.std.proofs.Common.{Ok}
use Rattle.std.proofs.lemmas.Result.{err_from_is_err_and}
use Rattle.stored.proofs.Laws.Parse.{item_found}
use Rattle.stored.proofs.Laws.WellFormed.{found_measured}
use Rattle.stored.proofs.read.relations.Invariants.{start, reading_end, reading_fault, reading_last, room_for_one, more}
use Rattle.stored.proofs.read.relations.Goals as goal

pub loop-k-init : goal.loop-k-init
loop-k-init c = start _ _ _ _ _ _ refl c.requires.0 c.requires.1

pub returns-in-End : goal.returns-in-End
returns-in-End c = reading_end _ _ _ _ _ _ _ _ c.loop-k.invariant (sym c.in_ok-next_item.ensures ∙ ap Ok c.in-End.is)

pub overflow_add-start : goal.overflow_add-start
overflow_add-start c = omega (arith, found_measured _ _ _ _ _ _ _ _ _ (item_found _ _ _ _ _ _ _ _ _ (sym c.in_ok-next_item.ensures ∙ ap Ok c.in-Relation.is)))

pub overflow_add-start-in-Relation : goal.overflow_add-start-in-Relation
overflow_add-start-in-Relation c = omega (arith, found_measured _ _ _ _ _ _ _ _ _ (item_found _ _ _ _ _ _ _ _ _ (sym c.in_ok-next_item.ensures ∙ ap Ok c.in-Relation.is)))

pub with_relation-l-requires : goal.with_relation-l-requires
with_relation-l-requires c = room_for_one _ _ _ _ _ _ _ _ c.loop-k.invariant (omega arith)

pub overflow_mul-room : goal.overflow_mul-room
overflow_mul-room c = omega (arith, found_measured _ _ _ _ _ _ _ _ _ (item_found _ _ _ _ _ _ _ _ _ (sym c.in_ok-next_item.ensures ∙ ap Ok c.in-Relation.is)))

pub overflow_sub-room : goal.overflow_sub-room
overflow_sub-room c = omega (arith, found_measured _ _ _ _ _ _ _ _ _ (item_found _ _ _ _ _ _ _ _ _ (sym c.in_ok-next_item.ensures ∙ ap Ok c.in-Relation.is)))

pub loop-k-preserved : goal.loop-k-preserved
loop-k-preserved c = let e : 16 - c.loop-k._k - 1 ≡ 16 - (c.loop-k._k + 1) = omega arith in rw (← e) (more _ _ _ _ _ _ _ _ c.loop-k.invariant (omega arith) _ _ _ _ _ (sym c.in_ok-next_item.ensures ∙ ap Ok c.in-Relation.is) _ c.with_relation-l.ensures)

pub returns-in_err-next_item : goal.returns-in_err-next_item
returns-in_err-next_item c =
    let p = err_from_is_err_and c.from_residual.result c.from_residual.ensures.1 in rw (p.1, p.2) (reading_fault _ _ _ _ _ _ _ _ c.loop-k.invariant _ (sym c.in_err-next_item.ensures))

pub returns : goal.returns
returns c = c.last.ensures ∙ reading_last _ _ _ _ _ _ _ _ c.loop-k.invariant (omega arith)
