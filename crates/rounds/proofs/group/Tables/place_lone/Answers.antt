-- `rounds::group::Tables::place_lone` meets its contract: the table leads to the holder of its key, or there is none. Assumes nothing.
use mathlib.Core.Path.{sym, ◌∙◌, ap₂}
use native.Mathlib.Omega.{arith}
use Rattle.rounds.specs.Board.{mark_bucket}
use Rattle.rounds.proofs.Laws.Holders.{bucket_low}
use Rattle.rounds.proofs.Laws.Lone.{placed_known, placed_new, lone_new}
use Rattle.rounds.proofs.group.Tables.place_lone.Goals as goal

pub returns-then-p-gt0 : goal.returns-then-p-gt0
returns-then-p-gt0 c = let p = c.requires in λ cells w k h m u. placed_known _ _ _ _ _ _ _ _ k _ _ m u p.1 c.if-p-gt0.true

pub hold-requires : goal.hold-requires
hold-requires c = let p = c.requires in (p.0, omega arith, bucket_low _ _ _ c.bucket_of-bucket.ensures)

pub returns : goal.returns
returns c =
    let p = c.requires in
    λ cells w k h m u.
    rw c.hold.ensures.lone
    (placed_new _ _ _ _ _ _ _ _ k _ _ m u p.1 c.if-p-gt0.false _ _ _ _
    (c.hold.ensures.chained cells w k.chained h (sym m) (c.bucket_of-bucket.ensures ∙ ap₂ mark_bucket (sym m) u) (lone_new _ _ _ _ _ _ _ _ k _ _ m u p.1 c.if-p-gt0.false)) c.hold.ensures.held)
