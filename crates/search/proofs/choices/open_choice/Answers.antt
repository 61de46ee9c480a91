-- `search::choices::open_choice` meets its contract: both rows are written, then four entries stored. Assumes nothing.
use mathlib.Core.Path.{refl}
use native.Mathlib.Omega.{arith}
use Rattle.std.proofs.lemmas.Slice.{put_mid-paste}
use Rattle.search.proofs.Laws.Choices.{opens}
use Rattle.search.proofs.choices.open_choice.Goals as goal

pub returns : goal.returns
returns c =
    let p = c.requires in
    opens _ _ c.args.left.now c.args.right.now p.0 p.1 p.2
    _ (put_mid-paste _ _ _ _ _ _ c.copy_from_slice.ensures.after (omega arith) refl)
    _ (put_mid-paste _ _ _ _ _ _ c.copy_from_slice-2.ensures.after (omega arith) refl)
    c.args.element c.args.old c.args.new
