-- `search::find::find_from` meets its contract: the pairs that the base gives are written, then find goes on with them. Assumes nothing.
use mathlib.Core.Path.{sym, ap}
use native.Mathlib.Omega.{arith}
use lib.ListN.{length}
use Rattle.stored.proofs.Laws.Reading.{reads_formed}
use Rattle.search.proofs.Laws.Outcome.{passes_on}
use Rattle.search.proofs.Laws.Find.{among_same}
use Rattle.search.proofs.Laws.Tables.{base_room, base_long, base_pairs}
use Rattle.search.proofs.find.find_from.Goals as goal

pub write_pairs_under-n-requires : goal.write_pairs_under-n-requires
write_pairs_under-n-requires c =
    let w = reads_formed _ _ c.args.base.now.reads in
    omega (arith, ap length c.roots.ensures, w.roots_length, w.few_elements)

pub slice_bounds-pairs-end : goal.slice_bounds-pairs-end
slice_bounds-pairs-end c = base_room _ (reads_formed _ _ c.args.base.now.reads) _ c.roots.ensures _ _ _ _ _ (c.write_pairs_under-n.ensures.output, c.write_pairs_under-n.ensures.count)

pub slice_bounds-find_among-end : goal.slice_bounds-find_among-end
slice_bounds-find_among-end c = base_long _ (reads_formed _ _ c.args.base.now.reads) _ c.roots.ensures _ _ _ _ _ (c.write_pairs_under-n.ensures.output, c.write_pairs_under-n.ensures.count)

pub returns : goal.returns
returns c =
    let pairs = sym (base_pairs _ (reads_formed _ _ c.args.base.now.reads) _ c.roots.ensures _ _ _ _ _ (c.write_pairs_under-n.ensures.output, c.write_pairs_under-n.ensures.count)) in
    let it = passes_on _ _ _ _ _ _ _ (among_same _ _ _ pairs) (c.find_among.ensures.answer, (c.find_among.ensures.output, c.find_among.ensures.work)) in
    record { answer = it.0; output = it.1.0; work = it.1.1 }
