-- `stored::types::total` meets its contract. Assumes nothing.
use mathlib.Core.Path.{◌∙◌}
use Prim.Native.Nat.{ℕ}
use Rattle.std.proofs.Common.{rules}
use Rattle.std.proofs.lemmas.Iterator.{YieldsList-from_slice, YieldsList-from_map}
use Rattle.std.proofs.lemmas.Iterator.Consumers.{sum_by_from_yields_List}
use Rattle.stored.proofs.Laws.Chains.{sum_by_sum}
use Rattle.stored.proofs.types.total.Goals as goal

pub returns : goal.returns
returns c = sum_by_from_yields_List (λ (x : ℕ). x) c.args.types.now c.map.result _ c.sum.ensures.ran (YieldsList-from_map _ (λ (x : ℕ). x) (YieldsList-from_slice c.args.types.now cc) c.map.ensures.closure (λ x r q k. search rules)) ∙ sum_by_sum _
