-- The laws of apply: its answer, case by case. Assumes nothing.
use Prim.Native.Nat.{ℕ, ◌<◌, ◌≤◌}
use mathlib.Core.Path.{◌≡◌}
use mathlib.Core.Bool.{true, false}
use mathlib.Core.List.{List}
use borrow.Author.Tests.{lt-ltb, le-ltb}
use lib.ListN.{get_or}
use Rattle.std.proofs.Common.{Ok, Err}
use Rattle.stored.specs.declared.refusal.Refusal.TheVariants.{SignaturesDiffer, NotAMap, UnknownElement}
use Rattle.stored.specs.Model.{Model, size, root_of}
use Rattle.stored.specs.Signature.{signature, same_signature}
use Rattle.rows.specs.Maps.{is_map}
use Rattle.rows.specs.Apply.{apply_models}

module _ (f : List ℕ) (x : ℕ) (a b : Model) where
  pub apply_differing : same_signature (signature a) (signature b) ≡ false → apply_models f x a b ≡ Err SignaturesDiffer
  unfolding apply_models
  apply_differing d = rw (d, apply_models)

  module _ (s : same_signature (signature a) (signature b) ≡ true) where
    pub apply_no_map : is_map a b f ≡ false → apply_models f x a b ≡ Err (NotAMap 1)
    unfolding apply_models
    apply_no_map n = rw (s, apply_models, n)

    module _ (m : is_map a b f ≡ true) where
      pub apply_unknown : size a ≤ x → apply_models f x a b ≡ Err (UnknownElement 0 1)
      unfolding apply_models
      apply_unknown h = rw (s, apply_models, m, le-ltb x (size a) h)

      pub apply_image : x < size a → apply_models f x a b ≡ Ok (record { 0 = get_or f (root_of a x) 255 })
      unfolding apply_models
      apply_image h = rw (s, apply_models, m, lt-ltb x (size a) h)
