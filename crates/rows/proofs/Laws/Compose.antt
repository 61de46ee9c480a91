-- The laws of compose: its outcome, case by case. Assumes nothing.
use Prim.Native.Nat.{ℕ, ◌<◌, ◌≤◌}
use mathlib.Core.Path.{◌≡◌}
use mathlib.Core.Bool.{true, false}
use mathlib.Core.List.{List}
use borrow.Author.Tests.{lt-ltb, le-ltb}
use Rattle.stored.specs.declared.refusal.Refusal.TheVariants.{NoRoom, SignaturesDiffer, NotAMap}
use Rattle.stored.specs.Model.{Model, size}
use Rattle.stored.specs.Signature.{signature, same_signature}
use Rattle.rows.specs.Rows.{through}
use Rattle.rows.specs.Maps.{is_map, then_map}
use Rattle.rows.specs.Answer.{accepted, refused}
use Rattle.rows.specs.Compose.{compose_maps, compose_models}

module _ (f g : List ℕ) (a b c : Model) where
  -- of two maps
  pub first_no_map : is_map a b f ≡ false → compose_maps f g a b c ≡ refused (NotAMap 1)
  unfolding compose_maps
  first_no_map n = rw (n, compose_maps)

  module _ (m : is_map a b f ≡ true) where
    pub second_no_map : is_map b c g ≡ false → compose_maps f g a b c ≡ refused (NotAMap 2)
    unfolding compose_maps
    second_no_map n = rw (m, compose_maps, n)

    pub compose_accepted : is_map b c g ≡ true → compose_maps f g a b c ≡ accepted (through g f)
    unfolding compose_maps then_map
    compose_accepted n = rw (m, compose_maps, n)

  -- of three models
  module _ (room : ℕ) where
    pub compose_cramped : room < size a → compose_models f g room a b c ≡ refused NoRoom
    unfolding compose_models
    compose_cramped h = rw (lt-ltb room (size a) h, compose_models)

    module _ (h : size a ≤ room) where
      pub first_differing : same_signature (signature a) (signature b) ≡ false → compose_models f g room a b c ≡ refused SignaturesDiffer
      unfolding compose_models
      first_differing d = rw (le-ltb room (size a) h, compose_models, d)

      module _ (s : same_signature (signature a) (signature b) ≡ true) where
        pub second_differing : same_signature (signature b) (signature c) ≡ false → compose_models f g room a b c ≡ refused SignaturesDiffer
        unfolding compose_models
        second_differing d = rw (le-ltb room (size a) h, compose_models, s, d)

        pub compose_goes_on : same_signature (signature b) (signature c) ≡ true → compose_models f g room a b c ≡ compose_maps f g a b c
        unfolding compose_models
        compose_goes_on t = rw (le-ltb room (size a) h, compose_models, s, t)
