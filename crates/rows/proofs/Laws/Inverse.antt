-- The laws of the inverse: its tests, its entries and its outcome, case by case. Assumes nothing.
use Prim.Native.Nat.{ℕ, ◌≤◌, ◌<◌}
use mathlib.Core.Path.{◌≡◌, ◌∙◌, ap}
use mathlib.Core.Bool.{true, false}
use mathlib.Core.List.{List, map}
use borrow.Author.Tests.{eq-eqb, ne_eqb, lt-ltb, le-ltb}
use lib.Dec.{eqb}
use lib.ListN.{length, get_or}
use Rattle.lists.specs.Every.{all}
use Rattle.lists.specs.First.{first_at}
use Rattle.lists.specs.Numbers.{up_from}
use Rattle.lists.specs.Part.{over}
use Rattle.stored.specs.declared.refusal.Refusal.TheVariants.{NoRoom, SignaturesDiffer, NotAMap}
use Rattle.stored.specs.Model.{Model, size, is_rep_in}
use Rattle.stored.specs.Signature.{signature, same_signature}
use Rattle.stored.proofs.Laws.WellFormed.{WellFormed}
use Rattle.rows.specs.Maps.{is_map, alone, one_to_one, reached, onto, same_counts, invertible, inverse_entry, inverse_of}
use Rattle.rows.specs.Answer.{accepted, none, refused}
use Rattle.rows.specs.Inverse.{inverse_models}

-- one to one: the entry y of an element x
module _ (f : List ℕ) (x y : ℕ) (e : get_or f x 255 ≡ y) where
  pub alone_none : y ≡ 255 → alone f x ≡ true
  unfolding alone
  alone_none h = rw (e, eq-eqb y 255 h)

  module _ (h : y ≡ 255 → ⊥) where
    pub alone_first : first_at (eqb y) f ≡ x → alone f x ≡ true
    unfolding alone
    alone_first k = rw (e, ne_eqb y 255 h, eq-eqb (first_at (eqb y) f) x k)

    pub alone_later : (first_at (eqb y) f ≡ x → ⊥) → alone f x ≡ false
    unfolding alone
    alone_later k = rw (e, ne_eqb y 255 h, ne_eqb (first_at (eqb y) f) x k)

-- onto, and the entries of the inverse: an element y of the target
module _ (roots f : List ℕ) (y : ℕ) where
  module _ (h : is_rep_in roots y ≡ false) where
    pub reached_alias : reached roots f y ≡ true
    unfolding reached
    reached_alias = rw h

    pub inverse_alias : inverse_entry roots f y ≡ 255
    unfolding inverse_entry
    inverse_alias = rw (h, inverse_entry)

  module _ (h : is_rep_in roots y ≡ true) where
    pub reached_there : first_at (eqb y) f < length f → reached roots f y ≡ true
    unfolding reached
    reached_there k = rw (h, lt-ltb (first_at (eqb y) f) (length f) k)

    pub reached_nowhere : length f ≤ first_at (eqb y) f → reached roots f y ≡ false
    unfolding reached
    reached_nowhere k = rw (h, le-ltb (first_at (eqb y) f) (length f) k)

    pub inverse_rep : inverse_entry roots f y ≡ first_at (eqb y) f
    unfolding inverse_entry
    inverse_rep = rw (h, inverse_entry)

-- all elements of the target, by its roots as they are handed on
module _ {m : Model} (formed : WellFormed m) {roots : List ℕ} (e : roots ≡ m.roots) (f : List ℕ) where
  pub onto_handed : all (reached roots f) (up_from 0 (length roots)) ≡ onto m f
  unfolding onto
  onto_handed = rw (e, formed.roots_length)

  inverse_entries : map (inverse_entry roots f) (up_from 0 (length roots)) ≡ inverse_of m f
  unfolding inverse_of
  inverse_entries = rw (e, formed.roots_length)

  pub inverse_written : (new old : List ℕ) → new ≡ over (map (inverse_entry roots f) (up_from 0 (length roots))) old → new ≡ over (inverse_of m f) old
  inverse_written new old w = w ∙ ap (λ (x : List ℕ). over x old) inverse_entries

-- whether there is an inverse
module _ (a b : Model) (f : List ℕ) where
  pub not_one_to_one : one_to_one f ≡ false → invertible a b f ≡ false
  unfolding invertible
  not_one_to_one h = rw h

  module _ (h : one_to_one f ≡ true) where
    pub not_onto : onto b f ≡ false → invertible a b f ≡ false
    unfolding invertible
    not_onto k = rw (h, k)

    pub by_counts : onto b f ≡ true → invertible a b f ≡ same_counts a b
    unfolding invertible
    by_counts k = rw (h, k)

-- the outcome
module _ (f : List ℕ) (room : ℕ) (a b : Model) where
  pub inverse_cramped : room < size b → inverse_models f room a b ≡ refused NoRoom
  unfolding inverse_models
  inverse_cramped h = rw (lt-ltb room (size b) h, inverse_models)

  module _ (h : size b ≤ room) where
    pub inverse_differing : same_signature (signature a) (signature b) ≡ false → inverse_models f room a b ≡ refused SignaturesDiffer
    unfolding inverse_models
    inverse_differing d = rw (le-ltb room (size b) h, inverse_models, d)

    module _ (s : same_signature (signature a) (signature b) ≡ true) where
      pub inverse_no_map : is_map a b f ≡ false → inverse_models f room a b ≡ refused (NotAMap 1)
      unfolding inverse_models
      inverse_no_map n = rw (le-ltb room (size b) h, inverse_models, s, n)

      module _ (m : is_map a b f ≡ true) where
        pub inverse_none : invertible a b f ≡ false → inverse_models f room a b ≡ none
        unfolding inverse_models
        inverse_none n = rw (le-ltb room (size b) h, inverse_models, s, m, n)

        pub inverse_accepted : invertible a b f ≡ true → inverse_models f room a b ≡ accepted (inverse_of b f)
        unfolding inverse_models
        inverse_accepted i = rw (le-ltb room (size b) h, inverse_models, s, m, i)
