-- The laws of the identity: its entries and its outcome, case by case. Assumes nothing.
use Prim.Native.Nat.{ℕ, ◌<◌, ◌≤◌}
use mathlib.Core.Path.{◌≡◌, ◌∙◌, ap}
use mathlib.Core.Bool.{true, false}
use mathlib.Core.List.{List, map}
use borrow.Author.Tests.{lt-ltb, le-ltb}
use lib.ListN.{length}
use Rattle.lists.specs.Numbers.{up_from}
use Rattle.lists.specs.Part.{over}
use Rattle.stored.specs.declared.refusal.Refusal.TheVariants.{NoRoom}
use Rattle.stored.specs.Model.{Model, size, is_rep_in}
use Rattle.stored.proofs.Laws.WellFormed.{WellFormed}
use Rattle.rows.specs.Maps.{identity_entry, identity_of}
use Rattle.rows.specs.Answer.{accepted, refused}
use Rattle.rows.specs.Identity.{identity_model}

module _ (roots : List ℕ) (x : ℕ) where
  pub identity_rep : is_rep_in roots x ≡ true → identity_entry roots x ≡ x
  unfolding identity_entry
  identity_rep h = rw (h, identity_entry)

  pub identity_alias : is_rep_in roots x ≡ false → identity_entry roots x ≡ 255
  unfolding identity_entry
  identity_alias h = rw (h, identity_entry)

-- all entries, by the roots as they are handed on
module _ {m : Model} (formed : WellFormed m) {roots : List ℕ} (e : roots ≡ m.roots) where
  identity_entries : map (identity_entry roots) (up_from 0 (length roots)) ≡ identity_of m
  unfolding identity_of
  identity_entries = rw (e, formed.roots_length)

  pub identity_written : (new old : List ℕ) → new ≡ over (map (identity_entry roots) (up_from 0 (length roots))) old → new ≡ over (identity_of m) old
  identity_written new old w = w ∙ ap (λ (x : List ℕ). over x old) identity_entries

-- the outcome
module _ (room : ℕ) (m : Model) where
  pub identity_cramped : room < size m → identity_model room m ≡ refused NoRoom
  unfolding identity_model
  identity_cramped h = rw (lt-ltb room (size m) h, identity_model)

  pub identity_accepted : size m ≤ room → identity_model room m ≡ accepted (identity_of m)
  unfolding identity_model
  identity_accepted h = rw (le-ltb room (size m) h, identity_model)
