-- Decides: on files, what find finds is a map as asked for, and where it answers none there is no function as asked for; the same under a base. Assumes nothing.
use Prim.Native.Nat.{ℕ}
use mathlib.Core.Path.{◌≡◌}
use mathlib.Core.List.{List}
use Rattle.stored.specs.Model.{Model}
use Rattle.rows.proofs.Theorems.Among.{entry_of}
use Rattle.rounds.specs.Round.{reps}
use Rattle.rounds.proofs.Theorems.Carrying.{CarriesSets}
use Rattle.search.specs.Machine.{found, none}
use Rattle.search.specs.Answer.{ended}
use Rattle.search.specs.Find.{find_files, pairs_under, under_files}
use Rattle.search.proofs.Theorems.Sound.{Sound}
use Rattle.search.proofs.Theorems.Start.{KeepsTypes, Honours, Wanted}
use Rattle.search.proofs.Theorems.Found.{found_right}
use Rattle.search.proofs.Theorems.Never.{never_right}
use Rattle.search.proofs.Theorems.Ends.{holds_formed, FilesEnded, files_ended, UnderEnded, under_ended}
use Rattle.search.proofs.Theorems.Under.{Under, honours_under, under_honours}

-- find with pairs
module _ (s t pairs : List ℕ) (budget room work u : ℕ) where
  pub record FoundInFiles (g : List ℕ) : Type 0 where
    pub call : FilesEnded s t pairs budget (found u g)
    pub sound : Sound call.left.its_model call.right.its_model g
    pub typed : KeepsTypes call.left.its_model call.right.its_model (entry_of g)
    pub honours : Honours call.left.its_model call.right.its_model pairs (entry_of g)

  pub files_found : (g : List ℕ) → find_files s t pairs budget room work ≡ ended (found u g) → FoundInFiles g
  files_found g e =
      let c = files_ended s t pairs budget room work (found u g) e in
      let r = found_right c.left.its_model c.right.its_model c.comparable.one_signature budget u g (holds_formed s c.left) (holds_formed t c.right) pairs c.comes_to in
      record { call = c; sound = r.0; typed = r.1; honours = r.2 }

  pub record NoneInFiles : Type 0 where
    pub call : FilesEnded s t pairs budget (none u)
    pub never : (h : ℕ → ℕ) → Wanted call.left.its_model call.right.its_model pairs h → ⊥

  pub files_none : find_files s t pairs budget room work ≡ ended (none u) → NoneInFiles
  files_none e =
      let c = files_ended s t pairs budget room work (none u) e in
      record {
        call = c;
        never = λ h w. never_right c.left.its_model c.right.its_model (holds_formed s c.left) (holds_formed t c.right) c.comparable.left_canonical pairs h w budget u c.comes_to;
      }

-- find under a base
pub record WantedUnder (o a b : Model) (f g : List ℕ) (h : ℕ → ℕ) : Type 0 where
  pub carries : CarriesSets a b h
  pub typed : KeepsTypes a b h
  pub under : Under o f g h

module _ (r s t f g : List ℕ) (budget room work u : ℕ) where
  pub record FoundUnder (k : List ℕ) : Type 0 where
    pub call : UnderEnded r s t f g budget (found u k)
    pub sound : Sound call.left.its_model call.right.its_model k
    pub typed : KeepsTypes call.left.its_model call.right.its_model (entry_of k)
    pub under : Under call.base.its_model f g (entry_of k)

  pub under_found : (k : List ℕ) → under_files r s t f g budget room work ≡ ended (found u k) → FoundUnder k
  under_found k e =
      let c = under_ended r s t f g budget room work (found u k) e in
      let o = c.base.its_model in
      let a = c.left.its_model in
      let b = c.right.its_model in
      let w = found_right a b c.comparable.one_signature budget u k (holds_formed s c.left) (holds_formed t c.right) (pairs_under f g (reps o)) c.comes_to in
      record { call = c; sound = w.0; typed = w.1; under = honours_under o a b f g c.left_map c.right_map (entry_of k) w.2 }

  pub record NoneUnder : Type 0 where
    pub call : UnderEnded r s t f g budget (none u)
    pub never : (h : ℕ → ℕ) → WantedUnder call.base.its_model call.left.its_model call.right.its_model f g h → ⊥

  pub under_none : under_files r s t f g budget room work ≡ ended (none u) → NoneUnder
  under_none e =
      let c = under_ended r s t f g budget room work (none u) e in
      let o = c.base.its_model in
      let a = c.left.its_model in
      let b = c.right.its_model in
      record {
        call = c;
        never = λ h w.
            never_right a b (holds_formed s c.left) (holds_formed t c.right) c.comparable.left_canonical (pairs_under f g (reps o)) h
            (record { carries = w.carries; typed = w.typed; honours = under_honours o a b f g c.left_map c.right_map h w.under }) budget u c.comes_to;
      }
