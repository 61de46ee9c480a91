-- The laws of a job: each step of the reading by what is due there, that values lie within the job, and a number's bytes. Assumes nothing.
use Prim.Native.Nat.{ℕ, ◌+◌, ◌≤◌, ◌<◌}
use mathlib.Core.Path.{◌≡◌, refl, subst}
use mathlib.Core.Logic.{by_cases}
use mathlib.Core.List.{List, [], ◌∷◌}
use native.Mathlib.Omega.{arith}
use native.Mathlib.Decide.{ℕ_discrete, dec_le}
use borrow.Author.Tests.{eq-eqb, ne_eqb, le-leb, lt-leb}
use lib.ListN.{length}
use Rattle.std.proofs.Common.{Option, Some, None}
use Rattle.std.specs.Int.{w64, from_be_bytes}
use Rattle.lists.specs.Part.{part}
use Rattle.job.specs.declared.reader.Value.{Value}
use Rattle.job.specs.declared.job.Job.{Job}
use Rattle.job.specs.Reader.{Due, due_at}
use Rattle.job.specs.Job.{max_job, high_first, end_from, budget_from, pairs_from, right_from, left_from, job_of}
use Rattle.job.proofs.Laws.Reader.{due_inside}

-- End
module _ (s : List ℕ) (left right pairs : Value) (budget at : ℕ) where
  pub end_missing : due_at s 0 at ≡ None → end_from s left right pairs budget at ≡ None
  unfolding end_from
  end_missing e = rw (e, end_from)

  module _ (d : Due) (e : due_at s 0 at ≡ Some d) where
    pub end_long : (d.value.len ≡ 0 → ⊥) → end_from s left right pairs budget at ≡ None
    unfolding end_from
    end_long h = rw (e, end_from, ne_eqb d.value.len 0 h)

    pub end_early : d.value.len ≡ 0 → (d.past ≡ length s → ⊥) → end_from s left right pairs budget at ≡ None
    unfolding end_from
    end_early h k = rw (e, end_from, eq-eqb d.value.len 0 h, ne_eqb d.past (length s) k)

    pub end_last : d.value.len ≡ 0 → d.past ≡ length s → end_from s left right pairs budget at ≡ Some (record { left = left; right = right; pairs = pairs; budget = budget })
    unfolding end_from
    end_last h k = rw (e, end_from, eq-eqb d.value.len 0 h, eq-eqb d.past (length s) k)

-- the budget
module _ (s : List ℕ) (left right pairs : Value) (at : ℕ) where
  pub budget_missing : due_at s 19 at ≡ None → budget_from s left right pairs at ≡ None
  unfolding budget_from
  budget_missing e = rw (e, budget_from)

  module _ (d : Due) (e : due_at s 19 at ≡ Some d) where
    pub budget_long : (d.value.len ≡ 8 → ⊥) → budget_from s left right pairs at ≡ None
    unfolding budget_from
    budget_long h = rw (e, budget_from, ne_eqb d.value.len 8 h)

    pub budget_there : d.value.len ≡ 8 → budget_from s left right pairs at ≡ end_from s left right pairs (high_first 0 (part s d.value.start 8)) d.past
    unfolding budget_from
    budget_there h = rw (e, budget_from, eq-eqb d.value.len 8 h)

-- the pairs, the right model, the left model
module _ (s : List ℕ) (left right : Value) (at : ℕ) where
  pub pairs_missing : due_at s 18 at ≡ None → pairs_from s left right at ≡ None
  unfolding pairs_from
  pairs_missing e = rw (e, pairs_from)

  pub pairs_there : (d : Due) → due_at s 18 at ≡ Some d → pairs_from s left right at ≡ budget_from s left right d.value d.past
  unfolding pairs_from
  pairs_there d e = rw (e, pairs_from)

module _ (s : List ℕ) (left : Value) (at : ℕ) where
  pub right_missing : due_at s 17 at ≡ None → right_from s left at ≡ None
  unfolding right_from
  right_missing e = rw (e, right_from)

  pub right_there : (d : Due) → due_at s 17 at ≡ Some d → right_from s left at ≡ pairs_from s left d.value d.past
  unfolding right_from
  right_there d e = rw (e, right_from)

module _ (s : List ℕ) (at : ℕ) where
  pub left_missing : due_at s 16 at ≡ None → left_from s at ≡ None
  unfolding left_from
  left_missing e = rw (e, left_from)

  pub left_there : (d : Due) → due_at s 16 at ≡ Some d → left_from s at ≡ right_from s d.value d.past
  unfolding left_from
  left_there d e = rw (e, left_from)

module _ (s : List ℕ) where
  pub job_long : max_job < length s → job_of s ≡ None
  unfolding job_of
  job_long h = rw (lt-leb (length s) max_job h, job_of)

  pub job_short : length s ≤ max_job → job_of s ≡ left_from s 0
  unfolding job_of
  job_short h = rw (le-leb (length s) max_job h, job_of)

  -- the values of a job that was read lie within it
  abbrev Within : Value → Type 0
  Within v = v.start + v.len ≤ length s

  abbrev pub AllWithin : Option Job → Type 0
  AllWithin (Some job) = Within job.left × Within job.right × Within job.pairs
  AllWithin None = Unit {0}

  broken_within : (r : Option Job) → r ≡ None → AllWithin r
  broken_within r e = rw e tt

  end_within : (left right pairs : Value) (budget at : ℕ) → Within left → Within right → Within pairs → AllWithin (end_from s left right pairs budget at)
  end_within left right pairs budget at a b c = by_due (due_at s 0 at) refl
    where
      by_due : (d : Option Due) → due_at s 0 at ≡ d → AllWithin (end_from s left right pairs budget at)
      by_due None e = broken_within _ (end_missing s left right pairs budget at e)
      by_due (Some d) e =
          by_cases (ℕ_discrete d.value.len 0)
          (λ h. by_cases (ℕ_discrete d.past (length s))
          (λ k. rw (end_last s left right pairs budget at d e h k) (a, b, c))
          (λ k. broken_within _ (end_early s left right pairs budget at d e h k)))
          (λ h. broken_within _ (end_long s left right pairs budget at d e h))

  budget_within : (left right pairs : Value) (at : ℕ) → Within left → Within right → Within pairs → AllWithin (budget_from s left right pairs at)
  budget_within left right pairs at a b c = by_due (due_at s 19 at) refl
    where
      by_due : (d : Option Due) → due_at s 19 at ≡ d → AllWithin (budget_from s left right pairs at)
      by_due None e = broken_within _ (budget_missing s left right pairs at e)
      by_due (Some d) e =
          by_cases (ℕ_discrete d.value.len 8)
          (λ h. rw (budget_there s left right pairs at d e h) (end_within left right pairs _ d.past a b c))
          (λ h. broken_within _ (budget_long s left right pairs at d e h))

  pairs_within : (left right : Value) (at : ℕ) → Within left → Within right → AllWithin (pairs_from s left right at)
  pairs_within left right at a b = by_due (due_at s 18 at) refl
    where
      by_due : (d : Option Due) → due_at s 18 at ≡ d → AllWithin (pairs_from s left right at)
      by_due None e = broken_within _ (pairs_missing s left right at e)
      by_due (Some d) e = rw (pairs_there s left right at d e) (budget_within left right d.value d.past a b (due_inside s 18 at d e))

  right_within : (left : Value) (at : ℕ) → Within left → AllWithin (right_from s left at)
  right_within left at a = by_due (due_at s 17 at) refl
    where
      by_due : (d : Option Due) → due_at s 17 at ≡ d → AllWithin (right_from s left at)
      by_due None e = broken_within _ (right_missing s left at e)
      by_due (Some d) e = rw (right_there s left at d e) (pairs_within left d.value d.past a (due_inside s 17 at d e))

  left_within : (at : ℕ) → AllWithin (left_from s at)
  left_within at = by_due (due_at s 16 at) refl
    where
      by_due : (d : Option Due) → due_at s 16 at ≡ d → AllWithin (left_from s at)
      by_due None e = broken_within _ (left_missing s at e)
      by_due (Some d) e = rw (left_there s at d e) (right_within d.value d.past (due_inside s 16 at d e))

  pub job_within : (job : Job) → job_of s ≡ Some job → Within job.left × Within job.right × Within job.pairs
  job_within job e =
      subst AllWithin e
      (by_cases (dec_le (length s) max_job) (λ h. rw (job_short h) (left_within 0)) (λ h. broken_within _ (job_long (omega arith))))

-- eight bytes, high byte first, are the number that std reads
pub eight_bytes : (bs : List ℕ) → length bs ≡ 8 → from_be_bytes w64 bs ≡ high_first 0 bs
unfolding high_first
eight_bytes (a ∷ b ∷ c ∷ d ∷ e ∷ f ∷ g ∷ h ∷ []) l = omega arith
eight_bytes bs l = absurd (omega arith)
