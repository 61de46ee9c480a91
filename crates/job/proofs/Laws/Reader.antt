-- The laws of the field that is due: its three cases, and that its value lies within the bytes. Assumes nothing.
use Prim.Native.Nat.{ℕ, ◌+◌, ◌≤◌}
use mathlib.Core.Path.{◌≡◌, refl, ap}
use mathlib.Core.Logic.{by_cases}
use mathlib.Core.List.{List}
use native.Mathlib.Omega.{arith}
use native.Mathlib.Decide.{ℕ_discrete}
use borrow.Author.Tests.{eq-eqb, ne_eqb}
use lib.ListN.{length}
use Rattle.std.proofs.Common.{Some, None, Result, Ok, Err}
use Rattle.stored.specs.declared.refusal.Fault.{Fault}
use Rattle.stored.specs.declared.field.Field.{Field}
use Rattle.stored.specs.Field.{field_at}
use Rattle.stored.proofs.Laws.Field.{field_within}
use Rattle.job.specs.Reader.{Due, due_at}

module _ (s : List ℕ) (tag at : ℕ) where
  pub due_there : (x : Field) → field_at s at ≡ Ok x → x.tag ≡ tag → due_at s tag at ≡ Some (record { value = record { start = x.start; len = x.len }; past = x.next.at })
  unfolding due_at
  due_there x e q = rw (e, due_at, eq-eqb x.tag tag q)

  pub due_other : (x : Field) → field_at s at ≡ Ok x → (x.tag ≡ tag → ⊥) → due_at s tag at ≡ None
  unfolding due_at
  due_other x e q = rw (e, due_at, ne_eqb x.tag tag q)

  pub due_fault : (f : Fault) → field_at s at ≡ Err f → due_at s tag at ≡ None
  unfolding due_at
  due_fault f e = rw (e, due_at)

  pub due_inside : (d : Due) → due_at s tag at ≡ Some d → d.value.start + d.value.len ≤ length s
  due_inside d e = by_field (field_at s at) refl
    where
      by_field : (n : Result Field Fault) → field_at s at ≡ n → d.value.start + d.value.len ≤ length s
      by_field (Err f) q = let w = due_fault f q in let z : ◌≡◌ {A = ℕ} 0 1 = cc in absurd (omega arith)
      by_field (Ok x) q =
          by_cases (ℕ_discrete x.tag tag)
          (λ h.
          let w = due_there x q h in
          let v : record { value = record { start = x.start; len = x.len }; past = x.next.at } ≡ d = cc in
          omega (arith, (field_within s at x q).inside, ap (λ (y : Due). y.value.start) v, ap (λ (y : Due). y.value.len) v))
          (λ h. let w = due_other x q h in let z : ◌≡◌ {A = ℕ} 0 1 = cc in absurd (omega arith))
