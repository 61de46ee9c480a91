-- The laws of the files of a call: going on with a file that was read, refusing one that was not, and the same of two files. Assumes nothing.
use Prim.Native.Nat.{ℕ}
use mathlib.Core.Path.{◌≡◌, refl, ◌∙◌, ap}
use mathlib.Core.List.{List}
use native.Mathlib.Omega.{arith}
use Rattle.std.proofs.Common.{Result, Ok, Err}
use Rattle.stored.specs.declared.refusal.Fault.{Fault}
use Rattle.stored.specs.declared.refusal.Refusal.{Refusal}
use Rattle.stored.specs.declared.refusal.Refusal.TheVariants.{Malformed}
use Rattle.stored.specs.declared.layout.Layout.{Layout}
use Rattle.stored.specs.Model.{Model}
use Rattle.stored.specs.Parse.{Parsed, model, fault, parse}
use Rattle.stored.specs.Reading.{reading_of, model_of, Reads}
use Rattle.stored.proofs.Laws.Reading.{reading_reads, reading_faults}
use Rattle.rows.specs.Files.{with_model, with_two, model_read, two_read}

-- one file, the k-th of a call
module _ {A : Type 0} (k : ℕ) (refuse : Refusal → A) (go : Model → A) (s : List ℕ) where
  pub with_model_lem : (m : Model) → parse s ≡ model m → with_model k refuse go s ≡ go m
  unfolding with_model
  with_model_lem m e = rw (e, with_model)

  pub with_model_read : (l : Layout) → Reads s l → with_model k refuse go s ≡ go (model_of s)
  with_model_read l reads = with_model_lem (model_of s) reads.accepted

  pub with_model_fault : (f : Fault) → parse s ≡ fault f → with_model k refuse go s ≡ refuse (Malformed k f)
  unfolding with_model
  with_model_fault f e = rw (e, with_model)

  -- by what reading it answers
  pub with_model_answered : (l : Layout) → Ok l ≡ reading_of (parse s) → with_model k refuse go s ≡ go (model_of s)
  with_model_answered l e = with_model_read l (reading_reads s l e)

  pub with_model_refused : (f : Fault) → Err f ≡ reading_of (parse s) → with_model k refuse go s ≡ refuse (Malformed k f)
  with_model_refused f e = with_model_fault f (reading_faults s f e)

-- two files
module _ {A : Type 0} (refuse : Refusal → A) (go : Model → Model → A) (s t : List ℕ) where
  pub with_models : (a b : Model) → parse s ≡ model a → parse t ≡ model b → with_two refuse go s t ≡ go a b
  with_models a b p q = with_model_lem 1 refuse _ s a p ∙ with_model_lem 2 refuse (go a) t b q

  pub first_fault : (f : Fault) → parse s ≡ fault f → with_two refuse go s t ≡ refuse (Malformed 1 f)
  first_fault f p = with_model_fault 1 refuse _ s f p

  pub second_fault : (a : Model) (f : Fault) → parse s ≡ model a → parse t ≡ fault f → with_two refuse go s t ≡ refuse (Malformed 2 f)
  second_fault a f p q = with_model_lem 1 refuse _ s a p ∙ with_model_fault 2 refuse (go a) t f q

  pub with_two_read : (l k : Layout) → Reads s l → Reads t k → with_two refuse go s t ≡ go (model_of s) (model_of t)
  with_two_read l k p q = with_models (model_of s) (model_of t) p.accepted q.accepted

-- a file read, the k-th of a call
module _ (k : ℕ) (s : List ℕ) where
  pub read_was : (m : Model) → parse s ≡ model m → model_read k s ≡ Ok m
  unfolding model_read
  read_was m p = with_model_lem k _ _ s m p

  pub fault_was : (f : Fault) → parse s ≡ fault f → model_read k s ≡ Err (Malformed k f)
  unfolding model_read
  fault_was f p = with_model_fault k _ _ s f p

  module _ {A : Type 0} (refuse : Refusal → A) (go : Model → A) where
    pub model_goes_on : (m : Model) → model_read k s ≡ Ok m → with_model k refuse go s ≡ go m
    model_goes_on m e = by_parse (parse s) refl
      where
        by_parse : (p : Parsed) → parse s ≡ p → with_model k refuse go s ≡ go m
        by_parse (model n) p = let w = read_was n p in let v : n ≡ m = cc in with_model_lem k refuse go s n p ∙ ap go v
        by_parse (fault f) p = let w = fault_was f p in let z : ◌≡◌ {A = ℕ} 0 1 = cc in absurd (omega arith)

    pub model_refused : (x : Refusal) → model_read k s ≡ Err x → with_model k refuse go s ≡ refuse x
    model_refused x e = by_parse (parse s) refl
      where
        by_parse : (p : Parsed) → parse s ≡ p → with_model k refuse go s ≡ refuse x
        by_parse (model m) p = let w = read_was m p in let z : ◌≡◌ {A = ℕ} 0 1 = cc in absurd (omega arith)
        by_parse (fault f) p = let w = fault_was f p in let v : Malformed k f ≡ x = cc in with_model_fault k refuse go s f p ∙ ap refuse v

-- two files read, one after the other
module _ (s t : List ℕ) where
  pub first_refused : (x : Refusal) → model_read 1 s ≡ Err x → two_read s t ≡ Err x
  unfolding two_read
  first_refused x e = model_refused 1 s _ _ x e

  module _ (a : Model) (e : model_read 1 s ≡ Ok a) where
    pub second_refused : (x : Refusal) → model_read 2 t ≡ Err x → two_read s t ≡ Err x
    unfolding two_read
    second_refused x f = model_goes_on 1 s _ _ a e ∙ model_refused 2 t _ _ x f

    pub both_read : (b : Model) → model_read 2 t ≡ Ok b → two_read s t ≡ Ok (a, b)
    unfolding two_read
    both_read b f = model_goes_on 1 s _ _ a e ∙ model_goes_on 2 t _ _ b f

  -- what a call that goes on with both answers
  module _ {A : Type 0} (refuse : Refusal → A) (go : Model → Model → A) where
    two_by : (q : Result Model Refusal) → model_read 1 s ≡ q → (p : Result Model Refusal) → model_read 2 t ≡ p → (o : A) → ((x : Refusal) → two_read s t ≡ Err x → refuse x ≡ o) → ((a b : Model) → two_read s t ≡ Ok (a, b) → go a b ≡ o) → with_two refuse go s t ≡ o
    two_by (Err x) e p f o bad good = model_refused 1 s refuse _ x e ∙ bad x (first_refused x e)
    two_by (Ok a) e (Err x) f o bad good = model_goes_on 1 s refuse _ a e ∙ model_refused 2 t refuse _ x f ∙ bad x (second_refused a e x f)
    two_by (Ok a) e (Ok b) f o bad good = model_goes_on 1 s refuse _ a e ∙ model_goes_on 2 t refuse _ b f ∙ good a b (both_read a e b f)

    pub two_go_on : (a b : Model) → two_read s t ≡ Ok (a, b) → with_two refuse go s t ≡ go a b
    two_go_on a b e =
        two_by (model_read 1 s) refl (model_read 2 t) refl (go a b)
        (λ x w. let z : ◌≡◌ {A = ℕ} 0 1 = cc in absurd (omega arith))
        (λ c d w. let v : (c, d) ≡ (a, b) = cc in ap (λ (p : Model × Model). go p.0 p.1) v)

    pub two_refused : (x : Refusal) → two_read s t ≡ Err x → with_two refuse go s t ≡ refuse x
    two_refused x e =
        two_by (model_read 1 s) refl (model_read 2 t) refl (refuse x)
        (λ y w. let v : y ≡ x = cc in ap refuse v)
        (λ a b w. let z : ◌≡◌ {A = ℕ} 0 1 = cc in absurd (omega arith))
