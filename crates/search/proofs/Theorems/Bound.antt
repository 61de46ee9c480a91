-- Bound: with r left representatives and as many on the right, a search whose budget is 2 max(r, 1) N(r) or more is never exhausted, where N(0) = N(1) = 1 and N(r) = 1 + r N(r - 1). By a
-- potential of states that falls with every unit. Assumes nothing.
use Prim.Native.Nat.{ℕ, zero, suc, ◌+◌, ◌-◌, ◌≤◌, ◌%◌}
use mathlib.Core.Path.{◌≡◌, refl, sym, subst}
use mathlib.Core.Logic.{◌⊎◌, inl, inr}
use mathlib.Core.Bool.{Bool, true, false, ◌&&◌, ◌||◌}
use mathlib.Core.List.{List, []}
use native.Mathlib.Omega.{arith}
use borrow.Author.Tests.{eqb-true}
use lib.ListN.{length}
use lib.Dec.{eqb, ltb}
use Rattle.std.proofs.Common.{Result, Ok, Err}
use Rattle.lists.specs.Every.{all}
use Rattle.lists.specs.Numbers.{up_from}
use Rattle.lists.proofs.Laws.Tests.{split, and_left}
use Rattle.stored.specs.Model.{Model, size}
use Rattle.stored.specs.Parse.{Parsed, model, fault, parse}
use Rattle.stored.specs.Canonical.{canonical}
use Rattle.stored.specs.Signature.{signature, same_signature}
use Rattle.stored.specs.declared.refusal.Refusal.{Refusal}
use Rattle.rows.specs.Pairs.{pair_count}
use Rattle.rows.specs.Maps.{is_map}
use Rattle.rows.specs.Files.{with_model}
use Rattle.rows.proofs.Laws.Files.{with_model_lem, with_model_fault}
use Rattle.rounds.specs.Round.{reps, Sides, colour_count}
use Rattle.rounds.proofs.Theorems.Members.{count_some}
use Rattle.search.specs.Machine.{State, refine, Step, there, nowhere, takes, step, exhausted, run}
use Rattle.search.specs.Partners.{pairs_from, Partners, partners, clash, partners_of}
use Rattle.search.specs.Answer.{Outcome, refused, work_room}
use Rattle.search.specs.Find.{same_row_count, alike, start_from, searched, find_paired, find_among, find_models, find_files, pairs_under, under_models, under_files}
use Rattle.search.proofs.Laws.Run.{run_there, run_nowhere, run_takes}
use Rattle.search.proofs.Theorems.Stays.{Decided}
use Rattle.search.proofs.Theorems.Budgets.{Settled}
use Rattle.search.proofs.Theorems.Numbers.{search_bound, bound_enough}
use Rattle.search.proofs.Theorems.Potential.{colours_take, choices_take, potential, Lowers, step_lowers}

module _ (a b : Model) (as_many : length (reps b) ≡ length (reps a)) where
  -- with as many units, and as much fuel, as the potential of its state a run decides
  pub potential_decides : (fuel left used : ℕ) (s : State) → potential a s ≤ fuel → potential a s ≤ left → Decided (run fuel 1 a b left used s)
  potential_decides zero left used s f l = by_step (step 1 a b s) refl (step_lowers a b as_many s)
    where
      by_step : (x : Step) → step 1 a b s ≡ x → Lowers a (potential a s) (step 1 a b s) → Decided (run 0 1 a b left used s)
      by_step (there g) e h = rw (run_there 1 a b 0 left used s g e) tt
      by_step nowhere e h = rw (run_nowhere 1 a b 0 left used s e) tt
      by_step (takes n t) e h = let z : (n ≡ 1) × (1 + potential a t ≤ potential a s) = rw e at h in absurd (omega (arith, z.1))
  potential_decides (suc fuel) left used s f l = by_step (step 1 a b s) refl (step_lowers a b as_many s) (potential_decides fuel)
    where
      by_step : (x : Step) → step 1 a b s ≡ x → Lowers a (potential a s) (step 1 a b s)
          → ((m u : ℕ) (t : State) → potential a t ≤ fuel → potential a t ≤ m → Decided (run fuel 1 a b m u t)) → Decided (run (suc fuel) 1 a b left used s)
      by_step (there g) e h ih = rw (run_there 1 a b (suc fuel) left used s g e) tt
      by_step nowhere e h ih = rw (run_nowhere 1 a b (suc fuel) left used s e) tt
      by_step (takes n t) e h ih =
          let z : (n ≡ 1) × (1 + potential a t ≤ potential a s) = rw e at h in
          let one = z.0 in
          let falls = z.1 in
          rw (run_takes 1 a b fuel left used n s t e (omega arith)) (ih (left - n) (used + n) t (omega arith) (omega arith))

  start_potential : (c : Sides) → potential a (refine c []) ≤ search_bound (length (reps a))
  unfolding potential choices_take colours_take
  start_potential c = omega (arith, bound_enough (length (reps a)) (colour_count a c.left) (count_some a c.left))

  -- from any colours, with no open choice
  pub bound_decides : (c : Sides) (budget : ℕ) → search_bound (length (reps a)) ≤ budget → Decided (run budget 1 a b budget 0 (refine c []))
  bound_decides c budget h = potential_decides budget budget 0 (refine c []) (omega (arith, start_potential c)) (omega (arith, start_potential c))

  pub never_exhausted : (c : Sides) (budget : ℕ) → search_bound (length (reps a)) ≤ budget → (u : ℕ) → run budget 1 a b budget 0 (refine c []) ≡ exhausted u → ⊥
  never_exhausted c budget h u e = subst Decided e (bound_decides c budget h)

-- so of every search, since models that are alike have as many representatives
module _ (a b : Model) where
  alike_as_many : alike a b ≡ true → length (reps b) ≡ length (reps a)
  unfolding alike
  alike_as_many e = sym (eqb-true _ _ (and_left (eqb (length (reps a)) (length (reps b))) (all (same_row_count a b) (up_from 0 (length a.relations))) e))

  module _ (budget : ℕ) (enough : search_bound (length (reps a)) ≤ budget) where
    pub searched_decides : (p : Partners) → Decided (searched a b budget p)
    unfolding searched start_from
    searched_decides clash = tt
    searched_decides (partners f g) = by_likeness (split (alike a b))
      where
        by_likeness : (alike a b ≡ true) ⊎ (alike a b ≡ false) → Decided (searched a b budget (partners f g))
        by_likeness (inl e) = rw (e, searched) (bound_decides a b (alike_as_many e) _ budget enough)
        by_likeness (inr e) = rw (e, searched) tt

    pub among_settles : (pairs : List ℕ) → Settled (find_among a b pairs budget)
    unfolding find_among find_paired
    among_settles pairs = by_pairs (pairs_from (pair_count pairs) a b pairs 0) refl
      where
        by_pairs : (p : Result (Unit {0}) Refusal) → pairs_from (pair_count pairs) a b pairs 0 ≡ p → Settled (find_among a b pairs budget)
        by_pairs (Err r) e = rw (e, find_among, find_paired) tt
        by_pairs (Ok u) e = rw (e, find_among, find_paired) (searched_decides (partners_of a b pairs))

    module _ (pairs : List ℕ) (room work : ℕ) where
      abbrev ModelsSettle : Type 0
      ModelsSettle = Settled (find_models pairs budget room work a b)

      pub models_settle : Settled (find_models pairs budget room work a b)
      unfolding find_models
      models_settle = by_room (split (ltb room (size a) || ltb work work_room))
        where
          by_room : (ltb room (size a) || ltb work work_room ≡ true) ⊎ (ltb room (size a) || ltb work work_room ≡ false) → ModelsSettle
          by_room (inl e) = rw (e, find_models) tt
          by_room (inr e) = by_left (split (canonical a))
            where
              by_odd : canonical a ≡ true → canonical b ≡ true → same_signature (signature a) (signature b) ≡ true → (eqb (length pairs % 2) 0 ≡ true) ⊎ (eqb (length pairs % 2) 0 ≡ false) → ModelsSettle
              by_odd p q s (inr o) = rw (e, find_models, p, q, s, o) tt
              by_odd p q s (inl o) = rw (e, find_models, p, q, s, o) (among_settles pairs)

              by_signature : canonical a ≡ true → canonical b ≡ true → (same_signature (signature a) (signature b) ≡ true) ⊎ (same_signature (signature a) (signature b) ≡ false) → ModelsSettle
              by_signature p q (inr s) = rw (e, find_models, p, q, s) tt
              by_signature p q (inl s) = by_odd p q s (split (eqb (length pairs % 2) 0))

              by_right : canonical a ≡ true → (canonical b ≡ true) ⊎ (canonical b ≡ false) → ModelsSettle
              by_right p (inr q) = rw (e, find_models, p, q) tt
              by_right p (inl q) = by_signature p q (split (same_signature (signature a) (signature b)))

              by_left : (canonical a ≡ true) ⊎ (canonical a ≡ false) → ModelsSettle
              by_left (inr p) = rw (e, find_models, p) tt
              by_left (inl p) = by_right p (split (canonical b))

    module _ (o : Model) (f g : List ℕ) (room work : ℕ) where
      abbrev Signatures : Bool
      Signatures = same_signature (signature o) (signature a) && same_signature (signature o) (signature b)

      abbrev UnderSettles : Type 0
      UnderSettles = Settled (under_models f g budget room work o a b)

      pub under_models_settle : Settled (under_models f g budget room work o a b)
      unfolding under_models
      under_models_settle = by_room (split (ltb room (size a) || ltb work work_room))
        where
          by_room : (ltb room (size a) || ltb work work_room ≡ true) ⊎ (ltb room (size a) || ltb work work_room ≡ false) → UnderSettles
          by_room (inl e) = rw (e, under_models) tt
          by_room (inr e) = by_left (split (canonical a))
            where
              by_maps : canonical a ≡ true → canonical b ≡ true → Signatures ≡ true → (is_map o a f ≡ true) ⊎ (is_map o a f ≡ false) → (is_map o b g ≡ true) ⊎ (is_map o b g ≡ false) → UnderSettles
              by_maps p q s (inr x) y = rw (e, under_models, p, q, s, x) tt
              by_maps p q s (inl x) (inr y) = rw (e, under_models, p, q, s, x, y) tt
              by_maps p q s (inl x) (inl y) = rw (e, under_models, p, q, s, x, y) (among_settles (pairs_under f g (reps o)))

              by_signature : canonical a ≡ true → canonical b ≡ true → (Signatures ≡ true) ⊎ (Signatures ≡ false) → UnderSettles
              by_signature p q (inr s) = rw (e, under_models, p, q, s) tt
              by_signature p q (inl s) = by_maps p q s (split (is_map o a f)) (split (is_map o b g))

              by_right : canonical a ≡ true → (canonical b ≡ true) ⊎ (canonical b ≡ false) → UnderSettles
              by_right p (inr q) = rw (e, under_models, p, q) tt
              by_right p (inl q) = by_signature p q (split Signatures)

              by_left : (canonical a ≡ true) ⊎ (canonical a ≡ false) → UnderSettles
              by_left (inr p) = rw (e, under_models, p) tt
              by_left (inl p) = by_right p (split (canonical b))

-- and of every call: the bound is that of the left model
file_settles : (k : ℕ) (go : Model → Outcome) (s : List ℕ) → ((m : Model) → parse s ≡ model m → Settled (go m)) → Settled (with_model k refused go s)
file_settles k go s each = by_parse (parse s) refl
  where
    by_parse : (p : Parsed) → parse s ≡ p → Settled (with_model k refused go s)
    by_parse (model m) e = rw (with_model_lem k refused go s m e) (each m e)
    by_parse (fault f) e = rw (with_model_fault k refused go s f e) tt

-- the budget is enough for a file, if it has a model
abbrev pub Enough : List ℕ → ℕ → Type 0
Enough s budget = (a : Model) → parse s ≡ model a → search_bound (length (reps a)) ≤ budget

pub files_settle : (s t pairs : List ℕ) (budget room work : ℕ) → Enough s budget → Settled (find_files s t pairs budget room work)
unfolding find_files
files_settle s t pairs budget room work enough =
    file_settles 1 _ s (λ (a : Model) (e : parse s ≡ model a). file_settles 2 _ t (λ (b : Model) (q : parse t ≡ model b). models_settle a b budget (enough a e) pairs room work))

pub under_files_settle : (r s t f g : List ℕ) (budget room work : ℕ) → Enough s budget → Settled (under_files r s t f g budget room work)
unfolding under_files
under_files_settle r s t f g budget room work enough =
    file_settles 1 _ r (λ (o : Model) (q : parse r ≡ model o).
    file_settles 2 _ s (λ (a : Model) (e : parse s ≡ model a). file_settles 3 _ t (λ (b : Model) (x : parse t ≡ model b). under_models_settle a b budget (enough a e) o f g room work)))
