-- What find found: the first entries of its output, as many as the left model has elements, are its map. And the line of a call, and of a job. Assumes nothing.
use Prim.Native.Nat.{ℕ, ◌≤◌}
use mathlib.Core.Path.{◌≡◌, refl, sym, ◌∙◌, ap}
use mathlib.Core.List.{List, [], ◌∷◌}
use native.Mathlib.Omega.{arith}
use lib.ListN.{length, get_or, take}
use Rattle.std.proofs.Common.{Some, None, Ok, Err}
use Rattle.lists.specs.Part.{over}
use Rattle.lists.proofs.Laws.Over.{over_front}
use Rattle.stored.specs.declared.refusal.Fault.{Fault}
use Rattle.stored.specs.declared.layout.Layout.{Layout}
use Rattle.stored.specs.declared.refusal.Refusal.{Refusal}
use Rattle.stored.specs.Refusal as refusal
use Rattle.stored.specs.Model.{Model, size}
use Rattle.stored.specs.Parse.{model, fault, parse}
use Rattle.stored.specs.Reading.{reading_of, model_of}
use Rattle.stored.proofs.Laws.Reading.{reading_reads, reading_faults, reads_formed, size_is}
use Rattle.std.specs.Prelude.{Ok, Err}
use Rattle.search.specs.declared.answer.Verdict.TheVariants as verdict
use Rattle.search.specs.Machine.{found, none, exhausted}
use Rattle.search.specs.Answer.{Answer, numbers, Outcome, ended, refused, answer_of, written, work_room}
use Rattle.search.specs.Find.{find_files}
use Rattle.search.proofs.Laws.Answer.{refusal_high, written_found, numbers_found, found_by, none_by, exhausted_by}
use Rattle.search.proofs.Theorems.Decides.{files_found}
use Rattle.job.specs.declared.job.Job.{Job}
use Rattle.job.specs.Job.{job_of}
use Rattle.job.specs.Line.{line_with, map_found, map_room, found_line, answer_to, line_of, value_in}
use Rattle.job.specs.Writing.{elements_in, entries_of}

-- the map of an outcome
map_of_found : (u : ℕ) (f : List ℕ) → map_found (ended (found u f)) ≡ f
unfolding map_found
map_of_found u f = refl

map_of_none : (u : ℕ) → map_found (ended (none u)) ≡ []
unfolding map_found
map_of_none u = refl

map_of_exhausted : (u : ℕ) → map_found (ended (exhausted u)) ≡ []
unfolding map_found
map_of_exhausted u = refl

map_of_refusal : (o : Outcome) (r : Refusal) → refusal.numbers r ≡ numbers (answer_of o) → map_found o ≡ []
unfolding map_found
map_of_refusal (ended (found u f)) r e = absurd (omega (arith, refusal_high r, ap (λ (l : List ℕ). get_or l 0 0) (e ∙ numbers_found u f)))
map_of_refusal (ended (none u)) r e = refl
map_of_refusal (ended (exhausted u)) r e = refl
map_of_refusal (refused q) r e = refl

-- the elements of a file that holds a model, and of one that holds none
elements_held : (s : List ℕ) (m : Model) → parse s ≡ model m → elements_in s ≡ size m
unfolding elements_in
elements_held s m e = rw (e, elements_in)

elements_faulty : (s : List ℕ) (f : Fault) → parse s ≡ fault f → elements_in s ≡ 0
unfolding elements_in
elements_faulty s f e = rw (e, elements_in)

-- the entries of an answer's map
module _ (left : List ℕ) where
  pub entries_found : (u : ℕ) → entries_of (Ok (verdict.Found u)) left ≡ elements_in left
  unfolding entries_of
  entries_found u = refl

  pub entries_none : (u : ℕ) → entries_of (Ok (verdict.None u)) left ≡ 0
  unfolding entries_of
  entries_none u = refl

  pub entries_exhausted : (u : ℕ) → entries_of (Ok (verdict.Exhausted u)) left ≡ 0
  unfolding entries_of
  entries_exhausted u = refl

  pub entries_refused : (r : Refusal) → entries_of (Err r) left ≡ 0
  unfolding entries_of
  entries_refused r = refl

module _ (left right pairs : List ℕ) (budget room work : ℕ) (out after : List ℕ) (w : after ≡ written (find_files left right pairs budget room work) out) (n : ℕ) where
  abbrev o : Outcome
  o = find_files left right pairs budget room work

  pub map_is : (a : Answer) → numbers a ≡ numbers (answer_of o) → n ≡ entries_of a left → take n after ≡ map_found o
  map_is (Ok (verdict.Found u)) e h =
      let g = found_by o u (sym e) in
      let c = files_found left right pairs budget room work u g.0 g.1 in
      let l : n ≡ length g.0 = h ∙ entries_found left u ∙ elements_held left c.call.left.its_model c.call.left.parsed ∙ sym c.sound.its_length in
      ap (take n) (w ∙ ap (λ (x : Outcome). written x out) g.1 ∙ written_found u g.0 out)
      ∙ ap (λ (m : ℕ). take m (over g.0 out)) l
      ∙ over_front g.0 out
      ∙ sym (ap map_found g.1 ∙ map_of_found u g.0)
  map_is (Ok (verdict.None u)) e h = ap (λ (m : ℕ). take m after) (h ∙ entries_none left u) ∙ sym (ap map_found (none_by o u (sym e)) ∙ map_of_none u)
  map_is (Ok (verdict.Exhausted u)) e h =
      let g = exhausted_by o (u ∷ []) (sym e) in ap (λ (m : ℕ). take m after) (h ∙ entries_exhausted left u) ∙ sym (ap map_found g.1 ∙ map_of_exhausted g.0)
  map_is (Err r) e h = ap (λ (m : ℕ). take m after) (h ∙ entries_refused left r) ∙ sym (map_of_refusal o r e)

  pub line_of_find : (a : Answer) → map_room ≡ room → work_room ≡ work → numbers a ≡ numbers (answer_of o) → n ≡ entries_of a left → line_with (numbers a) (take n after) ≡ found_line (find_files left right pairs budget map_room work_room)
  unfolding found_line
  line_of_find a p q e h =
      ap (λ (ns : List ℕ). line_with ns (take n after)) e
      ∙ ap (line_with (numbers (answer_of o))) (map_is a e h)
      ∙ ap (λ (k : ℕ). found_line (find_files left right pairs budget k work)) (sym p)
      ∙ ap (λ (k : ℕ). found_line (find_files left right pairs budget map_room k)) (sym q)

-- how many elements the model in a file has, by what reading it answers
module _ (s : List ℕ) where
  pub elements_read : (l : Layout) → Ok l ≡ reading_of (parse s) → (l.size ≡ elements_in s) × (l.size ≤ map_room)
  elements_read l e =
      let k = reading_reads s l e in
      (size_is s l k ∙ sym (elements_held s (model_of s) k.accepted), omega (arith, size_is s l k, (reads_formed s l k).few_elements))

  pub elements_none : (f : Fault) → Err f ≡ reading_of (parse s) → (0 ≡ elements_in s) × (0 ≤ map_room)
  elements_none f e = (sym (elements_faulty s f (reading_faults s f e)), omega arith)

-- the line of a job
module _ (s : List ℕ) where
  pub line_of_job : (job : Job) → job_of s ≡ Some job → found_line (find_files (value_in s job.left) (value_in s job.right) (value_in s job.pairs) job.budget map_room work_room) ≡ line_of s
  unfolding line_of answer_to
  line_of_job job e = sym (ap (answer_to s) e)

  pub line_of_broken : job_of s ≡ None → line_with (21 ∷ []) [] ≡ line_of s
  unfolding line_of answer_to
  line_of_broken e = sym (ap (answer_to s) e)
