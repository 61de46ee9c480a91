-- When a map has an inverse, test by test, and that inverse of two files is that of their models. Assumes nothing.
use Prim.Native.Nat.{ℕ}
use mathlib.Core.Path.{◌≡◌, refl}
use mathlib.Core.Bool.{true}
use mathlib.Core.List.{List, map}
use borrow.Author.Tests.{eq-eqb}
use lib.ListN.{length}
use Rattle.lists.specs.Every.{all}
use Rattle.lists.specs.First.{firsts}
use Rattle.lists.specs.Numbers.{up_from}
use Rattle.lists.specs.Order.{same_row}
use Rattle.stored.specs.Model.{Rel, Model, size, relation_at}
use Rattle.rows.specs.Rows.{through, normal_rows, normal_count}
use Rattle.rows.specs.Maps.{alone, one_to_one, reached, onto, same_count, same_counts}
use Rattle.rows.specs.Answer.{refused}
use Rattle.rows.specs.Files.{with_two}
use Rattle.rows.specs.Inverse.{inverse_models, inverse_files}

pub one_to_one_each : (f : List ℕ) → all (alone f) (up_from 0 (length f)) ≡ one_to_one f
unfolding one_to_one
one_to_one_each f = refl

pub onto_each : (b : Model) (f : List ℕ) → all (reached b.roots f) (up_from 0 (size b)) ≡ onto b f
unfolding onto
onto_each b f = refl

pub counts_each : (a b : Model) → all (same_count a b) (up_from 0 (length a.relations)) ≡ same_counts a b
unfolding same_counts
counts_each a b = refl

pub count_same : (a b : Model) (k : ℕ) → normal_count a (relation_at a k) ≡ normal_count b (relation_at b k) → same_count a b k ≡ true
unfolding same_count
count_same a b k e = eq-eqb _ _ e

pub normal_count_lem : (m : Model) (r : Rel) → normal_count m r ≡ length (firsts same_row (map (through m.roots) r.rows))
unfolding normal_count normal_rows
normal_count_lem m r = refl

pub inverse_files_lem : (s t f : List ℕ) (room : ℕ) → inverse_files s t f room ≡ with_two refused (inverse_models f room) s t
unfolding inverse_files
inverse_files_lem s t f room = refl
