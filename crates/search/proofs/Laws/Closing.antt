-- The laws of the closing check: the image of one element, the map by the roots as they are handed on, and the rows of
-- one relation, whose images among its counterpart's rows are the whole check. Assumes nothing.
use Prim.Native.Nat.{ℕ}
use mathlib.Core.Path.{◌≡◌, sym, ◌∙◌, ap, subst}
use mathlib.Core.Logic.{◌⊎◌, inl, inr}
use mathlib.Core.Bool.{Bool, true, false, ◌&&◌}
use mathlib.Core.List.{List, [], ◌∷◌, map, map_congr_left, Memᴰ}
use lib.ListN.{length}
use Rattle.lists.specs.Every.{all}
use Rattle.lists.specs.First.{lowest}
use Rattle.lists.specs.Numbers.{up_from}
use Rattle.lists.specs.Part.{over}
use Rattle.lists.proofs.Laws.Tests.{split}
use Rattle.lists.proofs.Laws.Every.{all_none, all_yes, all_no, all_mem}
use Rattle.stored.specs.declared.layout.Layout.{Layout}
use Rattle.stored.specs.Model.{Model, size, is_rep_in, relation_at}
use Rattle.stored.specs.Reading.{Reads, model_of}
use Rattle.stored.proofs.Laws.Reading.{reads_formed}
use Rattle.rows.specs.Rows.{through, has_row, rows_kept}
use Rattle.rows.proofs.Laws.Rows.{kept_each}
use Rattle.rows.proofs.Theorems.Among.{row_among, through_map}
use Rattle.rounds.specs.Colours.{colour_at}
use Rattle.rounds.specs.Round.{Sides}
use Rattle.rounds.specs.Parts.{has_colour}
use Rattle.rounds.proofs.Laws.Parts.{has_test}
use Rattle.search.specs.Machine.{image_of, image_in, map_of, closes_at}
use Rattle.search.specs.Closing.{OneToOne}
use Rattle.search.proofs.Theorems.Closing.{Into, rows_check}
use Rattle.search.proofs.Theorems.Onto.{AlikeModels, into_onto}

-- the image of one element
module _ (roots roots' left right : List ℕ) (x : ℕ) where
  pub image_alias : is_rep_in roots x ≡ false → image_in roots roots' left right x ≡ 255
  unfolding image_in
  image_alias e = rw (e, image_in)

  pub image_rep : is_rep_in roots x ≡ true → image_in roots roots' left right x ≡ lowest (has_colour roots' right (colour_at left x)) 0 (length roots')
  unfolding image_in
  image_rep e = rw (e, image_in)

-- the map
module _ (s t : List ℕ) (l m : Layout) (p : Reads s l) (q : Reads t m) (left right : List ℕ) where
  abbrev sides : Sides
  sides = record { left = left; right = right }

  image_handed : (x : ℕ) → image_in (model_of s).roots (model_of t).roots left right x ≡ image_of (model_of s) (model_of t) sides x
  unfolding image_of
  image_handed x = go (split (is_rep_in (model_of s).roots x))
    where
      go : (is_rep_in (model_of s).roots x ≡ true) ⊎ (is_rep_in (model_of s).roots x ≡ false) → image_in (model_of s).roots (model_of t).roots left right x ≡ image_of (model_of s) (model_of t) sides x
      go (inl e) =
          image_rep (model_of s).roots (model_of t).roots left right x e
          ∙ ap (lowest (has_colour (model_of t).roots right (colour_at left x)) 0) (reads_formed t m q).roots_length
          ∙ ap (λ (p : ℕ → Bool). lowest p 0 (size (model_of t))) (has_test (model_of t).roots right (colour_at left x))
          ∙ rw (e, image_of)
      go (inr e) = image_alias (model_of s).roots (model_of t).roots left right x e ∙ rw (e, image_of)

  module _ (xs ys : List ℕ) (d : xs ≡ (model_of s).roots) (e : ys ≡ (model_of t).roots) where
    map_handed : map (image_in xs ys left right) (up_from 0 (length xs)) ≡ map_of (model_of s) (model_of t) sides
    unfolding map_of
    map_handed = rw (d, e, (reads_formed s l p).roots_length) (map_congr_left {l = up_from 0 (size (model_of s))} (λ x n. image_handed x))

    pub map_written : (new old : List ℕ) → new ≡ over (map (image_in xs ys left right) (up_from 0 (length xs))) old → new ≡ over (map_of (model_of s) (model_of t) sides) old
    map_written new old w = w ∙ ap (λ (x : List ℕ). over x old) map_handed

-- a test of all images is one of all members
all_map : {A B : Type 0} (p : B → Bool) (f : A → B) (xs : List A) → all p (map f xs) ≡ all (λ (x : A). p (f x)) xs
all_map p f [] = all_none p ∙ sym (all_none (λ x. p (f x)))
all_map p f (x ∷ xs) = go (split (p (f x))) (all_map p f xs)
  where
    go : (p (f x) ≡ true) ⊎ (p (f x) ≡ false) → all p (map f xs) ≡ all (λ y. p (f y)) xs → all p (map f (x ∷ xs)) ≡ all (λ y. p (f y)) (x ∷ xs)
    go (inl e) ih = all_yes p (f x) (map f xs) e ∙ ih ∙ sym (all_yes (λ y. p (f y)) x xs e)
    go (inr e) ih = all_no p (f x) (map f xs) e ∙ sym (all_no (λ y. p (f y)) x xs e)

-- the rows of one relation, each taken through the map, among its counterpart's
module _ (a b : Model) (f : List ℕ) (k : ℕ) where
  abbrev ours : List (List ℕ)
  ours = (relation_at a k).rows

  abbrev theirs : List (List ℕ)
  theirs = (relation_at b k).rows

  abbrev pub into : Bool
  into = rows_kept f ours theirs

  is_into : all (λ (row : List ℕ). has_row row theirs) (map (through f) ours) ≡ into
  is_into = all_map (λ (row : List ℕ). has_row row theirs) (through f) ours ∙ sym (kept_each f ours theirs)

  pub not_into : into ≡ false → closes_at a b f k ≡ false
  unfolding closes_at
  not_into e = ap (λ (t : Bool). t && all (λ (row : List ℕ). has_row row (map (through f) ours)) theirs) (is_into ∙ e)

  goes_into : into ≡ true → Into a b f k
  goes_into e row m =
      let r = all_mem (λ (row : List ℕ). has_row (through f row) theirs) ours (sym (kept_each f ours theirs) ∙ e) row m in
      subst (λ (v : List ℕ). Memᴰ v theirs) (through_map f row) (row_among (through f row) theirs r)

  -- it is the whole check where the map is one to one and the models are alike
  pub into_closes : AlikeModels a b → OneToOne a f → into ≡ true → closes_at a b f k ≡ true
  into_closes given one e = rows_check a b f k (goes_into e) (into_onto a b given f one k (goes_into e))
