-- `rows::maps::unkept` meets its contract: the images that are written over the front of the array are those of all elements. Assumes nothing.
use Prim.Native.Nat.{ℕ, ◌≤◌}
use mathlib.Core.Path.{◌≡◌, refl, sym, ap, ◌∙◌}
use mathlib.Core.List.{List, ◌++◌}
use native.Mathlib.Omega.{arith}
use lib.ListN.{length, take, drop}
use lib.Seq.{length-take-le}
use Rattle.lists.specs.Part.{over}
use Rattle.lists.proofs.Laws.Over.{over_whole, back_room, back_front}
use Rattle.stored.specs.Model.{Model, size}
use Rattle.stored.proofs.Laws.Reading.{reads_formed}
use Rattle.stored.proofs.Laws.WellFormed.{WellFormed}
use Rattle.rows.specs.Rows.{through, images_of, first_unkept_by}
use Rattle.rows.proofs.Laws.Rows.{length_through, images_through}
use Rattle.rows.proofs.maps.unkept.Goals as goal

-- an array of 64 bytes has room for an image of each of n elements
module _ (m : Model) (formed : WellFormed m) (n : ℕ) (e : n ≡ size m) (array : List ℕ) (long : length array ≡ 64) where
  fits : n ≤ length array
  fits = omega (arith, formed.few_elements)

  front : n ≡ length (take n array)
  front = sym (length-take-le n array fits)

  module _ (roots : List ℕ) (w : roots ≡ m.roots) where
    as_long : length roots ≡ length (take n array)
    as_long = ap length w ∙ formed.roots_length ∙ sym e ∙ front

    room : length roots ≤ length (take n array)
    room = omega (arith, as_long)

    -- the images, written over the front of the array
    module _ (f new : List ℕ) (u : new ≡ over (through f roots) (take n array)) where
      whole : new ≡ through f roots
      whole = u ∙ over_whole (through f roots) (take n array) (length_through f roots ∙ as_long)

      new_long : length new ≡ length (take n array)
      new_long = ap length whole ∙ length_through f roots ∙ as_long

      still_fits : n ≤ length (new ++ drop n array)
      still_fits = back_room n array new fits new_long

      still_front : n ≡ length (take n (new ++ drop n array))
      still_front = sym (length-take-le n (new ++ drop n array) still_fits)

      images : take n (new ++ drop n array) ≡ images_of m f
      images = back_front n array new fits new_long ∙ whole ∙ ap (through f) w ∙ images_through m f

pub slice_bounds-images-end : goal.slice_bounds-images-end
slice_bounds-images-end c = omega (arith, c.size-n.ensures, (reads_formed _ _ c.args.source.now.reads).few_elements)

pub slice_bounds-write_through-end : goal.slice_bounds-write_through-end
slice_bounds-write_through-end c = front _ (reads_formed _ _ c.args.source.now.reads) _ c.size-n.ensures _ refl

pub write_through-requires : goal.write_through-requires
write_through-requires c = room _ (reads_formed _ _ c.args.source.now.reads) _ c.size-n.ensures _ refl _ c.roots.ensures

pub slice_bounds-images-end-2 : goal.slice_bounds-images-end-2
slice_bounds-images-end-2 c = still_fits _ (reads_formed _ _ c.args.source.now.reads) _ c.size-n.ensures _ refl _ c.roots.ensures _ _ c.write_through.ensures

pub slice_bounds-first_unkept-end : goal.slice_bounds-first_unkept-end
slice_bounds-first_unkept-end c = still_front _ (reads_formed _ _ c.args.source.now.reads) _ c.size-n.ensures _ refl _ c.roots.ensures _ _ c.write_through.ensures

pub returns : goal.returns
returns c =
    c.first_unkept.ensures
    ∙ ap (first_unkept_by _ _) (images _ (reads_formed _ _ c.args.source.now.reads) _ c.size-n.ensures _ refl _ c.roots.ensures _ _ c.write_through.ensures)
