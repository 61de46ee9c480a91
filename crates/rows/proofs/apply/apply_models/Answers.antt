-- `rows::apply::apply_models` meets its contract: each return is one case of `apply_models`; kN is the place after the N-th test. Assumes nothing.
use Prim.Native.Nat.{ℕ, ◌<◌}
use mathlib.Core.Path.{◌≡◌, sym, ◌∙◌, ap}
use mathlib.Core.Bool.{true}
use mathlib.Core.List.{List}
use native.Mathlib.Omega.{arith}
use lib.ListN.{length, get_or}
use Rattle.std.proofs.Common.{Ok}
use Rattle.stored.specs.Model.{Model, size, root_of}
use Rattle.stored.specs.Signature.{signature, same_signature}
use Rattle.stored.specs.File.{held}
use Rattle.stored.proofs.Laws.Reading.{reads_formed}
use Rattle.stored.proofs.Laws.WellFormed.{WellFormed}
use Rattle.rows.specs.Maps.{is_map}
use Rattle.rows.specs.Apply.{apply_models}
use Rattle.lists.proofs.Laws.Every.{get_d_inside}
use Rattle.rows.proofs.Laws.Given.{map_length, roomy}
use Rattle.rows.proofs.Laws.Outcome.{holds, fails}
use Rattle.rows.proofs.Laws.Apply.{apply_differing, apply_no_map, apply_unknown, apply_image}
use Rattle.rows.proofs.apply.apply_models.Goals as goal

-- the representative of an element that is known has an entry in the map
module _ (a b : Model) (formed : WellFormed a) (x : ℕ) (h : x < size a) (f : List ℕ) (mapped : is_map a b f ≡ true) (root : ℕ) (e : root ≡ root_of a x) where
  inside : root < length f
  inside = omega (arith, map_length a b f mapped, formed.root_known x h)

  image : same_signature (signature a) (signature b) ≡ true → Ok (record { 0 = get_or f root 0 }) ≡ apply_models f x a b
  image same =
      let there : get_or f root 0 ≡ get_or f (root_of a x) 255 = get_d_inside f root 0 255 inside ∙ ap (λ (y : ℕ). get_or f y 255) e in
      ap (λ (y : ℕ). Ok (record { 0 = y })) there ∙ sym (apply_image f x a b same mapped h)

pub returns-then-not-same_signature : goal.returns-then-not-same_signature
returns-then-not-same_signature c = sym (apply_differing _ _ _ _ (fails c.same_signature.ensures c.if-not-same_signature.true-raw))

pub is_map-requires : goal.is_map-requires
is_map-requires c = holds c.same_signature.ensures c.if-not-same_signature.false-raw

pub returns-then-not-is_map : goal.returns-then-not-is_map
returns-then-not-is_map c = sym (apply_no_map _ _ _ _ (holds c.same_signature.ensures c.if-not-same_signature.false-raw) (fails c.is_map.ensures c.if-not-is_map.true-raw))

pub returns-then-size-element : goal.returns-then-size-element
returns-then-size-element c =
    let same = holds c.same_signature.ensures c.if-not-same_signature.false-raw in
    let mapped = holds c.is_map.ensures c.if-not-is_map.false-raw in
    sym (apply_unknown _ _ _ _ same mapped (roomy c.size.ensures _ c.if-size-element.true))

pub bounds-map-at : goal.bounds-map-at
bounds-map-at c =
    let mapped = holds c.is_map.ensures c.if-not-is_map.false-raw in
    let known : c.args.element.0 < size (held c.args.source.now) = omega (arith, c.size.ensures, c.if-size-element.false) in
    inside _ _ (reads_formed _ _ c.args.source.now.reads) _ known _ mapped _ c.root_of-root.ensures

pub overflow_cast-result : goal.overflow_cast-result
overflow_cast-result c = omega (arith, c.type_inv.map c.root_of-root.result.0)

pub returns : goal.returns
returns c =
    let mapped = holds c.is_map.ensures c.if-not-is_map.false-raw in
    let same = holds c.same_signature.ensures c.if-not-same_signature.false-raw in
    let known : c.args.element.0 < size (held c.args.source.now) = omega (arith, c.size.ensures, c.if-size-element.false) in
    image _ _ (reads_formed _ _ c.args.source.now.reads) _ known _ mapped _ c.root_of-root.ensures same
