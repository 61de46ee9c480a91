-- `rows::maps::entry_holds` meets its contract: each `return` is one case of the rules for one entry. Assumes nothing.
use Prim.Native.Nat.{ℕ, ◌<◌}
use mathlib.Core.Path.{◌≡◌, sym, ap, ap₂, ◌∙◌}
use mathlib.Core.Bool.{Bool, true, false}
use mathlib.Core.List.{List}
use native.Mathlib.Omega.{arith}
use lib.Dec.{eqb}
use lib.ListN.{length, get_or}
use Rattle.stored.specs.Types.{type_in}
use Rattle.stored.specs.Model.{is_rep_in}
use Rattle.rows.specs.Maps.{entry_in}
use Rattle.lists.proofs.Laws.Every.{get_d_inside}
use Rattle.rows.proofs.Laws.Maps.{entry_alias, entry_no_image, entry_image}
use Rattle.rows.proofs.maps.entry_holds.Goals as goal

module _ (types roots types' roots' f : List ℕ) (x : ℕ) (h : x < length f) (own : Bool) (e : own ≡ is_rep_in roots x) where
  there : get_or f x 0 ≡ get_or f x 255
  there = get_d_inside f x 0 255 h

  alias : own ≡ false → eqb (get_or f x 0) 255 ≡ entry_in types roots types' roots' f x
  alias n = ap (λ (y : ℕ). eqb y 255) there ∙ sym (entry_alias types roots types' roots' f x (sym e ∙ n))

  module _ (its : Bool) (k : its ≡ is_rep_in roots' (get_or f x 0)) (o : own ≡ true) where
    image : is_rep_in roots' (get_or f x 255) ≡ its
    image = sym (k ∙ ap (is_rep_in roots') there)

    outside : its ≡ false → false ≡ entry_in types roots types' roots' f x
    outside n = sym (entry_no_image types roots types' roots' f x (sym e ∙ o) (image ∙ n))

    typed : its ≡ true → (s t : ℕ) → s ≡ type_in types' (get_or f x 0) → t ≡ type_in types x → eqb s t ≡ entry_in types roots types' roots' f x
    typed q s t u v =
        ap₂ eqb (u ∙ ap (type_in types') there) v
        ∙ sym (entry_image types roots types' roots' f x (sym e ∙ o) (image ∙ q))

pub returns-then-not-is_rep : goal.returns-then-not-is_rep
returns-then-not-is_rep c = alias _ _ _ _ _ _ c.requires.2 _ c.is_rep.ensures c.if-not-is_rep.true

pub overflow_cast-y : goal.overflow_cast-y
overflow_cast-y c = omega (arith, c.type_inv.map c.args.x)

pub returns-then-not-is_rep-2 : goal.returns-then-not-is_rep-2
returns-then-not-is_rep-2 c = outside _ _ _ _ _ _ c.requires.2 _ c.is_rep.ensures _ c.is_rep-2.ensures c.if-not-is_rep.false c.if-not-is_rep-2.true

pub overflow_cast-y-2 : goal.overflow_cast-y-2
overflow_cast-y-2 c = omega (arith, c.type_inv.map c.args.x)

pub returns : goal.returns
returns c =
    typed _ _ _ _ _ _ c.requires.2 _ c.is_rep.ensures _ c.is_rep-2.ensures c.if-not-is_rep.false c.if-not-is_rep-2.false _ _
    c.type_in-its_type.ensures c.type_in-own_type.ensures
