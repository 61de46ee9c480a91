-- "Roots, tag 02: n bytes, the representative of each element. It has the same type and is its own representative."
use Rattle.std.specs.Prelude.{ℕ, Bool, ◌&&◌, List, length, get_or, ltb, eqb}
use Rattle.lists.specs.Every.{all}
use Rattle.lists.specs.Numbers.{sum, up_from}
use Rattle.stored.specs.Types.{type_in}

-- the rules for the representative of one element
unfoldable pub root_holds : List ℕ → List ℕ → ℕ → Bool
root_holds sizes roots x =
    ltb (get_or roots x 0) (length roots)
    && (eqb (type_in sizes (get_or roots x 0)) (type_in sizes x)
    && eqb (get_or roots (get_or roots x 0) 0) (get_or roots x 0))

-- the rules for the value of Roots
unfoldable pub roots_hold : List ℕ → List ℕ → Bool
roots_hold sizes roots =
    eqb (length roots) (sum sizes)
    && all (root_holds sizes roots) (up_from 0 (length roots))
