use Prim.Native.Nat.{ℕ}
use mathlib.Core.Path.{◌∙◌, ap}
use mathlib.Core.List.{List}
use Rattle.lists.proofs.Laws.Part.{part_ends}
use Rattle.rounds.specs.Board.{colours_on, line_of, code_of}
use Rattle.rounds.proofs.numbers.code_of.Invariants.{done, more}
use Rattle.rounds.proofs.numbers.code_of.Goals as goal

pub loop-x-preserved : goal.loop-x-preserved
loop-x-preserved c = more _ _ _ _ c.loop-x.invariant c.loop-x-test.true _ c.colour_of-colour.ensures

pub returns : goal.returns
returns c =
    let board = c.args.board.now in
    done _ _ _ _ c.loop-x.invariant c.loop-x-test.false ∙ ap (λ (row : List ℕ). code_of (line_of (colours_on board) row)) (part_ends board c.args.p c.args.arity)
