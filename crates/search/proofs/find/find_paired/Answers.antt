-- `search::find::find_paired` meets its contract: the pairs give partners, in the fronts of two blank tables, or clash. In what follows k is the place
-- where both tables are made, g the place after the partners are given. Assumes nothing.
use mathlib.Core.Path.{◌∙◌, ap}
use Rattle.search.specs.Answer.{ended}
use Rattle.search.specs.Find.{searched}
use Rattle.search.proofs.Laws.Outcome.{gives_none, passes_on}
use Rattle.search.proofs.Laws.Tables.{given_clash, given_partners}
use Rattle.search.proofs.Theorems.Asked.{searched_clash}
use Rattle.search.proofs.find.find_paired.Goals as goal

pub returns-then-not-give_partners : goal.returns-then-not-give_partners
returns-then-not-give_partners c =
    let p = c.requires in
    let clashes = given_clash _ _ _ _ c.args.both.now.left.reads c.args.both.now.right.reads _ _ c.no_images-to_right.ensures c.no_images-to_left.ensures _ _ _ _ c.give_partners.ensures c.if-not-give_partners.true in
    let it = gives_none _ _ _ _ (ap ended (ap (searched _ _ _) clashes ∙ searched_clash _ _ _)) c.clear.ensures in
    record { answer = it.0; output = it.1.0; work = it.1.1 }

pub find_matched-requires : goal.find_matched-requires
find_matched-requires c =
    let p = c.requires in
    let gives = given_partners _ _ _ _ c.args.both.now.left.reads c.args.both.now.right.reads _ _ c.no_images-to_right.ensures c.no_images-to_left.ensures _ _ _ _ c.give_partners.ensures c.if-not-give_partners.false c.give_partners.auto.to_right c.give_partners.auto.to_left in
    (p.0, p.1, (c.args.pairs.now, p.2, gives), p.3, p.4)

pub returns : goal.returns
returns c =
    let p = c.requires in
    let gives = given_partners _ _ _ _ c.args.both.now.left.reads c.args.both.now.right.reads _ _ c.no_images-to_right.ensures c.no_images-to_left.ensures _ _ _ _ c.give_partners.ensures c.if-not-give_partners.false c.give_partners.auto.to_right c.give_partners.auto.to_left in
    let it = passes_on _ _ _ _ _ _ _ (ap ended (ap (searched _ _ _) gives)) (c.find_matched.ensures.answer, (c.find_matched.ensures.output, c.find_matched.ensures.work)) in
    record { answer = it.0; output = it.1.0; work = it.1.1 }
