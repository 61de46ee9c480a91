-- `search::alike::alike` meets its contract: the classes of both sides are counted, then the rows of each relation. Assumes nothing.
use Rattle.search.proofs.Laws.Alike.{unlike_classes, alike_classes}
use Rattle.search.proofs.alike.alike.Goals as goal

pub returns-then-classes-other_classes : goal.returns-then-classes-other_classes
returns-then-classes-other_classes c = unlike_classes _ _ _ _ (c.args.both.now.left.reads, c.args.both.now.right.reads, c.args.both.now.one_signature) _ _ c.class_count-classes.ensures c.class_count-other_classes.ensures c.if-classes-other_classes.true

pub returns : goal.returns
returns c = alike_classes _ _ _ _ (c.args.both.now.left.reads, c.args.both.now.right.reads, c.args.both.now.one_signature) _ _ c.class_count-classes.ensures c.class_count-other_classes.ensures c.if-classes-other_classes.false _ c.same_row_counts.ensures
