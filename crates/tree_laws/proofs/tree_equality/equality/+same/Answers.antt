use Rattle.std.proofs.Common.{arith}
use Rattle.c_tree.specs.Forget.{view}
use Rattle.c_tree.specs.declared.tree.Tree.{Tree}
use Rattle.tree_laws.specs.TreeEquality.Levels.{seen, seen_level}
use Rattle.tree_laws.proofs.TreeEquality.Rebuilt.{decided}
use Rattle.tree_laws.proofs.TreeEquality.SeenLevels.{listed_less, seen_differ}
use Rattle.tree_laws.proofs.TreeEquality.Sizes.{level_less}
use Rattle.tree_laws.proofs.tree_equality.equality.+same.Goals as goal

pub same_seen-returns : goal.same_seen-returns
same_seen-returns t c = decided _ _ _ (seen c.args.how (view c.args.a.now)) (seen c.args.other_how (view c.args.b.now)) c.seen-left.ensures c.seen-right.ensures c.same_levels.ensures

pub same_list-returns-then-all-others : goal.same_list-returns-then-all-others
same_list-returns-then-all-others t c = seen_differ c.args.how c.args.other_how c.args.a.now c.args.b.now c.if-all-others.true

pub same_seen-same_levels-requires : goal.same_seen-same_levels-requires
same_seen-same_levels-requires t c =
    let less = level_less (seen_level c.seen-left.result) (seen c.args.how (view c.args.a.now)) c.seen-left.ensures in
    grind (arith, less)

pub same_list-same_seen-requires : goal.same_list-same_seen-requires
same_list-same_seen-requires t c =
    let less = λ (d : Tree). listed_less c.args.how c.args.a.now d c.loop-i.i c.loop-i-test.true in
    grind (arith, less)
