use Rattle.std.proofs.Common.{arith}
use Rattle.c_tree.specs.declared.keyword.Keyword.TheVariants.{Auto}
use Rattle.type_values.proofs.BasicTypes.Counting.{occurrences-drop, occurrences-end}
use Rattle.type_values.proofs.basic_types.words.occurrences.Goals as goal

pub loop-found-preserved : goal.loop-found-preserved
loop-found-preserved c =
    let e = occurrences-drop c.args.word c.args.words.now c.loop-found.found-index Auto (omega arith) in
    let one = c.from-count.ensures in
    let same = c.same_keyword.ensures in
    let counted = c.loop-found.invariant.counted in
    grind arith

pub returns : goal.returns
returns c = let e = occurrences-end c.args.word c.args.words.now c.loop-found.found-index (omega arith) in omega (arith, e, c.loop-found.invariant.counted)
