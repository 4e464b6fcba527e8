use Rattle.std.proofs.Common.{◌∙◌, sym, arith}
use Rattle.c_tree.specs.declared.keyword.Keyword.TheVariants.{Auto}
use Rattle.type_values.proofs.BasicTypes.Counting.{as_often-differ, as_often-agree, as_often-end}
use Rattle.type_values.proofs.basic_types.words.as_often.Goals as goal

pub returns-then-occurrences : goal.returns-then-occurrences
returns-then-occurrences c =
    let e = as_often-differ c.args.words.now c.args.words.now c.args.others.now c.loop-word.word-index Auto (omega arith) (λ same. omega (arith, same, c.occurrences.ensures, c.occurrences-in-loop-word.ensures, c.if-occurrences.true)) in
    sym e ∙ c.loop-word.invariant

pub loop-word-preserved : goal.loop-word-preserved
loop-word-preserved c =
    as_often-agree c.args.words.now c.args.words.now c.args.others.now c.loop-word.word-index Auto (omega arith) (omega (arith, c.occurrences.ensures, c.occurrences-in-loop-word.ensures, c.if-occurrences.false))
    ∙ c.loop-word.invariant

pub returns : goal.returns
returns c = sym (as_often-end c.args.words.now c.args.words.now c.args.others.now c.loop-word.word-index (omega arith)) ∙ c.loop-word.invariant
