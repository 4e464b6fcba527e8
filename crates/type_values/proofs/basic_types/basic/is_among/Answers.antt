use Rattle.std.proofs.Common.{◌∙◌, sym, ap, ◌||◌, drop, ◌+◌, arith}
use Rattle.c_grammar.specs.Specifiers.{is_among}
use Rattle.type_values.specs.BasicTypes.Basics.{words_of}
use Rattle.type_values.proofs.BasicTypes.Counting.{is_among-drop, is_among-end}
use Rattle.type_values.proofs.basic_types.basic.is_among.Goals as goal

pub returns-then-same_words : goal.returns-then-same_words
returns-then-same_words c =
    let e = is_among-drop c.args.words.now c.args.lines.now c.loop-line.line-index _ (omega arith) in
    let found = c.if-same_words.true in
    let same = c.same_words.ensures in
    sym (e ∙ ap (λ b. b || is_among c.args.words.now (words_of (drop (c.loop-line.line-index + 1) c.args.lines.now))) (sym same ∙ found)) ∙ c.loop-line.invariant

pub loop-line-preserved : goal.loop-line-preserved
loop-line-preserved c =
    let e = is_among-drop c.args.words.now c.args.lines.now c.loop-line.line-index _ (omega arith) in
    let found = c.if-same_words.false in
    let same = c.same_words.ensures in
    sym (e ∙ ap (λ b. b || is_among c.args.words.now (words_of (drop (c.loop-line.line-index + 1) c.args.lines.now))) (sym same ∙ found)) ∙ c.loop-line.invariant

pub returns : goal.returns
returns c = sym (is_among-end c.args.words.now c.args.lines.now c.loop-line.line-index (omega arith)) ∙ c.loop-line.invariant
