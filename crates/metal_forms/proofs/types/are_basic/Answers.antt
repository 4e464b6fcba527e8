use Rattle.std.proofs.Common.{ap, ◌∙◌, arith}
use Rattle.c_tree.specs.Symbol.{symbols_of}
use Rattle.c_grammar.specs.Specifiers.{is_basic}
use Rattle.metal_forms.proofs.InTypes.{keywords-end, words-basic}
use Rattle.metal_forms.proofs.types.are_basic.Goals as goal

pub returns : goal.returns
returns c =
    let l = c.loop-word in
    c.is_basic.ensures ∙ ap is_basic c.as_slice.ensures.value
    ∙ words-basic (symbols_of c.args.words.now) l.keywords.items c.requires (keywords-end c.args.words.now l.word-index l.keywords.items _ (omega arith) l.invariant)
