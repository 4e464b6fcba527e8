use Rattle.std.proofs.Common.{◌≡◌, ◌+◌, ◌-◌, cond, length, drop, ap, ◌∙◌, arith, length-drop}
use Rattle.metal_grammar.specs.Words.{all_but_last}
use Rattle.metal_written.proofs.InWords.{all-but-last}
use Rattle.metal_written.proofs.words.contents_of.Goals as goal

pub returns : goal.returns
returns c =
    let text = c.spelled-text.result.now in
    let from = c.up_to_contents-from.result in
    let long = c.if-text-from.false in
    let e : length text - 1 - from + 1 ≡ length (drop from text) = omega (arith, length-drop from text) in
    all-but-last (drop from text) (length text - 1 - from) e
    ∙ ap (λ k. all_but_last (drop k text)) c.up_to_contents-from.ensures
    ∙ ap (λ t. all_but_last (drop (cond c.args.literal.wide 2 1) t)) c.spelled-text.ensures
