use Rattle.std.proofs.Common.{◌≡◌, ℕ, Some, ap, ◌∙◌, sym}
use Rattle.indexmap.specs.IndexMap.{get}
use Rattle.metal_grammar.specs.Words.{name_spelled}
use Rattle.metal_written.specs.Texts.{same_key, contents_behind}
use Rattle.metal_written.proofs.texts.Texts.number_of.Goals as goal

pub returns-in-Some : goal.returns-in-Some
returns-in-Some c =
    let names = c.args.names.now in
    let key : ℕ × ℕ = (c.args.literal.name, c.up_to_contents.result) in
    let found : get same_key c.args.self.now.numbers key ≡ Some c.in-Some.number = sym c.get.ensures.value ∙ sym c.copied.ensures ∙ c.in-Some.is in
    (c.requires key c.in-Some.number found).number ∙ ap (λ u. name_spelled names (contents_behind names (c.args.literal.name, u))) c.up_to_contents.ensures
