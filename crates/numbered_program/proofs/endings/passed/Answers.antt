use Rattle.std.proofs.Common.{◌∙◌, ◌∷◌, [], ap}
use Rattle.numbered_program.specs.Rows.{PassesCall}
use Rattle.numbered_program.specs.Views.{swapped}
use Rattle.numbered_program.proofs.endings.passed.Goals as goal

pub returns : goal.returns
returns c = λ states f call none. PassesCall call c.args.next c.in_ok-blocks.blocks none (c.in_ok-blocks.ensures ∙ ap (λ b. swapped b c.args.next ∷ []) c.entry.ensures.number)
