use Rattle.std.proofs.Common.{◌∙◌, ap, map}
use Rattle.numbered_program.specs.Rows.{LeadsOn}
use Rattle.numbered_program.specs.Views.{swapped}
use Rattle.numbered_program.proofs.endings.led_on.Goals as goal

pub returns : goal.returns
returns c = λ states f. LeadsOn c.args.targets.now c.in_ok-blocks.blocks (c.in_ok-blocks.ensures ∙ ap (λ b. map (swapped b) c.args.targets.now) c.entry.ensures.number)
