use Rattle.std.proofs.Common.{◌∙◌}
use Rattle.metal_forms.proofs.InTypes.{alone-basic}
use Rattle.metal_forms.proofs.types.is_type_word.Goals as goal

pub returns : goal.returns
returns c = c.is_basic.ensures ∙ alone-basic c.args.word
