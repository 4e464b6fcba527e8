use Rattle.std.proofs.Common.{◌∙◌, sym}
use Rattle.type_rules.specs.Parts.{flat}
use Rattle.type_rules.proofs.Units.{right-at}
use Rattle.typed_unit.proofs.unit_places.theorems.facts_agree.Goals as goal

pub returns : goal.returns
returns c unit one other v r e h k t = right-at unit one v r (flat e) h t.stands t.kept ∙ sym (right-at unit other v r (flat e) k t.stands t.kept)
