-- What rules are built with.
use Rattle.metal_grammar.specs.Meaning as meaning
use Rattle.metal_written.specs.Texts.{AreRight}
use Rattle.metal_numbers.specs.declared.metal_building.building.Builder.{Builder}
use Rattle.metal_numbers.specs.Numbers.{numbering_in, IsNumbering}

abbrev pub numbers : Builder → meaning.Numbering
numbers b = numbering_in b.names.now b.numbering

-- Its numbers are those of the text, and the texts of callouts have those of their names.
pub record IsRight (b : Builder) : Type 0 where
  pub numbering : IsNumbering b.names.now b.numbering
  pub texts : AreRight b.names.now b.texts.now
