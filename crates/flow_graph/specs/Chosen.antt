-- The blocks of a choice whose last two operands lead on this way.
use Rattle.std.specs.Prelude.{List}
use Rattle.flow_graph.specs.CPaths.Forms.{Form}
use Rattle.flow_graph.specs.CPaths.Fragments.{Way, ToEither}
use Rattle.flow_graph.specs.CPaths.Building.{Draft, Made, form_blocks}

abbrev pub chosen_blocks : Form → Form → Form → Way → List Draft → Made
chosen_blocks x y z way ds =
    let d = form_blocks y way ds in
    let e = form_blocks z way d.drafts in
    form_blocks x (ToEither d.block e.block) e.drafts
