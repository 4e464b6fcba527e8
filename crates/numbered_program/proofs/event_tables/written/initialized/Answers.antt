use Rattle.std.proofs.Common.{ap, ◌∙◌}
use Rattle.c_tree.specs.Views.{node_of}
use Rattle.numbered_program.proofs.EventTables.LeftSides.{initialized_writes}
use Rattle.numbered_program.specs.EventTables.Written.{base_of}
use Rattle.objects.specs.Units.{facts_in}
use Rattle.numbered_program.proofs.event_tables.written.initialized.Goals as goal

pub returns : goal.returns
returns c = c.base_of.ensures ∙ ap base_of c.object_of.ensures ∙ initialized_writes (facts_in c.args.unit.now) c.args.depth (node_of c.args.name.now) (node_of c.args.initial.now)
