use Rattle.std.proofs.Common.{ap, ◌∙◌}
use Rattle.c_tree.specs.Views.{node_of}
use Rattle.numbered_program.proofs.EventTables.LeftSides.{assigned_writes}
use Rattle.numbered_program.specs.EventTables.Written.{base_of}
use Rattle.objects.specs.Units.{facts_in}
use Rattle.numbered_program.proofs.event_tables.written.assigned.Goals as goal

pub returns : goal.returns
returns c = λ right. c.base_of.ensures ∙ ap base_of c.object_of.ensures ∙ assigned_writes (facts_in c.args.unit.now) c.args.depth c.args.op (node_of c.args.left.now) right
