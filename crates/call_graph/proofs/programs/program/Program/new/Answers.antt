use Rattle.std.proofs.Common.{◌∙◌}
use Rattle.std.proofs.Math.Logic.{∥∥₁_map}
use Rattle.call_graph.specs.OfPrograms.Definitions.{definitions, trees_in}
use Rattle.call_graph.proofs.OfPrograms.Apart.{linked-apart}
use Rattle.call_graph.proofs.programs.program.Program.new.Goals as goal

pub invariant_of-result : goal.invariant_of-result
invariant_of-result c = record {
  numbered = c.requires.numbered;
  listed = ∥∥₁_map (c.units_are_listed.ensures c.args.units.items) (λ e. c.requires.listed ∙ e);
  few = c.requires.few;
  apart = linked-apart (definitions (trees_in c.args.units.items)) c.requires.linked;
}
