use Rattle.std.proofs.Common.{◌≡◌, take, map}
use Rattle.metal_grammar.specs.Meaning.{number_in}
use Rattle.metal_written.specs.Written.{identifier_view}
use Rattle.metal_numbers.proofs.metal_building.building.Builder.arguments.Given as goal

abbrev pub invariant-loop-identifier : goal.invariant-loop-identifier
invariant-loop-identifier l = l.arguments.items ≡ map (λ argument. number_in l.self.numbering.holes.now argument.1) (map identifier_view (take l.identifier-index l.identifiers))
