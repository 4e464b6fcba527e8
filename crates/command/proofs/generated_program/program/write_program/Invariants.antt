-- the lines of the numbers so far were appended
use Rattle.std.proofs.Common.{◌≡◌, ◌++◌, flat_map}
use Rattle.std.specs.List.{range_with_len}
use Rattle.command.specs.GeneratedProgram.Generated.{line_of}
use Rattle.command.proofs.generated_program.program.write_program.Given as goal

abbrev pub invariant-loop-number : goal.invariant-loop-number
invariant-loop-number l = l.into ≡ l.initial.into ++ flat_map (line_of l.count) (range_with_len 0 l.number)
