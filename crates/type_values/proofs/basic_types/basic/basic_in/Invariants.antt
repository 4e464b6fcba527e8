use Rattle.std.proofs.Common.{◌≡◌, drop}
use Rattle.type_rules.specs.Specified.{basic_in}
use Rattle.type_values.specs.BasicTypes.Basics.{lines_of}
use Rattle.type_values.proofs.basic_types.basic.basic_in.Given as goal

-- the lines that are left decide
abbrev pub invariant-loop-line : goal.invariant-loop-line
invariant-loop-line l = basic_in l.words (lines_of (drop l.line-index l.lines)) ≡ basic_in l.words (lines_of l.lines)
