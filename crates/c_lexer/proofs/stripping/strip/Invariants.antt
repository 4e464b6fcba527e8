use Rattle.std.proofs.Common.{◌≡◌, ◌-◌, ◌≤◌, ◌++◌, length, drop}
use Rattle.c_lexer.specs.CReading.Strip.{stripped_behind}
use Rattle.c_lexer.proofs.stripping.strip.Given as goal

abbrev pub invariant-going : goal.invariant-going
invariant-going l = record {
  within : l.index ≤ length l.all;
  found : l.kept.items ++ stripped_behind 0 (drop l.index l.all) ≡ stripped_behind 0 l.all;
}

abbrev pub decreases-going : goal.decreases-going
decreases-going l = length l.all - l.index
