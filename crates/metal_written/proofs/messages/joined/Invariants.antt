use Rattle.std.proofs.Common.{◌≡◌, ◌++◌, drop, flat_map}
use Rattle.metal_grammar.specs.Words.{contents_of}
use Rattle.metal_written.specs.Written.{literal_views}
use Rattle.metal_written.proofs.messages.joined.Given as goal

abbrev pub invariant-loop-literal : goal.invariant-loop-literal
invariant-loop-literal l = l.bytes.items ++ flat_map (contents_of l.names) (literal_views (drop l.literal-index l.literals)) ≡ flat_map (contents_of l.names) (literal_views l.literals)
