use Rattle.std.proofs.Common.{◌≡◌, ◌+◌, ◌<◌, ◌≤◌, ℕ, Bool, true, false, length, arith}
use Rattle.c_tree.specs.Views.{node_of}
use Rattle.c_grammar.specs.CPlaces.Lines.{line_of}
use Rattle.c_lexer.specs.CReading.Chunks.{EndsChunk}
use Rattle.c_parser.proofs.Chunks.{ends_inside, ends_last}
use Rattle.c_parser.proofs.PartStands.{stands_in_all}
use Rattle.c_parser.proofs.units.read_between.Goals as goal
use Rattle.c_parser.proofs.units.read_between.Goals.{else-to-all-via-then-to-all+else-not-cut, else-to-all-via-else-to-all}

pub returns-in-Ok-clause-parsed : goal.returns-in-Ok-clause-parsed
returns-in-Ok-clause-parsed c =
    let ts = c.args.all.now in
    let end = elim c.else-to-all.branch as (λ _. (k : ℕ) × (c.args.to ≡ k + 1) × EndsChunk ts k) [
      | else-to-all-via-then-to-all+else-not-cut w ↦ ends_last ts c.args.from c.args.to c.requires.chunk w.if-to-all.true (c.requires.cut.0 w.if-not-cut.false)
      | else-to-all-via-else-to-all w ↦
          let inside : c.args.to < length ts = let h = w.if-to-all.false in let i = c.requires.chunk.within in omega arith in
          ends_inside ts c.args.from c.args.to c.requires.chunk inside
    ] in
    record { parse = c.in-Ok.ensures.parsed; last = end.0; end = end.1; ends = end.2 }

pub returns-in-Ok-clause-stands : goal.returns-in-Ok-clause-stands
returns-in-Ok-clause-stands c =
    let order : c.args.from ≤ c.args.to = let h = c.requires.chunk.some in omega arith in
    stands_in_all (line_of (node_of c.in-Ok.tree.now)) _ _ c.args.from c.args.to c.args.all.now order c.in-Ok.ensures.stands
