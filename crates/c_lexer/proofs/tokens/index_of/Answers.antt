use Rattle.std.proofs.Common.{◌≤◌, ◌<◌, ◌+◌, ◌-◌, ◌/◌, length, arith}
use Rattle.c_lexer.specs.Tokens.{number_at}
use Rattle.c_lexer.proofs.Positions.{at_number, smaller_up_to, larger_from}
use Rattle.c_lexer.proofs.tokens.index_of.Goals as goal

pub halving-preserved-then-tokens-middle : goal.halving-preserved-then-tokens-middle
halving-preserved-then-tokens-middle c =
    let tokens = c.args.tokens.now in
    let middle = c.halving.low + (c.halving.high - c.halving.low) / 2 in
    let v = c.halving.invariant in
    let within : middle < length tokens = let a = v.within in let b = c.halving-test.true in omega arith in
    let at_middle = at_number tokens middle _ within in
    let smaller : number_at tokens middle < c.args.number = rw at_middle c.if-tokens-middle.true in
    record {
      within = v.within;
      order = let b = c.halving-test.true in omega arith;
      below = smaller_up_to tokens c.requires.0 middle c.args.number c.requires.1 within smaller;
      above = v.above;
    }

pub halving-preserved : goal.halving-preserved
halving-preserved c =
    let tokens = c.args.tokens.now in
    let middle = c.halving.low + (c.halving.high - c.halving.low) / 2 in
    let v = c.halving.invariant in
    let within : middle < length tokens = let a = v.within in let b = c.halving-test.true in omega arith in
    let at_middle = at_number tokens middle _ within in
    let larger : c.args.number ≤ number_at tokens middle = rw at_middle c.if-tokens-middle.false in
    record {
      within = omega arith;
      order = omega arith;
      below = v.below;
      above = larger_from tokens c.requires.0 middle c.args.number c.requires.1 larger;
    }
