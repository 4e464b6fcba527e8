use Rattle.std.proofs.Common.{◌+◌, sym, ap, ◌∙◌, arith}
use Rattle.c_lexer.specs.CReading.Scans.{plus}
use Rattle.c_lexer.proofs.TokenGroups.{asm_more, asm_stops, asm_past}
use Rattle.c_lexer.proofs.stripping.qualifiers_from.Goals as goal

pub returns-then-not-is_qualifier-clause-found : goal.returns-then-not-is_qualifier-clause-found
returns-then-not-is_qualifier-clause-found c =
    let i = c.args.index + c.qualifying.count in
    let stops = asm_stops c.args.tokens.now i _ c.qualifying-test.true (sym c.if-not-is_qualifier.ensures) in
    sym c.qualifying.invariant.found ∙ ap (plus c.qualifying.count) stops

pub qualifying-preserved : goal.qualifying-preserved
qualifying-preserved c = record {
  within = let h = c.qualifying-test.true in omega arith;
  found = asm_more c.args.tokens.now c.args.index c.qualifying.count _ c.qualifying-test.true (sym c.if-not-is_qualifier.ensures) ∙ c.qualifying.invariant.found;
}

pub returns-clause-found : goal.returns-clause-found
returns-clause-found c =
    let i = c.args.index + c.qualifying.count in
    sym c.qualifying.invariant.found ∙ ap (plus c.qualifying.count) (asm_past c.args.tokens.now i c.qualifying-test.false)
