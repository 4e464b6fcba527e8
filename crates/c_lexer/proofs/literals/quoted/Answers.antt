use Rattle.std.proofs.Common.{◌∙◌, arith}
use Rattle.std.proofs.lemmas.Grind.{common_steps}
use Rattle.c_lexer.proofs.CReading.Scans.{quoted-next, quoted-behind}
use Rattle.c_lexer.proofs.literals.quoted.Goals as goal

pub going-preserved : goal.going-preserved
going-preserved c = record {
  found = quoted-next c.args.quote c.going.count c.going.rest.now c.in-len1-up.len_at_least c.if-front-quote.false c.if-front-eq10.false c.if-front-eq92.false ∙ c.going.invariant.found;
  left = grind (arith, common_steps);
}

pub going-preserved-then-front-eq92 : goal.going-preserved-then-front-eq92
going-preserved-then-front-eq92 c = record {
  found = quoted-behind c.args.quote c.going.count c.going.rest.now c.in-len1-up.len_at_least c.in-len1-up-behind.len_at_least c.if-front-quote.false c.if-front-eq10.false c.if-front-eq92.true c.if-escaped-eq10.false ∙ c.going.invariant.found;
  left = grind (arith, common_steps);
}
