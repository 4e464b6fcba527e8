use Rattle.c_lexer.proofs.CReading.ClassKinds.{kind-punctuator}
use Rattle.c_lexer.proofs.spellings.sign.Goals as goal

pub returns : goal.returns
returns c = let e = c.in-Some.ensures in (e.0, e.2, e.3, kind-punctuator c.args.mode _ c.in-Some.found e.1)
