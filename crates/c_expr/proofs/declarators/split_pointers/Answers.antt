use Rattle.std.proofs.Common.{◌∙◌, sym}
use Rattle.c_tree.specs.Symbol.{symbols_of}
use Rattle.c_expr.proofs.Standing.{split-kept}
use Rattle.c_expr.proofs.Steps.{pointer_run}
use Rattle.c_expr.proofs.declarators.split_pointers.Goals as goal

pub returns-in-Some-clause-pointers : goal.returns-in-Some-clause-pointers
returns-in-Some-clause-pointers c = c.split_run.ensures.run ∙ (pointer_run (symbols_of c.args.tokens.now) _ (sym c.in-Some.ensures.found)).0

pub returns-in-Some-clause-rest : goal.returns-in-Some-clause-rest
returns-in-Some-clause-rest c = c.split_run.ensures.rest ∙ (pointer_run (symbols_of c.args.tokens.now) _ (sym c.in-Some.ensures.found)).1

pub returns-in-None-clause-kept : goal.returns-in-None-clause-kept
returns-in-None-clause-kept c = split-kept 0 c.args.tokens.now _ _ c.split_at.ensures.front c.split_at.ensures.back
