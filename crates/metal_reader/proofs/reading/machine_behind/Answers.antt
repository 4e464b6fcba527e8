use Rattle.std.proofs.Common.{length, ap, sym, subst, arith}
use Rattle.metal_numbers.specs.MetalDeclared.DeclaredHoles.{declared_view, declared_views}
use Rattle.metal_written.specs.Placed.{placed_view, placed_views}
use Rattle.metal_written.specs.Written.{clause_views}
use Rattle.metal_numbers.specs.Numbers.{AreNamed}
use Rattle.metal_reader.proofs.Few.{few_holes, few_rules, lengths}
use Rattle.metal_reader.proofs.Named.{rules_named}
use Rattle.metal_reader.proofs.reading.machine_behind.Goals as goal

pub rules_of-requires-clause-few : goal.rules_of-requires-clause-few
rules_of-requires-clause-few c = few_rules (clause_views c.args.clauses.now) c.requires.fine

pub builder_of-requires-clause-holes : goal.builder_of-requires-clause-holes
builder_of-requires-clause-holes c =
    let few = few_holes c.args.names.now (clause_views c.args.clauses.now) c.requires.fine in
    let same = ap length c.in_ok-declared.ensures in
    let count = lengths declared_view c.in_ok-declared.declared.now in
    omega (arith, few, same, count)

pub builder_of-requires-clause-rules : goal.builder_of-requires-clause-rules
builder_of-requires-clause-rules c =
    let few = few_rules (clause_views c.args.clauses.now) c.requires.fine in
    let same = ap length c.in_ok-rules.ensures in
    let count = lengths placed_view c.in_ok-rules.rules.now in
    omega (arith, few, same, count)

pub made_of-requires-clause-named : goal.made_of-requires-clause-named
made_of-requires-clause-named c =
    let rules = placed_views c.in_ok-rules.rules.now in
    let named = rules_named c.in_ok-builder.builder.names.now (declared_views c.in_ok-declared.declared.now) rules c.in-Ok.ensures in
    subst (λ variables. AreNamed variables rules) (sym c.in_ok-builder.ensures.variables) named
