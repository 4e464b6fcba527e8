use Rattle.std.proofs.Common.{None, cond, sym, ap, ◌∙◌}
use Rattle.c_objects.specs.ObjectOf.{object_of}
use Rattle.c_tree.specs.Views.{node_of}
use Rattle.numbered_program.proofs.EventTables.LeftSides.{stepped_writes}
use Rattle.numbered_program.specs.EventTables.Written.{base_of}
use Rattle.objects.specs.Units.{facts_in}
use Rattle.numbered_program.proofs.event_tables.written.stepped.Goals as goal

pub returns-then-not-is_step : goal.returns-then-not-is_step
returns-then-not-is_step c =
    let o = object_of (facts_in c.args.unit.now) c.args.depth (node_of c.args.operand.now) in
    sym (ap (λ b. cond b (base_of o) None) (sym c.is_step.ensures ∙ c.if-not-is_step.true)) ∙ stepped_writes (facts_in c.args.unit.now) c.args.depth c.args.op (node_of c.args.operand.now)

pub returns : goal.returns
returns c =
    let o = object_of (facts_in c.args.unit.now) c.args.depth (node_of c.args.operand.now) in
    c.base_of.ensures ∙ ap base_of c.object_of.ensures
    ∙ sym (ap (λ b. cond b (base_of o) None) (sym c.is_step.ensures ∙ c.if-not-is_step.false)) ∙ stepped_writes (facts_in c.args.unit.now) c.args.depth c.args.op (node_of c.args.operand.now)
