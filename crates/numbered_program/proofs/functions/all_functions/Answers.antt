use Rattle.std.proofs.Common.{◌≡◌, ◌≤◌, ◌<◌, ◌∙◌, Some, None, length, slice_get, sym, ap, arith}
use Rattle.std.proofs.lemmas.Grind.{common_steps}
use Rattle.call_graph.specs.OfPrograms.Definitions.{definitions, trees_in}
use Rattle.numbered_engine.specs.declared.program.FunctionRows.{FunctionRows}
use Rattle.numbered_program.proofs.KnownRows.{functions_more}
use Rattle.numbered_program.proofs.ListSteps.{length_of_more}
use Rattle.path_model.proofs.CheckerGraphs.Units.{functions-are}
use Rattle.numbered_program.proofs.functions.all_functions.Goals as goal

none_yet : (r : FunctionRows) → None ≡ Some r → ⊥
none_yet r e = cc

pub loop-function-init : goal.loop-function-init
loop-function-init c = record {
  made = λ states known are roots n r e. absurd (none_yet r (sym (ap (λ l. slice_get l n) c.in_ok-functions.ensures.items) ∙ e));
  count = ap length c.in_ok-functions.ensures.items;
  within = omega arith;
}

pub loop-function-preserved : goal.loop-function-preserved
loop-function-preserved c =
    let at = c.loop-function in
    let further : at.function < length (definitions (trees_in c.args.tables.now.program.now.units.items)) = grind (arith, common_steps) in
    record {
      made = λ states known are roots.
          functions_more c.args.tables.now states at.function c.in_ok-rows.rows at.functions.items c.push.new.self.items (c.in_ok-rows.ensures states known are roots) at.invariant.count
          c.in_ok-push.ensures.items (at.invariant.made states known are roots);
      count = length_of_more at.functions.items c.push.new.self.items c.in_ok-rows.rows at.function c.in_ok-push.ensures.items at.invariant.count;
      within = grind (arith, further);
    }

pub returns : goal.returns
returns c = λ states known are roots.
    let at = c.loop-function in
    let units = c.args.tables.now.program.now.units.items in
    let end : at.function ≡ length (definitions (trees_in units)) = grind (arith, common_steps) in
    record { count = at.invariant.count ∙ end ∙ sym (ap length (functions-are units)); each = at.invariant.made states known are roots }
