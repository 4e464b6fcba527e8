use Rattle.std.proofs.Common.{◌≡◌, ◌+◌, ◌<◌, length, sym, ap, ◌∙◌, subst, arith}
use Rattle.std.proofs.lemmas.Grind.{common_steps}
use Rattle.std.proofs.lemmas.List.{length_push}
use Rattle.typed_unit.specs.Texts.{texts_of}
use Rattle.metal_tree.specs.Whole.{machine_view}
use Rattle.call_graph.specs.OfPrograms.Definitions.{definitions, trees_in}
use Rattle.root_functions.proofs.Listing.{callees_next, lead_next}
use Rattle.root_functions.proofs.callees.all_callees.Goals as goal

pub loop-number-preserved : goal.loop-number-preserved
loop-number-preserved c =
    let units = c.args.program.now.units.items in
    let row = c.in_ok-callees.callees in
    let old = c.loop-number.rows.items in
    let new = c.push.new.self.items in
    let known = c.loop-number.invariant in
    record {
      count = ap length c.in_ok-push.ensures.items ∙ length_push old row ∙ ap (λ n. n + 1) known.count;
      exact = callees_next (machine_view c.args.machine.now) (texts_of units) c.loop-number.number row old new known.count c.in_ok-push.ensures.items c.in_ok-callees.ensures.exact known.exact;
      below = lead_next (length (definitions (trees_in units))) row old new c.in_ok-push.ensures.items c.in_ok-callees.ensures.below known.below;
    }

pub returns-clause-stays : goal.returns-clause-stays
returns-clause-stays c =
    let each : length c.loop-number.rows.items ≡ length (definitions (trees_in c.args.program.now.units.items)) = grind (arith, common_steps) in
    λ f g s. subst (λ n. g < n) (sym each) (c.loop-number.invariant.below f g s)
