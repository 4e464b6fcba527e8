use Rattle.std.proofs.Common.{subst, ap, ◌∙◌}
use Rattle.block_flows.specs.TupleFlows.Moved.{AreObjects}
use Rattle.numbered_program.proofs.EventTables.OfEvents.{same_depth, same_touched, same_rows}
use Rattle.path_model.specs.CheckerModel.Choices.{is_exit}
use Rattle.numbered_program.proofs.event_tables.rows.event_row.Goals as goal

pub returns : goal.returns
returns c = λ m depth h f a index are.
    let n = c.args.numbering.now in
    let r = c.args.rules.now in
    record {
      touched = c.in_ok-touched.ensures index (subst (λ d. AreObjects d n.objects.now.keys) (same_depth m depth h f r a) are) ∙ same_touched m depth h f r a n.objects.now.keys;
      applied = c.in_ok-applied.ensures ∙ same_rows m depth h f r a n.objects.now.keys n.states.now.states.keys;
      end = c.is_exit.ensures ∙ ap is_exit a.event;
    }
