use Rattle.std.proofs.Common.{Some, ap, sym, ◌∙◌, arith}
use Rattle.report_model.proofs.OfReporters.Places.{if_ok, read_here, set_kept, set_others, set_here}
use Rattle.report_model.proofs.reporters.chosen.render_at.Goals as goal

pub returns-clause-names : goal.returns-clause-names
returns-clause-names g c = set_kept _ c.args.reporters.now.items c.args.index c.render_box.new.reporter c.index_mut.result.now (omega (arith, c.args.reporters.now.ok.0)) c.index_mut.ensures.value c.render_box.ensures.same_name

pub returns-clause-styles : goal.returns-clause-styles
returns-clause-styles g c = set_kept _ c.args.reporters.now.items c.args.index c.render_box.new.reporter c.index_mut.result.now (omega (arith, c.args.reporters.now.ok.0)) c.index_mut.ensures.value c.render_box.ensures.style

pub returns-clause-others : goal.returns-clause-others
returns-clause-others g c k ne = set_others _ c.args.reporters.now.items c.args.index c.render_box.new.reporter k ne

pub returns-clause-empty : goal.returns-clause-empty
returns-clause-empty g c =
    let here = set_here _ c.args.reporters.now.items c.args.index c.render_box.new.reporter (omega (arith, c.args.reporters.now.ok.0)) in
    if_ok c.render_box.result _ _ (λ _ e. here ∙ ap Some e) c.render_box.ensures.empty

pub returns-clause-text : goal.returns-clause-text
returns-clause-text g c =
    let here = read_here _ c.args.reporters.now.items c.args.index c.index_mut.result.now (omega (arith, c.args.reporters.now.ok.0)) c.index_mut.ensures.value in
    if_ok c.render_box.result _ _ (λ _ e. here ∙ ap Some (sym e)) c.render_box.ensures.text
