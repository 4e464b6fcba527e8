use Rattle.std.proofs.Common.{sym, ap, refl, ◌∙◌}
use Rattle.std.specs.Option.{option_map}
use Rattle.c_tree.specs.Views.{node_of}
use Rattle.path_model.specs.CheckerModel.Calls.{out}
use Rattle.path_model.specs.CheckerPrograms.Texts.{function_of, site}
use Rattle.function_tables.specs.EngineTables.Known.{texts_in}
use Rattle.function_tables.proofs.EngineTables.Places.{place}
use Rattle.path_edges.specs.Edges.{no_site}
use Rattle.refine_restore.specs.Sites.{formals_of, site_of}
use Rattle.edge_rules.proofs.WaitRules.FoundCalls.{if-found, site-at-call, site-at-none}
use Rattle.edge_rules.proofs.WaitRules.OneTuple.{alike, without-formals}
use Rattle.edge_rules.proofs.wait_rules.waiting_sites.waiting_site.Goals as goal

pub returns-in-Some : goal.returns-in-Some
returns-in-Some c =
    let t = c.args.tables.now in
    let n = c.args.function in
    let b = c.args.block in
    let f = c.args.frame.now in
    let call = node_of c.in-Some.end.call.now in
    record {
      there = if-found _ _ c.site.result
          (λ s x k h.
          let p = place t n f k h in
          λ o. alike t.depth s (site t.depth (texts_in t) (function_of p.defined) call) (x p.defined p.is) o ∙ ap (λ r. out t.depth r o) (sym (site-at-call t n b f p call c.in-Some.end.behind c.in-Some.ensures)))
          c.site.ensures.there;
      missing = λ e. ap (option_map function_of) (c.site.ensures.missing e);
    }

pub returns-in-None : goal.returns-in-None
returns-in-None c =
    let t = c.args.tables.now in
    let n = c.args.function in
    let b = c.args.block in
    let f = c.args.frame.now in
    record {
      there = if-found _ _ c.passing_nothing.result
          (λ s x k h.
          let p = place t n f k h in
          λ o. without-formals t.depth (site_of t.depth s) no_site (ap formals_of x) refl o ∙ ap (λ r. out t.depth r o) (sym (site-at-none t n b f p c.in-None.ensures)))
          c.passing_nothing.ensures.there;
      missing = c.passing_nothing.ensures.missing;
    }
