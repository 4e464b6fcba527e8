use Rattle.std.proofs.Common.{◌∙◌, sym, ap, false}
use Rattle.std.specs.Option.{option_map}
use Rattle.c_tree.specs.Forget.{view, maybe_view}
use Rattle.type_rules.specs.Options.{if_there}
use Rattle.type_values.specs.Types.{ctype_of}
use Rattle.hole_matching.specs.MatchedTypes.{matched_type, same_type}
use Rattle.hole_matching.specs.Written.{written_specs}
use Rattle.tree_comparison.proofs.MatchedTypes.StarredTypes.{around_type}
use Rattle.tree_comparison.proofs.matched_types.written.is_written_type.Goals as goal
use Rattle.tree_comparison.specs.MatchedTypes.Stars.{behind_stars}
use Rattle.objects.specs.Units.{facts_in}

pub returns-in-Some : goal.returns-in-Some
returns-in-Some c =
    let u = facts_in c.args.unit.now in
    let t = written_specs (view c.args.specs.now) in
    let ty = ctype_of c.args.ty.now in
    c.is_specified.ensures
    ∙ ap (λ o. if_there o false (λ x. same_type (matched_type u x) t)) (sym (ap (option_map ctype_of) c.in-Some.is) ∙ c.behind_stars.ensures ∙ ap (λ n. behind_stars n ty) c.declared_stars.ensures)
    ∙ sym (around_type u ty (maybe_view c.args.declarator) t)

pub returns-in-None : goal.returns-in-None
returns-in-None c =
    let u = facts_in c.args.unit.now in
    let t = written_specs (view c.args.specs.now) in
    let ty = ctype_of c.args.ty.now in
    ap (λ o. if_there o false (λ x. same_type (matched_type u x) t)) (sym (ap (option_map ctype_of) c.in-None.is) ∙ c.behind_stars.ensures ∙ ap (λ n. behind_stars n ty) c.declared_stars.ensures)
    ∙ sym (around_type u ty (maybe_view c.args.declarator) t)
