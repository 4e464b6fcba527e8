use Rattle.std.proofs.Common.{◌∙◌, sym, ap, false}
use Rattle.std.specs.Option.{option_map}
use Rattle.type_rules.specs.Options.{if_there}
use Rattle.type_values.specs.Types.{ctype_of}
use Rattle.hole_matching.specs.Holes.{named_type}
use Rattle.hole_matching.specs.MatchedTypes.{matched_type, same_type}
use Rattle.tree_comparison.proofs.MatchedTypes.StarredTypes.{starred_type}
use Rattle.tree_comparison.proofs.matched_types.written.is_named_type.Goals as goal
use Rattle.metal_tree.specs.Views.{base_type_view}
use Rattle.objects.specs.Units.{facts_in}

pub returns-in-Some : goal.returns-in-Some
returns-in-Some c =
    let u = facts_in c.args.unit.now in
    let t = base_type_view c.args.named.now.base in
    c.is_base_type.ensures
    ∙ ap (λ o. if_there o false (λ x. same_type (matched_type u x) (named_type t))) (sym (ap (option_map ctype_of) c.in-Some.is) ∙ c.behind_stars.ensures)
    ∙ sym (starred_type u c.args.named.now.stars (ctype_of c.args.ty.now) t)

pub returns-in-None : goal.returns-in-None
returns-in-None c =
    let u = facts_in c.args.unit.now in
    let t = base_type_view c.args.named.now.base in
    ap (λ o. if_there o false (λ x. same_type (matched_type u x) (named_type t))) (sym (ap (option_map ctype_of) c.in-None.is) ∙ c.behind_stars.ensures)
    ∙ sym (starred_type u c.args.named.now.stars (ctype_of c.args.ty.now) t)
