use Rattle.std.proofs.Common.{◌∙◌, sym, ap}
use Rattle.c_tree.specs.Forget.{list_view}
use Rattle.type_values.specs.Types.{ctype_of}
use Rattle.type_rules.specs.Specified.{basic_type}
use Rattle.hole_matching.specs.MatchedTypes.{matched_type, without_tags, same_type, basic}
use Rattle.hole_matching.specs.Written.{words_of}
use Rattle.tree_comparison.proofs.MatchedTypes.OnlyTags.{by_tag, said}
use Rattle.tree_comparison.proofs.MatchedTypes.WrittenWords.{five_words}
use Rattle.tree_comparison.proofs.matched_types.written.is_listed.Goals as goal
use Rattle.objects.specs.Units.{facts_in}

pub returns-in-None : goal.returns-in-None
returns-in-None c =
    let t = matched_type (facts_in c.args.unit.now) (ctype_of c.args.ty.now) in
    let es = list_view c.args.items.now in
    c.is_basic.ensures
    ∙ ap (λ b. same_type t (without_tags b)) (c.basic_type.ensures ∙ ap basic_type (c.as_slice.ensures ∙ c.words_of.ensures) ∙ five_words (words_of es))
    ∙ sym (ap (same_type t) (by_tag es ∙ ap (λ o. said o (basic (words_of es))) (sym c.only_tag.ensures ∙ c.in-None.is)))

pub returns-in-Some : goal.returns-in-Some
returns-in-Some c =
    let t = matched_type (facts_in c.args.unit.now) (ctype_of c.args.ty.now) in
    let es = list_view c.args.items.now in
    c.is_tagged.ensures
    ∙ sym (ap (same_type t) (by_tag es ∙ ap (λ o. said o (basic (words_of es))) (sym c.only_tag.ensures ∙ c.in-Some.is)))
