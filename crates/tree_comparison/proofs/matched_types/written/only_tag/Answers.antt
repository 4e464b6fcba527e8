use Rattle.std.proofs.Common.{◌∙◌, sym, ap}
use Rattle.c_tree.proofs.Rows.{nodes_out}
use Rattle.c_tree.specs.declared.tree.Trees.{out-Trees}
use Rattle.c_tree.specs.Forget.{syntaxes_of}
use Rattle.tree_comparison.proofs.MatchedTypes.OnlyTags.{only_one, not_one}
use Rattle.tree_comparison.proofs.matched_types.written.only_tag.Goals as goal
use Rattle.tree_comparison.specs.MatchedTypes.Stars.{only_tag}

pub returns-then-all-eq1 : goal.returns-then-all-eq1
returns-then-all-eq1 c =
    c.tag_in.ensures
    ∙ only_one (out-Trees c.args.items.now).all.now _ c.if-all-eq1.true
    ∙ sym (ap (λ ns. only_tag (syntaxes_of ns)) (nodes_out c.args.items.now))

pub returns-else-all-eq1 : goal.returns-else-all-eq1
returns-else-all-eq1 c =
    not_one (out-Trees c.args.items.now).all.now c.if-all-eq1.false
    ∙ sym (ap (λ ns. only_tag (syntaxes_of ns)) (nodes_out c.args.items.now))
