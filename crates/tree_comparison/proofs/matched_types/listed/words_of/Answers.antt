use Rattle.std.proofs.Common.{◌+◌, ◌++◌, ◌∙◌, sym, ap, take, drop}
use Rattle.std.proofs.lemmas.List.{drop_all}
use Rattle.c_tree.proofs.Rows.{nodes_drop}
use Rattle.c_tree.specs.declared.tree.Trees.{out-Trees}
use Rattle.c_tree.specs.Forget.{syntaxes_of, view_all}
use Rattle.hole_matching.specs.Written.{words_of}
use Rattle.tree_comparison.proofs.MatchedTypes.WrittenWords.{word_kept, no_word, few_kept}
use Rattle.tree_comparison.proofs.matched_types.listed.words_of.Goals as goal
use Rattle.tree_comparison.proofs.matched_types.listed.words_of.Goals.{in-Some, in_default}
use Rattle.tree_comparison.specs.MatchedTypes.Words.{words_in}

pub loop-item-preserved : goal.loop-item-preserved
loop-item-preserved c =
    let items = (out-Trees c.args.items.now).all.now in
    let old = words_in c.loop-item.words in
    let left = view_all (drop (c.loop-item.item-index + 1) items) in
    elim c.match-keyword_in.branch [
      | in-Some w ↦
          word_kept old (words_in c.match-keyword_in.words) w.in-Some.keyword _ left (ap words_in w.words-is ∙ w.push.ensures) (sym c.keyword_in.ensures ∙ w.in-Some.is)
          ∙ ap (λ es. take 5 (old ++ words_of es)) (ap syntaxes_of (sym (nodes_drop items c.loop-item.item-index _ c.loop-item-test.true)))
          ∙ c.loop-item.invariant
      | in_default w ↦
          ap (λ ws. take 5 (words_in ws ++ words_of left)) w.words-is
          ∙ no_word old _ left (sym c.keyword_in.ensures ∙ w.in_default.is)
          ∙ ap (λ es. take 5 (old ++ words_of es)) (ap syntaxes_of (sym (nodes_drop items c.loop-item.item-index _ c.loop-item-test.true)))
          ∙ c.loop-item.invariant
    ]

pub returns : goal.returns
returns c =
    let items = (out-Trees c.args.items.now).all.now in
    few_kept c.loop-item.words.count c.loop-item.words.all (words_of (view_all (drop c.loop-item.item-index items))) c.loop-item.words.few (ap (λ ts. words_of (view_all ts)) (drop_all c.loop-item.item-index items c.loop-item-test.false))
    ∙ c.loop-item.invariant
