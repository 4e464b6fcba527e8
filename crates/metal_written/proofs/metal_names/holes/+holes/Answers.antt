use Rattle.std.proofs.Common.{ap, refl, ◌∙◌}
use Rattle.c_tree.specs.Forget.{view_all}
use Rattle.metal_grammar.specs.Meaning.{number_among}
use Rattle.metal_grammar.specs.Patterns.{with_holes, all_with_holes, path_with_holes, designator_with_holes}
use Rattle.metal_written.proofs.Nodes.{made_list}
use Rattle.metal_written.proofs.MetalNames.Growing.{grown-next, grown-end}
use Rattle.metal_written.proofs.metal_names.holes.+holes.Goals as goal

pub all_with_holes-loop-tree-preserved : goal.all_with_holes-loop-tree-preserved
all_with_holes-loop-tree-preserved t c =
    let number = number_among c.args.holes.now in
    grown-next (with_holes number) (all_with_holes number) (λ e es. refl) _ _ _ _ _ _ c.loop-tree-test.true c.in_ok-push.ensures.items c.in_ok-node_with_holes.ensures ∙ c.loop-tree.invariant

pub all_with_holes-returns : goal.all_with_holes-returns
all_with_holes-returns t c =
    let number = number_among c.args.holes.now in
    made_list _ ∙ ap view_all c.into_bump_slice.ensures ∙ grown-end (with_holes number) (all_with_holes number) refl _ _ _ c.loop-tree-test.false ∙ c.loop-tree.invariant

pub path_with_holes-loop-designator-preserved : goal.path_with_holes-loop-designator-preserved
path_with_holes-loop-designator-preserved t c =
    let number = number_among c.args.holes.now in
    grown-next (designator_with_holes number) (path_with_holes number) (λ e es. refl) _ _ _ _ _ _ c.loop-designator-test.true c.in_ok-push.ensures.items c.in_ok-designator_with_holes.ensures ∙ c.loop-designator.invariant

pub path_with_holes-returns : goal.path_with_holes-returns
path_with_holes-returns t c =
    let number = number_among c.args.holes.now in
    made_list _ ∙ ap view_all c.into_bump_slice.ensures ∙ grown-end (designator_with_holes number) (path_with_holes number) refl _ _ _ c.loop-designator-test.false ∙ c.loop-designator.invariant
