-- What one turn adds in a loop that goes over nodes from their end.
use Rattle.std.proofs.Common.{◌≡◌, ℕ, ◌+◌, ◌-◌, ◌<◌, ◌≤◌, List, length, get_or, drop, sym, ap, ◌∙◌, subst, arith}
use Rattle.c_tree.specs.declared.place.Place.{Place}
use Rattle.c_tree.specs.declared.tree.Tree.{Tree}
use Rattle.c_tree.specs.declared.tree.Trees.{Trees, out-Trees}
use Rattle.c_tree.specs.Node.{more}
use Rattle.c_tree.specs.Views.{node_of, nodes_of, nodes_in}
use Rattle.c_tree.proofs.Rows.{nodes_out, nodes_drop}
use Rattle.flow_graph.specs.CPaths.Facts.{Facts}
use Rattle.flow_graph.specs.CPaths.Forms.{done}
use Rattle.flow_graph.specs.CPaths.Fragments.{To}
use Rattle.flow_graph.specs.CPaths.TreeForms.{form_of, operands}
use Rattle.flow_graph.specs.CPaths.TreeFlow.{declarator_then, declarators_row, flow_of, flows_of}
use Rattle.flow_graph.specs.CPaths.Building.{Draft, Made, form_blocks, row_blocks, flow_blocks, flows_blocks}
use Rattle.flow_graph.specs.declared.statements.BodyBuilder.{BodyBuilder}
use Rattle.flow_graph.specs.Values.{drafts_of}
use Rattle.flow_graph.specs.Statements.{IsPlaced}
use Rattle.flow_graph.proofs.Arms.{operands_more, declarators_more}
use Rattle.flow_graph.proofs.Placing.{placed_more}

nodes_step : (items : List Tree) (i : ℕ) (x : Tree) → 0 < i → i ≤ length items → x ≡ get_or items (i - 1) x → nodes_in (drop (i - 1) items) ≡ more (node_of x) (nodes_in (drop i items))
nodes_step items i x p h e =
    let below : i - 1 < length items = omega arith in
    let back : i - 1 + 1 ≡ i = omega arith in
    nodes_drop items (i - 1) x below
    ∙ ap (λ (t : Tree). more (node_of t) (nodes_in (drop (i - 1 + 1) items))) (sym e)
    ∙ ap (λ j. more (node_of x) (nodes_in (drop j items))) back

pub operands_step : (F : Facts) (items : List Tree) (i : ℕ) (x : Tree) (v : ℕ) (ds : List Draft) (a b : Made) → 0 < i → i ≤ length items → x ≡ get_or items (i - 1) x
    → a ≡ row_blocks (operands F (nodes_in (drop i items)) done) v ds → b ≡ form_blocks (form_of F (node_of x)) (To a.block) a.drafts → b ≡ row_blocks (operands F (nodes_in (drop (i - 1) items)) done) v ds
operands_step F items i x v ds a b p h q e k =
    operands_more F (node_of x) (nodes_in (drop i items)) v ds a b e k ∙ ap (λ ns. row_blocks (operands F ns done) v ds) (sym (nodes_step items i x p h q))

pub declarators_step : (F : Facts) (items : List Tree) (i : ℕ) (x : Tree) (v : ℕ) (ds : List Draft) (a b : Made) → 0 < i → i ≤ length items → x ≡ get_or items (i - 1) x
    → a ≡ row_blocks (declarators_row F (nodes_in (drop i items))) v ds → b ≡ row_blocks (declarator_then F (node_of x) done) a.block a.drafts → b ≡ row_blocks (declarators_row F (nodes_in (drop (i - 1) items))) v ds
declarators_step F items i x v ds a b p h q e k =
    declarators_more F (node_of x) (nodes_in (drop i items)) v ds a b e k ∙ ap (λ ns. row_blocks (declarators_row F ns) v ds) (sym (nodes_step items i x p h q))

pub statements_step : (F : Facts) (f : Place) (items : List Tree) (i : ℕ) (x : Tree) (old mid new : BodyBuilder) (c d e : List ℕ) (a b brk cont next : ℕ) (ds : List Draft) → 0 < i → i ≤ length items → x ≡ get_or items (i - 1) x
    → IsPlaced old mid c d a (flows_blocks (flows_of F f (nodes_in (drop i items))) next brk cont ds) → IsPlaced mid new d e b (flow_blocks (flow_of F f (node_of x)) a brk cont (drafts_of mid.blocks.drafts.items))
    → IsPlaced old new c e b (flows_blocks (flows_of F f (nodes_in (drop (i - 1) items))) next brk cont ds)
statements_step F f items i x old mid new c d e a b brk cont next ds p h q m n =
    subst (λ ns. IsPlaced old new c e b (flows_blocks (flows_of F f ns) next brk cont ds)) (sym (nodes_step items i x p h q))
    (placed_more old mid new c d e a b brk cont next (flow_of F f (node_of x)) (flows_of F f (nodes_in (drop i items))) ds m n)

-- at the end the nodes are all
pub nodes_all : (x : Trees) (left : ℕ) → left ≤ 0 → nodes_in (drop left (out-Trees x).all.now) ≡ nodes_of x
nodes_all x left h = let none : left ≡ 0 = omega arith in ap (λ n. nodes_in (drop n (out-Trees x).all.now)) none ∙ sym (nodes_out x)
