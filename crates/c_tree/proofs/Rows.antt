-- A list of nodes is seen through its slice.
use Rattle.std.proofs.Common.{◌≡◌, ℕ, ◌+◌, ◌<◌, ◌≤◌, Bor, List, [], ◌∷◌, ◌++◌, length, get_or, drop, ap, refl, ◌∙◌, sym, add-one, drop-cons, IsTrue, false}
use Rattle.std.proofs.lemmas.List.{drop_all}
use Rattle.c_tree.specs.declared.tree.Tree.{Tree}
use Rattle.c_tree.specs.declared.tree.Trees.{Trees, Trees', out-Trees, outs-Trees', roll-Trees, rolls-Trees', Row_of-Tree, end_of-Tree, more_of-Tree, items-the_row-Tree, items_shown-the_row-Tree-0, items_hidden-the_row-Tree-0}
use Rattle.c_tree.specs.declared.declaration.Declarator.TheBlock.{hidden-the_row-Tree-0}
use Rattle.c_tree.specs.Node.{Nodes, no_more, more}
use Rattle.c_tree.specs.Views.{node_of, nodes_of, row_nodes, nodes_in}
use Rattle.c_tree.specs.Forget.{syntaxes_of, list_view, view_all}

row_items : (n : _) (k : Row_of-Tree n) → row_nodes k ≡ nodes_in (items-the_row-Tree n k)
row_items n end_of-Tree = refl
row_items n (more_of-Tree i p e rest) = ap (more (node_of (record { id = i; first = p; kind = e }))) (row_items _ rest)

-- a list that is read
pub nodes_out : (x : Trees) → nodes_of x ≡ nodes_in (out-Trees x).all.now
nodes_out (Trees' r s k) = row_items _ k ∙ sym (ap nodes_in (items_shown-the_row-Tree-0 s k)) ∙ sym (ap (λ o. nodes_in o.all.now) (outs-Trees' r s k))

row_hidden : (ts : List Tree) → row_nodes (hidden-the_row-Tree-0 ts) ≡ nodes_in ts
row_hidden ts = row_items _ (hidden-the_row-Tree-0 ts) ∙ ap nodes_in (items_hidden-the_row-Tree-0 ts)

-- a list that is made
pub nodes_roll : (r : Bor (List Tree)) → nodes_of (roll-Trees (record { all = r })) ≡ nodes_in r.now
nodes_roll r = ap nodes_of (rolls-Trees' (record { all = r })) ∙ row_hidden r.now

-- the nodes so far, and then more
abbrev pub before : List Tree → Nodes → Nodes
before [] es = es
before (t ∷ ts) es = more (node_of t) (before ts es)

pub before-push : (ts : List Tree) (t : Tree) (es : Nodes) → before (ts ++ (t ∷ [])) es ≡ before ts (more (node_of t) es)
before-push [] t es = refl
before-push (u ∷ ts) t es = ap (more (node_of u)) (before-push ts t es)

pub before-none : (ts : List Tree) → before ts no_more ≡ nodes_in ts
before-none [] = refl
before-none (t ∷ ts) = ap (more (node_of t)) (before-none ts)

pub before-step : (all items : List Tree) (i : ℕ) (d copy : Tree) → i < length items → node_of copy ≡ node_of (get_or items i d) → before (all ++ (copy ∷ [])) (nodes_in (drop (i + 1) items)) ≡ before all (nodes_in (drop i items))
before-step all items i d copy h e =
    before-push all copy (nodes_in (drop (i + 1) items))
    ∙ ap (λ s. before all (more s (nodes_in (drop (i + 1) items)))) e
    ∙ ap (λ j. before all (nodes_in (get_or items i d ∷ drop j items))) (add-one i)
    ∙ sym (ap (λ ts. before all (nodes_in ts)) (drop-cons items i d h))

pub before-end : (all items : List Tree) (i : ℕ) → length items ≤ i → before all (nodes_in (drop i items)) ≡ nodes_in all
before-end all items i h = ap (λ ts. before all (nodes_in ts)) (drop_all i items h) ∙ before-none all

pub nodes_drop : (items : List Tree) (i : ℕ) (d : Tree) → i < length items → nodes_in (drop i items) ≡ more (node_of (get_or items i d)) (nodes_in (drop (i + 1) items))
nodes_drop items i d h = ap nodes_in (drop-cons items i d h) ∙ ap (λ j. more (node_of (get_or items i d)) (nodes_in (drop j items))) (sym (add-one i))

same_length : (xs ys : List Tree) → view_all xs ≡ view_all ys → length xs ≡ length ys
same_length [] [] h = refl
same_length [] (y ∷ ys) h = cc
same_length (x ∷ xs) [] h = cc
same_length (x ∷ xs) (y ∷ ys) h = let e : view_all xs ≡ view_all ys = cc in let k = same_length xs ys e in cc

-- lists of different lengths
pub lists_differ : (a b : Trees) → (length (out-Trees a).all.now ≡ length (out-Trees b).all.now → ⊥) → (IsTrue false → list_view a ≡ list_view b) × (list_view a ≡ list_view b → IsTrue false)
lists_differ a b h =
    (λ f. cc f, λ e. absurd (h (same_length _ _ (sym (ap syntaxes_of (nodes_out a)) ∙ e ∙ ap syntaxes_of (nodes_out b)))))
