-- Lists of trees that grow by what is made of each of others.
use Rattle.std.proofs.Common.{◌≡◌, ℕ, ◌+◌, ◌<◌, ◌≤◌, List, [], ◌∷◌, ◌++◌, length, get_or, drop, ap, sym, ◌∙◌}
use Rattle.c_tree.specs.declared.tree.Tree.{Tree}
use Rattle.c_tree.specs.Syntax.{Syntax, Syntaxes, no_more, more}
use Rattle.c_tree.specs.Forget.{view, view_all}
use Rattle.metal_written.proofs.Nodes.{view_drop, view_end, before, before-next, before-none}

module _ (made_of : Syntax → Syntax) (all_of : Syntaxes → Syntaxes) where
  -- one more is made, of the next one
  pub grown-next : ((e : Syntax) (es : Syntaxes) → all_of (more e es) ≡ more (made_of e) (all_of es))
      → (made pushed items : List Tree) (i : ℕ) (d one : Tree) → i < length items → pushed ≡ made ++ (one ∷ []) → view one ≡ made_of (view (get_or items i d))
      → before pushed (all_of (view_all (drop (i + 1) items))) ≡ before made (all_of (view_all (drop i items)))
  grown-next step made pushed items i d one h p e =
      let rest = view_all (drop (i + 1) items) in
      before-next made pushed one (all_of rest) p ∙ ap (λ s. before made (more s (all_of rest))) e
      ∙ sym (ap (λ es. before made (all_of es)) (view_drop items i d h) ∙ ap (before made) (step (view (get_or items i d)) rest))

  -- all are made
  pub grown-end : all_of no_more ≡ no_more → (made items : List Tree) (i : ℕ) → length items ≤ i → view_all made ≡ before made (all_of (view_all (drop i items)))
  grown-end none made items i h = sym (ap (λ es. before made (all_of es)) (view_end items i h) ∙ ap (before made) none ∙ before-none made)
