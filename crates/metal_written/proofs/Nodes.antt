-- Lists of trees and tokens, seen through their slices.
use Rattle.std.proofs.Common.{◌≡◌, ℕ, nat_eq, ◌+◌, ◌<◌, ◌≤◌, Bool, true, false, ◌||◌, Bor, List, [], ◌∷◌, ◌++◌, length, get_or, drop, ap, refl, sym, ◌∙◌, add-one, drop-cons}
use Rattle.std.proofs.lemmas.List.{drop_all}
use Rattle.c_tree.specs.declared.token.Token.{Token}
use Rattle.c_tree.specs.declared.tree.Tree.{Tree}
use Rattle.c_tree.specs.declared.tree.Trees.{Trees, out-Trees, roll-Trees}
use Rattle.c_tree.specs.Symbol.{symbol_of, symbols_of}
use Rattle.c_tree.specs.Syntax.{Syntaxes, no_more, more}
use Rattle.c_tree.specs.Forget.{syntaxes_of, view, view_all, list_view}
use Rattle.c_tree.proofs.Rows.{nodes_out, nodes_roll, nodes_drop}
use Rattle.metal_grammar.specs.Rules.{is_among}

pub list_out : (trees : Trees) → list_view trees ≡ view_all (out-Trees trees).all.now
list_out trees = ap syntaxes_of (nodes_out trees)

pub made_list : (r : Bor (List Tree)) → list_view (roll-Trees (record { all = r })) ≡ view_all r.now
made_list r = ap syntaxes_of (nodes_roll r)

pub view_drop : (items : List Tree) (i : ℕ) (d : Tree) → i < length items → view_all (drop i items) ≡ more (view (get_or items i d)) (view_all (drop (i + 1) items))
view_drop items i d h = ap syntaxes_of (nodes_drop items i d h)

pub view_end : (items : List Tree) (i : ℕ) → length items ≤ i → view_all (drop i items) ≡ no_more
view_end items i h = ap view_all (drop_all i items h)

pub ruleset lists = (list_out, view_drop, view_end)

pub symbols_drop : (items : List Token) (i : ℕ) (d : Token) → i < length items → symbols_of (drop i items) ≡ symbol_of (get_or items i d) ∷ symbols_of (drop (i + 1) items)
symbols_drop items i d h = ap symbols_of (drop-cons items i d h) ∙ ap (λ j. symbol_of (get_or items i d) ∷ symbols_of (drop j items)) (sym (add-one i))

pub symbols_end : (items : List Token) (i : ℕ) → length items ≤ i → symbols_of (drop i items) ≡ []
symbols_end items i h = ap symbols_of (drop_all i items h)

pub ruleset tokens = (symbols_drop, symbols_end)

-- a name among two lists of names
pub among-append : (xs ys : List ℕ) (n : ℕ) → is_among (xs ++ ys) n ≡ (is_among xs n || is_among ys n)
among-append [] ys n = refl
among-append (x ∷ xs) ys n = by (nat_eq x n) (among-append xs ys n)
  where
    by : (b : Bool) → is_among (xs ++ ys) n ≡ (is_among xs n || is_among ys n) → (b || is_among (xs ++ ys) n) ≡ ((b || is_among xs n) || is_among ys n)
    by true e = refl
    by false e = e

pub ruleset mentioned = (list_out, view_drop, view_end, among-append)

-- trees that were made, and those that follow
abbrev pub before : List Tree → Syntaxes → Syntaxes
before [] es = es
before (t ∷ ts) es = more (view t) (before ts es)

before-push : (ts : List Tree) (t : Tree) (es : Syntaxes) → before (ts ++ (t ∷ [])) es ≡ before ts (more (view t) es)
before-push [] t es = refl
before-push (u ∷ ts) t es = ap (more (view u)) (before-push ts t es)

pub before-none : (ts : List Tree) → before ts no_more ≡ view_all ts
before-none [] = refl
before-none (t ∷ ts) = ap (more (view t)) (before-none ts)

-- one more tree is made
pub before-next : (all pushed : List Tree) (t : Tree) (es : Syntaxes) → pushed ≡ all ++ (t ∷ []) → before pushed es ≡ before all (more (view t) es)
before-next all pushed t es h = ap (λ ts. before ts es) h ∙ before-push all t es
