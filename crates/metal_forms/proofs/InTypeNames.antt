-- Declarators of type names that are stars alone.
use Rattle.std.proofs.Common.{◌≡◌, ◌<◌, ◌≤◌, false, List, [], ◌∷◌, length, ap, refl, ◌∙◌, arith}
use Rattle.c_tree.specs.declared.tree.Tree.{Tree}
use Rattle.c_tree.specs.declared.tree.Trees.{Trees, out-Trees}
use Rattle.c_tree.specs.Symbol.{Symbol}
use Rattle.c_tree.specs.Syntax.{Syntaxes, no_more, more, present, Declarator, Unnamed}
use Rattle.c_tree.specs.Forget.{view_all, list_view}
use Rattle.metal_grammar.specs.Patterns.{are_stars, is_plain_declarator}
use Rattle.metal_written.specs.TypeWords.{are_plain_pointers}
use Rattle.metal_written.proofs.Nodes.{list_out}

pub plain-unnamed : (ps : List Symbol) (es : Syntaxes) → is_plain_declarator (present (Declarator (Unnamed ps es))) ≡ are_plain_pointers ps es
plain-unnamed ps no_more = refl
plain-unnamed ps (more e es) = refl

pub no-suffixes : (ps : List Symbol) (suffixes : Trees) → length (out-Trees suffixes).all.now < 1 → are_plain_pointers ps (list_view suffixes) ≡ are_stars ps
no-suffixes ps suffixes h = ap (are_plain_pointers ps) (list_out suffixes) ∙ by (out-Trees suffixes).all.now h
  where
    by : (ts : List Tree) → length ts < 1 → are_plain_pointers ps (view_all ts) ≡ are_stars ps
    by [] l = refl
    by (t ∷ ts) l = absurd (omega arith)

pub some-suffixes : (ps : List Symbol) (suffixes : Trees) → 1 ≤ length (out-Trees suffixes).all.now → are_plain_pointers ps (list_view suffixes) ≡ false
some-suffixes ps suffixes h = ap (are_plain_pointers ps) (list_out suffixes) ∙ by (out-Trees suffixes).all.now h
  where
    by : (ts : List Tree) → 1 ≤ length ts → are_plain_pointers ps (view_all ts) ≡ false
    by [] l = absurd (omega arith)
    by (t ∷ ts) l = refl

pub ruleset unnamed = (plain-unnamed)
