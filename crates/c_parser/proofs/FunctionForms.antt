-- Declarators of functions.
use Rattle.std.proofs.Common.{◌≡◌, ◌≤◌, ◌&&◌, nat_eq, List, [], ◌∷◌, length, get_or, ap, refl, sym, ◌∙◌, arith}
use Rattle.c_tree.specs.declared.token.Token.{Token}
use Rattle.c_tree.specs.declared.tree.Tree.{Tree}
use Rattle.c_tree.specs.declared.tree.Trees.{Trees, out-Trees}
use Rattle.c_tree.specs.Symbol.{Symbol, symbols_of}
use Rattle.c_tree.specs.Syntax.{Syntax, Primary, Operation, Initializer, Specifier, Declarator, Part, Outer, Statement, Iteration, Jump, Named, Nested, SpecWord, ArrayBound, VoidParams, Params, Enumerator, MemberDesignator, IndexDesignator, Syntaxes, no_more, more}
use Rattle.c_tree.specs.Forget.{view, view_all, list_view}
use Rattle.c_grammar.specs.Grammar.{is_nothing}
use Rattle.c_grammar.specs.Names.{is_bare, is_bare_declarator, first_params}
use Rattle.c_parser.specs.Suffixes.{params_in}
use Rattle.c_parser.proofs.Lists.{list_out}

pub nothing_told : (ps : List Token) (trees : Trees) → is_nothing (symbols_of ps) (list_view trees) ≡ (nat_eq (length ps) 0 && nat_eq (length (out-Trees trees).all.now) 0)
nothing_told ps trees = ap (is_nothing (symbols_of ps)) (list_out trees) ∙ by ps (out-Trees trees).all.now
  where
    by : (ps : List Token) (ts : List Tree) → is_nothing (symbols_of ps) (view_all ts) ≡ (nat_eq (length ps) 0 && nat_eq (length ts) 0)
    by [] [] = refl
    by [] (t ∷ ts) = grind arith
    by (p ∷ ps) [] = grind arith
    by (p ∷ ps) (t ∷ ts) = grind arith

pub bare_named : (ps : List Symbol) (name : Symbol) (suffixes : Syntaxes) → is_bare_declarator (Named ps name suffixes) ≡ is_nothing ps suffixes
bare_named [] name no_more = refl
bare_named [] name (more e es) = refl
bare_named (p ∷ ps) name suffixes = refl

pub bare_nested : (ps : List Symbol) (inner : Syntax) (suffixes : Syntaxes) → is_bare_declarator (Nested ps inner suffixes) ≡ (is_nothing ps suffixes && is_bare inner)
bare_nested [] inner no_more = refl
bare_nested [] inner (more e es) = refl
bare_nested (p ∷ ps) inner suffixes = refl

first_more : (e : Syntax) (es : Syntaxes) → first_params (more e es) ≡ params_in e
first_more (Primary k) es = refl
first_more (Operation k) es = refl
first_more (Initializer k) es = refl
first_more (Specifier k) es = refl
first_more (Declarator k) es = refl
first_more (Part (SpecWord w)) es = refl
first_more (Part (ArrayBound ws b)) es = refl
first_more (Part VoidParams) es = refl
first_more (Part (Params ps v)) es = refl
first_more (Part (Enumerator n v)) es = refl
first_more (Part (MemberDesignator m)) es = refl
first_more (Part (IndexDesignator i)) es = refl
first_more (Outer k) es = refl
first_more (Statement k) es = refl
first_more (Iteration k) es = refl
first_more (Jump k) es = refl

pub first_of : (items : List Tree) (d : Tree) → 1 ≤ length items → params_in (view (get_or items 0 d)) ≡ first_params (view_all items)
first_of [] d h = absurd (omega arith)
first_of (t ∷ ts) d h = sym (first_more (view t) (view_all ts))

pub ruleset bare = (bare_named, bare_nested)
