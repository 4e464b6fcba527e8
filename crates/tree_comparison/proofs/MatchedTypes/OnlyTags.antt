-- A structure or union by itself among specifiers.
use Rattle.std.proofs.Common.{arith, ◌≡◌, ℕ, List, [], ◌∷◌, length, get_or, Option, None, Some, refl}
use Rattle.c_tree.specs.declared.operator.StructOrUnion.{StructOrUnion}
use Rattle.c_tree.specs.declared.tree.Tree.{Tree}
use Rattle.c_tree.specs.Forget.{view, view_all}
use Rattle.c_tree.specs.Syntax.{Syntax, Syntaxes}
use Rattle.c_tree.specs.Syntax as syntax
use Rattle.type_rules.specs.Options.{if_there}
use Rattle.hole_matching.specs.MatchedTypes.{MatchedType, Tagged, basic}
use Rattle.hole_matching.specs.Written.{words_of, written_specs}
use Rattle.tree_comparison.specs.MatchedTypes.Stars.{tag_in, only_tag}

pub only_one : (xs : List Tree) (d : Tree) → length xs ≡ 1 → tag_in (view (get_or xs 0 d)) ≡ only_tag (view_all xs)
only_one [] d h = absurd (omega (arith, h))
only_one (x ∷ []) d h = refl
only_one (x ∷ y ∷ ys) d h = absurd (omega (arith, h))

pub not_one : (xs : List Tree) → (length xs ≡ 1 → ⊥) → None ≡ only_tag (view_all xs)
not_one [] h = refl
not_one (x ∷ []) h = absurd (h refl)
not_one (x ∷ y ∷ ys) h = refl

-- the type that specifiers say
abbrev pub said : Option (StructOrUnion × ℕ) → MatchedType → MatchedType
said None t = t
said (Some w) t = Tagged w.0 (Some w.1)

pub by_tag : (es : Syntaxes) → written_specs (syntax.Specifier (syntax.Specs es)) ≡ said (only_tag es) (basic (words_of es))
by_tag syntax.no_more = refl
by_tag (syntax.more (syntax.Primary k) syntax.no_more) = refl
by_tag (syntax.more (syntax.Operation k) syntax.no_more) = refl
by_tag (syntax.more (syntax.Initializer k) syntax.no_more) = refl
by_tag (syntax.more (syntax.Specifier (syntax.TypeName a b)) syntax.no_more) = refl
by_tag (syntax.more (syntax.Specifier (syntax.Specs a)) syntax.no_more) = refl
by_tag (syntax.more (syntax.Specifier (syntax.StructTag a b)) syntax.no_more) = refl
by_tag (syntax.more (syntax.Specifier (syntax.StructBody a b c)) syntax.no_more) = refl
by_tag (syntax.more (syntax.Specifier (syntax.EnumTag a)) syntax.no_more) = refl
by_tag (syntax.more (syntax.Specifier (syntax.EnumBody a b c)) syntax.no_more) = refl
by_tag (syntax.more (syntax.Specifier (syntax.StructDeclaration a b)) syntax.no_more) = refl
by_tag (syntax.more (syntax.Specifier (syntax.BitField a b)) syntax.no_more) = refl
by_tag (syntax.more (syntax.Specifier (syntax.Param a b)) syntax.no_more) = refl
by_tag (syntax.more (syntax.Declarator k) syntax.no_more) = refl
by_tag (syntax.more (syntax.Part k) syntax.no_more) = refl
by_tag (syntax.more (syntax.Outer k) syntax.no_more) = refl
by_tag (syntax.more (syntax.Statement k) syntax.no_more) = refl
by_tag (syntax.more (syntax.Iteration k) syntax.no_more) = refl
by_tag (syntax.more (syntax.Jump k) syntax.no_more) = refl
by_tag (syntax.more (syntax.Primary k) (syntax.more x xs)) = refl
by_tag (syntax.more (syntax.Operation k) (syntax.more x xs)) = refl
by_tag (syntax.more (syntax.Initializer k) (syntax.more x xs)) = refl
by_tag (syntax.more (syntax.Specifier (syntax.TypeName a b)) (syntax.more x xs)) = refl
by_tag (syntax.more (syntax.Specifier (syntax.Specs a)) (syntax.more x xs)) = refl
by_tag (syntax.more (syntax.Specifier (syntax.StructTag a b)) (syntax.more x xs)) = refl
by_tag (syntax.more (syntax.Specifier (syntax.StructBody a b c)) (syntax.more x xs)) = refl
by_tag (syntax.more (syntax.Specifier (syntax.EnumTag a)) (syntax.more x xs)) = refl
by_tag (syntax.more (syntax.Specifier (syntax.EnumBody a b c)) (syntax.more x xs)) = refl
by_tag (syntax.more (syntax.Specifier (syntax.StructDeclaration a b)) (syntax.more x xs)) = refl
by_tag (syntax.more (syntax.Specifier (syntax.BitField a b)) (syntax.more x xs)) = refl
by_tag (syntax.more (syntax.Specifier (syntax.Param a b)) (syntax.more x xs)) = refl
by_tag (syntax.more (syntax.Declarator k) (syntax.more x xs)) = refl
by_tag (syntax.more (syntax.Part k) (syntax.more x xs)) = refl
by_tag (syntax.more (syntax.Outer k) (syntax.more x xs)) = refl
by_tag (syntax.more (syntax.Statement k) (syntax.more x xs)) = refl
by_tag (syntax.more (syntax.Iteration k) (syntax.more x xs)) = refl
by_tag (syntax.more (syntax.Jump k) (syntax.more x xs)) = refl
