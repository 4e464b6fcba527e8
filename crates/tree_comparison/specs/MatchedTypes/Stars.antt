-- Types under stars.
use Rattle.std.specs.Prelude.{ℕ, zero, suc, ◌+◌, cond, List, [], ◌∷◌, Option, None, Some}
use Rattle.c_grammar.specs.Symbols.{is_sign}
use Rattle.c_tree.specs.declared.operator.StructOrUnion.{StructOrUnion}
use Rattle.c_tree.specs.declared.punctuator.Punctuator.TheVariants as marks
use Rattle.c_tree.specs.Symbol.{Symbol}
use Rattle.c_tree.specs.Syntax.{Syntax, Syntaxes, MaybeSyntax, present, Specifier, Declarator, StructTag}
use Rattle.c_tree.specs.Syntax as syntax
use Rattle.type_rules.specs.Types.{CType, Pointer}
use Rattle.hole_matching.specs.MatchedTypes.{MatchedType}
use Rattle.hole_matching.specs.MatchedTypes as matched
use Rattle.hole_matching.specs.Written.{spelling}

-- the number of stars among these
abbrev pub stars : List Symbol → ℕ
stars [] = 0
stars (s ∷ ss) = cond (is_sign marks.Star s) 1 0 + stars ss

abbrev pub under_stars : ℕ → MatchedType → MatchedType
under_stars zero t = t
under_stars (suc n) t = matched.Pointer (under_stars n t)

-- what a type points to, through so many stars
abbrev pub behind_stars : ℕ → CType → Option CType
behind_stars zero t = Some t
behind_stars (suc n) (Pointer t) = behind_stars n t
behind_stars (suc n) _ = None

-- the structure or union that a specifier is, with its tag
abbrev pub tag_in : Syntax → Option (StructOrUnion × ℕ)
tag_in (Specifier (StructTag which tag)) = Some (which, spelling tag)
tag_in _ = None

-- the one that these specifiers are by themselves
abbrev pub only_tag : Syntaxes → Option (StructOrUnion × ℕ)
only_tag (syntax.more e syntax.no_more) = tag_in e
only_tag _ = None

-- the number of stars in an abstract declarator
abbrev pub declared_stars : MaybeSyntax → ℕ
declared_stars (present (Declarator (syntax.Unnamed pointers suffixes))) = stars pointers
declared_stars _ = 0
