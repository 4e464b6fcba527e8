-- Compound literals in patterns, which no text has yet: over the variables v 0 and w 1, which take pointers, x 2, and args 3.
use Rattle.std.proofs.Common.{◌≡◌, ℕ, Bool, true, false, cond, nat_eq, [], ◌∷◌, Option, None, Some, refl}
use Rattle.c_tree.specs.declared.keyword.Keyword.TheVariants as words
use Rattle.c_tree.specs.declared.operator.StructOrUnion.TheVariants as which_word
use Rattle.c_tree.specs.Symbol.{Word, Reserved}
use Rattle.c_tree.specs.Syntax.{Syntax, Primary, Operation, Initializer, Specifier, Part, Ident, Hole, CompoundLit, Braces, Designated, TypeName, Specs, StructTag, SpecWord, MemberDesignator, IndexDesignator, absent, no_more, more}
use Rattle.metal_tree.specs.MetalMachines.Machine.{HoleType, AnyPointer, AnyExpr, AnyArguments}
use Rattle.metal_grammar.specs.Holes.{DeclaredHole, Operand, are_placed}
use Rattle.metal_grammar.specs.Patterns.{with_holes, names_in, has_plain_types}

abbrev holes : ℕ → Option ℕ
holes name = cond (nat_eq name 19) (Some 0) (cond (nat_eq name 20) (Some 1) (cond (nat_eq name 16) (Some 2) None))

abbrev hole : ℕ → HoleType → Bool → DeclaredHole
hole name of is_state = record { name = name; of = of; is_state = is_state }

abbrev name : ℕ → Syntax
name n = Primary (Ident (Word n))

-- `(struct 63){ .8 = .., [..] = { .. } }`
abbrev literal : Syntax → Syntax → Syntax → Syntax
literal a i b =
    Operation (CompoundLit (Specifier (TypeName (Specifier (Specs (more (Specifier (StructTag which_word.Struct (Word 63))) no_more))) absent))
    (Initializer (Braces (more (Initializer (Designated (more (Part (MemberDesignator (Word 8))) no_more) a)) (more (Initializer (Designated (more (Part (IndexDesignator i)) no_more) (Initializer (Braces (more b no_more) false)))) no_more)) true)))

-- the names of holes become holes, also as indices, and not as members
compound_holes : with_holes holes (literal (name 19) (name 16) (name 20)) ≡ literal (Primary (Hole 0)) (Primary (Hole 2)) (Primary (Hole 1))
compound_holes = refl

compound_names : names_in (literal (name 19) (name 16) (name 20)) ≡ (19 ∷ 16 ∷ 20 ∷ [])
compound_names = refl

-- a hole for arguments doesn't stand in braces
compound_places : are_placed (hole 19 AnyPointer true ∷ hole 16 AnyExpr false ∷ []) Operand (literal (name 19) (name 16) (name 20)) ≡ true
compound_places = refl

arguments_in_braces : are_placed (hole 20 AnyArguments false ∷ []) Operand (literal (name 19) (name 16) (name 20)) ≡ false
arguments_in_braces = refl

-- its type is one that a hole may have: not `const int`
compound_type : has_plain_types (literal (name 19) (name 16) (name 20)) ≡ true
compound_type = refl

compound_const : has_plain_types (Operation (CompoundLit (Specifier (TypeName (Specifier (Specs (more (Part (SpecWord (Reserved words.Const))) (more (Part (SpecWord (Reserved words.Int))) no_more)))) absent)) (Initializer (Braces no_more false)))) ≡ false
compound_const = refl
