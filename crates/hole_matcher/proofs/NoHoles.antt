-- Patterns of these groups are no holes.
use Rattle.std.proofs.Common.{◌≡◌, None, refl}
use Rattle.c_tree.specs.Syntax.{OperationSyntax, InitializerSyntax, SpecifierSyntax, PartSyntax}
use Rattle.c_tree.specs.Syntax as syntax
use Rattle.hole_matcher.specs.Ways.Walks.{hole_in}
use Rattle.hole_matching.specs.Written.{operation_pattern, initializer_pattern, specifier_pattern, part_pattern}

pub no_operation : (k : OperationSyntax) → hole_in (operation_pattern k) ≡ None
no_operation (syntax.Index a b) = refl
no_operation (syntax.Call a b) = refl
no_operation (syntax.Member a b) = refl
no_operation (syntax.Arrow a b) = refl
no_operation (syntax.CompoundLit a b) = refl
no_operation (syntax.Unary a b) = refl
no_operation (syntax.SizeofType a) = refl
no_operation (syntax.Cast a b) = refl
no_operation (syntax.Binary a b c) = refl
no_operation (syntax.Cond a b c) = refl
no_operation (syntax.Assign a b c) = refl

pub no_initializer : (k : InitializerSyntax) → hole_in (initializer_pattern k) ≡ None
no_initializer (syntax.Init a b c) = refl
no_initializer (syntax.Braces a b) = refl
no_initializer (syntax.Designated a b) = refl

pub no_specifier : (k : SpecifierSyntax) → hole_in (specifier_pattern k) ≡ None
no_specifier (syntax.TypeName a b) = refl
no_specifier (syntax.Specs a) = refl
no_specifier (syntax.StructTag a b) = refl
no_specifier (syntax.StructBody a b c) = refl
no_specifier (syntax.EnumTag a) = refl
no_specifier (syntax.EnumBody a b c) = refl
no_specifier (syntax.StructDeclaration a b) = refl
no_specifier (syntax.BitField a b) = refl
no_specifier (syntax.Param a b) = refl

pub no_part : (k : PartSyntax) → hole_in (part_pattern k) ≡ None
no_part (syntax.SpecWord a) = refl
no_part (syntax.ArrayBound a b) = refl
no_part syntax.VoidParams = refl
no_part (syntax.Params a b) = refl
no_part (syntax.Enumerator a b) = refl
no_part (syntax.MemberDesignator a) = refl
no_part (syntax.IndexDesignator a) = refl

pub ruleset no_holes = (no_operation, no_initializer, no_specifier, no_part)
