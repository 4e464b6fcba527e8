-- What a primary expression and an initializer are compared as.
use Rattle.std.proofs.Common.{◌≡◌, Bool, true, false, refl}
use Rattle.std.specs.Prelude.{cond}
use Rattle.c_tree.specs.declared.operator.AssignOp.TheVariants as assign
use Rattle.c_tree.specs.Syntax.{Syntax, Primary, Operation, Initializer, PrimarySyntax, OperationSyntax, Ident, Constant, StrConst, Paren, VaArg, Offsetof, Hole, Assign, Init}
use Rattle.c_tree.specs.Compared.{compared_primary, compared_init, is_braces, primary_is_paren}

-- what isn't in parentheses stays a primary expression
pub primary_stays : (k : PrimarySyntax) → primary_is_paren k ≡ false → (x : PrimarySyntax) × (compared_primary k ≡ Primary x)
primary_stays (Ident _) h = (_, refl)
primary_stays (Constant _) h = (_, refl)
primary_stays (StrConst _) h = (_, refl)
primary_stays (Paren _) h = cc
primary_stays (VaArg _ _) h = (_, refl)
primary_stays (Offsetof _ _ _) h = (_, refl)
primary_stays (Hole _) h = (_, refl)

chosen_braces : (b : Bool) (n d i : Syntax) (y : OperationSyntax) → is_braces (cond b (Initializer (Init n d i)) (Operation y)) ≡ false
chosen_braces true n d i y = refl
chosen_braces false n d i y = refl

-- a name with an initializer isn't in braces
pub init_braces : (n d i : Syntax) → is_braces (compared_init n d i) ≡ false
init_braces n d i = chosen_braces (is_braces i) n d i (Assign assign.Plain n i)
