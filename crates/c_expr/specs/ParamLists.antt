-- What the reader of parameters gives.
use Rattle.std.specs.Prelude.{◌≡◌, ℕ, Bool, List, Option, None, Some, Result, Ok, Err, length}
use Rattle.c_tree.specs.declared.tree.Tree.{Tree}
use Rattle.c_tree.specs.Symbol.{Symbol, symbols_of}
use Rattle.c_tree.specs.Syntax.{Syntaxes}
use Rattle.c_tree.specs.Height.{height_in}
use Rattle.c_tree.specs.Forget.{list_view}
use Rattle.c_expr.specs.Gives.{before}
use Rattle.c_expr.specs.declared.fault.ExprFault.{ExprFault}
use Rattle.c_expr.specs.declared.fault.ExprFault.TheVariants.{NoTree}
use Rattle.c_expr.specs.declared.params.ReadParams.{ReadParams}

abbrev pub GivesParams : Result ReadParams ExprFault → Option (Syntaxes × Bool × List Symbol) → Type 0
GivesParams (Ok r) found = (found ≡ Some (list_view r.trees, r.variadic, symbols_of r.rest.now)) × (r.height ≡ height_in (list_view r.trees))
GivesParams (Err e) found = e ≡ NoTree → found ≡ None

-- the tokens that are left
abbrev pub left_by_params : Result ReadParams ExprFault → ℕ
left_by_params (Ok r) = length r.rest.now
left_by_params (Err e) = 0

-- 1 where parameters are read
abbrev pub done_by_params : Result ReadParams ExprFault → ℕ
done_by_params (Ok r) = 1
done_by_params (Err e) = 0

-- what is found, behind these
abbrev pub params_after : List Tree → Option (Syntaxes × Bool × List Symbol) → Option (Syntaxes × Bool × List Symbol)
params_after all None = None
params_after all (Some ps) = Some (before all ps.0, ps.1, ps.2)
