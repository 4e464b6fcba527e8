-- The variable from which the path goes that a move writes over.
use Rattle.std.specs.Prelude.{Bool, true, false, cond, Option, None, Some}
use Rattle.std.specs.Option.{option_map}
use Rattle.c_objects.specs.Objects.{Object}
use Rattle.c_tree.specs.declared.operator.UnaryOp.{UnaryOp}
use Rattle.c_tree.specs.declared.operator.UnaryOp.TheVariants as unary
use Rattle.path_model.specs.CheckerModel.Moves.{Move}
use Rattle.type_rules.specs.Options.{◌>?◌}
use Rattle.type_rules.specs.Vars.{CVar}

abbrev pub written : Option Move → Option CVar
written m = option_map (λ (n : Move). n.to.base) m

-- that of a path; none of the address of one
abbrev pub base_of : Option Object → Option CVar
base_of o = o >? λ l. cond l.address None (Some l.base)

-- `++` and `--`, which write to their operand
abbrev pub is_step : UnaryOp → Bool
is_step unary.PostInc = true
is_step unary.PostDec = true
is_step unary.PreInc = true
is_step unary.PreDec = true
is_step op = false
