-- Suffixes of declarators that are parameters.
use Rattle.std.specs.Prelude.{Option, None, Some}
use Rattle.c_tree.specs.Syntax.{Syntax, Syntaxes, Part, Params, VoidParams, no_more}

-- the parameters that a suffix is
abbrev pub params_in : Syntax → Option Syntaxes
params_in (Part (Params params variadic)) = Some params
params_in (Part VoidParams) = Some no_more
params_in _ = None
