-- The call that a site of the program is, as far as it passes states.
use Rattle.std.specs.Prelude.{ℕ, List, map, None, Option}
use Rattle.std.specs.Option.{option_map}
use Rattle.c_tree.specs.Views.{node_of}
use Rattle.type_rules.specs.Vars.{CVar}
use Rattle.type_values.specs.declared.vars.Var.{Var}
use Rattle.type_values.specs.Vars.{cvar_of}
use Rattle.path_model.specs.CheckerModel.Calls.{actuals_of}
use Rattle.path_model.specs.CheckerModel.Happenings as happenings
use Rattle.objects.specs.Units.{facts_in}
use Rattle.refine_restore.specs.declared.site.Site.{Site}

abbrev pub formals_of : List (Option Var) → List (Option CVar)
formals_of formals = map (option_map cvar_of) formals

-- which function is called is no matter of passing states
abbrev pub site_of : ℕ → Site → happenings.Site
site_of depth s = record {
  callee = None;
  formals = formals_of s.formals.now;
  actuals = actuals_of (facts_in s.unit.now) depth (node_of s.call.now);
}
