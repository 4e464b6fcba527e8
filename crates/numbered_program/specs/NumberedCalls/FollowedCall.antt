-- A FOLLOWED CALL BY NUMBER.
use Rattle.std.specs.Prelude.{◌≡◌, ℕ, List}
use Rattle.c_objects.specs.Objects.{Object}
use Rattle.numbered_program.specs.NumberedCalls.Rows.{entered_rows, handed_rows, saved_flags}
use Rattle.numbered_engine.specs.declared.program.Call.{Call}
use Rattle.path_model.specs.CheckerModel.Happenings.{Site}

-- it leads into the function with a number, goes on in a block, and has what passes at the site
pub record IsFollowedCall (depth : ℕ) (s : Site) (here there : List Object) (function block : ℕ) (c : Call) : Type 0 where
  pub callee : c.callee ≡ function
  pub behind : c.behind ≡ block
  pub entered : c.entered.items ≡ entered_rows depth s here there
  pub handed : c.handed.items ≡ handed_rows depth s here there
  pub saved : c.saved.items ≡ saved_flags depth s here there
