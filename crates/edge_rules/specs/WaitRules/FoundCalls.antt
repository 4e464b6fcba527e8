-- WHAT IS KNOWN of a followed call that was found at the end of a block of a function.
use Rattle.std.specs.Prelude.{◌≡◌, ℕ}
use Rattle.block_flows.specs.FollowedLists.{is_followed}
use Rattle.block_flows.specs.TupleFlows.Facts.{is_in}
use Rattle.block_flows.specs.TupleFlows.Passed.{IsSite}
use Rattle.c_objects.specs.Objects.{Object}
use Rattle.path_model.specs.CheckerModel.Happenings.{Site}
use Rattle.function_tables.specs.declared.engine_tables.tables.Tables.{Tables}
use Rattle.function_tables.specs.EngineTables.Known.{checker_in, texts_in, graphs_in, objects_in}
use Rattle.edge_rules.specs.declared.wait_rules.followed_calls.FollowedCall.{FollowedCall}
use Rattle.edge_rules.specs.WaitRules.FollowedCalls.{IsCall}

pub record IsFound (t : Tables) (function block : ℕ) (k : FollowedCall) : Type 0 where
  pub site : Site
  pub passes : IsSite t.depth k.site site
  pub call : IsCall (checker_in t) (texts_in t) (graphs_in t) function block k.callee k.behind site
  pub here : (o : Object) → is_followed (texts_in t) (objects_in t) call.caller o ≡ is_in k.caller_objects.now.keys o
  pub there : (o : Object) → is_followed (texts_in t) (objects_in t) call.called o ≡ is_in k.callee_objects.now.keys o
