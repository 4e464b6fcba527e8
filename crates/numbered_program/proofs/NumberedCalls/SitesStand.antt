-- A CALL BY NUMBER STANDS for each call of a program that passes what its site does.
use Rattle.std.proofs.Common.{◌≡◌, ◌∙◌, sym, ℕ, List, None}
use Rattle.block_flows.specs.TupleFlows.Passed.{IsSite}
use Rattle.c_objects.specs.Objects.{Object}
use Rattle.numbered_program.proofs.NumberedCalls.CallParts.{call_stands}
use Rattle.numbered_program.proofs.NumberedCalls.MaskedParts.{entered_are, handed_are, saved_are}
use Rattle.numbered_program.specs.NumberedCalls.FollowedCall.{IsFollowedCall}
use Rattle.numbered_program.specs.NumberedCalls.Rows.{entered_rows, handed_rows, saved_flags}
use Rattle.numbered_program.specs.NumberedCalls.Stands.{StandsForSites}
use Rattle.numbered_engine.specs.declared.program.Call.{Call}
use Rattle.block_flows.specs.Masks.{between, graphs_under, model_under, objects_under, origins_under}
use Rattle.path_model.specs.CheckerModel.Happenings.{Site}
use Rattle.refine_restore.specs.Sites.{site_of}
use Rattle.refine_restore.specs.declared.site.Site as code

-- what passes doesn't depend on which function is called
module _ (depth d : ℕ) (site : code.Site) (s : Site) (e : d ≡ depth) (p : IsSite depth site s) (here there : List Object) where
  entered_same : entered_rows depth (site_of depth site) here there ≡ entered_rows d s here there
  entered_same = λ i. entered_rows (sym e i) (record { callee = None; formals = sym p.formals i; actuals = sym p.actuals i }) here there

  handed_same : handed_rows depth (site_of depth site) here there ≡ handed_rows d s here there
  handed_same = λ i. handed_rows (sym e i) (record { callee = None; formals = sym p.formals i; actuals = sym p.actuals i }) here there

  saved_same : saved_flags depth (site_of depth site) here there ≡ saved_flags d s here there
  saved_same = λ i. saved_flags (sym e i) (record { callee = None; formals = sym p.formals i; actuals = sym p.actuals i }) here there

pub stands_for_sites : (depth : ℕ) (site : code.Site) (here there : List Object) (function behind : ℕ) (call : Call) → IsFollowedCall depth (site_of depth site) here there function behind call
    → StandsForSites depth site here there call
stands_for_sites depth site here there function behind call w c ts gs lists V N n f s h e p k l =
    call_stands (model_under c ts lists) (origins_under c ts lists) (objects_under c ts lists) (graphs_under c ts gs lists) V N n call.callee f h k.function l.function (between f s h) call
    (entered_are c ts gs lists V N n call.callee f h s here there k l call.entered.items (w.entered ∙ entered_same depth c.depth site s e p here there))
    (handed_are c ts gs lists V N n call.callee f h s here there k l call.handed.items (w.handed ∙ handed_same depth c.depth site s e p here there))
    (saved_are c ts gs lists V N n call.callee f h s here there k l call.saved.items (w.saved ∙ saved_same depth c.depth site s e p here there))
