-- What a tuple becomes at the entry of a callee, and behind a call. The global state stays.
-- What is followed is said of both functions: here, in the caller, and there, in the callee.
use Rattle.std.specs.Prelude.{◌≡◌, ℕ, Option, List}
use Rattle.c_objects.specs.Objects.{Object}
use Rattle.masked_paths.specs.StrictFlows.Among.{if_followed, of_followed}
use Rattle.path_model.specs.CheckerModel.Calls.{into, out}
use Rattle.path_model.specs.CheckerModel.Checkers.{model}
use Rattle.path_model.specs.CheckerModel.Happenings.{Function, Site}
use Rattle.path_model.specs.CheckerModel.Reports.{Checker}
use Rattle.path_theory.specs.Flows.{CallFlow, ReturnFlow}
use Rattle.refine_restore.specs.declared.site.Site as code
use Rattle.refine_restore.specs.Sites.{site_of}
use Rattle.state_tuples.specs.declared.tuple.Tuple.{Tuple}
use Rattle.block_flows.specs.TupleFlows.Facts.{fact_in, is_in, listed, origins_in}

-- the call passes what this site of the program does, whichever function it calls
pub record IsSite (depth : ℕ) (site : code.Site) (s : Site) : Type 0 where
  pub formals : s.formals ≡ (site_of depth site).formals
  pub actuals : s.actuals ≡ (site_of depth site).actuals

-- the caller's object whose state one of the callee begins with, where both are followed
abbrev pub into_in : ℕ → Site → List Object → List Object → Object → Option Object
into_in depth s here there o = of_followed (is_in there o) (if_followed (is_in here) (into depth s o))

-- the callee's object whose state one of the caller has behind the call, where both are followed
abbrev pub out_in : ℕ → Site → List Object → List Object → Object → Option Object
out_in depth s here there o = of_followed (is_in here o) (if_followed (is_in there) (out depth s o))

-- A TUPLE AT THE ENTRY of a callee, of one before the call
pub record IsEntered (c : Checker) (s : Site) (callee : Function) (here there : List Object) (t u : Tuple) : Type 0 where
  pub global : u.global ≡ t.global
  pub fact : CallFlow (model c) (origins_in c here there) (listed c there) s callee (fact_in t) (fact_in u)

-- A TUPLE BEHIND A CALL, of one at the callee's end; what is saved over the call isn't among these
pub record IsReturned (c : Checker) (s : Site) (caller : Function) (here there : List Object) (t u : Tuple) : Type 0 where
  pub global : u.global ≡ t.global
  pub fact : ReturnFlow (model c) (origins_in c here there) (listed c here) s caller (fact_in t) (fact_in u)
