-- WHO WAITS AT A CALL, and how an end of the callee wakes him, tuple by tuple.
use Rattle.std.specs.Prelude.{◌≡◌, ℕ, List, Option, None, Some}
use Rattle.c_objects.specs.Objects.{Object}
use Rattle.path_model.specs.CheckerModel.Choices.{State}
use Rattle.path_model.specs.CheckerModel.Happenings.{Function, Site}
use Rattle.path_model.specs.CheckerModel.Reports.{Checker}
use Rattle.path_edges.specs.EdgeSteps.Steps.{put_back, wait_for, woken_edge}
use Rattle.least_set.specs.declared.two_premises.Wait.{Wait}
use Rattle.path_edges.specs.declared.edges.Context.{Context}
use Rattle.path_edges.specs.declared.edges.Edge.{Edge}
use Rattle.path_edges.specs.declared.edges.Waiter.{Waiter}
use Rattle.state_tuples.specs.declared.tuple.Tuple.{Tuple}
use Rattle.block_flows.specs.TupleFlows.Facts.{without_object}
use Rattle.block_flows.specs.TupleFlows.Passed.{out_in, IsEntered, IsReturned}

-- who waits with an object that is saved over a call, in the state that it has there, at the callee that is entered without an object
abbrev pub wait_with : Edge → ℕ → ℕ → Tuple → Object → Wait Context Waiter
wait_with e callee behind t o = record {
  on = record { function = callee; entry = without_object t };
  waiter = record { context = e.context; is_root = e.is_root; block = e.block; behind = behind; saved = Some (o, t.state) };
}

-- the object of a tuple before a call of this site is saved over it: it has its state behind the call from none that is followed in the
-- callee, there, or isn't followed in the caller, here
pub record IsSaved (depth : ℕ) (s : Site) (here there : List Object) (t : Tuple) (o : Object) : Type 0 where
  pub has : t.object ≡ Some o
  pub kept : out_in depth s here there o ≡ None

-- the objects are those that are followed here, in the caller, and there, in the callee
module _ (c : Checker) (s : Site) where
  -- WHO WAITS because of a tuple before the call: one for each tuple with which the callee is entered, and one with an object that is saved.
  -- The callee has this number.
  pub data IsWaiting (callee : Function) (here there : List Object) (number behind : ℕ) (e : Edge) (t : Tuple) (w : Wait Context Waiter) : Type 0 where
    ForEntered : (u : Tuple) → IsEntered c s callee here there t u → wait_for e number behind u ≡ w → IsWaiting callee here there number behind e t w
    WithSaved : (o : Object) → IsSaved c.depth s here there t o → wait_with e number behind t o ≡ w → IsWaiting callee here there number behind e t w

  -- WHERE HE GOES ON because of a tuple at the callee's end: with what is handed back to the caller, or with the object that was saved,
  -- where the callee has ended without an object
  pub data GoesOn (caller : Function) (here there : List Object) (w : Waiter) (t : Tuple) (d : Edge) : Type 0 where
    WithHanded : (u : Tuple) → w.saved ≡ None → IsReturned c s caller here there t u → woken_edge w u ≡ d → GoesOn caller here there w t d
    WithPutBack : (o : Object) (x : Option State) → w.saved ≡ Some (o, x) → t.object ≡ None → woken_edge w (put_back t o x) ≡ d
        → GoesOn caller here there w t d
