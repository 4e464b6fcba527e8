-- What a tuple becomes over an event.
use Rattle.std.specs.Prelude.{◌≡◌, ℕ, Bool, List, Option, None, Some}
use Rattle.std.proofs.Common.{refl}
use Rattle.c_objects.specs.Objects.{Object}
use Rattle.path_model.specs.CheckerModel.Checkers.{model}
use Rattle.path_model.specs.CheckerModel.Choices.{State, next_global, chosen}
use Rattle.path_model.specs.CheckerModel.Happenings.{Function, Happening}
use Rattle.path_model.specs.CheckerModel.Reports.{Checker}
use Rattle.path_theory.specs.Flows.{EventFlow}
use Rattle.state_tuples.specs.declared.tuple.Tuple.{Tuple}
use Rattle.block_flows.specs.TupleFlows.Facts.{fact_in, listed, origins_in}

-- A TUPLE BEHIND AN EVENT of another one: in the next global state, with a fact to which that one's flows
pub record IsBehind (c : Checker) (h : Happening) (f : Function) (is_root : Bool) (followed : List Object) (t u : Tuple) : Type 0 where
  pub global : u.global ≡ next_global c.machine c.depth h f is_root t.global
  pub fact : EventFlow (model c) (origins_in c followed followed) (listed c followed) f is_root h t.global (fact_in t) (fact_in u)

-- the tuple that is chosen for one behind the move, where the next global state is this one
abbrev pub chosen_object : Checker → Happening → Function → Bool → ℕ → ℕ → Option Object → Option State → Tuple
chosen_object c h f is_root next g None x = record { global = next; object = None; state = None; bare = refl }
chosen_object c h f is_root next g (Some o) x = record { global = next; object = Some o; state = chosen c.machine c.depth h f is_root g o x; bare = refl }

abbrev pub chosen_tuple : Checker → Happening → Function → Bool → ℕ → Tuple → Tuple
chosen_tuple c h f is_root next t = chosen_object c h f is_root next t.global t.object t.state
