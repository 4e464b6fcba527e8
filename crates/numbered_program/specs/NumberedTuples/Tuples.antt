-- WHAT A TUPLE OF NUMBERS STANDS FOR, where these objects are followed and these states are named.
use Rattle.std.specs.Prelude.{◌≡◌, ◌≤◌, ℕ, List, length, Option, None, Some}
use Rattle.std.proofs.Common.{refl}
use Rattle.c_objects.specs.Objects.{Object}
use Rattle.path_model.specs.CheckerModel.Choices.{State}
use Rattle.row_flows.specs.Numbers.{item_numbered}
use Rattle.row_flows.specs.declared.tuples.NumberedTuple.{NumberedTuple}
use Rattle.state_tuples.specs.declared.tuple.Tuple.{Tuple}

-- without an object there is no state
abbrev pub tuple_of : ℕ → Option Object → Option State → Tuple
tuple_of g None x = record { global = g; object = None; state = None; bare = refl }
tuple_of g (Some o) x = record { global = g; object = Some o; state = x; bare = refl }

-- THE TUPLE, whatever the numbers are
abbrev pub tuple_at : List Object → List State → NumberedTuple → Tuple
tuple_at objects states t = tuple_of t.global (item_numbered objects t.object) (item_numbered states t.state)

-- THE NUMBERS ARE THOSE of an object and a state that there are, or 0; without an object there is no state
pub record IsNumbered (objects : List Object) (states : List State) (t : NumberedTuple) : Type 0 where
  pub object : t.object ≤ length objects
  pub state : t.state ≤ length states
  pub bare : t.object ≡ 0 → t.state ≡ 0

-- the numbers of a tuple by those of its object and its state, if both have one
abbrev pub numbers_with : ℕ → Option ℕ → Option ℕ → Option NumberedTuple
numbers_with g None q = None
numbers_with g (Some n) None = None
numbers_with g (Some n) (Some m) = Some (record { global = g; state = m; object = n })
