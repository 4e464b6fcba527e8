-- The traces of a function: what finitely many steps from its body give, and each beginning of that.
use Rattle.std.specs.Prelude.{◌≡◌, ℕ, suc, zero, List, [], ◌∷◌, ◌++◌, ◌⊎◌}
use Rattle.c_tree.specs.declared.place.Place.{Place}
use Rattle.c_tree.specs.Node.{Node}
use Rattle.flow_graph.specs.CPaths.Events.{Event, Item, Exited}
use Rattle.flow_graph.specs.CPaths.Facts.{Facts}
use Rattle.flow_graph.specs.CPaths.Flow.{Flow}
use Rattle.flow_graph.specs.CPaths.TreeFlow.{flow_of}
use Rattle.flow_graph.specs.CPaths.Tasks.{Task, Run, Close}
use Rattle.flow_graph.specs.CPaths.Steps.{Step}

-- what at most n steps from a continuation give, in a function with this body, at whose labels `goto` finds what follows
-- them if whole stands behind the body
abbrev pub Runs : (body : Flow) (whole : List Task) → ℕ → List Task → List Item → Type 0
Runs body whole zero k l = l ≡ []
Runs body whole (suc n) k l = (l ≡ []) ⊎ ((x y : List Item) × (h : List Task) × Step body whole k x h × Runs body whole n h y × (l ≡ x ++ y))

-- what some number of steps from a continuation give, and each beginning of that
abbrev pub TraceFrom : (body : Flow) (whole : List Task) → List Task → List Item → Type 0
TraceFrom body whole k l = (n : ℕ) × (rest : List Item) × Runs body whole n k (l ++ rest)

-- a trace of a body whose end gives this exit
abbrev pub BodyTrace : Flow → Event → List Item → Type 0
BodyTrace body end l = TraceFrom body (Close end ∷ []) (Run body ∷ Close end ∷ []) l

-- a function with a body
pub record Definition : Type 0 where
  -- of its name, where it is defined
  pub place : Place
  pub body : Node
  -- of the closing brace of the body
  pub close : Place

-- a trace of the function
abbrev pub Trace : Facts → Definition → List Item → Type 0
Trace F d l = BodyTrace (flow_of F d.place d.body) (Exited d.place d.close) l
