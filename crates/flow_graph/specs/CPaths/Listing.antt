-- Lists of all evaluations, of all steps, and of the longest traces of at most so many steps.
use Rattle.std.specs.Prelude.{◌≡◌, ℕ, zero, suc, Bool, true, false, not, ◌&&◌, List, [], ◌∷◌, ◌++◌, Option, None, Some}
use Rattle.path_theory.specs.Marks.{EventMark}
use Rattle.flow_graph.specs.CPaths.Membership.{Among}
use Rattle.flow_graph.specs.CPaths.Events.{Item, branched, Exited}
use Rattle.flow_graph.specs.CPaths.Facts.{Facts}
use Rattle.flow_graph.specs.CPaths.Forms.{Form, Plain, Inverts, Keeps, Both, Any, Chooses, Follows, Row, done, operand, item}
use Rattle.flow_graph.specs.CPaths.Flow.{Flow, Does, Block, If, While, Do, For, Switch, Case, Default, Label, Goto, Break, Continue, Return}
use Rattle.flow_graph.specs.CPaths.Tasks.{Task, Run, Test, Turn, Behind, Close, Nowhere, in_order, after_break, after_continue}
pub use Rattle.flow_graph.specs.CPaths.Labels.{if_so, has_default, has_default_in}
use Rattle.flow_graph.specs.CPaths.Labels.{labels_at, cases_at}
use Rattle.flow_graph.specs.CPaths.TreeFlow.{flow_of}
use Rattle.flow_graph.specs.CPaths.Traces.{Definition}

-- this list before each of those
abbrev pub before_each : List Item → List (List Item) → List (List Item)
before_each a [] = []
before_each a (b ∷ bs) = (a ++ b) ∷ before_each a bs

-- each of the first before each of the second
abbrev pub joined : List (List Item) → List (List Item) → List (List Item)
joined [] bs = []
joined (a ∷ firsts) bs = before_each a bs ++ joined firsts bs

abbrev mutual
  -- all evaluations
  pub words_of : Form → Option Bool → List (List Item)
  words_of (Plain n r) None = words_in r
  words_of (Plain n r) (Some t) = joined (words_in r) ((branched n t ∷ []) ∷ [])
  words_of (Inverts x r) None = joined (words_of x None) (words_in r)
  words_of (Inverts x r) (Some t) = words_of x (Some (not t))
  words_of (Keeps x r) None = joined (words_of x None) (words_in r)
  words_of (Keeps x r) (Some t) = words_of x (Some t)
  words_of (Both x y r) None = joined (words_of x (Some false) ++ joined (words_of x (Some true)) (words_of y (Some false) ++ words_of y (Some true))) (words_in r)
  words_of (Both x y r) (Some false) = words_of x (Some false) ++ joined (words_of x (Some true)) (words_of y (Some false))
  words_of (Both x y r) (Some true) = joined (words_of x (Some true)) (words_of y (Some true))
  words_of (Any x y r) None = joined (words_of x (Some true) ++ joined (words_of x (Some false)) (words_of y (Some false) ++ words_of y (Some true))) (words_in r)
  words_of (Any x y r) (Some true) = words_of x (Some true) ++ joined (words_of x (Some false)) (words_of y (Some true))
  words_of (Any x y r) (Some false) = joined (words_of x (Some false)) (words_of y (Some false))
  words_of (Chooses x y z r) None = joined (joined (words_of x (Some true)) (words_of y None) ++ joined (words_of x (Some false)) (words_of z None)) (words_in r)
  words_of (Chooses x y z r) (Some t) = joined (words_of x (Some true)) (words_of y (Some t)) ++ joined (words_of x (Some false)) (words_of z (Some t))
  words_of (Follows x y r) None = joined (words_of x None) (joined (words_of y None) (words_in r))
  words_of (Follows x y r) (Some t) = joined (words_of x None) (words_of y (Some t))

  pub words_in : Row → List (List Item)
  words_in done = [] ∷ []
  words_in (operand x r) = joined (words_of x None) (words_in r)
  words_in (item i r) = joined ((i ∷ []) ∷ []) (words_in r)

abbrev pub words_of_maybe : Option Form → Bool → List (List Item)
words_of_maybe None true = [] ∷ []
words_of_maybe None false = []
words_of_maybe (Some e) t = words_of e (Some t)

-- this list with each of the continuations
abbrev pub with_each : List Item → List (List Task) → List (List Item × List Task)
with_each w [] = []
with_each w (h ∷ hs) = (w, h) ∷ with_each w hs

-- each of the lists with each of the continuations
abbrev pub to_each : List (List Item) → List (List Task) → List (List Item × List Task)
to_each [] hs = []
to_each (w ∷ ws) hs = with_each w hs ++ to_each ws hs

-- nothing happens, and the one continuation is this
abbrev pub silently : List Task → List (List Item × List Task)
silently h = ([], h) ∷ []

abbrev pub steps_of : (body : Flow) (whole : List Task) → Flow → List Task → List (List Item × List Task)
steps_of body whole (Does r) k = to_each (words_in r) (k ∷ [])
steps_of body whole (Block ss) k = silently (in_order ss k)
steps_of body whole (If c s t) k = to_each (words_of c (Some true)) ((Run s ∷ k) ∷ []) ++ to_each (words_of c (Some false)) ((Run t ∷ k) ∷ [])
steps_of body whole (While c s) k = silently (Test (Some c) done s ∷ k)
steps_of body whole (Do s c) k = silently (Run s ∷ Turn (Some c) done s ∷ k)
steps_of body whole (For i c u s) k = to_each (words_in i) ((Test c u s ∷ k) ∷ [])
steps_of body whole (Switch r s) k = to_each (words_in r) (cases_at s (Behind ∷ k) ++ if_so (not (has_default s)) k)
steps_of body whole (Case s) k = silently (Run s ∷ k)
steps_of body whole (Default s) k = silently (Run s ∷ k)
steps_of body whole (Label M s) k = silently (Run s ∷ k)
steps_of body whole (Goto L) k = with_each [] (labels_at L body whole)
steps_of body whole Break k = silently (after_break k)
steps_of body whole Continue k = silently (after_continue k)
steps_of body whole (Return r e) k = to_each (joined (words_in r) ((EventMark e ∷ []) ∷ [])) ([] ∷ [])

-- all steps from a continuation
abbrev pub steps : (body : Flow) (whole : List Task) → List Task → List (List Item × List Task)
steps body whole [] = []
steps body whole (Run s ∷ k) = steps_of body whole s k
steps body whole (Test c u s ∷ k) = to_each (words_of_maybe c true) ((Run s ∷ Turn c u s ∷ k) ∷ []) ++ to_each (words_of_maybe c false) (k ∷ [])
steps body whole (Turn c u s ∷ k) = to_each (words_in u) ((Test c u s ∷ k) ∷ [])
steps body whole (Behind ∷ k) = silently k
steps body whole (Close e ∷ k) = (EventMark e ∷ [], []) ∷ []
steps body whole (Nowhere ∷ k) = []

-- what each step gives before what its continuation gives
abbrev pub stepped : (List Task → List (List Item)) → List (List Item × List Task) → List (List Item)
stepped f [] = []
stepped f (s ∷ ss) = before_each s.0 (f s.1) ++ stepped f ss

-- nothing, where there is no step
abbrev pub or_nothing : List (List Item × List Task) → List (List Item) → List (List Item)
or_nothing [] ws = [] ∷ []
or_nothing (s ∷ ss) ws = ws

-- what n steps give, or fewer where no more are there
abbrev pub longest : (body : Flow) (whole : List Task) → ℕ → List Task → List (List Item)
longest body whole zero k = [] ∷ []
longest body whole (suc n) k = or_nothing (steps body whole k) (stepped (longest body whole n) (steps body whole k))

abbrev pub holds_of_each : (List Task → Bool) → List (List Item × List Task) → Bool
holds_of_each f [] = true
holds_of_each f (s ∷ ss) = f s.1 && holds_of_each f ss

-- no more than n steps can be made
abbrev pub ends_within : (body : Flow) (whole : List Task) → ℕ → List Task → Bool
ends_within body whole zero k = holds_of_each (λ h. false) (steps body whole k)
ends_within body whole (suc n) k = holds_of_each (ends_within body whole n) (steps body whole k)

-- what n steps of a function give, or fewer where no more are there
abbrev pub longest_traces : Facts → Definition → ℕ → List (List Item)
longest_traces F d n = longest (flow_of F d.place d.body) (Close (Exited d.place d.close) ∷ []) n (Run (flow_of F d.place d.body) ∷ Close (Exited d.place d.close) ∷ [])

-- no more than n steps of the function can be made
abbrev pub finishes_within : Facts → Definition → ℕ → Bool
finishes_within F d n = ends_within (flow_of F d.place d.body) (Close (Exited d.place d.close) ∷ []) n (Run (flow_of F d.place d.body) ∷ Close (Exited d.place d.close) ∷ [])

-- the list is a beginning of one of these
abbrev pub Begins : List Item → List (List Item) → Type 0
Begins l ws = (w rest : List Item) × Among w ws × (w ≡ l ++ rest)
