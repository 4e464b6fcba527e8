-- The labels of a statement: where a `goto` and a `switch` lead (ISO 9899:1990, 6.6.1, 6.6.4.2 and 6.6.6.1).
use Rattle.std.specs.Prelude.{ℕ, Bool, true, false, ◌||◌, ◌==◌, List, [], ◌∷◌, ◌++◌, Some}
use Rattle.flow_graph.specs.CPaths.Forms.{done}
use Rattle.flow_graph.specs.CPaths.Flow.{Flow, Does, Block, If, While, Do, For, Switch, Case, Default, Label, Goto, Break, Continue, Return, Flows, no_flows, flows}
use Rattle.flow_graph.specs.CPaths.Tasks.{Task, Run, Turn, Behind, in_order}

-- this alone, if it is so
abbrev pub if_so : {A : Type 0} → Bool → A → List A
if_so true a = a ∷ []
if_so false a = []

-- the continuations of a label L in s, with k behind s, in the order of the text
abbrev mutual
  pub labels_at : ℕ → Flow → List Task → List (List Task)
  labels_at L (Does r) k = []
  labels_at L (Block ss) k = labels_in L ss k
  labels_at L (If c s t) k = labels_at L s k ++ labels_at L t k
  labels_at L (While c s) k = labels_at L s (Turn (Some c) done s ∷ k)
  labels_at L (Do s c) k = labels_at L s (Turn (Some c) done s ∷ k)
  labels_at L (For i c u s) k = labels_at L s (Turn c u s ∷ k)
  labels_at L (Switch e s) k = labels_at L s (Behind ∷ k)
  labels_at L (Case s) k = labels_at L s k
  labels_at L (Default s) k = labels_at L s k
  labels_at L (Label M s) k = if_so (M == L) (Run s ∷ k) ++ labels_at L s k
  labels_at L (Goto M) k = []
  labels_at L Break k = []
  labels_at L Continue k = []
  labels_at L (Return r e) k = []

  pub labels_in : ℕ → Flows → List Task → List (List Task)
  labels_in L no_flows k = []
  labels_in L (flows s ss) k = labels_at L s (in_order ss k) ++ labels_in L ss k

-- the continuations of the cases of the innermost switch round s, its default label among them, with k behind s
abbrev mutual
  pub cases_at : Flow → List Task → List (List Task)
  cases_at (Does r) k = []
  cases_at (Block ss) k = cases_in ss k
  cases_at (If c s t) k = cases_at s k ++ cases_at t k
  cases_at (While c s) k = cases_at s (Turn (Some c) done s ∷ k)
  cases_at (Do s c) k = cases_at s (Turn (Some c) done s ∷ k)
  cases_at (For i c u s) k = cases_at s (Turn c u s ∷ k)
  cases_at (Switch e s) k = []
  cases_at (Case s) k = (Run s ∷ k) ∷ cases_at s k
  cases_at (Default s) k = (Run s ∷ k) ∷ cases_at s k
  cases_at (Label M s) k = cases_at s k
  cases_at (Goto M) k = []
  cases_at Break k = []
  cases_at Continue k = []
  cases_at (Return r e) k = []

  pub cases_in : Flows → List Task → List (List Task)
  cases_in no_flows k = []
  cases_in (flows s ss) k = cases_at s (in_order ss k) ++ cases_in ss k

-- whether the innermost switch round s has a default label in s
abbrev mutual
  pub has_default : Flow → Bool
  has_default (Does r) = false
  has_default (Block ss) = has_default_in ss
  has_default (If c s t) = has_default s || has_default t
  has_default (While c s) = has_default s
  has_default (Do s c) = has_default s
  has_default (For i c u s) = has_default s
  has_default (Switch e s) = false
  has_default (Case s) = has_default s
  has_default (Default s) = true
  has_default (Label M s) = has_default s
  has_default (Goto M) = false
  has_default Break = false
  has_default Continue = false
  has_default (Return r e) = false

  pub has_default_in : Flows → Bool
  has_default_in no_flows = false
  has_default_in (flows s ss) = has_default s || has_default_in ss
