-- The steps of a function's body, from what is still to be done to what then is.
-- A jump takes the continuation of its target, wherever that stands, so that it goes into blocks, loops and switches too
-- (ISO 9899:1990, 6.6.1, 6.6.4.2 and 6.6.6).
use Rattle.std.specs.Prelude.{◌≡◌, true, false, List, [], ◌∷◌, ◌⊎◌, Some}
use Rattle.path_theory.specs.Marks.{EventMark}
use Rattle.flow_graph.specs.CPaths.Membership.{Among}
use Rattle.flow_graph.specs.CPaths.Events.{Item}
use Rattle.flow_graph.specs.CPaths.Words.{Only, Then}
use Rattle.flow_graph.specs.CPaths.Forms.{done}
use Rattle.flow_graph.specs.CPaths.Evaluation.{Happens, Condition, MaybeCondition}
use Rattle.flow_graph.specs.CPaths.Flow.{Flow, Does, Block, If, While, Do, For, Switch, Case, Default, Label, Goto, Break, Continue, Return}
use Rattle.flow_graph.specs.CPaths.Tasks.{Task, Run, Test, Turn, Behind, Close, Nowhere, in_order, after_break, after_continue}
use Rattle.flow_graph.specs.CPaths.Labels.{labels_at, cases_at, has_default}

-- one step of a statement with k behind it gives l and leads to h, in a function whose body with its closing brace is whole
abbrev pub StepOf : (body : Flow) (whole : List Task) → Flow → List Task → List Item → List Task → Type 0
StepOf body whole (Does r) k l h = Happens r l × (h ≡ k)
StepOf body whole (Block ss) k l h = (l ≡ []) × (h ≡ in_order ss k)
StepOf body whole (If c s t) k l h = (Condition c true l × (h ≡ Run s ∷ k)) ⊎ (Condition c false l × (h ≡ Run t ∷ k))
StepOf body whole (While c s) k l h = (l ≡ []) × (h ≡ Test (Some c) done s ∷ k)
StepOf body whole (Do s c) k l h = (l ≡ []) × (h ≡ Run s ∷ Turn (Some c) done s ∷ k)
StepOf body whole (For i c u s) k l h = Happens i l × (h ≡ Test c u s ∷ k)
StepOf body whole (Switch r s) k l h = Happens r l × (Among h (cases_at s (Behind ∷ k)) ⊎ ((has_default s ≡ false) × (h ≡ k)))
StepOf body whole (Case s) k l h = (l ≡ []) × (h ≡ Run s ∷ k)
StepOf body whole (Default s) k l h = (l ≡ []) × (h ≡ Run s ∷ k)
StepOf body whole (Label M s) k l h = (l ≡ []) × (h ≡ Run s ∷ k)
StepOf body whole (Goto L) k l h = (l ≡ []) × Among h (labels_at L body whole)
StepOf body whole Break k l h = (l ≡ []) × (h ≡ after_break k)
StepOf body whole Continue k l h = (l ≡ []) × (h ≡ after_continue k)
StepOf body whole (Return r e) k l h = Then (Happens r) (Only (EventMark e)) l × (h ≡ [])

-- one step; behind an exit nothing is left to do
abbrev pub Step : (body : Flow) (whole : List Task) → List Task → List Item → List Task → Type 0
Step body whole [] l h = ⊥
Step body whole (Run s ∷ k) l h = StepOf body whole s k l h
Step body whole (Test c u s ∷ k) l h = (MaybeCondition c true l × (h ≡ Run s ∷ Turn c u s ∷ k)) ⊎ (MaybeCondition c false l × (h ≡ k))
Step body whole (Turn c u s ∷ k) l h = Happens u l × (h ≡ Test c u s ∷ k)
Step body whole (Behind ∷ k) l h = (l ≡ []) × (h ≡ k)
Step body whole (Close e ∷ k) l h = (l ≡ EventMark e ∷ []) × (h ≡ [])
Step body whole (Nowhere ∷ k) l h = ⊥
