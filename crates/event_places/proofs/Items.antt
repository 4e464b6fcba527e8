-- What holds of each item that stands in a form, a row or a flow.
use Rattle.std.proofs.Common.{Bool, true, false, Option, None, Some, inl, inr, sym, subst}
use Rattle.std.specs.Prelude.{⊤}
use Rattle.path_theory.specs.Marks.{EventMark}
use Rattle.flow_graph.specs.CPaths.Events.{Item, branched}
use Rattle.flow_graph.specs.CPaths.Flow.{Flow, Does, Block, If, While, Do, For, Switch, Case, Default, Label, Goto, Break, Continue, Return, Flows, no_flows, flows}
use Rattle.flow_graph.specs.CPaths.Forms.{Form, Plain, Inverts, Keeps, Both, Any, Chooses, Follows, Row, done, operand, item}
use Rattle.flow_graph.specs.CPaths.Occurrences.{InForm, InRow, InMaybe, InFlow, InFlows}

abbrev mutual
  pub EachInForm : (Item → Type 0) → Form → Type 0
  EachInForm Q (Plain n r) = ((t : Bool) → Q (branched n t)) × EachInRow Q r
  EachInForm Q (Inverts x r) = EachInForm Q x × EachInRow Q r
  EachInForm Q (Keeps x r) = EachInForm Q x × EachInRow Q r
  EachInForm Q (Both x y r) = EachInForm Q x × EachInForm Q y × EachInRow Q r
  EachInForm Q (Any x y r) = EachInForm Q x × EachInForm Q y × EachInRow Q r
  EachInForm Q (Chooses x y z r) = EachInForm Q x × EachInForm Q y × EachInForm Q z × EachInRow Q r
  EachInForm Q (Follows x y r) = EachInForm Q x × EachInForm Q y × EachInRow Q r

  pub EachInRow : (Item → Type 0) → Row → Type 0
  EachInRow Q done = ⊤
  EachInRow Q (operand x r) = EachInForm Q x × EachInRow Q r
  EachInRow Q (item j r) = Q j × EachInRow Q r

abbrev pub EachInMaybe : (Item → Type 0) → Option Form → Type 0
EachInMaybe Q None = ⊤
EachInMaybe Q (Some x) = EachInForm Q x

abbrev mutual
  pub EachInFlow : (Item → Type 0) → Flow → Type 0
  EachInFlow Q (Does r) = EachInRow Q r
  EachInFlow Q (Block ss) = EachInFlows Q ss
  EachInFlow Q (If c s t) = EachInForm Q c × EachInFlow Q s × EachInFlow Q t
  EachInFlow Q (While c s) = EachInForm Q c × EachInFlow Q s
  EachInFlow Q (Do s c) = EachInForm Q c × EachInFlow Q s
  EachInFlow Q (For j c u s) = EachInRow Q j × EachInMaybe Q c × EachInRow Q u × EachInFlow Q s
  EachInFlow Q (Switch r s) = EachInRow Q r × EachInFlow Q s
  EachInFlow Q (Case s) = EachInFlow Q s
  EachInFlow Q (Default s) = EachInFlow Q s
  EachInFlow Q (Label L s) = EachInFlow Q s
  EachInFlow Q (Goto L) = ⊤
  EachInFlow Q Break = ⊤
  EachInFlow Q Continue = ⊤
  EachInFlow Q (Return r e) = Q (EventMark e) × EachInRow Q r

  pub EachInFlows : (Item → Type 0) → Flows → Type 0
  EachInFlows Q no_flows = ⊤
  EachInFlows Q (flows s ss) = EachInFlow Q s × EachInFlows Q ss

module _ (Q : Item → Type 0) (i : Item) where
  mutual
    pub of-form : (b : Bool) (x : Form) → EachInForm Q x → InForm i b x → Q i
    of-form false (Plain n r) h k = of-row r h.1 k
    of-form true (Plain n r) h (inl k) = subst Q (sym k.1) (h.0 k.0)
    of-form true (Plain n r) h (inr k) = of-row r h.1 k
    of-form false (Inverts x r) h (inl k) = of-form false x h.0 k
    of-form false (Inverts x r) h (inr k) = of-row r h.1 k
    of-form true (Inverts x r) h k = of-form true x h.0 k
    of-form false (Keeps x r) h (inl k) = of-form false x h.0 k
    of-form false (Keeps x r) h (inr k) = of-row r h.1 k
    of-form true (Keeps x r) h k = of-form true x h.0 k
    of-form false (Both x y r) h (inl k) = of-form true x h.0 k
    of-form false (Both x y r) h (inr (inl k)) = of-form true y h.1 k
    of-form false (Both x y r) h (inr (inr k)) = of-row r h.2 k
    of-form true (Both x y r) h (inl k) = of-form true x h.0 k
    of-form true (Both x y r) h (inr k) = of-form true y h.1 k
    of-form false (Any x y r) h (inl k) = of-form true x h.0 k
    of-form false (Any x y r) h (inr (inl k)) = of-form true y h.1 k
    of-form false (Any x y r) h (inr (inr k)) = of-row r h.2 k
    of-form true (Any x y r) h (inl k) = of-form true x h.0 k
    of-form true (Any x y r) h (inr k) = of-form true y h.1 k
    of-form false (Chooses x y z r) h (inl k) = of-form true x h.0 k
    of-form false (Chooses x y z r) h (inr (inl k)) = of-form false y h.1 k
    of-form false (Chooses x y z r) h (inr (inr (inl k))) = of-form false z h.2 k
    of-form false (Chooses x y z r) h (inr (inr (inr k))) = of-row r h.3 k
    of-form true (Chooses x y z r) h (inl k) = of-form true x h.0 k
    of-form true (Chooses x y z r) h (inr (inl k)) = of-form true y h.1 k
    of-form true (Chooses x y z r) h (inr (inr k)) = of-form true z h.2 k
    of-form false (Follows x y r) h (inl k) = of-form false x h.0 k
    of-form false (Follows x y r) h (inr (inl k)) = of-form false y h.1 k
    of-form false (Follows x y r) h (inr (inr k)) = of-row r h.2 k
    of-form true (Follows x y r) h (inl k) = of-form false x h.0 k
    of-form true (Follows x y r) h (inr k) = of-form true y h.1 k

    pub of-row : (r : Row) → EachInRow Q r → InRow i r → Q i
    of-row done h k = absurd k
    of-row (operand x r) h (inl k) = of-form false x h.0 k
    of-row (operand x r) h (inr k) = of-row r h.1 k
    of-row (item j r) h (inl k) = subst Q (sym k) h.0
    of-row (item j r) h (inr k) = of-row r h.1 k

  of-maybe : (o : Option Form) → EachInMaybe Q o → InMaybe i o → Q i
  of-maybe None h k = absurd k
  of-maybe (Some x) h k = of-form true x h k

  mutual
    pub of-flow : (s : Flow) → EachInFlow Q s → InFlow i s → Q i
    of-flow (Does r) h k = of-row r h k
    of-flow (Block ss) h k = of-flows ss h k
    of-flow (If c s t) h (inl k) = of-form true c h.0 k
    of-flow (If c s t) h (inr (inl k)) = of-flow s h.1 k
    of-flow (If c s t) h (inr (inr k)) = of-flow t h.2 k
    of-flow (While c s) h (inl k) = of-form true c h.0 k
    of-flow (While c s) h (inr k) = of-flow s h.1 k
    of-flow (Do s c) h (inl k) = of-form true c h.0 k
    of-flow (Do s c) h (inr k) = of-flow s h.1 k
    of-flow (For j c u s) h (inl k) = of-row j h.0 k
    of-flow (For j c u s) h (inr (inl k)) = of-maybe c h.1 k
    of-flow (For j c u s) h (inr (inr (inl k))) = of-row u h.2 k
    of-flow (For j c u s) h (inr (inr (inr k))) = of-flow s h.3 k
    of-flow (Switch r s) h (inl k) = of-row r h.0 k
    of-flow (Switch r s) h (inr k) = of-flow s h.1 k
    of-flow (Case s) h k = of-flow s h k
    of-flow (Default s) h k = of-flow s h k
    of-flow (Label L s) h k = of-flow s h k
    of-flow (Goto L) h k = absurd k
    of-flow Break h k = absurd k
    of-flow Continue h k = absurd k
    of-flow (Return r e) h (inl k) = subst Q (sym k) h.0
    of-flow (Return r e) h (inr k) = of-row r h.1 k

    of-flows : (ss : Flows) → EachInFlows Q ss → InFlows i ss → Q i
    of-flows no_flows h k = absurd k
    of-flows (flows s ss) h (inl k) = of-flow s h.0 k
    of-flows (flows s ss) h (inr k) = of-flows ss h.1 k
