-- What stands behind a row of operands or a declarator is built first.
use Rattle.std.proofs.Common.{◌≡◌, ℕ, List, Option, None, Some, refl, ap}
use Rattle.c_tree.specs.Node.{Node, node, Primary, Operation, Initializer, Specifier, Declarator, Part, Outer, Statement, Iteration, Jump, Init, Braces, Designated, Nodes, no_more, more}
use Rattle.flow_graph.specs.CPaths.Events.{Variable}
use Rattle.flow_graph.specs.CPaths.Facts.{Facts}
use Rattle.flow_graph.specs.CPaths.Forms.{Form, Row, done, operand}
use Rattle.flow_graph.specs.CPaths.Fragments.{To}
use Rattle.flow_graph.specs.CPaths.TreeForms.{form_of, operands}
use Rattle.flow_graph.specs.CPaths.TreeFlow.{declared_then, initialized_then, declarator_then}
use Rattle.flow_graph.specs.CPaths.Building.{Draft, form_blocks, row_blocks}

pub operands_split : (F : Facts) (ns : Nodes) (r : Row) (v : ℕ) (ds : List Draft) → row_blocks (operands F ns r) v ds ≡ (let c = row_blocks r v ds in row_blocks (operands F ns done) c.block c.drafts)
operands_split F no_more r v ds = refl
operands_split F (more n ns) r v ds = ap (λ c. form_blocks (form_of F n) (To c.block) c.drafts) (operands_split F ns r v ds)

declared_split : (x : Option Variable) (r : Row) (v : ℕ) (ds : List Draft) → row_blocks (declared_then x r) v ds ≡ (let c = row_blocks r v ds in row_blocks (declared_then x done) c.block c.drafts)
declared_split None r v ds = refl
declared_split (Some x) r v ds = refl

initialized_split : (x : Option Variable) (e : Form) (r : Row) (v : ℕ) (ds : List Draft) → row_blocks (initialized_then x e r) v ds ≡ (let c = row_blocks r v ds in row_blocks (initialized_then x e done) c.block c.drafts)
initialized_split None e r v ds = refl
initialized_split (Some x) e r v ds = refl

pub declarator_split : (F : Facts) (n : Node) (r : Row) (v : ℕ) (ds : List Draft) → row_blocks (declarator_then F n r) v ds ≡ (let c = row_blocks r v ds in row_blocks (declarator_then F n done) c.block c.drafts)
declarator_split F (node i p (Initializer (Init name declarator initial))) r v ds = initialized_split (F.variable_of declarator) (form_of F (node i p (Initializer (Init name declarator initial)))) r v ds
declarator_split F (node i p (Initializer (Braces elements comma))) r v ds = refl
declarator_split F (node i p (Initializer (Designated designators initial))) r v ds = refl
declarator_split F (node i p (Declarator k)) r v ds = declared_split (F.variable_of (node i p (Declarator k))) r v ds
declarator_split F (node i p (Primary k)) r v ds = refl
declarator_split F (node i p (Operation k)) r v ds = refl
declarator_split F (node i p (Specifier k)) r v ds = refl
declarator_split F (node i p (Part k)) r v ds = refl
declarator_split F (node i p (Outer k)) r v ds = refl
declarator_split F (node i p (Statement k)) r v ds = refl
declarator_split F (node i p (Iteration k)) r v ds = refl
declarator_split F (node i p (Jump k)) r v ds = refl
