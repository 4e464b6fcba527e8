-- Whether a statement has a `default` doesn't depend on what is known, nor on where its function is.
use Rattle.std.proofs.Common.{◌≡◌, Bool, ◌||◌, refl}
use Rattle.c_tree.specs.declared.place.Place.{Place}
use Rattle.c_tree.specs.Node.{Node, node, Primary, Operation, Initializer, Specifier, Declarator, Part, Outer, Statement, Iteration, Jump, StatementShape, IterationShape, JumpShape, Block, ExprStmt, If, Switch, Case, Default, Label, While, Do, For, ForDeclaration, Goto, Continue, Break, Return, MaybeNode, absent, present, Nodes, no_more, more}
use Rattle.flow_graph.specs.CPaths.Facts.{Facts}
use Rattle.flow_graph.specs.CPaths.Listing.{has_default, has_default_in}
use Rattle.flow_graph.specs.CPaths.TreeFlow.{flow_of, statement_flow, iteration_flow, jump_flow, maybe_flow, flows_of}

same_either : {a b c d : Bool} → a ≡ b → c ≡ d → (a || c) ≡ (b || d)
same_either e h = cc

module _ (F G : Facts) (f g : Place) where
  mutual
    pub same_default : (n : Node) → has_default (flow_of F f n) ≡ has_default (flow_of G g n)
    same_default (node i p (Outer k)) = refl
    same_default (node i p (Statement k)) = same_statement k
    same_default (node i p (Iteration k)) = same_iteration k
    same_default (node i p (Jump k)) = same_jump p k
    same_default (node i p (Primary k)) = refl
    same_default (node i p (Operation k)) = refl
    same_default (node i p (Initializer k)) = refl
    same_default (node i p (Specifier k)) = refl
    same_default (node i p (Declarator k)) = refl
    same_default (node i p (Part k)) = refl

    same_statement : (k : StatementShape) → has_default (statement_flow F f k) ≡ has_default (statement_flow G g k)
    same_statement (Block items) = same_rows items
    same_statement (ExprStmt value) = refl
    same_statement (If condition then otherwise) = same_either (same_default then) (same_maybe otherwise)
    same_statement (Switch value body) = refl
    same_statement (Case value body) = same_default body
    same_statement (Default body) = refl
    same_statement (Label label body) = same_default body

    same_iteration : (k : IterationShape) → has_default (iteration_flow F f k) ≡ has_default (iteration_flow G g k)
    same_iteration (While condition body) = same_default body
    same_iteration (Do body condition) = same_default body
    same_iteration (For first condition step body) = same_default body
    same_iteration (ForDeclaration declaration condition step body) = same_default body

    same_jump : (p : Place) (k : JumpShape) → has_default (jump_flow F f p k) ≡ has_default (jump_flow G g p k)
    same_jump p (Goto label) = refl
    same_jump p Continue = refl
    same_jump p Break = refl
    same_jump p (Return value) = refl

    same_maybe : (m : MaybeNode) → has_default (maybe_flow F f m) ≡ has_default (maybe_flow G g m)
    same_maybe absent = refl
    same_maybe (present s) = same_default s

    same_rows : (ns : Nodes) → has_default_in (flows_of F f ns) ≡ has_default_in (flows_of G g ns)
    same_rows no_more = refl
    same_rows (more s ss) = same_either (same_default s) (same_rows ss)
