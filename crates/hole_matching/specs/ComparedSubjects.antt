-- WHAT TWO TREES ARE COMPARED BY: the pattern without holes that a tree is. Trees are equal where they are compared by equal
-- values. It is meant of what a hole takes: expressions, and names with an initializer that isn't braced. A name with a braced one,
-- a declarator or a statement is compared by `other`, and so as equal to every other of these.
use Rattle.std.specs.Prelude.{List, [], ◌∷◌, Option, cond}
use Rattle.c_objects.specs.Facts.{Facts}
use Rattle.c_tree.specs.declared.operator.UnaryOp.TheVariants as unary
use Rattle.c_tree.specs.declared.operator.AssignOp.TheVariants as assign
use Rattle.c_tree.specs.Node.{Node, node, Shape, Primary, Operation, Initializer, Specifier, Part, PrimaryShape, OperationShape, InitializerShape, SpecifierShape, PartShape, Ident, Constant, StrConst, Paren, Hole, Init, TypeName, Nodes}
use Rattle.c_tree.specs.Node as nodes
use Rattle.type_rules.specs.Options.{if_there}
use Rattle.hole_matching.specs.Pattern.{Head, VaArg, Index, Call, CompoundLit, Unary, SizeofType, Cast, Binary, Cond, Assign, Member, Offsetof, IndexDesignator, Braces, Designated, Pattern, likewise, other, Patterns, no_more, more}
use Rattle.c_tree.specs.PathSubjects.Subjects.{Subject, Tree, DerefOf}
use Rattle.hole_matching.specs.Subjects.{is_braced, primary_head, specifier_head, part_head}
use Rattle.hole_matching.specs.Written.{one_part, two_parts}

-- this head with these parts, if there is one
abbrev pub with_parts : Option Head → Patterns → Pattern
with_parts h ps = if_there h other (λ k. likewise k ps)

abbrev mutual
  pub compared_node : Facts → Node → Pattern
  compared_node u (node i p (Primary k)) = compared_primary u k
  compared_node u (node i p (Operation k)) = compared_operation u k
  compared_node u (node i p (Initializer k)) = compared_initializer u k
  compared_node u (node i p (Specifier k)) = with_parts (specifier_head u i k) no_more
  compared_node u (node i p (Part k)) = compared_part u k
  compared_node u _ = other

  pub compared_primary : Facts → PrimaryShape → Pattern
  compared_primary u (Paren e) = compared_node u e
  compared_primary u (nodes.VaArg list of) = likewise VaArg (two_parts (compared_node u list) (compared_node u of))
  compared_primary u (nodes.Offsetof of member path) = likewise (Offsetof member.name) (more (compared_node u of) (compared_nodes u path))
  compared_primary u k = with_parts (primary_head k) no_more

  pub compared_operation : Facts → OperationShape → Pattern
  compared_operation u (nodes.Index array index) = likewise Index (two_parts (compared_node u array) (compared_node u index))
  compared_operation u (nodes.Call callee paren arguments) = likewise Call (more (compared_node u callee) (compared_nodes u arguments))
  compared_operation u (nodes.Member operand member) = likewise (Member member.name) (one_part (compared_node u operand))
  compared_operation u (nodes.Arrow operand member) = likewise (Member member.name) (one_part (likewise (Unary unary.Deref) (one_part (compared_node u operand))))
  compared_operation u (nodes.CompoundLit of braces) = likewise CompoundLit (two_parts (compared_node u of) (compared_node u braces))
  compared_operation u (nodes.Unary op operand) = likewise (Unary op) (one_part (compared_node u operand))
  compared_operation u (nodes.SizeofType of) = likewise SizeofType (one_part (compared_node u of))
  compared_operation u (nodes.Cast to operand) = likewise Cast (two_parts (compared_node u to) (compared_node u operand))
  compared_operation u (nodes.Binary op left right) = likewise (Binary op) (two_parts (compared_node u left) (compared_node u right))
  compared_operation u (nodes.Cond condition then otherwise) = likewise Cond (more (compared_node u condition) (two_parts (compared_node u then) (compared_node u otherwise)))
  compared_operation u (nodes.Assign op left right) = likewise (Assign op) (two_parts (compared_node u left) (compared_node u right))

  pub compared_initializer : Facts → InitializerShape → Pattern
  compared_initializer u (Init name declarator initial) = cond (is_braced initial) other (likewise (Assign assign.Plain) (two_parts (compared_node u name) (compared_node u initial)))
  compared_initializer u (nodes.Braces elements comma) = likewise Braces (compared_nodes u elements)
  compared_initializer u (nodes.Designated designators initial) = likewise Designated (compared_then u designators (one_part (compared_node u initial)))

  pub compared_part : Facts → PartShape → Pattern
  compared_part u (nodes.IndexDesignator index) = likewise IndexDesignator (one_part (compared_node u index))
  compared_part u k = with_parts (part_head k) no_more

  pub compared_nodes : Facts → Nodes → Patterns
  compared_nodes u nodes.no_more = no_more
  compared_nodes u (nodes.more e es) = more (compared_node u e) (compared_nodes u es)

  pub compared_then : Facts → Nodes → Patterns → Patterns
  compared_then u nodes.no_more ps = ps
  compared_then u (nodes.more e es) ps = more (compared_node u e) (compared_then u es ps)

abbrev pub compared : Facts → Subject → Pattern
compared u (Tree e) = compared_node u e
compared u (DerefOf x) = likewise (Unary unary.Deref) (one_part (compared_node u x))

abbrev pub compared_all : Facts → List Subject → Patterns
compared_all u [] = no_more
compared_all u (s ∷ ss) = more (compared u s) (compared_all u ss)
