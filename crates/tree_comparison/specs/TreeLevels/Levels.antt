-- The head and the parts of a level.
use Rattle.std.specs.Prelude.{List, [], ◌∷◌, Option, None, Some}
use Rattle.c_objects.specs.Facts.{Facts}
use Rattle.c_tree.specs.Node.{PrimaryShape, Paren}
use Rattle.c_tree.specs.Views.{node_of, nodes_of}
use Rattle.type_rules.specs.Options.{if_there}
use Rattle.type_values.specs.Types.{ctype_of}
use Rattle.tree_comparison.specs.declared.tree_levels.heads.Leaf.{Leaf}
use Rattle.tree_comparison.specs.declared.tree_levels.heads.Leaf.TheVariants as leaf
use Rattle.tree_comparison.specs.declared.tree_levels.heads.One.{One}
use Rattle.tree_comparison.specs.declared.tree_levels.heads.One.TheVariants as one
use Rattle.tree_comparison.specs.declared.tree_levels.heads.Two.{Two}
use Rattle.tree_comparison.specs.declared.tree_levels.heads.Two.TheVariants as two
use Rattle.tree_comparison.specs.declared.tree_levels.heads.Front.{Front}
use Rattle.tree_comparison.specs.declared.tree_levels.heads.Front.TheVariants as front
use Rattle.tree_comparison.specs.declared.tree_levels.heads.Level.{Level}
use Rattle.tree_comparison.specs.declared.tree_levels.heads.Level.TheVariants as level
use Rattle.hole_matching.specs.ComparedSubjects.{compared_all}
use Rattle.hole_matching.specs.MatchedTypes.{matched_type}
use Rattle.hole_matching.specs.Pattern.{Head, Identifier, Integer, Spelled, Strings, VaArg, Offsetof, Index, Call, Member, CompoundLit, Unary, SizeofType, Cast, Binary, Cond, Assign, Named, MemberDesignator, IndexDesignator, Braces, Designated, Pattern, likewise, other}
use Rattle.hole_matching.specs.Subjects.{inner, head_of, parts_of, primary_head, primary_parts, names_of, trees, trees_then}
use Rattle.c_tree.specs.PathSubjects.Subjects.{Subject, Tree}
use Rattle.c_tree.specs.PathSubjects.Values.{subject_of}

abbrev pub leaf_head : Facts → Leaf → Head
leaf_head u (leaf.Identifier name) = Identifier name
leaf_head u (leaf.Integer value) = Integer value
leaf_head u (leaf.Spelled name) = Spelled name
leaf_head u (leaf.Strings literals) = Strings (names_of literals.now)
leaf_head u (leaf.TypeName ty) = Named (matched_type u (ctype_of ty))
leaf_head u (leaf.MemberDesignator member) = MemberDesignator member

abbrev pub one_head : One → Head
one_head (one.Member member) = Member member
one_head (one.Unary op) = Unary op
one_head one.SizeofType = SizeofType
one_head one.IndexDesignator = IndexDesignator

abbrev pub two_head : Two → Head
two_head two.VaArg = VaArg
two_head two.Index = Index
two_head two.CompoundLit = CompoundLit
two_head two.Cast = Cast
two_head (two.Binary op) = Binary op
two_head (two.Assign op) = Assign op

abbrev pub front_head : Front → Head
front_head front.Call = Call
front_head (front.Offsetof member) = Offsetof member

-- A head with the parts of a subject.
abbrev pub Opened : Type 0
Opened = Head × List Subject

-- these parts under a head, if there is one
abbrev pub opened : Option Head → List Subject → Option Opened
opened None ss = None
opened (Some h) ss = Some (h, ss)

-- those of a primary expression, which may be one in parentheses
abbrev pub primary_opened : Facts → PrimaryShape → Option Opened
primary_opened u (Paren e) = opened (head_of u (inner (Tree e))) (parts_of (inner (Tree e)))
primary_opened u k = opened (primary_head k) (primary_parts k)

abbrev pub level_opened : Facts → Level → Option Opened
level_opened u (level.Leaf head) = Some (leaf_head u head, [])
level_opened u (level.One head part) = Some (one_head head, subject_of part ∷ [])
level_opened u (level.Two head left right) = Some (two_head head, Tree (node_of left.now) ∷ Tree (node_of right.now) ∷ [])
level_opened u (level.Cond first second third) = Some (Cond, Tree (node_of first.now) ∷ Tree (node_of second.now) ∷ Tree (node_of third.now) ∷ [])
level_opened u (level.Front head first list) = Some (front_head head, Tree (node_of first.now) ∷ trees (nodes_of list))
level_opened u (level.Braces elements) = Some (Braces, trees (nodes_of elements))
level_opened u (level.Designated designators initial) = Some (Designated, trees_then (nodes_of designators) (Tree (node_of initial.now) ∷ []))
level_opened u level.Other = None

-- what trees of this head and these parts are compared by
abbrev pub opened_pattern : Facts → Option Opened → Pattern
opened_pattern u o = if_there o other (λ x. likewise x.0 (compared_all u x.1))

abbrev pub level_pattern : Facts → Level → Pattern
level_pattern u l = opened_pattern u (level_opened u l)
