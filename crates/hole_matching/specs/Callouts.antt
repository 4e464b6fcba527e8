-- Callouts, `${ .. }` in Metal: what they ask of a binding.
use Rattle.std.specs.Prelude.{ℕ, nat_eq, List, [], ◌∷◌, Bool, true, false, cond, not, ◌&&◌, Option, None, Some, is_none}
use Rattle.metal_tree.specs.MetalMachines.Machine.{CalloutRow, IsConst, IsGlobal, IsParam, IsLocal, NameIs, InFunction, NeverHolds, AlwaysHolds, Condition}
use Rattle.c_objects.specs.Facts.{Facts, numbered_type, numbered_var}
use Rattle.c_objects.specs.Objects.{is_static_var}
use Rattle.c_tree.specs.Node.{Node, node, Primary, Operation, PrimaryShape, OperationShape, Ident, Constant, StrConst, Paren, Cast}
use Rattle.type_rules.specs.Options.{if_there}
use Rattle.type_rules.specs.Types.{is_arithmetic}
use Rattle.type_rules.specs.Vars.{CVar, Param, Local}
use Rattle.hole_matching.specs.Holes.{Setting}
use Rattle.hole_matching.specs.Matching.{Taken, One, Many, Binding, slot}
use Rattle.c_tree.specs.PathSubjects.Subjects.{Subject, Tree, DerefOf}
use Rattle.hole_matching.specs.Subjects.{subject_object}

-- a name without a variable whose type is arithmetic is an enumerator: the name of a function has function type
abbrev pub is_enumerator : Facts → ℕ → Bool
is_enumerator u i = is_none (numbered_var u i) && is_arithmetic (numbered_type u i)

-- under any parentheses and casts a constant, a string or an enumerator
abbrev mutual
  pub is_constant : Facts → Node → Bool
  is_constant u (node i p (Primary k)) = is_primary_constant u i k
  is_constant u (node i p (Operation k)) = is_cast_constant u k
  is_constant u _ = false

  pub is_primary_constant : Facts → ℕ → PrimaryShape → Bool
  is_primary_constant u i (Ident name) = is_enumerator u i
  is_primary_constant u i (Constant token) = true
  is_primary_constant u i (StrConst literals) = true
  is_primary_constant u i (Paren inner) = is_constant u inner
  is_primary_constant u i _ = false

  pub is_cast_constant : Facts → OperationShape → Bool
  is_cast_constant u (Cast to operand) = is_constant u operand
  is_cast_constant u _ = false

-- under any parentheses and casts an identifier of this spelling
abbrev mutual
  pub is_named : ℕ → Node → Bool
  is_named text (node i p (Primary k)) = is_primary_named text k
  is_named text (node i p (Operation k)) = is_cast_named text k
  is_named text _ = false

  pub is_primary_named : ℕ → PrimaryShape → Bool
  is_primary_named text (Ident name) = nat_eq name.name text
  is_primary_named text (Paren inner) = is_named text inner
  is_primary_named text _ = false

  pub is_cast_named : ℕ → OperationShape → Bool
  is_cast_named text (Cast to operand) = is_named text operand
  is_cast_named text _ = false

abbrev pub is_param : CVar → Bool
is_param (Param f t n) = true
is_param _ = false

abbrev pub is_local : CVar → Bool
is_local (Local f t n) = true
is_local _ = false

-- the greatest depth, at which callouts look at objects
abbrev pub most_depth : ℕ
most_depth = 8

-- the subject has an object, and its variable is of this sort
abbrev pub has_base : (CVar → Bool) → Facts → Subject → Bool
has_base sort u s = if_there (subject_object u most_depth s) false (λ o. sort o.base)

-- a subject of a hole for which this holds; a `*x` that is read out of `x->f` is no constant and no name
abbrev pub of_tree : (Node → Bool) → Subject → Bool
of_tree holds (Tree e) = holds e
of_tree holds (DerefOf x) = false

-- what one subject is asked, and arguments never are
abbrev pub of_one : (Subject → Bool) → Option Taken → Bool
of_one holds None = false
of_one holds (Some (One s)) = holds s
of_one holds (Some (Many ss)) = false

-- WHAT A CALLOUT ANSWERS, with this text, where its hole has taken this
abbrev pub answer_of : Setting → ℕ → Option Taken → CalloutRow → Bool
answer_of g text x IsConst = of_one (of_tree (is_constant g.facts)) x
answer_of g text x IsGlobal = of_one (has_base is_static_var g.facts) x
answer_of g text x IsParam = of_one (has_base is_param g.facts) x
answer_of g text x IsLocal = of_one (has_base is_local g.facts) x
answer_of g text x NameIs = of_one (of_tree (is_named text)) x
answer_of g text x InFunction = nat_eq g.function text
answer_of g text x NeverHolds = false
answer_of g text x AlwaysHolds = true

abbrev pub answer : Setting → Condition → Binding → Bool
answer g c b = answer_of g c.text (slot c.hole b) c.row

-- A CALLOUT HOLDS; `!` turns the answer round
abbrev pub holds : Setting → Condition → Binding → Bool
holds g c b = cond c.negated (not (answer g c b)) (answer g c b)
