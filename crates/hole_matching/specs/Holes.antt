-- Holes: which subjects they take.
use Rattle.metal_tree.specs.MetalMachines.Machine.{NamedType, Basic, Tag, Pointer, HoleType, AnyExpr, AnyScalar, AnyPointer, AnyArguments, AnyFnCall, Named}
use Rattle.metal_tree.specs.MetalMachines.Limits.{most_holes}
use Rattle.std.specs.Prelude.{ℕ, nat_lt, List, slice_get, Bool, true, false, not, ◌&&◌, ◌||◌, Some, is_some}
use Rattle.c_objects.specs.Facts.{Facts}
use Rattle.type_rules.specs.Options.{if_there}
use Rattle.type_rules.specs.Types.{CType}
use Rattle.type_rules.specs.Types as types
use Rattle.hole_matching.specs.MatchedTypes.{MatchedType, Tagged, matched_type, basic, same_type}
use Rattle.hole_matching.specs.MatchedTypes as matched
use Rattle.c_tree.specs.PathSubjects.Subjects.{Subject}
use Rattle.hole_matching.specs.Subjects.{is_expression, subject_type, subject_object}

abbrev pub named_type : NamedType → MatchedType
named_type (Basic words) = basic words
named_type (Tag which tag) = Tagged which (Some tag)
named_type (Pointer t) = matched.Pointer (named_type t)

-- What is matched under: the facts of the unit, the depth of objects, the number of state variables, the types of the holes,
-- the state variables first, and the name of the function in which the subject stands.
pub record Setting : Type 0 where
  pub facts : Facts
  pub depth : ℕ
  pub variables : ℕ
  pub holes : List HoleType
  pub function : ℕ

abbrev pub is_scalar : CType → Bool
is_scalar (types.Arith k) = true
is_scalar (types.Pointer t) = true
is_scalar _ = false

abbrev pub is_pointer : CType → Bool
is_pointer (types.Pointer t) = true
is_pointer (types.Array t) = true
is_pointer _ = false

-- a hole of this type takes an expression of that type
abbrev pub takes_type : Facts → HoleType → CType → Bool
takes_type u AnyExpr t = true
takes_type u AnyScalar t = is_scalar t
takes_type u AnyPointer t = is_pointer t
takes_type u AnyArguments t = false
takes_type u AnyFnCall t = true
takes_type u (Named n) t = same_type (named_type n) (matched_type u t)

abbrev pub is_rest_type : HoleType → Bool
is_rest_type AnyArguments = true
is_rest_type _ = false

abbrev pub has_slot : ℕ → Bool
has_slot n = nat_lt n most_holes

abbrev pub is_variable : Setting → ℕ → Bool
is_variable g n = nat_lt n g.variables

-- A HOLE TAKES A SUBJECT that isn't in parentheses: an expression of its type, and for a state variable one that has an object.
abbrev pub may_take : Setting → ℕ → Subject → Bool
may_take g n s =
    has_slot n && is_expression s
    && if_there (slice_get g.holes n) false (λ h. takes_type g.facts h (subject_type g.facts s))
    && (not (is_variable g n) || is_some (subject_object g.facts g.depth s))

-- a hole takes the rest of a list of arguments
abbrev pub takes_rest : Setting → ℕ → Bool
takes_rest g n = has_slot n && if_there (slice_get g.holes n) false is_rest_type
