-- What trees are matched by: the head of a node, which is its kind with all that belongs to the kind, and its parts in order.
use Rattle.std.specs.Prelude.{ℕ, nat_eq, Bool, true, false, ◌&&◌, List, [], ◌∷◌}
use Rattle.c_tree.specs.declared.operator.AssignOp.{AssignOp}
use Rattle.c_tree.specs.declared.operator.BinaryOp.{BinaryOp}
use Rattle.c_tree.specs.declared.operator.UnaryOp.{UnaryOp}
use Rattle.hole_matching.specs.Ways.Codes.{unary_code, binary_code, assign_code}
use Rattle.hole_matching.specs.MatchedTypes.{MatchedType, same_type}

-- An identifier is its spelling, an integer constant its value, every other constant its spelling, a string the spellings of
-- its literals, and a type name its type.
pub data Head : Type 0 where
  Identifier : ℕ → Head
  Integer : ℕ → Head
  Spelled : ℕ → Head
  Strings : List ℕ → Head
  VaArg : Head
  Offsetof : ℕ → Head
  Index : Head
  Call : Head
  Member : ℕ → Head
  CompoundLit : Head
  Unary : UnaryOp → Head
  SizeofType : Head
  Cast : Head
  Binary : BinaryOp → Head
  Cond : Head
  Assign : AssignOp → Head
  Named : MatchedType → Head
  MemberDesignator : ℕ → Head
  IndexDesignator : Head
  Braces : Head
  Designated : Head

-- A pattern is a hole, or a head with parts. `other` is what no tree matches.
mutual
  pub data Pattern : Type 0 where
    hole : ℕ → Pattern
    likewise : Head → Patterns → Pattern
    other : Pattern

  pub data Patterns : Type 0 where
    no_more : Patterns
    more : Pattern → Patterns → Patterns

abbrev pub same_names : List ℕ → List ℕ → Bool
same_names [] [] = true
same_names (n ∷ ns) (m ∷ ms) = nat_eq n m && same_names ns ms
same_names _ _ = false

abbrev pub same_head : Head → Head → Bool
same_head (Identifier n) (Identifier m) = nat_eq n m
same_head (Integer n) (Integer m) = nat_eq n m
same_head (Spelled n) (Spelled m) = nat_eq n m
same_head (Strings ns) (Strings ms) = same_names ns ms
same_head VaArg VaArg = true
same_head (Offsetof n) (Offsetof m) = nat_eq n m
same_head Index Index = true
same_head Call Call = true
same_head (Member n) (Member m) = nat_eq n m
same_head CompoundLit CompoundLit = true
same_head (Unary o) (Unary q) = nat_eq (unary_code o) (unary_code q)
same_head SizeofType SizeofType = true
same_head Cast Cast = true
same_head (Binary o) (Binary q) = nat_eq (binary_code o) (binary_code q)
same_head Cond Cond = true
same_head (Assign o) (Assign q) = nat_eq (assign_code o) (assign_code q)
same_head (Named t) (Named s) = same_type t s
same_head (MemberDesignator n) (MemberDesignator m) = nat_eq n m
same_head IndexDesignator IndexDesignator = true
same_head Braces Braces = true
same_head Designated Designated = true
same_head _ _ = false

abbrev mutual
  pub same_pattern : Pattern → Pattern → Bool
  same_pattern (hole n) (hole m) = nat_eq n m
  same_pattern (likewise h ps) (likewise k qs) = same_head h k && same_patterns ps qs
  same_pattern other other = true
  same_pattern _ _ = false

  pub same_patterns : Patterns → Patterns → Bool
  same_patterns no_more no_more = true
  same_patterns (more p ps) (more q qs) = same_pattern p q && same_patterns ps qs
  same_patterns _ _ = false
