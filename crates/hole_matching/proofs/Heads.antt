-- Types, heads and patterns that are found the same are equal, and each is the same as itself.
use Rattle.std.proofs.Common.{arith, ◌≡◌, ℕ, List, [], ◌∷◌, Bool, true, false, Option, None, Some, refl, ◌∙◌, ap, nat_eq, ◌&&◌}
use Rattle.hole_matching.specs.Ways.Codes.{unary_code, binary_code, assign_code, which_code, arithmetic_code}
use Rattle.hole_matching.specs.MatchedTypes.{MatchedType, Void, Arith, VaList, Pointer, Array, Func, Tagged, same_tag, same_type}
use Rattle.hole_matching.specs.Pattern.{Head, Identifier, Integer, Spelled, Strings, VaArg, Offsetof, Index, Call, Member, CompoundLit, Unary, SizeofType, Cast, Binary, Cond, Assign, Named, MemberDesignator, IndexDesignator, Braces, Designated, Pattern, hole, likewise, other, Patterns, no_more, more, same_names, same_head, same_pattern, same_patterns}
use Rattle.hole_matching.proofs.CodeFacts.{unary-same, binary-same, assign-same, which-same, arithmetic-same}

pub and-left : (a b : Bool) → (a && b) ≡ true → a ≡ true
and-left true b h = refl
and-left false b h = cc

pub and-right : (a b : Bool) → (a && b) ≡ true → b ≡ true
and-right true b h = h
and-right false b h = cc

pub and-both : (a b : Bool) → a ≡ true → b ≡ true → (a && b) ≡ true
and-both true b h k = k
and-both false b h k = cc

pub eq-true : (n m : ℕ) → nat_eq n m ≡ true → n ≡ m
eq-true n m h = grind arith

pub eq-refl : (n : ℕ) → nat_eq n n ≡ true
eq-refl n = grind arith

same_tag-true : (a b : Option ℕ) → same_tag a b ≡ true → a ≡ b
same_tag-true None None h = refl
same_tag-true (Some n) (Some m) h = ap Some (eq-true n m h)
same_tag-true None (Some m) h = cc
same_tag-true (Some n) None h = cc

same_tag-refl : (a : Option ℕ) → same_tag a a ≡ true
same_tag-refl None = refl
same_tag-refl (Some n) = eq-refl n

pub same_type-true : (a b : MatchedType) → same_type a b ≡ true → a ≡ b
same_type-true Void Void h = refl
same_type-true (Arith k) (Arith l) h = ap Arith (arithmetic-same k l h)
same_type-true VaList VaList h = refl
same_type-true (Pointer t) (Pointer s) h = ap Pointer (same_type-true t s h)
same_type-true (Array t) (Array s) h = ap Array (same_type-true t s h)
same_type-true (Func t) (Func s) h = ap Func (same_type-true t s h)
same_type-true (Tagged w n) (Tagged v m) h =
    ap (λ x. Tagged x n) (which-same w v (and-left (nat_eq (which_code w) (which_code v)) (same_tag n m) h))
    ∙ ap (Tagged v) (same_tag-true n m (and-right (nat_eq (which_code w) (which_code v)) (same_tag n m) h))
same_type-true _ _ h = cc

pub same_type-refl : (a : MatchedType) → same_type a a ≡ true
same_type-refl Void = refl
same_type-refl (Arith k) = eq-refl (arithmetic_code k)
same_type-refl VaList = refl
same_type-refl (Pointer t) = same_type-refl t
same_type-refl (Array t) = same_type-refl t
same_type-refl (Func t) = same_type-refl t
same_type-refl (Tagged w n) = and-both (nat_eq (which_code w) (which_code w)) (same_tag n n) (eq-refl (which_code w)) (same_tag-refl n)

same_names-true : (a b : List ℕ) → same_names a b ≡ true → a ≡ b
same_names-true [] [] h = refl
same_names-true (n ∷ ns) (m ∷ ms) h =
    ap (λ x. x ∷ ns) (eq-true n m (and-left (nat_eq n m) (same_names ns ms) h))
    ∙ ap (λ x. m ∷ x) (same_names-true ns ms (and-right (nat_eq n m) (same_names ns ms) h))
same_names-true [] (m ∷ ms) h = cc
same_names-true (n ∷ ns) [] h = cc

same_names-refl : (a : List ℕ) → same_names a a ≡ true
same_names-refl [] = refl
same_names-refl (n ∷ ns) = and-both (nat_eq n n) (same_names ns ns) (eq-refl n) (same_names-refl ns)

pub same_head-true : (a b : Head) → same_head a b ≡ true → a ≡ b
same_head-true (Identifier n) (Identifier m) h = ap Identifier (eq-true n m h)
same_head-true (Integer n) (Integer m) h = ap Integer (eq-true n m h)
same_head-true (Spelled n) (Spelled m) h = ap Spelled (eq-true n m h)
same_head-true (Strings ns) (Strings ms) h = ap Strings (same_names-true ns ms h)
same_head-true VaArg VaArg h = refl
same_head-true (Offsetof n) (Offsetof m) h = ap Offsetof (eq-true n m h)
same_head-true Index Index h = refl
same_head-true Call Call h = refl
same_head-true (Member n) (Member m) h = ap Member (eq-true n m h)
same_head-true CompoundLit CompoundLit h = refl
same_head-true (Unary o) (Unary q) h = ap Unary (unary-same o q h)
same_head-true SizeofType SizeofType h = refl
same_head-true Cast Cast h = refl
same_head-true (Binary o) (Binary q) h = ap Binary (binary-same o q h)
same_head-true Cond Cond h = refl
same_head-true (Assign o) (Assign q) h = ap Assign (assign-same o q h)
same_head-true (Named t) (Named s) h = ap Named (same_type-true t s h)
same_head-true (MemberDesignator n) (MemberDesignator m) h = ap MemberDesignator (eq-true n m h)
same_head-true IndexDesignator IndexDesignator h = refl
same_head-true Braces Braces h = refl
same_head-true Designated Designated h = refl
same_head-true _ _ h = cc

pub same_head-refl : (a : Head) → same_head a a ≡ true
same_head-refl (Identifier n) = eq-refl n
same_head-refl (Integer n) = eq-refl n
same_head-refl (Spelled n) = eq-refl n
same_head-refl (Strings ns) = same_names-refl ns
same_head-refl VaArg = refl
same_head-refl (Offsetof n) = eq-refl n
same_head-refl Index = refl
same_head-refl Call = refl
same_head-refl (Member n) = eq-refl n
same_head-refl CompoundLit = refl
same_head-refl (Unary o) = eq-refl (unary_code o)
same_head-refl SizeofType = refl
same_head-refl Cast = refl
same_head-refl (Binary o) = eq-refl (binary_code o)
same_head-refl Cond = refl
same_head-refl (Assign o) = eq-refl (assign_code o)
same_head-refl (Named t) = same_type-refl t
same_head-refl (MemberDesignator n) = eq-refl n
same_head-refl IndexDesignator = refl
same_head-refl Braces = refl
same_head-refl Designated = refl

mutual
  pub same_pattern-true : (a b : Pattern) → same_pattern a b ≡ true → a ≡ b
  same_pattern-true (hole n) (hole m) h = ap hole (eq-true n m h)
  same_pattern-true (likewise k ps) (likewise l qs) h =
      ap (λ x. likewise x ps) (same_head-true k l (and-left (same_head k l) (same_patterns ps qs) h))
      ∙ ap (likewise l) (same_patterns-true ps qs (and-right (same_head k l) (same_patterns ps qs) h))
  same_pattern-true other other h = refl
  same_pattern-true _ _ h = cc

  pub same_patterns-true : (a b : Patterns) → same_patterns a b ≡ true → a ≡ b
  same_patterns-true no_more no_more h = refl
  same_patterns-true (more p ps) (more q qs) h =
      ap (λ x. more x ps) (same_pattern-true p q (and-left (same_pattern p q) (same_patterns ps qs) h))
      ∙ ap (more q) (same_patterns-true ps qs (and-right (same_pattern p q) (same_patterns ps qs) h))
  same_patterns-true _ _ h = cc

mutual
  pub same_pattern-refl : (a : Pattern) → same_pattern a a ≡ true
  same_pattern-refl (hole n) = eq-refl n
  same_pattern-refl (likewise k ps) = and-both (same_head k k) (same_patterns ps ps) (same_head-refl k) (same_patterns-refl ps)
  same_pattern-refl other = refl

  pub same_patterns-refl : (a : Patterns) → same_patterns a a ≡ true
  same_patterns-refl no_more = refl
  same_patterns-refl (more p ps) = and-both (same_pattern p p) (same_patterns ps ps) (same_pattern-refl p) (same_patterns-refl ps)
