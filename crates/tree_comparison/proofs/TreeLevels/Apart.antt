-- Heads with different numbers of parts are different.
use Rattle.std.proofs.Common.{◌≡◌, ℕ, Bool, true, false, refl, ◌∙◌, sym, ap, nat_eq, true≢false}
use Rattle.c_objects.specs.Facts.{Facts}
use Rattle.tree_comparison.specs.declared.tree_levels.heads.Leaf.{Leaf}
use Rattle.tree_comparison.specs.declared.tree_levels.heads.Leaf.TheVariants as leaf
use Rattle.tree_comparison.specs.declared.tree_levels.heads.One.{One}
use Rattle.tree_comparison.specs.declared.tree_levels.heads.One.TheVariants as one
use Rattle.tree_comparison.specs.declared.tree_levels.heads.Two.{Two}
use Rattle.tree_comparison.specs.declared.tree_levels.heads.Two.TheVariants as two
use Rattle.tree_comparison.specs.declared.tree_levels.heads.Front.{Front}
use Rattle.tree_comparison.specs.declared.tree_levels.heads.Front.TheVariants as front
use Rattle.tree_comparison.specs.TreeLevels.Levels.{leaf_head, one_head, two_head, front_head}
use Rattle.hole_matching.proofs.Heads.{eq-refl, same_head-true}
use Rattle.hole_matching.specs.Pattern.{Head, VaArg, Offsetof, Index, Call, Member, CompoundLit, Unary, SizeofType, Cast, Binary, Cond, Assign, IndexDesignator, Braces, Designated, same_head}

-- a number for each sort of head: without parts, with one, with two, and one for each that goes by itself
abbrev class : Head → ℕ
class VaArg = 2
class (Offsetof n) = 4
class Index = 2
class Call = 4
class (Member n) = 1
class CompoundLit = 2
class (Unary op) = 1
class SizeofType = 1
class Cast = 2
class (Binary op) = 2
class Cond = 3
class (Assign op) = 2
class IndexDesignator = 1
class Braces = 6
class Designated = 7
class _ = 0

leaf-class : (u : Facts) (l : Leaf) → class (leaf_head u l) ≡ 0
leaf-class u (leaf.Identifier n) = refl
leaf-class u (leaf.Integer n) = refl
leaf-class u (leaf.Spelled n) = refl
leaf-class u (leaf.Strings ts) = refl
leaf-class u (leaf.TypeName t) = refl
leaf-class u (leaf.MemberDesignator n) = refl

one-class : (o : One) → class (one_head o) ≡ 1
one-class (one.Member n) = refl
one-class (one.Unary op) = refl
one-class one.SizeofType = refl
one-class one.IndexDesignator = refl

two-class : (t : Two) → class (two_head t) ≡ 2
two-class two.VaArg = refl
two-class two.Index = refl
two-class two.CompoundLit = refl
two-class two.Cast = refl
two-class (two.Binary op) = refl
two-class (two.Assign op) = refl

front-class : (f : Front) → class (front_head f) ≡ 4
front-class front.Call = refl
front-class (front.Offsetof n) = refl

apart : (h k : Head) (i j : ℕ) → class h ≡ i → class k ≡ j → nat_eq i j ≡ false → same_head h k ≡ false
apart h k i j a b e = by (same_head h k) refl
  where
    differ : h ≡ k → true ≡ false
    differ q = sym (eq-refl i) ∙ ap (nat_eq i) (sym a ∙ ap class q ∙ b) ∙ e

    by : (c : Bool) → same_head h k ≡ c → c ≡ false
    by false w = refl
    by true w = absurd (true≢false (differ (same_head-true h k w)))

pub leaf-one : (u : Facts) (l : Leaf) (o : One) → same_head (leaf_head u l) (one_head o) ≡ false
leaf-one u l o = apart (leaf_head u l) (one_head o) 0 1 (leaf-class u l) (one-class o) refl

pub leaf-two : (u : Facts) (l : Leaf) (t : Two) → same_head (leaf_head u l) (two_head t) ≡ false
leaf-two u l t = apart (leaf_head u l) (two_head t) 0 2 (leaf-class u l) (two-class t) refl

pub leaf-front : (u : Facts) (l : Leaf) (f : Front) → same_head (leaf_head u l) (front_head f) ≡ false
leaf-front u l f = apart (leaf_head u l) (front_head f) 0 4 (leaf-class u l) (front-class f) refl

pub one-leaf : (o : One) (u : Facts) (l : Leaf) → same_head (one_head o) (leaf_head u l) ≡ false
one-leaf o u l = apart (one_head o) (leaf_head u l) 1 0 (one-class o) (leaf-class u l) refl

pub one-two : (o : One) (t : Two) → same_head (one_head o) (two_head t) ≡ false
one-two o t = apart (one_head o) (two_head t) 1 2 (one-class o) (two-class t) refl

pub one-front : (o : One) (f : Front) → same_head (one_head o) (front_head f) ≡ false
one-front o f = apart (one_head o) (front_head f) 1 4 (one-class o) (front-class f) refl

pub two-leaf : (t : Two) (u : Facts) (l : Leaf) → same_head (two_head t) (leaf_head u l) ≡ false
two-leaf t u l = apart (two_head t) (leaf_head u l) 2 0 (two-class t) (leaf-class u l) refl

pub two-one : (t : Two) (o : One) → same_head (two_head t) (one_head o) ≡ false
two-one t o = apart (two_head t) (one_head o) 2 1 (two-class t) (one-class o) refl

pub two-front : (t : Two) (f : Front) → same_head (two_head t) (front_head f) ≡ false
two-front t f = apart (two_head t) (front_head f) 2 4 (two-class t) (front-class f) refl

pub front-leaf : (f : Front) (u : Facts) (l : Leaf) → same_head (front_head f) (leaf_head u l) ≡ false
front-leaf f u l = apart (front_head f) (leaf_head u l) 4 0 (front-class f) (leaf-class u l) refl

pub front-one : (f : Front) (o : One) → same_head (front_head f) (one_head o) ≡ false
front-one f o = apart (front_head f) (one_head o) 4 1 (front-class f) (one-class o) refl

pub front-two : (f : Front) (t : Two) → same_head (front_head f) (two_head t) ≡ false
front-two f t = apart (front_head f) (two_head t) 4 2 (front-class f) (two-class t) refl

pub leaf-cond : (u : Facts) (l : Leaf) → same_head (leaf_head u l) Cond ≡ false
leaf-cond u l = apart (leaf_head u l) Cond 0 3 (leaf-class u l) refl refl

pub cond-leaf : (u : Facts) (l : Leaf) → same_head Cond (leaf_head u l) ≡ false
cond-leaf u l = apart Cond (leaf_head u l) 3 0 refl (leaf-class u l) refl

pub leaf-braces : (u : Facts) (l : Leaf) → same_head (leaf_head u l) Braces ≡ false
leaf-braces u l = apart (leaf_head u l) Braces 0 6 (leaf-class u l) refl refl

pub braces-leaf : (u : Facts) (l : Leaf) → same_head Braces (leaf_head u l) ≡ false
braces-leaf u l = apart Braces (leaf_head u l) 6 0 refl (leaf-class u l) refl

pub leaf-designated : (u : Facts) (l : Leaf) → same_head (leaf_head u l) Designated ≡ false
leaf-designated u l = apart (leaf_head u l) Designated 0 7 (leaf-class u l) refl refl

pub designated-leaf : (u : Facts) (l : Leaf) → same_head Designated (leaf_head u l) ≡ false
designated-leaf u l = apart Designated (leaf_head u l) 7 0 refl (leaf-class u l) refl

pub one-cond : (o : One) → same_head (one_head o) Cond ≡ false
one-cond o = apart (one_head o) Cond 1 3 (one-class o) refl refl

pub cond-one : (o : One) → same_head Cond (one_head o) ≡ false
cond-one o = apart Cond (one_head o) 3 1 refl (one-class o) refl

pub one-braces : (o : One) → same_head (one_head o) Braces ≡ false
one-braces o = apart (one_head o) Braces 1 6 (one-class o) refl refl

pub braces-one : (o : One) → same_head Braces (one_head o) ≡ false
braces-one o = apart Braces (one_head o) 6 1 refl (one-class o) refl

pub one-designated : (o : One) → same_head (one_head o) Designated ≡ false
one-designated o = apart (one_head o) Designated 1 7 (one-class o) refl refl

pub designated-one : (o : One) → same_head Designated (one_head o) ≡ false
designated-one o = apart Designated (one_head o) 7 1 refl (one-class o) refl

pub two-cond : (t : Two) → same_head (two_head t) Cond ≡ false
two-cond t = apart (two_head t) Cond 2 3 (two-class t) refl refl

pub cond-two : (t : Two) → same_head Cond (two_head t) ≡ false
cond-two t = apart Cond (two_head t) 3 2 refl (two-class t) refl

pub two-braces : (t : Two) → same_head (two_head t) Braces ≡ false
two-braces t = apart (two_head t) Braces 2 6 (two-class t) refl refl

pub braces-two : (t : Two) → same_head Braces (two_head t) ≡ false
braces-two t = apart Braces (two_head t) 6 2 refl (two-class t) refl

pub two-designated : (t : Two) → same_head (two_head t) Designated ≡ false
two-designated t = apart (two_head t) Designated 2 7 (two-class t) refl refl

pub designated-two : (t : Two) → same_head Designated (two_head t) ≡ false
designated-two t = apart Designated (two_head t) 7 2 refl (two-class t) refl

pub front-cond : (f : Front) → same_head (front_head f) Cond ≡ false
front-cond f = apart (front_head f) Cond 4 3 (front-class f) refl refl

pub cond-front : (f : Front) → same_head Cond (front_head f) ≡ false
cond-front f = apart Cond (front_head f) 3 4 refl (front-class f) refl

pub front-braces : (f : Front) → same_head (front_head f) Braces ≡ false
front-braces f = apart (front_head f) Braces 4 6 (front-class f) refl refl

pub braces-front : (f : Front) → same_head Braces (front_head f) ≡ false
braces-front f = apart Braces (front_head f) 6 4 refl (front-class f) refl

pub front-designated : (f : Front) → same_head (front_head f) Designated ≡ false
front-designated f = apart (front_head f) Designated 4 7 (front-class f) refl refl

pub designated-front : (f : Front) → same_head Designated (front_head f) ≡ false
designated-front f = apart Designated (front_head f) 7 4 refl (front-class f) refl

-- what a head of one sort is, isn't of another
pub ruleset heads_apart = (leaf-one, leaf-two, leaf-front, one-leaf, one-two, one-front, two-leaf, two-one, two-front, front-leaf, front-one, front-two, leaf-cond, cond-leaf, leaf-braces, braces-leaf, leaf-designated, designated-leaf, one-cond, cond-one, one-braces, braces-one, one-designated, designated-one, two-cond, cond-two, two-braces, braces-two, two-designated, designated-two, front-cond, cond-front, front-braces, braces-front, front-designated, designated-front)
