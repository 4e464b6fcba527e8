-- Types and variables have codes, so two proofs that one is another are equal.
use Rattle.std.proofs.Common.{◌≡◌, ℕ, List, [], ◌∷◌, Option, ap, refl}
use Rattle.std.specs.Coded.{Coded, Coded-set, code_by, codes, coded_list, coded_option, coded×}
use Rattle.type_rules.specs.Arithmetic.{Arithmetic}
use Rattle.type_rules.specs.Types.{CType, Void, Arith, VaList, Pointer, Array, Func, Struct, Union}
use Rattle.type_rules.specs.Vars.{CVar}

-- what a type is made of, and how
data Base : Type 0 where
  Nothing : Base
  Number : Arithmetic → Base
  Arguments : Base
  StructOf : ℕ → Base
  UnionOf : ℕ → Base

data Around : Type 0 where
  PointerTo : Around
  ArrayOf : Around
  Giving : Around

abbrev inside : CType → List Around × Base
inside Void = ([], Nothing)
inside (Arith k) = ([], Number k)
inside VaList = ([], Arguments)
inside (Pointer t) = (PointerTo ∷ (inside t).0, (inside t).1)
inside (Array t) = (ArrayOf ∷ (inside t).0, (inside t).1)
inside (Func t) = (Giving ∷ (inside t).0, (inside t).1)
inside (Struct n) = ([], StructOf n)
inside (Union n) = ([], UnionOf n)

abbrev plain : Base → CType
plain Nothing = Void
plain (Number k) = Arith k
plain Arguments = VaList
plain (StructOf n) = Struct n
plain (UnionOf n) = Union n

abbrev one : Around → CType → CType
one PointerTo t = Pointer t
one ArrayOf t = Array t
one Giving t = Func t

abbrev all : List Around → Base → CType
all [] b = plain b
all (a ∷ rest) b = one a (all rest b)

abbrev outside : List Around × Base → CType
outside p = all p.0 p.1

back : (t : CType) → outside (inside t) ≡ t
back Void = refl
back (Arith k) = refl
back VaList = refl
back (Pointer t) = ap Pointer (back t)
back (Array t) = ap Array (back t)
back (Func t) = ap Func (back t)
back (Struct n) = refl
back (Union n) = refl

arithmetic-coded : Coded Arithmetic
arithmetic-coded = hlevel codes

base-coded : Coded Base
base-coded = hlevel (codes, arithmetic-coded)

around-coded : Coded Around
around-coded = hlevel codes

type-coded : Coded CType
type-coded = code_by (List Around × Base) (coded× (coded_list around-coded) base-coded) inside outside back

variable-coded : Coded CVar
variable-coded = hlevel codes

pub maybe-type-set : (x y : Option CType) → IsProp (x ≡ y)
maybe-type-set = Coded-set (coded_option type-coded)

pub maybe-variable-set : (x y : Option CVar) → IsProp (x ≡ y)
maybe-variable-set = Coded-set (coded_option variable-coded)

pub type-set : (x y : CType) → IsProp (x ≡ y)
type-set = Coded-set type-coded
