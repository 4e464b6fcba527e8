-- Callouts and alternatives, by computation.
use Rattle.std.proofs.Common.{◌≡◌, ℕ, true, false, List, [], ◌∷◌, Bool, Option, Some, refl}
use Rattle.std.specs.Prelude.{is_some}
use Rattle.c_objects.specs.Objects.{Object, path}
use Rattle.c_objects.proofs.Building.{p, s, name, constant, number, paren, star, address, index, dot, arrow, cast, call, other, token}
use Rattle.c_tree.specs.declared.operator.AssignOp.TheVariants as assign
use Rattle.c_tree.specs.declared.token.TokenKind.TheVariants as kinds
use Rattle.c_tree.specs.Node.{Node, Primary, StrConst}
use Rattle.type_rules.specs.Options.{◌>?◌}
use Rattle.metal_tree.specs.MetalMachines.Machine.{CalloutRow, IsConst, IsGlobal, IsParam, IsLocal, NameIs, InFunction, NeverHolds, AlwaysHolds, Item, Base, Holds, EndOfPath, Condition}
use Rattle.hole_matching.specs.Alternatives.{matched_alternative, IsPlainAlternative, AppliesAtEnd, has_end_of_path, all_hold, bound_object}
use Rattle.hole_matching.specs.Callouts.{holds}
use Rattle.hole_matching.specs.Matched.{nothing_taken}
use Rattle.hole_matching.specs.Matching.{One, Many}
use Rattle.c_tree.specs.PathSubjects.Subjects.{Subject, Tree, DerefOf}
use Rattle.hole_matching.proofs.Building.{setting, hole, named, calling, starred, assigning, call_of, assigned, initialized, braces}

abbrev condition : CalloutRow → ℕ → Condition
condition row text = record { negated = false; row = row; hole = 0; text = text }

abbrev negation : CalloutRow → ℕ → Condition
negation row text = record { negated = true; row = row; hole = 0; text = text }

-- whether a callout holds where hole 0 has taken this tree
abbrev of_tree : CalloutRow → Node → Bool
of_tree asked e = holds setting (condition asked 3) (Some (One (Tree e)) ∷ [])

-- mc_is_const: 1, 'a', "..", (1), (T)1, e, (T)(e); not i, not g, not *p, not a `*p` out of `p->f`
pub const_number : of_tree IsConst (number 1) ≡ true
const_number = refl

const_character : of_tree IsConst (constant (kinds.Char false)) ≡ true
const_character = refl

const_string : of_tree IsConst (other (Primary (StrConst (token (kinds.Str false) 40 ∷ [])))) ≡ true
const_string = refl

const_in_parentheses : of_tree IsConst (paren (number 1)) ≡ true
const_in_parentheses = refl

const_cast : of_tree IsConst (cast (paren (number 1))) ≡ true
const_cast = refl

const_enumerator : of_tree IsConst (name 7) ≡ true
const_enumerator = refl

const_cast_enumerator : of_tree IsConst (cast (paren (name 7))) ≡ true
const_cast_enumerator = refl

const_variable : of_tree IsConst (name 3) ≡ false
const_variable = refl

const_function : of_tree IsConst (name 6) ≡ false
const_function = refl

const_star : of_tree IsConst (star (name 0)) ≡ false
const_star = refl

const_star_of_arrow : holds setting (condition IsConst 3) (Some (One (DerefOf (number 1))) ∷ []) ≡ false
const_star_of_arrow = refl

-- mc_is_global: a, *a[i], x, &a; not p, not s, not a call
global_extern : of_tree IsGlobal (name 2) ≡ true
global_extern = refl

global_steps : of_tree IsGlobal (star (index (name 2) (name 3))) ≡ true
global_steps = refl

global_file_static : of_tree IsGlobal (name 4) ≡ true
global_file_static = refl

global_address : of_tree IsGlobal (address (name 2)) ≡ true
global_address = refl

global_parameter : of_tree IsGlobal (name 0) ≡ false
global_parameter = refl

global_local : of_tree IsGlobal (name 1) ≡ false
global_local = refl

global_call : of_tree IsGlobal (call (name 6)) ≡ false
global_call = refl

-- mc_is_param: p, p->f, the `*p` out of `p->f`; not s, not a
param_parameter : of_tree IsParam (name 0) ≡ true
param_parameter = refl

param_steps : of_tree IsParam (arrow (name 0) 8) ≡ true
param_steps = refl

param_star_of_arrow : holds setting (condition IsParam 0) (Some (One (DerefOf (name 0))) ∷ []) ≡ true
param_star_of_arrow = refl

param_local : of_tree IsParam (name 1) ≡ false
param_local = refl

param_global : of_tree IsParam (name 2) ≡ false
param_global = refl

-- mc_is_local: s, s.f; not p, not a. Its depth is 8, also where that of the match is 4.
local_local : of_tree IsLocal (name 1) ≡ true
local_local = refl

local_member : of_tree IsLocal (dot (name 1) 8) ≡ true
local_member = refl

local_parameter : of_tree IsLocal (name 0) ≡ false
local_parameter = refl

local_global : of_tree IsLocal (name 2) ≡ false
local_global = refl

local_eight_steps : of_tree IsLocal (star (star (star (star (star (star (star (star (name 5))))))))) ≡ true
local_eight_steps = refl

local_nine_steps : of_tree IsLocal (star (star (star (star (star (star (star (star (star (name 5)))))))))) ≡ false
local_nine_steps = refl

-- mc_name_is(v, "i"): i, (i), (T)i; not a, not *i
name_is : of_tree NameIs (name 3) ≡ true
name_is = refl

name_is_under : of_tree NameIs (cast (paren (name 3))) ≡ true
name_is_under = refl

name_is_other : of_tree NameIs (name 2) ≡ false
name_is_other = refl

name_is_star : of_tree NameIs (star (name 3)) ≡ false
name_is_star = refl

-- mc_in_function: the function is 20; `0` and `1`
in_function : holds setting (condition InFunction 20) [] ≡ true
in_function = refl

in_other_function : holds setting (condition InFunction 21) [] ≡ false
in_other_function = refl

never : holds setting (condition NeverHolds 0) [] ≡ false
never = refl

always : holds setting (condition AlwaysHolds 0) [] ≡ true
always = refl

-- `!` turns the answer round
not_never : holds setting (negation NeverHolds 0) [] ≡ true
not_never = refl

not_const : holds setting (negation IsConst 0) (Some (One (Tree (name 3))) ∷ []) ≡ true
not_const = refl

-- the first five rows never hold of arguments, and so their negations do
const_arguments : holds setting (condition IsConst 0) (Some (Many (Tree (number 1) ∷ [])) ∷ []) ≡ false
const_arguments = refl

global_arguments : holds setting (condition IsGlobal 0) (Some (Many (Tree (name 2) ∷ [])) ∷ []) ≡ false
global_arguments = refl

name_of_arguments : holds setting (condition NameIs 3) (Some (Many (Tree (name 3) ∷ [])) ∷ []) ≡ false
name_of_arguments = refl

not_const_arguments : holds setting (negation IsConst 0) (Some (Many (Tree (number 1) ∷ [])) ∷ []) ≡ true
not_const_arguments = refl

-- alternatives

abbrev object_bound : List Item → Subject → Option Object
object_bound items s = matched_alternative setting items s >? bound_object setting 0

-- `{ g(v) }` over g(p) binds p
binds : object_bound (Base (calling (named 6) (hole 0 ∷ [])) ∷ []) (Tree (call_of (name 6) (name 0 ∷ []))) ≡ Some (path p [])
binds = refl

-- `{ *v }` over the `*p` out of `p->f` binds p
binds_in_arrow : object_bound (Base (starred (hole 0)) ∷ []) (DerefOf (name 0)) ≡ Some (path p [])
binds_in_arrow = refl

-- base patterns are matched with one binding: `{ v = x } && { p = x }` and `{ x = i } && { p = x }` over p = i
two_patterns : is_some (matched_alternative setting (Base (assigning assign.Plain (hole 0) (hole 1)) ∷ Base (assigning assign.Plain (named 0) (hole 1)) ∷ []) (Tree (assigned assign.Plain (name 0) (name 3)))) ≡ true
two_patterns = refl

two_bindings : is_some (matched_alternative setting (Base (assigning assign.Plain (hole 1) (named 3)) ∷ Base (assigning assign.Plain (named 0) (hole 1)) ∷ []) (Tree (assigned assign.Plain (name 0) (name 3)))) ≡ false
two_bindings = refl

-- a callout is asked of the whole binding, wherever it stands: `${ mc_is_param(v) } && { *v }`
callout_first : is_some (matched_alternative setting (Holds (condition IsParam 0) ∷ Base (starred (hole 0)) ∷ []) (Tree (star (name 0)))) ≡ true
callout_first = refl

callout_fails : is_some (matched_alternative setting (Base (starred (hole 0)) ∷ Holds (condition IsLocal 0) ∷ []) (Tree (star (name 0)))) ≡ false
callout_fails = refl

-- an alternative without a base pattern, over anything, a name with a braced initial among it; `$end_of_path$` asks nothing of it
no_pattern : is_some (matched_alternative setting (Holds (condition AlwaysHolds 0) ∷ []) (Tree (initialized (name 1) (braces [])))) ≡ true
no_pattern = refl

end_of_path : is_some (matched_alternative setting (EndOfPath ∷ EndOfPath ∷ []) (Tree (name 0))) ≡ true
end_of_path = refl

end_of_path_with_callout : is_some (matched_alternative setting (EndOfPath ∷ Holds (condition NeverHolds 0) ∷ []) (Tree (name 0))) ≡ false
end_of_path_with_callout = refl

-- at the end of a function: `$end_of_path$`, also twice, and beside callouts that hold: `${ mc_in_function("..") }`, `${ 1 }`
at_end : AppliesAtEnd setting (EndOfPath ∷ [])
at_end = record { end = refl; conditions = refl }

at_end_twice : AppliesAtEnd setting (EndOfPath ∷ EndOfPath ∷ [])
at_end_twice = record { end = refl; conditions = refl }

at_end_of_function : AppliesAtEnd setting (Holds (condition InFunction 20) ∷ EndOfPath ∷ Holds (condition AlwaysHolds 0) ∷ [])
at_end_of_function = record { end = refl; conditions = refl }

-- not at the end of another function, nor where a callout is `${ 0 }`
end_of_other_function : all_hold setting (EndOfPath ∷ Holds (condition InFunction 21) ∷ []) nothing_taken ≡ false
end_of_other_function = refl

never_at_end : all_hold setting (Holds (condition NeverHolds 0) ∷ EndOfPath ∷ []) nothing_taken ≡ false
never_at_end = refl

-- a callout that asks of a hole doesn't hold there, since nothing is taken; so its negation does
nothing_at_end : all_hold setting (EndOfPath ∷ Holds (condition IsLocal 0) ∷ []) nothing_taken ≡ false
nothing_at_end = refl

negation_at_end : AppliesAtEnd setting (EndOfPath ∷ Holds (negation IsLocal 0) ∷ [])
negation_at_end = record { end = refl; conditions = refl }

-- what is asked of subjects alone: a pattern, callouts, nothing at all; and so not at the end
plain_pattern : IsPlainAlternative (Base (starred (hole 0)) ∷ Holds (condition AlwaysHolds 0) ∷ [])
plain_pattern = refl

plain_callout : IsPlainAlternative (Holds (condition AlwaysHolds 0) ∷ [])
plain_callout = refl

no_plain_alternative : has_end_of_path (Holds (condition AlwaysHolds 0) ∷ EndOfPath ∷ []) ≡ true
no_plain_alternative = refl
