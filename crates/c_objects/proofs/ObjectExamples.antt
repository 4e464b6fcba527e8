-- Objects of trees, by computation.
use Rattle.std.proofs.Common.{◌≡◌, false, [], ◌∷◌, ◌++◌, None, Some, refl}
use Rattle.std.specs.Fmt.{decimal}
use Rattle.std.specs.Prelude.{codes}
use Rattle.c_objects.specs.Objects.{Deref, Field, At, AtVar, path, address_of}
use Rattle.c_objects.specs.ObjectOf.{object_of}
use Rattle.c_objects.specs.Text.{object_text}
use Rattle.c_objects.proofs.Building.{p, s, a, i, q, facts, names, token, other, name, constant, number, paren, unary_of, star, address, index, dot, arrow, cast, call, object}
use Rattle.c_tree.specs.declared.operator.AssignOp.TheVariants as assign
use Rattle.c_tree.specs.declared.operator.BinaryOp.TheVariants as binary
use Rattle.c_tree.specs.declared.operator.UnaryOp.TheVariants as unary
use Rattle.c_tree.specs.declared.token.TokenKind.TheVariants as kinds
use Rattle.c_tree.specs.Node.{Node, Primary, Operation, StrConst, Binary, Cond, Assign}

-- p, (p), (T)p, (T)(p)
pub variable : object (name 0) ≡ Some (path p [])
variable = refl

in_parentheses : object (paren (name 0)) ≡ Some (path p [])
in_parentheses = refl

cast_variable : object (cast (name 0)) ≡ Some (path p [])
cast_variable = refl

cast_parentheses : object (cast (paren (name 0))) ≡ Some (path p [])
cast_parentheses = refl

-- *p, s.f, p->f, ((T)p)->f
pointed_at : object (star (name 0)) ≡ Some (path p (Deref ∷ []))
pointed_at = refl

member : object (dot (name 1) 8) ≡ Some (path s (Field 8 ∷ []))
member = refl

member_behind : object (arrow (name 0) 8) ≡ Some (path p (Deref ∷ Field 8 ∷ []))
member_behind = refl

member_behind_cast : object (arrow (paren (cast (name 0))) 8) ≡ Some (path p (Deref ∷ Field 8 ∷ []))
member_behind_cast = refl

-- p->f and (*p).f are one object
arrow_is_star_dot : object (arrow (name 0) 8) ≡ object (dot (paren (star (name 0))) 8)
arrow_is_star_dot = refl

-- a[2], a[(2)], a[(T)2], a[i], a[(T)(i)]
constant_index : object (index (name 2) (number 2)) ≡ Some (path a (At 2 ∷ []))
constant_index = refl

constant_in_parentheses : object (index (name 2) (paren (number 2))) ≡ Some (path a (At 2 ∷ []))
constant_in_parentheses = refl

constant_cast : object (index (name 2) (cast (number 2))) ≡ Some (path a (At 2 ∷ []))
constant_cast = refl

variable_index : object (index (name 2) (name 3)) ≡ Some (path a (AtVar i ∷ []))
variable_index = refl

variable_cast : object (index (name 2) (cast (paren (name 3)))) ≡ Some (path a (AtVar i ∷ []))
variable_cast = refl

-- no step: a[x] by a float, a[e] by an enumerator, a['c'], a[*q], a[i + 1], a[g()], a[s.f]
float_index : object (index (name 2) (name 4)) ≡ None
float_index = refl

enumerator_index : object (index (name 2) (name 7)) ≡ None
enumerator_index = refl

character_index : object (index (name 2) (constant (kinds.Char false))) ≡ None
character_index = refl

pointed_index : object (index (name 2) (star (name 5))) ≡ None
pointed_index = refl

sum_index : object (index (name 2) (other (Operation (Binary binary.Add (name 3) (number 1))))) ≡ None
sum_index = refl

call_index : object (index (name 2) (call (name 6))) ≡ None
call_index = refl

member_index : object (index (name 2) (dot (name 1) 8)) ≡ None
member_index = refl

-- the array stands in front: 2[a], i[a]
constant_first : object (index (number 2) (name 2)) ≡ None
constant_first = refl

variable_first : object (index (name 3) (name 2)) ≡ None
variable_first = refl

-- &*p, &(*p), &((*p)), &*q->f
address_of_star : object (address (star (name 0))) ≡ Some (path p [])
address_of_star = refl

address_in_parentheses : object (address (paren (paren (star (name 0))))) ≡ Some (path p [])
address_in_parentheses = refl

address_of_star_of_address : object (address (star (address (name 1)))) ≡ Some (address_of s [])
address_of_star_of_address = refl

-- &s, &s.f, &(s.f), &p->f, &a[2]
address_of_variable : object (address (name 1)) ≡ Some (address_of s [])
address_of_variable = refl

address_of_member : object (address (dot (name 1) 8)) ≡ Some (address_of s (Field 8 ∷ []))
address_of_member = refl

address_of_parentheses : object (address (paren (dot (name 1) 8))) ≡ Some (address_of s (Field 8 ∷ []))
address_of_parentheses = refl

address_of_member_behind : object (address (arrow (name 0) 8)) ≡ Some (address_of p (Deref ∷ Field 8 ∷ []))
address_of_member_behind = refl

address_of_element : object (address (index (name 2) (number 2))) ≡ Some (address_of a (At 2 ∷ []))
address_of_element = refl

-- *&s, (&s)->f, *&p->f, (&*p)->f
star_of_address : object (star (address (name 1))) ≡ Some (path s [])
star_of_address = refl

arrow_of_address : object (arrow (paren (address (name 1))) 8) ≡ Some (path s (Field 8 ∷ []))
arrow_of_address = refl

star_of_member_address : object (star (address (arrow (name 0) 8))) ≡ Some (path p (Deref ∷ Field 8 ∷ []))
star_of_member_address = refl

arrow_of_star_address : object (arrow (paren (address (star (name 0)))) 8) ≡ Some (path p (Deref ∷ Field 8 ∷ []))
arrow_of_star_address = refl

-- steps that an address doesn't have: (&s).f, (&s)[2], &&s
dot_of_address : object (dot (paren (address (name 1))) 8) ≡ None
dot_of_address = refl

index_of_address : object (index (paren (address (name 1))) (number 2)) ≡ None
index_of_address = refl

address_of_address : object (address (paren (address (name 1)))) ≡ None
address_of_address = refl

-- an address of what ends in `*` by a cast: &(T)*p
address_of_cast_star : object (address (cast (star (name 0)))) ≡ None
address_of_cast_star = refl

-- none: 2, "..", g, g(), e, p + 1, x ? p : q, p = q, p++, -i, sizeof p
no_constant : object (number 2) ≡ None
no_constant = refl

no_string : object (other (Primary (StrConst (token (kinds.Str false) 9 ∷ [])))) ≡ None
no_string = refl

no_function : object (name 6) ≡ None
no_function = refl

no_call : object (call (name 6)) ≡ None
no_call = refl

no_enumerator : object (name 7) ≡ None
no_enumerator = refl

no_sum : object (other (Operation (Binary binary.Add (name 0) (number 1)))) ≡ None
no_sum = refl

no_choice : object (other (Operation (Cond (name 4) (name 0) (name 0)))) ≡ None
no_choice = refl

no_assignment : object (other (Operation (Assign assign.Plain (name 0) (name 0)))) ≡ None
no_assignment = refl

no_step : object (unary_of unary.PostInc (name 0)) ≡ None
no_step = refl

no_minus : object (unary_of unary.Minus (name 3)) ≡ None
no_minus = refl

no_size : object (unary_of unary.Sizeof (name 0)) ≡ None
no_size = refl

-- a step behind what has no object
behind_none : object (arrow (call (name 6)) 8) ≡ None
behind_none = refl

-- depth 0: p and &*p and &s, but not *p
depth_0 : object_of facts 0 (name 0) ≡ Some (path p [])
depth_0 = refl

depth_0_address : object_of facts 0 (address (star (name 0))) ≡ Some (path p [])
depth_0_address = refl

depth_0_mark : object_of facts 0 (address (name 1)) ≡ Some (address_of s [])
depth_0_mark = refl

depth_0_star : object_of facts 0 (star (name 0)) ≡ None
depth_0_star = refl

-- depth 1: *p, not p->f, but *&s.f
depth_1 : object_of facts 1 (star (name 0)) ≡ Some (path p (Deref ∷ []))
depth_1 = refl

depth_1_arrow : object_of facts 1 (arrow (name 0) 8) ≡ None
depth_1_arrow = refl

depth_1_address : object_of facts 1 (star (address (dot (name 1) 8))) ≡ Some (path s (Field 8 ∷ []))
depth_1_address = refl

-- past the depth and back: *&*p at depth 0 is none, and &**q at depth 1 is *q
past_and_back : object_of facts 0 (star (address (star (name 0)))) ≡ None
past_and_back = refl

address_at_depth : object_of facts 1 (address (star (star (name 5)))) ≡ Some (path q (Deref ∷ []))
address_at_depth = refl

-- (*p).f->b[2] has five steps
five_steps : Node
five_steps = index (arrow (dot (paren (star (name 0))) 8) 10) (number 2)

none_at_4 : object_of facts 4 five_steps ≡ None
unfolding five_steps
none_at_4 = refl

some_at_5 : object_of facts 5 five_steps ≡ Some (path p (Deref ∷ Field 8 ∷ Deref ∷ Field 10 ∷ At 2 ∷ []))
unfolding five_steps
some_at_5 = refl

text_of_five : object_text names (path p (Deref ∷ Field 8 ∷ Deref ∷ Field 10 ∷ At 2 ∷ [])) ≡ (codes "p->f->b[" ++ decimal 2 ++ codes "]")
text_of_five = refl
