-- Steps behind objects, one object in the place of another, and texts, by computation.
use Rattle.std.proofs.Common.{◌≡◌, true, false, [], ◌∷◌, ◌++◌, None, Some, refl}
use Rattle.std.specs.Fmt.{decimal}
use Rattle.std.specs.Prelude.{codes}
use Rattle.c_objects.specs.Objects.{Deref, Field, At, AtVar, path, address_of, is_static, mentions}
use Rattle.c_objects.specs.Paths.{append, begins_with, rebase}
use Rattle.c_objects.specs.Text.{object_text}
use Rattle.c_objects.proofs.Building.{p, s, a, i, x, q, names}
use Rattle.type_rules.specs.Vars.{LocalStatic, Local, Result, Called}

-- behind a path, and up to the depth
pub behind_path : append 2 (path p (Deref ∷ [])) (Field 8 ∷ []) ≡ Some (path p (Deref ∷ Field 8 ∷ []))
behind_path = refl

past_depth : append 1 (path p (Deref ∷ [])) (Field 8 ∷ []) ≡ None
past_depth = refl

nothing_past_depth : append 0 (path p (Deref ∷ [])) [] ≡ None
nothing_past_depth = refl

-- behind an address: nothing, `*` and what follows, and no other step
nothing_behind_address : append 0 (address_of s []) [] ≡ Some (address_of s [])
nothing_behind_address = refl

star_behind_address : append 0 (address_of s []) (Deref ∷ []) ≡ Some (path s [])
star_behind_address = refl

more_behind_address : append 2 (address_of s (Field 8 ∷ [])) (Deref ∷ Field 9 ∷ []) ≡ Some (path s (Field 8 ∷ Field 9 ∷ []))
more_behind_address = refl

member_behind_address : append 4 (address_of s []) (Field 8 ∷ []) ≡ None
member_behind_address = refl

index_behind_address : append 4 (address_of s []) (At 0 ∷ []) ≡ None
index_behind_address = refl

-- q in the place of p: of p, *p, p->f->h, &p->f
itself : rebase 4 (path p []) (path p []) (path q []) ≡ Some (path q [])
itself = refl

what_it_points_at : rebase 4 (path p (Deref ∷ [])) (path p []) (path q []) ≡ Some (path q (Deref ∷ []))
what_it_points_at = refl

member_behind : rebase 4 (path p (Deref ∷ Field 8 ∷ Deref ∷ Field 9 ∷ [])) (path p []) (path q []) ≡ Some (path q (Deref ∷ Field 8 ∷ Deref ∷ Field 9 ∷ []))
member_behind = refl

address_behind : rebase 4 (address_of p (Deref ∷ Field 8 ∷ [])) (path p []) (path q []) ≡ Some (address_of q (Deref ∷ Field 8 ∷ []))
address_behind = refl

-- p->f in the place of p, as in `p = p->f`: of p->h
list_walk : rebase 4 (path p (Deref ∷ Field 9 ∷ [])) (path p []) (path p (Deref ∷ Field 8 ∷ [])) ≡ Some (path p (Deref ∷ Field 8 ∷ Deref ∷ Field 9 ∷ []))
list_walk = refl

list_walk_past : rebase 3 (path p (Deref ∷ Field 9 ∷ [])) (path p []) (path p (Deref ∷ Field 8 ∷ [])) ≡ None
list_walk_past = refl

-- &s in the place of p: of p, *p, p->f, &p->f, p[2]
address_for_pointer : rebase 4 (path p []) (path p []) (address_of s []) ≡ Some (address_of s [])
address_for_pointer = refl

pointed_at_address : rebase 4 (path p (Deref ∷ [])) (path p []) (address_of s []) ≡ Some (path s [])
pointed_at_address = refl

member_of_address : rebase 4 (path p (Deref ∷ Field 8 ∷ [])) (path p []) (address_of s []) ≡ Some (path s (Field 8 ∷ []))
member_of_address = refl

address_of_member : rebase 4 (address_of p (Deref ∷ Field 8 ∷ [])) (path p []) (address_of s []) ≡ Some (address_of s (Field 8 ∷ []))
address_of_member = refl

index_of_address : rebase 4 (path p (At 2 ∷ [])) (path p []) (address_of s []) ≡ None
index_of_address = refl

-- An address without `*` and index behind the path stays the address of the old variable: &s, &s.f. But &a[2] and &s.f[i].
own_address : rebase 4 (address_of s []) (path s []) (path q []) ≡ None
own_address = refl

own_member_address : rebase 4 (address_of s (Field 8 ∷ [])) (path s []) (path q []) ≡ None
own_member_address = refl

element_address : rebase 4 (address_of a (At 2 ∷ [])) (path a []) (path q []) ≡ Some (address_of q (At 2 ∷ []))
element_address = refl

inner_element_address : rebase 4 (address_of s (Field 8 ∷ AtVar i ∷ [])) (path s []) (path q []) ≡ Some (address_of q (Field 8 ∷ AtVar i ∷ []))
inner_element_address = refl

element_of_address : rebase 4 (address_of a (At 2 ∷ [])) (path a []) (address_of s []) ≡ None
element_of_address = refl

-- what doesn't begin with the path: p for p->f, q for p, a[2] for a[3], a[2] for a[i]
shorter : rebase 4 (path p []) (path p (Deref ∷ Field 8 ∷ [])) (path q []) ≡ None
shorter = refl

other_variable : rebase 4 (path q []) (path p []) (path s []) ≡ None
other_variable = refl

other_index : rebase 4 (path a (At 2 ∷ [])) (path a (At 3 ∷ [])) (path s []) ≡ None
other_index = refl

variable_for_constant : rebase 4 (path a (At 2 ∷ [])) (path a (AtVar i ∷ [])) (path s []) ≡ None
variable_for_constant = refl

-- beginnings
begins_with_itself : begins_with (path p (Deref ∷ [])) (path p (Deref ∷ [])) ≡ true
begins_with_itself = refl

begins_with_variable : begins_with (path p (Deref ∷ Field 8 ∷ [])) (path p []) ≡ true
begins_with_variable = refl

too_short : begins_with (path p []) (path p (Deref ∷ [])) ≡ false
too_short = refl

other_member : begins_with (path s (Field 9 ∷ [])) (path s (Field 8 ∷ [])) ≡ false
other_member = refl

address_begins_with_none : begins_with (address_of s (Field 8 ∷ [])) (path s []) ≡ false
address_begins_with_none = refl

-- variables of one name that were declared at two places
two_variables : begins_with (path (Local 0 20 1) []) (path s []) ≡ false
two_variables = refl

-- a[i] mentions i, and i itself doesn't; nor does a[i] mention a
mentions_index : mentions (path a (AtVar i ∷ Deref ∷ [])) i ≡ true
mentions_index = refl

mentions_later_index : mentions (address_of a (At 1 ∷ AtVar x ∷ AtVar i ∷ [])) i ≡ true
mentions_later_index = refl

base_is_no_index : mentions (path i []) i ≡ false
base_is_no_index = refl

base_of_index : mentions (path a (AtVar i ∷ [])) a ≡ false
base_of_index = refl

-- static storage
extern_is_static : is_static (path a (Deref ∷ [])) ≡ true
extern_is_static = refl

file_static : is_static (address_of x []) ≡ true
file_static = refl

block_static : is_static (path (LocalStatic 0 30 1) []) ≡ true
block_static = refl

parameter_is_not : is_static (path p []) ≡ false
parameter_is_not = refl

local_is_not : is_static (path s []) ≡ false
local_is_not = refl

static_index : is_static (path a (AtVar i ∷ [])) ≡ true
static_index = refl

local_index : is_static (path a (AtVar s ∷ [])) ≡ false
local_index = refl

result_is_static : is_static (path Result []) ≡ true
result_is_static = refl

called_is_not : is_static (path (Called 0 40 6) []) ≡ false
called_is_not = refl

-- texts
text_of_variable : object_text names (path p []) ≡ codes "p"
text_of_variable = refl

text_of_address : object_text names (address_of s []) ≡ codes "&s"
text_of_address = refl

text_of_star : object_text names (path p (Deref ∷ [])) ≡ codes "*p"
text_of_star = refl

text_of_member : object_text names (path s (Field 8 ∷ [])) ≡ codes "s.f"
text_of_member = refl

text_of_arrow : object_text names (path p (Deref ∷ Field 8 ∷ [])) ≡ codes "p->f"
text_of_arrow = refl

text_of_arrow_address : object_text names (address_of p (Deref ∷ Field 8 ∷ [])) ≡ codes "&p->f"
text_of_arrow_address = refl

text_of_arrows : object_text names (path p (Deref ∷ Field 8 ∷ Deref ∷ Field 9 ∷ [])) ≡ codes "p->f->h"
text_of_arrows = refl

text_of_members : object_text names (path s (Field 8 ∷ Field 9 ∷ [])) ≡ codes "s.f.h"
text_of_members = refl

text_of_star_of_member : object_text names (path s (Field 8 ∷ Deref ∷ [])) ≡ codes "*s.f"
text_of_star_of_member = refl

text_of_two_stars : object_text names (path q (Deref ∷ Deref ∷ [])) ≡ codes "**q"
text_of_two_stars = refl

-- a part whose last step is `*` stands in parentheses
text_of_member_behind_stars : object_text names (path q (Deref ∷ Deref ∷ Field 8 ∷ [])) ≡ codes "(*q)->f"
text_of_member_behind_stars = refl

text_of_index_behind_star : object_text names (path q (Deref ∷ At 12 ∷ [])) ≡ (codes "(*q)[" ++ decimal 12 ++ codes "]")
text_of_index_behind_star = refl

text_of_star_of_index : object_text names (path a (At 0 ∷ Deref ∷ [])) ≡ (codes "*a[" ++ decimal 0 ++ codes "]")
text_of_star_of_index = refl

text_of_variable_index : object_text names (path a (AtVar i ∷ AtVar x ∷ [])) ≡ codes "a[i][x]"
text_of_variable_index = refl

text_of_arrow_index : object_text names (path p (Deref ∷ Field 8 ∷ AtVar i ∷ Field 9 ∷ [])) ≡ codes "p->f[i].h"
text_of_arrow_index = refl

text_of_result : object_text names (path Result (Deref ∷ Field 8 ∷ [])) ≡ codes "result->f"
text_of_result = refl

text_of_called : object_text names (path (Called 0 40 6) (Deref ∷ [])) ≡ codes "*g()"
text_of_called = refl
