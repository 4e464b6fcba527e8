-- Types of holes and type names in matches, by computation.
use Rattle.std.proofs.Common.{◌≡◌, true, false, [], ◌∷◌, Some, refl}
use Rattle.std.specs.Prelude.{is_some}
use Rattle.c_grammar.specs.Specifiers.{occurrences, as_often}
use Rattle.c_objects.proofs.Building.{name, arrow, word}
use Rattle.c_tree.specs.declared.keyword.Keyword.TheVariants as words
use Rattle.c_tree.specs.declared.operator.StructOrUnion.TheVariants as which_word
use Rattle.c_tree.specs.declared.operator.UnaryOp.TheVariants as unary
use Rattle.c_tree.specs.Node.{Node, Operation, Unary, Arrow}
use Rattle.hole_matching.specs.Matching.{One}
use Rattle.c_tree.specs.PathSubjects.Subjects.{Tree, DerefOf}
use Rattle.hole_matching.proofs.Building.{hole, named, calling, type_of_words, pointer_to_tag, casting, size_of, numbered, call_of, cast_to, size_in, match, does_match, taken}

-- any_expr over i, p, s, a, g
any_integer : does_match (hole 1) (name 3) ≡ true
any_integer = refl

any_structure : does_match (hole 1) (name 1) ≡ true
any_structure = refl

any_function : does_match (hole 1) (name 6) ≡ true
any_function = refl

-- any_scalar over i, x, p, s, a
scalar_integer : does_match (hole 2) (name 3) ≡ true
scalar_integer = refl

scalar_float : does_match (hole 2) (name 4) ≡ true
scalar_float = refl

scalar_pointer : does_match (hole 2) (name 0) ≡ true
scalar_pointer = refl

scalar_structure : does_match (hole 2) (name 1) ≡ false
scalar_structure = refl

scalar_array : does_match (hole 2) (name 2) ≡ false
scalar_array = refl

-- any_pointer over p, a, i, g
pub pointer_pointer : does_match (hole 7) (name 0) ≡ true
pointer_pointer = refl

pointer_array : does_match (hole 7) (name 2) ≡ true
pointer_array = refl

pointer_integer : does_match (hole 7) (name 3) ≡ false
pointer_integer = refl

pointer_function : does_match (hole 7) (name 6) ≡ false
pointer_function = refl

-- the `*q` in `q->f` has the type `struct t *`, and the `*p` in `p->f` the type `struct t`
star_of_arrow : is_some (match (hole 6) (DerefOf (name 5))) ≡ true
star_of_arrow = refl

star_of_other_arrow : is_some (match (hole 6) (DerefOf (name 0))) ≡ false
star_of_other_arrow = refl

-- a type of C: `int` over i, x and p; `unsigned int` over i and a node of that type
int_over_int : does_match (hole 5) (name 3) ≡ true
unfolding occurrences as_often
int_over_int = refl

int_over_float : does_match (hole 5) (name 4) ≡ false
unfolding occurrences as_often
int_over_float = refl

int_over_pointer : does_match (hole 5) (name 0) ≡ false
unfolding occurrences as_often
int_over_pointer = refl

unsigned_over_int : does_match (hole 9) (name 3) ≡ false
unfolding occurrences as_often
unsigned_over_int = refl

unsigned_over_unsigned : does_match (hole 9) (numbered 12 (Operation (Unary unary.Plus (name 3)))) ≡ true
unfolding occurrences as_often
unsigned_over_unsigned = refl

-- `struct t *` over p, over q, over an untagged `struct *` and over a `union t *`; `union t *` over these
tag_over_tag : does_match (hole 6) (name 0) ≡ true
tag_over_tag = refl

tag_over_pointer : does_match (hole 6) (name 5) ≡ false
tag_over_pointer = refl

tag_over_untagged : does_match (hole 6) (numbered 13 (Operation (Unary unary.PreInc (name 0)))) ≡ false
tag_over_untagged = refl

tag_over_union : does_match (hole 6) (numbered 14 (Operation (Unary unary.PreInc (name 0)))) ≡ false
tag_over_union = refl

union_over_union : does_match (hole 8) (numbered 14 (Operation (Unary unary.PreInc (name 0)))) ≡ true
union_over_union = refl

union_over_structure : does_match (hole 8) (name 0) ≡ false
union_over_structure = refl

-- A state variable takes what has an object at the depth: `{ v }` over p, over ++p, over a pointer with four steps and with five.
variable_with_object : does_match (hole 0) (name 0) ≡ true
variable_with_object = refl

variable_without_object : does_match (hole 0) (numbered 13 (Operation (Unary unary.PreInc (name 0)))) ≡ false
variable_without_object = refl

hole_without_object : does_match (hole 7) (numbered 13 (Operation (Unary unary.PreInc (name 0)))) ≡ true
hole_without_object = refl

four_steps : Node
four_steps = numbered 8 (Operation (Arrow (arrow (name 0) 8) (word 9)))

five_steps : Node
five_steps = numbered 8 (Operation (Unary unary.Deref four_steps))

variable_at_depth : does_match (hole 0) four_steps ≡ true
unfolding four_steps
variable_at_depth = refl

variable_past_depth : does_match (hole 0) five_steps ≡ false
unfolding four_steps five_steps
variable_past_depth = refl

hole_past_depth : does_match (hole 7) five_steps ≡ true
unfolding four_steps five_steps
hole_past_depth = refl

-- a hole that doesn't exist takes nothing
no_such_hole : does_match (hole 15) (name 0) ≡ false
no_such_hole = refl

past_all_slots : does_match (hole 16) (name 0) ≡ false
past_all_slots = refl

-- type names by type: `{ (struct t *)x }` over casts to `struct t *`, to an untagged `struct *` and to `union t *`
cast_to_tag : taken (casting (pointer_to_tag which_word.Struct 12) (hole 1)) (cast_to 9 (name 3)) 1 ≡ Some (One (Tree (name 3)))
cast_to_tag = refl

cast_to_untagged : does_match (casting (pointer_to_tag which_word.Struct 12) (hole 1)) (cast_to 13 (name 3)) ≡ false
cast_to_untagged = refl

cast_to_union : does_match (casting (pointer_to_tag which_word.Struct 12) (hole 1)) (cast_to 14 (name 3)) ≡ false
cast_to_union = refl

cast_to_union_tag : does_match (casting (pointer_to_tag which_word.Union 12) (hole 1)) (cast_to 14 (name 3)) ≡ true
cast_to_union_tag = refl

-- `{ sizeof(int unsigned) }` over sizeof(unsigned int) and over sizeof(int), which may be named by a typedef
words_in_any_order : does_match (size_of (type_of_words (words.Int ∷ words.Unsigned ∷ []))) (size_in 12) ≡ true
unfolding occurrences as_often
words_in_any_order = refl

other_words : does_match (size_of (type_of_words (words.Int ∷ words.Unsigned ∷ []))) (size_in 11) ≡ false
unfolding occurrences as_often
other_words = refl

-- two casts to untagged structures are of one type: `{ g(x, x) }` over g((struct { } *)i, (struct { } *)i)
untagged_are_one : does_match (calling (named 6) (hole 1 ∷ hole 1 ∷ [])) (call_of (name 6) (cast_to 13 (name 3) ∷ cast_to 13 (name 3) ∷ [])) ≡ true
untagged_are_one = refl

tagged_is_no_untagged : does_match (calling (named 6) (hole 1 ∷ hole 1 ∷ [])) (call_of (name 6) (cast_to 13 (name 3) ∷ cast_to 9 (name 3) ∷ [])) ≡ false
tagged_is_no_untagged = refl
