-- How scopes change where a node begins and where it ends (ISO 9899:1990, 6.1.2.1).
use Rattle.std.specs.Prelude.{ℕ, ◌++◌, List, [], ◌∷◌, Option, None, Some, cond, nat_eq}
use Rattle.std.specs.Option.{option_map}
use Rattle.c_tree.specs.Node.{Node, Shape, Specifier, Declarator, Part, Statement, Iteration, SpecifierShape, DeclaratorShape, StructTag, StructBody, EnumTag, EnumBody, StructDeclaration, Params, Enumerator, Block, ForDeclaration, Nodes, no_more}
use Rattle.type_rules.specs.Declarators.{around_shape, name_of_shape, declared, formal, enumerator, a_member}
use Rattle.type_rules.specs.Options.{if_there}
use Rattle.type_rules.specs.Roles.{Role, Alone, Declares, Defines, Formal, Member, Formals, Body, owner_of}
use Rattle.type_rules.specs.Scopes.{Scopes, Entry, Enums, with_name, with_member, deeper, leave, leave_formals, body_of}
use Rattle.type_rules.specs.Scopes as held
use Rattle.type_rules.specs.Specified.{specified_type}
use Rattle.type_rules.specs.Tags as tags
use Rattle.type_rules.specs.Tags.{Mention, sort_of, mentioned, body_opened, body_number}
use Rattle.type_rules.specs.Types.{CType, Struct, Union}

abbrev pub mention : Role → Mention
mention Alone = tags.Alone
mention _ = tags.Plainly

-- the name that a declarator of this role declares, under the scopes behind its parts
abbrev pub declares : Scopes → Role → DeclaratorShape → Option Entry
declares w (Declares s t) d = option_map (λ name. declared w s (around_shape d t) name) (name_of_shape d)
declares w (Defines s t) d = option_map (λ name. declared w s (around_shape d t) name) (name_of_shape d)
declares w (Formal t) d = option_map (λ name. formal w (around_shape d t) name) (name_of_shape d)
declares w _ d = None

abbrev pub declares_member : Role → DeclaratorShape → Option held.Member
declares_member (Member owner t) d = option_map (λ name. a_member owner (around_shape d t) name) (name_of_shape d)
declares_member _ d = None

abbrev pub number_in : CType → Option ℕ
number_in (Struct n) = Some n
number_in (Union n) = Some n
number_in _ = None

-- the members of the structure or union of this number, as members of that one
abbrev pub given_to : ℕ → ℕ → List held.Member → List held.Member
given_to owner n [] = []
given_to owner n (m ∷ ms) = cond (nat_eq m.owner n) (record { owner = owner; name = m.name; place = m.place; ty = m.ty } ∷ given_to owner n ms) (given_to owner n ms)

-- A member without a name: its members belong to the outer structure or union. None where it is none itself.
abbrev pub inner_members : Scopes → ℕ → CType → List held.Member
inner_members w owner t = if_there (number_in t) [] (λ n. given_to owner n w.members)

abbrev pub opened_block : Scopes → Role → Scopes
opened_block v Body = body_of v
opened_block v _ = deeper v

-- the scopes in which the first part begins
abbrev pub opened : Scopes → Role → Shape → Scopes
opened v r (Specifier (StructBody which tag members)) = body_opened v (sort_of which) tag
opened v r (Specifier (EnumBody tag enumerators comma)) = body_opened v Enums tag
opened v r (Part (Params params variadic)) = deeper v
opened v r (Statement (Block items)) = opened_block v r
opened v r (Iteration (ForDeclaration declaration condition step inner)) = deeper v
opened v r _ = v

abbrev pub left_params : Role → Scopes → Scopes → Scopes
left_params Formals v w = leave_formals v w
left_params _ v w = leave v w

-- A name is in force from the end of its declarator on, a member likewise.
abbrev pub behind_declarator : Role → DeclaratorShape → Scopes → Scopes
behind_declarator r d w = if_there (declares w r d) (if_there (declares_member r d) w (with_member w)) (with_name w)

abbrev pub behind_members : Scopes → Role → Node → Nodes → Scopes → Scopes
behind_members v r specs no_more w = record w { members = w.members ++ inner_members w (owner_of r) (specified_type v specs) }
behind_members v r specs _ w = w

abbrev pub behind_specifier : Scopes → Role → SpecifierShape → Scopes → Scopes
behind_specifier v r (StructTag which tag) w = mentioned w (mention r) (sort_of which) tag.name
behind_specifier v r (EnumTag tag) w = mentioned w (mention r) Enums tag.name
behind_specifier v r (StructBody which tag members) w = record w { complete = w.complete ++ (body_number v (sort_of which) tag ∷ []) }
behind_specifier v r (StructDeclaration specs declarators) w = behind_members v r specs declarators w
behind_specifier v r _ w = w

-- The scopes behind a node, from those before it and those behind its parts.
abbrev pub closed : Scopes → Role → Shape → Scopes → Scopes
closed v r (Specifier k) w = behind_specifier v r k w
closed v r (Declarator d) w = behind_declarator r d w
closed v r (Part (Params params variadic)) w = left_params r v w
closed v r (Part (Enumerator name value)) w = with_name w (enumerator w name)
closed v r (Statement (Block items)) w = leave v w
closed v r (Iteration (ForDeclaration declaration condition step inner)) w = leave v w
closed v r _ w = w
