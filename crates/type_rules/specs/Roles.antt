-- What a node is where it stands, as far as its kind doesn't say it. Not meant are `plain`, the slot of a part (`Parts`),
-- `Plainly` and `Alone`, mentions of tags (`Tags`), and `Member`, a member with its type (`Scopes`).
use Rattle.std.specs.Prelude.{ℕ, cond}
use Rattle.c_tree.specs.Node.{Nodes, no_more, more}
use Rattle.type_rules.specs.Declarators.{is_bare}
use Rattle.type_rules.specs.Parts.{Slot, plain, callee, same, specs_of, item_of, declared_by, defined_by, formal_by, member_by, beside_name, toward, beside, inside, body}
use Rattle.type_rules.specs.Scopes.{Scopes}
use Rattle.type_rules.specs.Specified.{Storage, specified_type, storage_of}
use Rattle.type_rules.specs.Tags.{body_number, sort_of}
use Rattle.type_rules.specs.Types.{CType}

pub data Role : Type 0 where
  Plain : Role
  Callee : Role
  -- specifiers that are all there is of a declaration, or the one specifier of them
  Alone : Role
  -- a whole declarator, with what its specifiers say: of a declaration, of the definition of a function, of a parameter
  Declares : Storage → CType → Role
  Defines : Storage → CType → Role
  Formal : CType → Role
  -- the declarator of a member of the structure or union of this number, and the declaration of members there
  Member : ℕ → CType → Role
  Inside : ℕ → Role
  -- on the way to the parameters of the function that is defined, and the list of them
  Formals : Role
  -- the body of a function
  Body : Role

abbrev pub owner_of : Role → ℕ
owner_of (Inside owner) = owner
owner_of _ = 0

-- the own parameters of a function are those beside its name
abbrev pub inner_role : Role → Role
inner_role (Defines s t) = Formals
inner_role Formals = Formals
inner_role _ = Plain

-- the specifiers of a declaration that declares no name
abbrev pub specs_role : Nodes → Role
specs_role no_more = Alone
specs_role _ = Plain

-- one specifier alone is all that the specifiers are
abbrev pub item_role : Role → Nodes → Role
item_role r (more e no_more) = r
item_role r _ = Plain

-- The role of a part, under the scopes before its whole and by the role of that.
abbrev pub given : Scopes → Role → Slot → Role
given v r plain = Plain
given v r callee = Callee
given v r same = r
given v r (specs_of declarators) = specs_role declarators
given v r (item_of items) = item_role r items
given v r (declared_by specs) = Declares (storage_of specs) (specified_type v specs)
given v r (defined_by specs) = Defines (storage_of specs) (specified_type v specs)
given v r (formal_by specs) = Formal (specified_type v specs)
given v r (member_by specs) = Member (owner_of r) (specified_type v specs)
given v r beside_name = inner_role r
given v r (toward d) = cond (is_bare d) Plain (inner_role r)
given v r (beside d) = cond (is_bare d) (inner_role r) Plain
given v r (inside which tag) = Inside (body_number v (sort_of which) tag)
given v r body = Body
