-- What is in force, as the program keeps it.
use Rattle.std.specs.Prelude.{◌≡◌, ℕ, List, [], ◌∷◌, ◌++◌, map, take, drop, length, Option}
use Rattle.type_rules.specs.Scopes.{Scopes, Member}
use Rattle.unit_typing.specs.declared.scopes.Mark.{Mark}
use Rattle.unit_typing.specs.declared.scopes.Scopes as code
use Rattle.unit_typing.specs.Views.{name_entry, tag_entry, member_entry}

abbrev pub scopes_of : code.Scopes → Scopes
scopes_of s = record {
  names = map name_entry s.names;
  tags = map tag_entry s.tags;
  depth = s.depth;
  structs = s.structs;
  complete = s.complete;
  members = map member_entry s.members.all.items;
  formal_names = map name_entry s.formal_names.items;
  formal_tags = map tag_entry s.formal_tags.items;
}

-- one structure or union more
abbrev pub with_tag_of : Scopes → Option ℕ → Scopes
with_tag_of v tag = record v { structs = v.structs ++ (tag ∷ []) }

abbrev pub with_members : Scopes → List Member → Scopes
with_members v ms = record v { members = v.members ++ ms }

abbrev pub completed : Scopes → ℕ → Scopes
completed v n = record v { complete = v.complete ++ (n ∷ []) }

-- it marks these scopes
pub record IsMark (mark : Mark) (v : Scopes) : Type 0 where
  pub names : mark.names ≡ length v.names
  pub tags : mark.tags ≡ length v.tags
  pub depth : mark.depth ≡ v.depth

-- the names and tags up to a mark
abbrev pub back_to : Mark → Scopes → Scopes
back_to mark w = record w { names = take mark.names w.names; tags = take mark.tags w.tags; depth = mark.depth }

-- The same, and those behind it are kept as the parameters of a function.
abbrev pub back_with_formals : Mark → Scopes → Scopes
back_with_formals mark w = record (back_to mark w) { formal_names = drop mark.names w.names; formal_tags = drop mark.tags w.tags }
