-- The entry that an entry of the program is.
use Rattle.std.specs.Option.{option_map}
use Rattle.type_rules.specs.Scopes.{Class, Entry, Sort, Tag, Member}
use Rattle.type_rules.specs.Scopes as held
use Rattle.type_values.specs.Types.{ctype_of}
use Rattle.type_values.specs.Vars.{cvar_of}
use Rattle.unit_typing.specs.declared.members.MemberEntry.{MemberEntry}
use Rattle.unit_typing.specs.declared.names.Class as names
use Rattle.unit_typing.specs.declared.names.Class.TheVariants as class
use Rattle.unit_typing.specs.declared.names.NameEntry.{NameEntry}
use Rattle.unit_typing.specs.declared.tags.Sort as tags
use Rattle.unit_typing.specs.declared.tags.Sort.TheVariants as sort
use Rattle.unit_typing.specs.declared.tags.TagEntry.{TagEntry}

abbrev pub class_of : names.Class → Class
class_of class.Variable = held.Variable
class_of class.Typedef = held.Typedef
class_of class.Enumerator = held.Enumerator

abbrev pub tag_sort : tags.Sort → Sort
tag_sort sort.Structs = held.Structs
tag_sort sort.Unions = held.Unions
tag_sort sort.Enums = held.Enums

abbrev pub name_entry : NameEntry → Entry
name_entry k = record { name = k.name; depth = k.depth; class = class_of k.class; ty = ctype_of k.ty; var = option_map cvar_of k.var; again = k.again }

abbrev pub tag_entry : TagEntry → Tag
tag_entry g = record { name = g.name; depth = g.depth; sort = tag_sort g.sort; number = g.number; body = g.body }

abbrev pub member_entry : MemberEntry → Member
member_entry m = record { owner = m.owner; name = m.name; place = m.place; ty = ctype_of m.ty }
