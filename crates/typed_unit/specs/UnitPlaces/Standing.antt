-- That parts stand in a unit, each behind those before it.
use Rattle.std.specs.Prelude.{⊤}
use Rattle.c_tree.specs.Node.{MaybeNode, absent, present, Nodes, no_more, more}
use Rattle.type_rules.specs.Definition.{after, Out, IsAmong}
use Rattle.type_rules.specs.Parts.{Slot, Visit, Parts, none, part}
use Rattle.type_rules.specs.Roles.{Role, Plain}
use Rattle.type_rules.specs.Scopes.{Scopes}
use Rattle.type_rules.specs.Ways.ScopesByCase.{scoped}
use Rattle.type_rules.specs.Unit.{places_of}
use Rattle.typed_unit.specs.Places.{StandsAt}

-- a visit of the unit under these scopes, in this role
abbrev pub IsVisited : Nodes → Scopes → Role → Visit → Type 0
IsVisited unit v r e = IsAmong (Out v r e) (places_of unit)

-- these parts, the first under these scopes, each in the role of its slot
abbrev pub AreVisited : Nodes → (Slot → Role) → Scopes → Parts → Type 0
AreVisited unit roles v none = ⊤
AreVisited unit roles v (part slot e es) = IsVisited unit v (roles slot) e × AreVisited unit roles (after v (roles slot) e) es

-- parts, and then these
abbrev pub followed : Parts → Parts → Parts
followed none es = es
followed (part slot e before) es = part slot e (followed before es)

-- nodes, and then these
abbrev pub joined : Nodes → Nodes → Nodes
joined no_more es = es
joined (more e before) es = more e (joined before es)

-- a node that may be missing
abbrev pub MaybeStands : Nodes → Scopes → Role → MaybeNode → Type 0
MaybeStands unit v r absent = ⊤
MaybeStands unit v r (present e) = StandsAt unit v r e

-- nodes one after the other, the first under these scopes, all in one role
abbrev pub EachStands : Nodes → Scopes → Role → Nodes → Type 0
EachStands unit v r no_more = ⊤
EachStands unit v r (more e es) = StandsAt unit v r e × EachStands unit (scoped v r e) r es

-- the suffixes of a declarator, of which the first alone has a role
abbrev pub SuffixesStand : Nodes → Scopes → Role → Nodes → Type 0
SuffixesStand unit v r no_more = ⊤
SuffixesStand unit v r (more e es) = StandsAt unit v r e × EachStands unit (scoped v r e) Plain es
