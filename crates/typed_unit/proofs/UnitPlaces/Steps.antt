-- From visits to nodes: one part, a part that may be missing, a list of parts, the suffixes of a declarator.
use Rattle.std.proofs.Common.{◌≡◌, subst}
use Rattle.c_tree.specs.Node.{Node, MaybeNode, absent, present, Nodes, no_more, more}
use Rattle.type_rules.specs.Parts.{Slot, plain, Parts, none, part, flat, maybe, each, first_in}
use Rattle.type_rules.specs.Roles.{Role, Plain}
use Rattle.type_rules.specs.Scopes.{Scopes, at_start}
use Rattle.type_rules.specs.Ways.ScopesByCase.{scoped, scoped_maybe, scoped_each}
use Rattle.type_rules.specs.Unit.{plainly}
use Rattle.type_rules.proofs.BridgeScopes.{scoped-flat}
use Rattle.typed_unit.specs.Places.{StandsAt}
use Rattle.typed_unit.specs.UnitPlaces.Standing.{AreVisited, MaybeStands, EachStands, SuffixesStand}
use Rattle.typed_unit.proofs.UnitPlaces.Visited.{trees-visited}

pub next : (unit : Nodes) (roles : Slot → Role) (slot : Slot) (v : Scopes) (e : Node) (es : Parts) → AreVisited unit roles v (part slot (flat e) es) → StandsAt unit v (roles slot) e × AreVisited unit roles (scoped v (roles slot) e) es
next unit roles slot v e es h = (h.0, subst (λ (w : Scopes). AreVisited unit roles w es) (scoped-flat v (roles slot) e) h.1)

pub maybe-next : (unit : Nodes) (roles : Slot → Role) (slot : Slot) (v : Scopes) (m : MaybeNode) (es : Parts) → AreVisited unit roles v (maybe slot m es) → MaybeStands unit v (roles slot) m × AreVisited unit roles (scoped_maybe v (roles slot) m) es
maybe-next unit roles slot v absent es h = (tt, h)
maybe-next unit roles slot v (present e) es h = next unit roles slot v e es h

pub each-next : (unit : Nodes) (roles : Slot → Role) (slot : Slot) (v : Scopes) (ds : Nodes) (es : Parts) → AreVisited unit roles v (each slot ds es) → EachStands unit v (roles slot) ds × AreVisited unit roles (scoped_each v (roles slot) ds) es
each-next unit roles slot v no_more es h = (tt, h)
each-next unit roles slot v (more d ds) es h =
    let a = next unit roles slot v d (each slot ds es) h in
    let b = each-next unit roles slot (scoped v (roles slot) d) ds es a.1 in
    ((a.0, b.0), b.1)

pub suffixes : (unit : Nodes) (roles : Slot → Role) (slot : Slot) (v : Scopes) (ds : Nodes) → roles plain ≡ Plain → AreVisited unit roles v (first_in slot ds) → SuffixesStand unit v (roles slot) ds
suffixes unit roles slot v no_more e h = tt
suffixes unit roles slot v (more d ds) e h =
    let a = next unit roles slot v d (each plain ds none) h in
    let b = each-next unit roles plain (scoped v (roles slot) d) ds none a.1 in
    (a.0, subst (λ (r : Role). EachStands unit (scoped v (roles slot) d) r ds) e b.0)

-- the trees of a unit
pub trees-stand : (unit : Nodes) → EachStands unit at_start Plain unit
trees-stand unit = (each-next unit plainly plain at_start unit none (trees-visited unit)).0
