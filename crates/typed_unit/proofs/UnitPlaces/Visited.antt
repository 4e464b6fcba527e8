-- Where a node is visited its parts are.
use Rattle.std.proofs.Common.{ℕ, List, [], ◌∷◌, inl, inr, refl, sym, subst}
use Rattle.std.specs.Bool.{⊤}
use Rattle.c_tree.specs.declared.place.Place.{Place}
use Rattle.c_tree.specs.Node.{Shape, Nodes}
use Rattle.type_rules.specs.Definition.{after, after_all, Meeting, In, Out, meetings_then, meetings_all_then, IsAmong}
use Rattle.type_rules.specs.Moves.{opened}
use Rattle.type_rules.specs.Parts.{Slot, Visit, visit, Parts, none, part}
use Rattle.type_rules.specs.Roles.{Role, given}
use Rattle.type_rules.specs.Scopes.{Scopes, at_start}
use Rattle.type_rules.specs.Unit.{visits_of, plainly, places_of}
use Rattle.typed_unit.specs.UnitPlaces.Standing.{IsVisited, AreVisited, followed}

-- what comes behind a node, or behind parts, is among what they begin
mutual
  behind : (v : Scopes) (r : Role) (e : Visit) (x : Meeting) (xs : List Meeting) → IsAmong x xs → IsAmong x (meetings_then v r e xs)
  behind v r (visit i p s es) x xs h = inr (behind-all (given v r) (opened v r s) es x (Out v r (visit i p s es) ∷ xs) (inr h))

  behind-all : (roles : Slot → Role) (v : Scopes) (es : Parts) (x : Meeting) (xs : List Meeting) → IsAmong x xs → IsAmong x (meetings_all_then roles v es xs)
  behind-all roles v none x xs h = h
  behind-all roles v (part slot e es) x xs h = behind v (roles slot) e x (meetings_all_then roles (after v (roles slot) e) es xs) (behind-all roles (after v (roles slot) e) es x xs h)

-- a node is among the places that it begins
itself : (v : Scopes) (r : Role) (e : Visit) (xs : List Meeting) → IsAmong (Out v r e) (meetings_then v r e xs)
itself v r (visit i p s es) xs = inr (behind-all (given v r) (opened v r s) es (Out v r (visit i p s es)) (Out v r (visit i p s es) ∷ xs) (inl refl))

-- all of these are places of the unit
abbrev Belong : Nodes → List Meeting → Type 0
Belong unit xs = (x : Meeting) → IsAmong x xs → IsAmong x (places_of unit)

-- parts whose places are places of the unit
visited : (unit : Nodes) (roles : Slot → Role) (v : Scopes) (es : Parts) (xs : List Meeting) → Belong unit (meetings_all_then roles v es xs) → AreVisited unit roles v es
visited unit roles v none xs h = tt
visited unit roles v (part slot e es) xs h =
    let w = after v (roles slot) e in
    let rest = meetings_all_then roles w es xs in
    (h (Out v (roles slot) e) (itself v (roles slot) e rest), visited unit roles w es xs (λ x k. h x (behind v (roles slot) e x rest k)))

-- the parts at a place are visited
abbrev HasParts : Nodes → Meeting → Type 0
HasParts unit (In v r e) = ⊤
HasParts unit (Out v r (visit i p s es)) = AreVisited unit (given v r) (opened v r s) es

abbrev HaveParts : Nodes → List Meeting → Type 0
HaveParts unit [] = ⊤
HaveParts unit (x ∷ xs) = HasParts unit x × HaveParts unit xs

mutual
  node-parts : (unit : Nodes) (v : Scopes) (r : Role) (e : Visit) (xs : List Meeting) → Belong unit (meetings_then v r e xs) → HaveParts unit xs → HaveParts unit (meetings_then v r e xs)
  node-parts unit v r (visit i p s es) xs h rest =
      let inside : Belong unit (meetings_all_then (given v r) (opened v r s) es (Out v r (visit i p s es) ∷ xs)) = λ x k. h x (inr k) in
      (tt, all-parts unit (given v r) (opened v r s) es (Out v r (visit i p s es) ∷ xs) inside (visited unit (given v r) (opened v r s) es (Out v r (visit i p s es) ∷ xs) inside, rest))

  all-parts : (unit : Nodes) (roles : Slot → Role) (v : Scopes) (es : Parts) (xs : List Meeting) → Belong unit (meetings_all_then roles v es xs) → HaveParts unit xs → HaveParts unit (meetings_all_then roles v es xs)
  all-parts unit roles v none xs h rest = rest
  all-parts unit roles v (part slot e es) xs h rest =
      let w = after v (roles slot) e in
      let later = meetings_all_then roles w es xs in
      node-parts unit v (roles slot) e later h (all-parts unit roles w es xs (λ x k. h x (behind v (roles slot) e x later k)) rest)

among : (unit : Nodes) (x : Meeting) (xs : List Meeting) → HaveParts unit xs → IsAmong x xs → HasParts unit x
among unit x [] h m = absurd m
among unit x (y ∷ ys) h m = elim m [ inl e ↦ subst (λ (z : Meeting). HasParts unit z) (sym e) h.0 | inr n ↦ among unit x ys h.1 n ]

pub parts-visited : (unit : Nodes) (v : Scopes) (r : Role) (i : ℕ) (p : Place) (s : Shape) (es : Parts) → IsVisited unit v r (visit i p s es) → AreVisited unit (given v r) (opened v r s) es
parts-visited unit v r i p s es m = among unit (Out v r (visit i p s es)) (places_of unit) (all-parts unit plainly at_start (visits_of unit) [] (λ x h. h) tt) m

pub trees-visited : (unit : Nodes) → AreVisited unit plainly at_start (visits_of unit)
trees-visited unit = visited unit plainly at_start (visits_of unit) [] (λ x h. h)

-- the part behind those before it
pub split : (unit : Nodes) (roles : Slot → Role) (v : Scopes) (before : Parts) (slot : Slot) (e : Visit) (rest : Parts) → AreVisited unit roles v (followed before (part slot e rest)) → IsVisited unit (after_all roles v before) (roles slot) e
split unit roles v none slot e rest h = h.0
split unit roles v (part s d before) slot e rest h = split unit roles (after v (roles s) d) before slot e rest h.1
