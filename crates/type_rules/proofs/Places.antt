-- Where the visit finds no fault, each node has a type at its place.
use Rattle.std.proofs.Common.{◌≡◌, List, [], ◌∷◌, inl, inr, None, Some, Result, Ok, Err, ap, refl, ◌∙◌, sym, subst}
use Rattle.std.specs.Bool.{⊤}
use Rattle.c_tree.specs.Node.{Nodes}
use Rattle.type_rules.specs.Definition.{after, behind_parts, type_of, Meeting, In, Out, meetings_then, meetings_all_then, first_fault, IsAmong}
use Rattle.type_rules.specs.Faults.{Fault}
use Rattle.type_rules.specs.Moves.{opened}
use Rattle.type_rules.specs.Options.{ok, err}
use Rattle.type_rules.specs.Order.{visited, visited_all}
use Rattle.type_rules.specs.Parts.{Slot, Visit, visit, Parts, none, part}
use Rattle.type_rules.specs.Roles.{Role, given}
use Rattle.type_rules.specs.Rows.{row, entry_fault}
use Rattle.type_rules.specs.Scopes.{Scopes, at_start}
use Rattle.type_rules.specs.Types.{CType}
use Rattle.type_rules.specs.Unit.{visits_of, plainly, places_of}
use Rattle.type_rules.proofs.Filled.{both, parts-fine}
use Rattle.type_rules.proofs.First.{visited-ok, first-fault}

abbrev IsTyped : Meeting → Type 0
IsTyped (In v r e) = ⊤
IsTyped (Out v r e) = (t : CType) × (type_of v r e ≡ Some t)

abbrev AreTyped : List Meeting → Type 0
AreTyped [] = ⊤
AreTyped (x ∷ xs) = IsTyped x × AreTyped xs

mutual
  typed-places : (v : Scopes) (r : Role) (e : Visit) (t : CType) (xs : List Meeting) → visited v r e ≡ Ok t → AreTyped xs → AreTyped (meetings_then v r e xs)
  typed-places v r (visit i p s es) t xs h rest =
      let us : (us : List CType) × (visited_all (given v r) (opened v r s) es ≡ Ok us) = parts-fine (entry_fault v s) (visited_all (given v r) (opened v r s) es) (λ ts. row v (behind_parts v r s es) r p s ts) t h in
      let here : (u : CType) × (type_of v r (visit i p s es) ≡ Some u) = (t, sym (visited-ok v r (visit i p s es)) ∙ ap ok h) in
      (tt, typed-all (given v r) (opened v r s) es us.0 (Out v r (visit i p s es) ∷ xs) us.1 (here, rest))

  typed-all : (roles : Slot → Role) (v : Scopes) (es : Parts) (ts : List CType) (xs : List Meeting) → visited_all roles v es ≡ Ok ts → AreTyped xs → AreTyped (meetings_all_then roles v es xs)
  typed-all roles v none ts xs h rest = rest
  typed-all roles v (part slot e es) ts xs h rest =
      let w = after v (roles slot) e in
      let split : ((t : CType) × (visited v (roles slot) e ≡ Ok t)) × ((us : List CType) × (visited_all roles w es ≡ Ok us)) = both (visited v (roles slot) e) (visited_all roles w es) ts h in
      typed-places v (roles slot) e split.0.0 (meetings_all_then roles w es xs) split.0.1 (typed-all roles w es split.1.0 xs split.1.1 rest)

among : (x : Meeting) (xs : List Meeting) → AreTyped xs → IsAmong x xs → IsTyped x
among x [] h m = absurd m
among x (y ∷ ys) h m = elim m [ inl e ↦ subst (λ (z : Meeting). IsTyped z) (sym e) h.0 | inr n ↦ among x ys h.1 n ]

fine : {A : Type 0} (a : Result A Fault) → err a ≡ None → (x : A) × (a ≡ Ok x)
fine (Ok x) h = (x, refl)
fine (Err e) h = cc

pub place-typed : (unit : Nodes) (v : Scopes) (r : Role) (e : Visit) → first_fault (places_of unit) ≡ None → IsAmong (Out v r e) (places_of unit) → (t : CType) × (type_of v r e ≡ Some t)
place-typed unit v r e h m =
    let ts = fine (visited_all plainly at_start (visits_of unit)) (sym (first-fault plainly at_start (visits_of unit)) ∙ h) in
    among (Out v r e) (places_of unit) (typed-all plainly at_start (visits_of unit) ts.0 [] ts.1 tt) m
