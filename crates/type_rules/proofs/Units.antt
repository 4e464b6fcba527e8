-- A unit is typed by a table, or has a first fault, and not both.
use Rattle.std.proofs.Common.{◌≡◌, List, [], ◌∷◌, ◌⊎◌, inl, inr, Option, None, Some, true, Result, Ok, Err, ap, refl, ◌∙◌, sym, subst}
use Rattle.c_tree.specs.Node.{Nodes}
use Rattle.type_rules.specs.Definition.{Meeting, Out, Table, first_fault, AreRight, IsRight, HasCell, is_kept, IsAmong}
use Rattle.type_rules.specs.Faults.{Fault}
use Rattle.type_rules.specs.Options.{err, ◌>>=◌}
use Rattle.type_rules.specs.Order.{visited_all, fill_all}
use Rattle.type_rules.specs.Parts.{plain, Visit, none}
use Rattle.type_rules.specs.Roles.{Role, Plain}
use Rattle.type_rules.specs.Scopes.{Scopes, at_start}
use Rattle.type_rules.specs.Ways.TablesByCase.{filled_each}
use Rattle.type_rules.specs.Theorems.{UnitByCase}
use Rattle.type_rules.specs.Types.{CType, Void}
use Rattle.type_rules.specs.Ways.TypesByCase.{typed_each}
use Rattle.type_rules.specs.Unit.{visits_of, plainly, places_of, AreNumbered, IsTyping, IsFirstFault}
use Rattle.type_rules.proofs.BridgeTables as tables
use Rattle.type_rules.proofs.BridgeTypes.{each-flat}
use Rattle.type_rules.proofs.Filled.{filled_all}
use Rattle.type_rules.proofs.First.{first-fault}

apart : {A : Type 0} (o : Option A) (x : A) → o ≡ None → o ≡ Some x → ⊥
apart None x h k = cc
apart (Some y) x h k = cc

pub not-both : (unit : Nodes) (table : Table) (fault : Fault) → IsTyping unit table → IsFirstFault unit fault → ⊥
not-both unit table fault t f = apart (first_fault (places_of unit)) fault t.no_fault f

one : {A : Type 0} (o : Option A) (x y : A) → o ≡ Some x → o ≡ Some y → x ≡ y
one None x y h k = cc
one (Some z) x y h k = cc

pub one-fault : (unit : Nodes) (a b : Fault) → IsFirstFault unit a → IsFirstFault unit b → a ≡ b
one-fault unit a b h k = one (first_fault (places_of unit)) a b h k

-- a unit whose visit has types is typed by the table that the visit fills
pub typed : (unit : Nodes) (ts : List CType) → AreNumbered unit → visited_all plainly at_start (visits_of unit) ≡ Ok ts → IsTyping unit (fill_all plainly at_start (visits_of unit) [])
typed unit ts d h = record {
  no_fault = first-fault plainly at_start (visits_of unit) ∙ ap err h;
  right = filled_all plainly at_start (visits_of unit) ts [] (fill_all plainly at_start (visits_of unit) []) [] d h (λ j k. refl) tt;
}

-- the fault of a visit is the first
pub faulty : (unit : Nodes) (fault : Fault) → visited_all plainly at_start (visits_of unit) ≡ Err fault → IsFirstFault unit fault
faulty unit fault h = first-fault plainly at_start (visits_of unit) ∙ ap err h

settle : (unit : Nodes) (found : Result (List CType) Fault) → AreNumbered unit → visited_all plainly at_start (visits_of unit) ≡ found → ((table : Table) × IsTyping unit table) ⊎ ((fault : Fault) × IsFirstFault unit fault)
settle unit (Ok ts) d h = inl (fill_all plainly at_start (visits_of unit) [], typed unit ts d h)
settle unit (Err fault) d h = inr (fault, faulty unit fault h)

pub typed-or-faulty : (unit : Nodes) → AreNumbered unit → ((table : Table) × IsTyping unit table) ⊎ ((fault : Fault) × IsFirstFault unit fault)
typed-or-faulty unit d = settle unit (visited_all plainly at_start (visits_of unit)) d refl

among : (table : Table) (x : Meeting) (xs : List Meeting) → AreRight table xs → IsAmong x xs → IsRight table x
among table x [] h m = absurd m
among table x (y ∷ ys) h m = elim m [ inl e ↦ subst (λ (z : Meeting). IsRight table z) (sym e) h.0 | inr n ↦ among table x ys h.1 n ]

pub right-at : (unit : Nodes) (table : Table) (v : Scopes) (r : Role) (e : Visit) → IsTyping unit table → IsAmong (Out v r e) (places_of unit) → is_kept v r e ≡ true → HasCell table v r e
right-at unit table v r e t m k = among table (Out v r e) (places_of unit) t.right m k

-- A unit's trees by the visit that is written out for each kind.
same-visit : (unit : Nodes) → (typed_each at_start Plain unit >>= λ _. Ok Void) ≡ (visited_all plainly at_start (visits_of unit) >>= λ _. Ok Void)
same-visit unit = each-flat plainly plain at_start unit none (Ok Void) (λ _. Ok Void) (λ _. refl)

pub same-table : (unit : Nodes) → fill_all plainly at_start (visits_of unit) [] ≡ filled_each at_start Plain unit []
same-table unit = tables.each-flat plainly plain at_start unit none []

fine-visit : (found : Result CType Fault) (a : Result (List CType) Fault) (t : CType) → (found >>= λ _. Ok Void) ≡ (a >>= λ _. Ok Void) → found ≡ Ok t → (ts : List CType) × (a ≡ Ok ts)
fine-visit (Ok u) (Ok ts) t h k = (ts, refl)
fine-visit (Ok u) (Err e) t h k = cc
fine-visit (Err e) a t h k = cc

faulty-visit : (found : Result CType Fault) (a : Result (List CType) Fault) (fault : Fault) → (found >>= λ _. Ok Void) ≡ (a >>= λ _. Ok Void) → found ≡ Err fault → a ≡ Err fault
faulty-visit (Ok u) a fault h k = cc
faulty-visit (Err e) (Ok ts) fault h k = cc
faulty-visit (Err e) (Err d) fault h k = cc

pub unit-by-case : (unit : Nodes) (found : Result CType Fault) → typed_each at_start Plain unit ≡ found → UnitByCase unit found
unit-by-case unit (Ok t) h = λ d.
    let ts = fine-visit (typed_each at_start Plain unit) (visited_all plainly at_start (visits_of unit)) t (same-visit unit) h in
    subst (λ (x : Table). IsTyping unit x) (same-table unit) (typed unit ts.0 d ts.1)
unit-by-case unit (Err fault) h = faulty unit fault (faulty-visit (typed_each at_start Plain unit) (visited_all plainly at_start (visits_of unit)) fault (same-visit unit) h)
