-- What names may be as holes, as declarations come.
use Rattle.std.proofs.Common.{◌≡◌, ℕ, zero, ◌+◌, ◌<◌, ◌≤◌, Bool, true, false, cond, nat_eq, is_some, List, [], ◌∷◌, ◌++◌, length, get_or, drop, Option, None, Some, ap, refl, ◌∙◌, sym, add-one, drop-cons, arith}
use Rattle.std.proofs.lemmas.Bool.Decides.{nat_tests}
use Rattle.std.proofs.lemmas.List.{drop_all, append-nil}
use Rattle.std.specs.Option.{option_map}
use Rattle.metal_tree.specs.MetalMachines.Machine.{HoleType}
use Rattle.metal_grammar.specs.Words.{Spelling}
use Rattle.metal_grammar.specs.Written.{members, Declares}
use Rattle.metal_grammar.specs.Holes.{DeclaredHole, hole_type, holes_as, declared_holes, type_of_hole}
use Rattle.metal_grammar.specs.Grammar.{Before, behind_content}
use Rattle.metal_written.specs.declared.kinds.Seat.{Seat}
use Rattle.metal_written.specs.declared.written.Declaration.{Declaration}
use Rattle.metal_written.specs.Kinds.{seat_of}
use Rattle.metal_written.specs.Written.{type_view, declaration_view}
use Rattle.metal_forms.specs.Before.{or_else, IsAdded}
use Rattle.metal_written.proofs.Rows.{members-row}

-- what each name may be, by a list of holes
abbrev pub seats_of : List DeclaredHole → ℕ → Option Seat
seats_of hs name = option_map seat_of (type_of_hole hs name)

-- the seat of a name that is among these
abbrev pub seat_among : Seat → List ℕ → ℕ → Option Seat
seat_among seat [] q = None
seat_among seat (n ∷ ns) q = cond (nat_eq n q) (Some seat) (seat_among seat ns q)

pub seats-append : (hs gs : List DeclaredHole) (name : ℕ) → seats_of (hs ++ gs) name ≡ or_else (seats_of hs name) (seats_of gs name)
seats-append [] gs name = refl
seats-append (h ∷ hs) gs name = by (nat_eq h.name name) (seats-append hs gs name)
  where
    by : (b : Bool) → seats_of (hs ++ gs) name ≡ or_else (seats_of hs name) (seats_of gs name) → option_map seat_of (cond b (Some h.of) (type_of_hole (hs ++ gs) name)) ≡ or_else (option_map seat_of (cond b (Some h.of) (type_of_hole hs name))) (seats_of gs name)
    by true e = refl
    by false e = e

-- the holes of one declaration
pub seats-declared : (is_state : Bool) (t : HoleType) (ns : List ℕ) (q : ℕ) → seats_of (holes_as is_state (Some t) ns) q ≡ seat_among (seat_of t) ns q
seats-declared is_state t [] q = refl
seats-declared is_state t (n ∷ ns) q = by (nat_eq n q) (seats-declared is_state t ns q)
  where
    by : (b : Bool) → seats_of (holes_as is_state (Some t) ns) q ≡ seat_among (seat_of t) ns q → option_map seat_of (cond b (Some t) (type_of_hole (holes_as is_state (Some t) ns) q)) ≡ cond b (Some (seat_of t)) (seat_among (seat_of t) ns q)
    by true e = refl
    by false e = e

equal : (a b : ℕ) → nat_eq a b ≡ true → a ≡ b
equal a b h = grind (arith, nat_tests)

-- a name that had no seat
pub added-new : (old new : ℕ → Option Seat) (name : ℕ) (seat : Seat) → None ≡ old name → ((q : ℕ) → new q ≡ cond (nat_eq name q) (Some seat) (old q)) → IsAdded old new name seat
added-new old new name seat e w q = w q ∙ by (nat_eq name q) refl
  where
    by : (b : Bool) → b ≡ nat_eq name q → cond b (Some seat) (old q) ≡ or_else (old q) (cond b (Some seat) None)
    by true h = ap (λ o. or_else o (Some seat)) (e ∙ ap old (equal name q (sym h)))
    by false h = none (old q)
      where
        none : (o : Option Seat) → o ≡ or_else o None
        none None = refl
        none (Some x) = refl

-- and one that had
pub added-kept : (old : ℕ → Option Seat) (name : ℕ) (seat x : Seat) → Some x ≡ old name → IsAdded old old name seat
added-kept old name seat x e q = by (nat_eq name q) refl
  where
    none : (o : Option Seat) → o ≡ or_else o None
    none None = refl
    none (Some y) = refl

    by : (b : Bool) → b ≡ nat_eq name q → old q ≡ or_else (old q) (cond b (Some seat) None)
    by true h = let y : Some x ≡ old q = e ∙ ap old (equal name q (sym h)) in sym y ∙ ap (λ o. or_else o (Some seat)) y
    by false h = none (old q)

or-three : (a b c : Option Seat) → or_else (or_else a b) c ≡ or_else a (or_else b c)
or-three None b c = refl
or-three (Some x) b c = refl

among-cons : (seat : Seat) (n : ℕ) (ns : List ℕ) (q : ℕ) → or_else (cond (nat_eq n q) (Some seat) None) (seat_among seat ns q) ≡ seat_among seat (n ∷ ns) q
among-cons seat n ns q = by (nat_eq n q)
  where
    by : (b : Bool) → or_else (cond b (Some seat) None) (seat_among seat ns q) ≡ cond b (Some seat) (seat_among seat ns q)
    by true = refl
    by false = refl

-- one more name joins those before
pub declare-next : (old new : ℕ → Option Seat) (seat : Seat) (ns : List ℕ) (i d : ℕ) (q : ℕ) (whole : Option Seat) → i < length ns → IsAdded old new (get_or ns i d) seat
    → or_else (old q) (seat_among seat (drop i ns) q) ≡ whole → or_else (new q) (seat_among seat (drop (i + 1) ns) q) ≡ whole
declare-next old new seat ns i d q whole h a w =
    ap (λ o. or_else o (seat_among seat (drop (i + 1) ns) q)) (a q)
    ∙ or-three (old q) (cond (nat_eq (get_or ns i d) q) (Some seat) None) (seat_among seat (drop (i + 1) ns) q)
    ∙ ap (or_else (old q)) (among-cons seat (get_or ns i d) (drop (i + 1) ns) q ∙ ap (λ j. seat_among seat (get_or ns i d ∷ drop j ns) q) (add-one i) ∙ sym (ap (λ xs. seat_among seat xs q) (drop-cons ns i d h)))
    ∙ w

pub declare-end : (found : Option Seat) (seat : Seat) (ns : List ℕ) (i q : ℕ) (whole : Option Seat) → length ns ≤ i → or_else found (seat_among seat (drop i ns) q) ≡ whole → found ≡ whole
declare-end found seat ns i q whole h w = none found ∙ sym (ap (λ xs. or_else found (seat_among seat xs q)) (drop_all i ns h)) ∙ w
  where
    none : (o : Option Seat) → o ≡ or_else o None
    none None = refl
    none (Some x) = refl

map-some : {A B : Type 0} (f : A → B) (o : Option A) (y : B) → option_map f o ≡ Some y → (x : A) × (o ≡ Some x) × (f x ≡ y)
map-some f None y h = cc
map-some f (Some x) y h = (x, refl, cc)

map-none : {A B : Type 0} (f : A → B) (o : Option A) → option_map f o ≡ None → o ≡ None
map-none f None h = refl
map-none f (Some x) h = cc

-- what is known behind a declaration whose names have this seat
pub declared-seats : (spelling : Spelling) (d : Declaration) (seat : Seat) (before : Before) (old new : ℕ → Option Seat)
    → Some seat ≡ option_map seat_of (hole_type spelling (type_view d.of)) → 0 < length d.names.now
    → ((q : ℕ) → old q ≡ seats_of before.holes q) → ((q : ℕ) → new q ≡ or_else (old q) (seat_among seat d.names.now q))
    → (q : ℕ) → new q ≡ seats_of (behind_content spelling (Declares (declaration_view d)) before).holes q
declared-seats spelling d seat before old new s p o n q =
    let t = map-some seat_of (hole_type spelling (type_view d.of)) seat (sym s) in
    n q ∙ ap (λ x. or_else x (seat_among seat d.names.now q)) (o q)
    ∙ ap (λ k. or_else (seats_of before.holes q) (seat_among k d.names.now q)) (sym t.2)
    ∙ ap (or_else (seats_of before.holes q)) (sym (seats-declared (is_some d.state) t.0 d.names.now q))
    ∙ ap (λ ns. or_else (seats_of before.holes q) (seats_of (holes_as (is_some d.state) (Some t.0) ns) q)) (sym (members-row zero d.names.now p))
    ∙ ap (λ x. or_else (seats_of before.holes q) (seats_of (holes_as (is_some d.state) x (members (declaration_view d).names)) q)) (sym t.1)
    ∙ sym (seats-append before.holes (declared_holes spelling (declaration_view d)) q)

-- and behind one whose type is none of holes
pub undeclared-seats : (spelling : Spelling) (d : Declaration) (before : Before)
    → None ≡ option_map seat_of (hole_type spelling (type_view d.of)) → (behind_content spelling (Declares (declaration_view d)) before).holes ≡ before.holes
undeclared-seats spelling d before s =
    ap (λ x. before.holes ++ holes_as (is_some d.state) x (members (declaration_view d).names)) (map-none seat_of (hole_type spelling (type_view d.of)) (sym s))
    ∙ append-nil before.holes
