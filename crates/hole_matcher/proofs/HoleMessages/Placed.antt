-- The tokens from a place on are those from its number on, where they begin there.
use Rattle.std.proofs.Common.{◌≡◌, ◌≤◌, ◌<◌, ◌+◌, ℕ, List, [], ◌∷◌, Bool, true, false, cond, nat_eq, ◌&&◌, refl, sym, ap, ◌∙◌, arith, ltb-true, ltb-false, ltb, le-leb}
use Rattle.std.proofs.Math.Logic.{∥∥₁_elim}
use Rattle.std.proofs.Props.{props}
use Rattle.std.specs.Coded.{×_prop, Unit-prop}
use borrow.Author.Tests.{lt-leb}
use Rattle.c_tree.specs.TokenPlaces.{Rises, StandInFile}
use Rattle.c_tree.specs.declared.place.Place.{Place}
use Rattle.c_tree.specs.declared.token.Token.{Token}
use Rattle.hole_matching.specs.Message.{is_at, from_place}
use Rattle.hole_matcher.specs.HoleMessages.Beginnings.{begins_at}
use Rattle.typed_unit.specs.TokenSearch.Numbers.{from}

-- the numbers of tokens rise from low on
abbrev Climbs : ℕ → List Token → Type 0
Climbs low [] = Unit {0}
Climbs low (t ∷ ts) = (low ≤ t.place.token) × Climbs (t.place.token + 1) ts

Climbs-prop : (low : ℕ) (ts : List Token) → IsProp (Climbs low ts)
Climbs-prop low [] = Unit-prop
Climbs-prop low (t ∷ ts) = ×_prop (Prim.hlevel props) (Climbs-prop (t.place.token + 1) ts)

climbs_low : (low : ℕ) (ts : List Token) (high : ℕ) → Rises low ts high → Climbs low ts
climbs_low low [] high r = _
climbs_low low (t ∷ ts) high r = (r.0, climbs_low (t.place.token + 1) ts high r.1)

climbs : (file : ℕ) (ts : List Token) → ∥ StandInFile file ts ∥₁ → Climbs 0 ts
climbs file ts s = ∥∥₁_elim s (Climbs-prop 0 ts) (λ x. climbs_low 0 ts x.high x.rises)

both_false : (b : Bool) → (b && false) ≡ false
both_false true = refl
both_false false = refl

-- a token with another number doesn't stand there
elsewhere : (p : Place) (t : Token) → nat_eq t.place.token p.token ≡ false → is_at p t ≡ false
elsewhere p t e = ap (λ b. nat_eq t.place.file p.file && b) e ∙ both_false (nat_eq t.place.file p.file)

-- all of them have that number or larger ones
all_from : (number low : ℕ) (ts : List Token) → Climbs low ts → number ≤ low → from number ts ≡ ts
all_from number low [] c h = refl
all_from number low (t ∷ ts) c h =
    let here = c.0 in
    rw (le-leb number t.place.token (omega arith)) (ap (λ us. t ∷ us) (all_from number (t.place.token + 1) ts c.1 (omega arith)))

-- all of them have larger numbers
none_at : (p : Place) (low : ℕ) (ts : List Token) → Climbs low ts → p.token < low → from_place p ts ≡ []
none_at p low [] c h = refl
none_at p low (t ∷ ts) c h =
    let here = c.0 in
    let e : nat_eq t.place.token p.token ≡ false = grind arith in
    rw (elsewhere p t e) (none_at p (t.place.token + 1) ts c.1 (omega arith))

from_climbing : (p : Place) (low : ℕ) (ts : List Token) → Climbs low ts → cond (begins_at p (from p.token ts)) (from p.token ts) [] ≡ from_place p ts
from_climbing p low [] c = refl
from_climbing p low (t ∷ ts) c = by (from_climbing p (t.place.token + 1) ts c.1) (ltb t.place.token p.token) refl
  where
    there : (b : Bool) → p.token ≤ t.place.token → cond b (t ∷ ts) [] ≡ cond b (t ∷ ts) (from_place p ts)
    there true h = refl
    there false h = sym (none_at p (t.place.token + 1) ts c.1 (omega arith))

    by : cond (begins_at p (from p.token ts)) (from p.token ts) [] ≡ from_place p ts → (b : Bool) → ltb t.place.token p.token ≡ b → cond (begins_at p (from p.token (t ∷ ts))) (from p.token (t ∷ ts)) [] ≡ cond (is_at p t) (t ∷ ts) (from_place p ts)
    by later true q =
        let h : t.place.token < p.token = ltb-true _ _ q in
        let e : nat_eq t.place.token p.token ≡ false = grind arith in
        rw (lt-leb p.token t.place.token h) (rw (elsewhere p t e) later)
    by later false q =
        let h = ltb-false _ _ q in
        rw (le-leb p.token t.place.token h) (rw (all_from p.token (t.place.token + 1) ts c.1 (omega arith)) (there (is_at p t) h))

-- THE TOKENS FROM A PLACE ON
pub found : (p : Place) (file : ℕ) (ts : List Token) → ∥ StandInFile file ts ∥₁ → cond (begins_at p (from p.token ts)) (from p.token ts) [] ≡ from_place p ts
found p file ts s = from_climbing p 0 ts (climbs file ts s)

-- as it is found: by the first of the tokens from its number on
pub found_by : (p : Place) (file : ℕ) (ts rest : List Token) (begins : Bool) → ∥ StandInFile file ts ∥₁ → rest ≡ from p.token ts → begins ≡ begins_at p rest → cond begins rest [] ≡ from_place p ts
found_by p file ts rest begins s e k = ap (λ b. cond b rest []) k ∙ ap (λ (r : List Token). cond (begins_at p r) r []) e ∙ found p file ts s
