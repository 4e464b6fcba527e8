-- Functions that are kept one after the other, and the first repeat among those that are left.
use Rattle.std.proofs.Common.{◌≡◌, ℕ, ◌+◌, ◌<◌, List, [], ◌∷◌, ◌++◌, length, get_or, map, drop, Option, None, Some, Bor, Bool, true, cond, ap, ◌∙◌, sym, subst, add-one, drop-cons, arith}
use Rattle.std.proofs.Math.Logic.{∥∥₁_elim}
use Rattle.std.proofs.lemmas.List.{length-map, length-append, length-drop}
use Rattle.std.specs.Coded.{Coded-set, codes}
use Rattle.std.specs.Option.{option_map}
use Rattle.std.specs.Prelude.{Result, Ok, Err, IfErr, IsErrAnd}
use Rattle.c_tree.specs.declared.place.Place.{Place}
use Rattle.type_rules.specs.Functions.{Defined}
use Rattle.call_graph.specs.OfPrograms.Definitions.{defined_by, definitions, kept_in, trees_in}
use Rattle.call_graph.specs.OfPrograms.Repeats.{repeats, first_repeat, link_fault, name_and_place}
use Rattle.call_graph.proofs.OfPrograms.Listed.{map-length}
use Rattle.call_graph.specs.declared.fault.LinkFault.{LinkFault}
use Rattle.call_graph.specs.declared.fault.LinkFault.TheVariants.{DuplicateFunction, NoMemory}
use Rattle.call_graph.specs.Faults.{IsRepeat, IsLinkFault}
use Rattle.typed_unit.specs.declared.functions.TypedFunction.{TypedFunction}
use Rattle.typed_unit.specs.declared.typed_unit.TypedUnit.{TypedUnit}
use Rattle.typed_unit.specs.Functions.{function_of}

-- a function that repeats an earlier one
pub next-repeats : (old : List Defined) (f : Defined) (rest : List Defined) (b : Bool) → b ≡ true → b ≡ repeats old f → first_repeat old (f ∷ rest) ≡ Some f
next-repeats old f rest b h e = ap (λ (x : Bool). cond x (Some f) (first_repeat (old ++ (f ∷ [])) rest)) (sym e ∙ h)

-- there is room for one function more of a unit
pub room-for-one : (old all : List (Bor TypedFunction)) (items fs : List TypedFunction) (i n : ℕ) → i < length items → defined_by all ++ map function_of (drop i items) ≡ defined_by old ++ map function_of fs → length old + length fs < n → length all + 1 < n
room-for-one old all items fs i n t h l =
    let a = ap length h in
    let b = length-append (defined_by all) (map function_of (drop i items)) in
    let c = length-append (defined_by old) (map function_of fs) in
    let d = map-length all in
    let e = map-length old in
    let f = length-map (drop i items) function_of in
    let g = length-map fs function_of in
    let k = length-drop i items in
    omega (arith, a, b, c, d, e, f, g, k, t, l)

-- the functions of the next unit
pub unit-drop : (us : List (Bor TypedUnit)) (i : ℕ) (d : Bor TypedUnit) → i < length us → kept_in (drop i us) ≡ map function_of (get_or us i d).now.functions.items ++ kept_in (drop (i + 1) us)
unit-drop us i d h = ap kept_in (drop-cons us i d h) ∙ ap (λ j. map function_of (get_or us i d).now.functions.items ++ kept_in (drop j us)) (sym (add-one i))

-- there is room for those of a unit
pub room-for-unit : (all : List (Bor TypedFunction)) (fs : List TypedFunction) (left next whole : List Defined) (n : ℕ) → left ≡ map function_of fs ++ next → defined_by all ++ left ≡ whole → length whole < n → length all + length fs < n
room-for-unit all fs left next whole n f h l =
    let a = ap length h in
    let b = length-append (defined_by all) left in
    let c = ap length f in
    let d = length-append (map function_of fs) next in
    let e = map-length all in
    let g = length-map fs function_of in
    omega (arith, a, b, c, d, e, g, l)

-- the fault of what units keep is that of what their trees define
fault-of : (e : LinkFault) (o : Option Defined) → IsRepeat e o → IsLinkFault e (option_map name_and_place o)
fault-of (DuplicateFunction name place) o h = ap (option_map name_and_place) h.1 ∙ ap Some (λ i. (h.2 i, h.3 i))
fault-of NoMemory o h = tt

fault-set : (x y : Option (ℕ × Place)) → IsProp (x ≡ y)
fault-set = Coded-set (hlevel codes)

same-fault : (e : LinkFault) (x y : Option (ℕ × Place)) → x ≡ y → IsLinkFault e x → IsLinkFault e y
same-fault (DuplicateFunction name place) x y h k = sym h ∙ k
same-fault NoMemory x y h k = tt

abbrev pub Lists : List (Bor TypedUnit) → Type 0
Lists us = ∥ kept_in us ≡ definitions (trees_in us) ∥₁

pub faults-agree : (us : List (Bor TypedUnit)) → Lists us → option_map name_and_place (first_repeat [] (kept_in us)) ≡ link_fault (definitions (trees_in us))
faults-agree us h = ∥∥₁_elim h (fault-set _ _) (λ e. ap (λ (fs : List Defined). link_fault fs) e)

pub no-fault : (us : List (Bor TypedUnit)) → Lists us → first_repeat [] (kept_in us) ≡ None → link_fault (definitions (trees_in us)) ≡ None
no-fault us h e = sym (faults-agree us h) ∙ ap (option_map name_and_place) e

pub the-fault : (us : List (Bor TypedUnit)) (e : LinkFault) → Lists us → IsRepeat e (first_repeat [] (kept_in us)) → IsLinkFault e (link_fault (definitions (trees_in us)))
the-fault us e h r = same-fault e _ _ (faults-agree us h) (fault-of e (first_repeat [] (kept_in us)) r)

number-set : (x y : ℕ) → IsProp (x ≡ y)
number-set = Coded-set (hlevel codes)

pub few : (us : List (Bor TypedUnit)) (n : ℕ) → Lists us → length (definitions (trees_in us)) < n → length (kept_in us) < n
few us n h l = let e = ∥∥₁_elim h (number-set (length (kept_in us)) (length (definitions (trees_in us)))) (λ e. ap length e) in omega (arith, e, l)

pub unit-at : (us : List (Bor TypedUnit)) (i : ℕ) (u : Bor TypedUnit) → i < length us → u ≡ get_or us i u → kept_in (drop i us) ≡ map function_of u.now.functions.items ++ kept_in (drop (i + 1) us)
unit-at us i u h e = unit-drop us i u h ∙ ap (λ (w : Bor TypedUnit). map function_of w.now.functions.items ++ kept_in (drop (i + 1) us)) (sym e)

-- the fault of a unit is one among those that are left
pub repeat-among : (e : LinkFault) (o : Option Defined) (old more left next : List Defined) → o ≡ first_repeat old left → left ≡ more ++ next → IsRepeat e (first_repeat old (more ++ next)) → IsRepeat e o
repeat-among e o old more left next h f r = subst (λ (x : Option Defined). IsRepeat e x) (sym (h ∙ ap (first_repeat old) f)) r

-- a fault that is handed on
pub passes : {T : Type 0} (r : Result T LinkFault) (e : LinkFault) (P : LinkFault → Type 0) → IsErrAnd r (λ x. x ≡ e) → P e → IfErr r P
passes (Ok t) e P h p = tt
passes (Err x) e P h p = subst P (sym h) p
