-- What stands for the same is the same.
use Rattle.std.proofs.Common.{◌≡◌, ℕ, true, ◌||◌, Option, None, Some, refl, sym, ap, subst, ◌∙◌}
use Rattle.std.proofs.Math.Bool.{Bool-set}
use Rattle.std.proofs.Math.Path.{PathP, to_path_p}
use Rattle.std.specs.Prelude.{is_none, is_some}
use Rattle.c_objects.specs.Objects.{Object}
use Rattle.path_model.specs.CheckerModel.Choices.{State}
use Rattle.path_edges.specs.declared.edges.Context.{Context}
use Rattle.path_edges.specs.declared.edges.Edge.{Edge}
use Rattle.path_edges.specs.Edges.{tuple_in, context_in, edge_in}
use Rattle.path_theory.specs.Facts.{FactOf, NoObject, HasObject}
use Rattle.state_tuples.specs.declared.tuple.Tuple.{Tuple}
use Rattle.path_theory.specs.TabulationRules.Rules as rules
use Rattle.block_flows.specs.TupleFlows.Facts.{fact_in, fact_of}

abbrev IsBare : Option Object → Option State → Type 0
IsBare o x = is_some o || is_none x ≡ true

no-state : (x : Option State) → is_none x ≡ true → x ≡ None
no-state None h = refl
no-state (Some s) h = cc

one-fact : (o p : Option Object) (x y : Option State) → IsBare o x → IsBare p y → fact_of o x ≡ fact_of p y → (o ≡ p) × (x ≡ y)
one-fact None None x y b d e = (refl, no-state x b ∙ sym (no-state y d))
one-fact None (Some q) x y b d e = cc
one-fact (Some o) None x y b d e = cc
one-fact (Some o) (Some q) x y b d e = let s : o ≡ q = cc in let z : x ≡ y = cc in (ap Some s, z)

-- where there is no object there is no state
pub none_state : (t : Tuple) → t.object ≡ None → t.state ≡ None
none_state t e = no-state t.state (subst (λ o. IsBare o t.state) e t.bare)

-- a tuple is its parts
pub tuple_parts : (x y : Tuple) → x.global ≡ y.global → x.object ≡ y.object → x.state ≡ y.state → x ≡ y
tuple_parts x y g o s =
    let bare : PathP (λ i. IsBare (o i) (s i)) x.bare y.bare = to_path_p (λ i. IsBare (o i) (s i)) (Bool-set _ _ _ _) in
    λ i. record { global = g i; object = o i; state = s i; bare = bare i }

pub tuple-fact : (x y : Tuple) → x.global ≡ y.global → fact_in x ≡ fact_in y → x ≡ y
tuple-fact x y g f = let p = one-fact x.object y.object x.state y.state x.bare y.bare f in tuple_parts x y g p.0 p.1

pub tuple-seen : (x y : Tuple) → tuple_in x ≡ tuple_in y → x ≡ y
tuple-seen x y h = tuple-fact x y (ap (λ t. t.global) h) (ap (λ t. t.fact) h)

pub context-seen : (x y : Context) → context_in x ≡ context_in y → x ≡ y
context-seen x y h =
    let f : x.function ≡ y.function = ap (λ k. k.function) h in
    let t : x.entry ≡ y.entry = tuple-seen x.entry y.entry (ap (λ k. k.entry) h) in
    λ i. record { function = f i; entry = t i }

pub edge-seen : (x y : Edge) → edge_in x ≡ edge_in y → x ≡ y
edge-seen x y h =
    let k : x.context ≡ y.context = context-seen x.context y.context (ap (λ e. e.context) h) in
    let r : x.is_root ≡ y.is_root = ap (λ e. e.is_root) h in
    let b : x.block ≡ y.block = ap (λ e. e.block) h in
    let t : x.tuple ≡ y.tuple = tuple-seen x.tuple y.tuple (ap (λ e. e.tuple) h) in
    λ i. record { context = k i; is_root = r i; block = b i; tuple = t i }

-- each tuple of the theory has a value
abbrev pub tuple_with : ℕ → FactOf Object State → Tuple
tuple_with g NoObject = record { global = g; object = None; state = None; bare = refl }
tuple_with g (HasObject o x) = record { global = g; object = Some o; state = x; bare = refl }

with-there : (g : ℕ) (t : FactOf Object State) → tuple_in (tuple_with g t) ≡ record { global = g; fact = t }
with-there g NoObject = refl
with-there g (HasObject o x) = refl

pub tuple-there : (t : rules.Tuple ℕ Object State) → tuple_in (tuple_with t.global t.fact) ≡ t
tuple-there t = with-there t.global t.fact
