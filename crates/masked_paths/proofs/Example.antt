-- It is enough to follow the copy of a pointer of which nothing is known.
use Rattle.std.proofs.Common.{arith, ◌≡◌, ℕ, Bool, true, false, cond, nat_eq, IsTrue, ◌&&◌, Option, Some, None, is_none, refl, sym, ◌∙◌, ap, subst, true≢false, ◌⊎◌, inl, inr}
use Rattle.path_theory.specs.Walks.{WalkStart}
use Rattle.path_theory.specs.Numbered.{model, origins_of, supergraph_of, objects_of}
use Rattle.path_theory.specs.Relevant.{EventOf, CallOf}
use Rattle.path_theory.specs.Trails.{Start}
use Rattle.path_theory.specs.Callers.{NoCaller}
use Rattle.path_theory.specs.Paths.{Path, Begin, Go, Reported, ReportOf}
use Rattle.path_theory.specs.Facts.{NoObject, HasObject, Fact, Gives, GivesNone, GivesState}
use Rattle.path_theory.specs.Flows.{Starts, StartsNone, StartsUnknown, EventFlow, EventNone, EventObject}
use Rattle.path_theory.specs.Tabulation.{PathEdge, AtRoot, AlongSkip, AlongEvent, IntoCallee, OverCall, AroundCall, Found, FoundObject, FoundGlobal}
use Rattle.path_theory.proofs.SmallFacts.{no_object_object}
use Rattle.path_theory.proofs.FlatPaths.{in_errors}
use Rattle.path_theory.proofs.NumberedLaws.{numbered_local}
use Rattle.masked_paths.specs.Matched.{Matched, ClosedUnderMatched, Covers}
use Rattle.masked_paths.specs.Example.{frees, copy_and_free, the_copy, EnoughNotClosed}
use Rattle.masked_paths.proofs.MatchedObjects.{enough_of_matched}

-- p can be known, whatever is known at the entry
abbrev can_be_known : Matched (model frees)
can_be_known f w o = IsTrue (is_none w) × IsTrue (nat_eq o 0)

both : (a b : Bool) → a && b ≡ true → (a ≡ true) × (b ≡ true)
both true true h = (refl, refl)
both true false h = cc
both false b h = cc

given : (b : Bool) (x : ℕ) → cond b (Some 0) None ≡ Some x → b ≡ true
given true x h = refl
given false x h = cc

same_number : (n : ℕ) → nat_eq n 0 ≡ true → n ≡ 0
same_number n h = grind arith

from_copy : (b : Bool) (o c : ℕ) → cond b (Some 1) (Some o) ≡ Some c → nat_eq c 0 ≡ true → nat_eq o 0 ≡ true
from_copy true o c h i = let d : 1 ≡ c = cc in let e : c ≡ 0 = same_number c i in absurd (omega (arith, d, e))
from_copy false o c h i = let d : o ≡ c = cc in subst (λ z. nat_eq z 0 ≡ true) (sym d) i

no_call : {B : Type 0} {f h s : ℕ} → CallOf (model frees) (supergraph_of frees copy_and_free) f s h → B
no_call i = absurd (true≢false (sym i.calls))

closed : ClosedUnderMatched (model frees) (supergraph_of frees copy_and_free) (origins_of frees) can_be_known
closed = record {
  binds = λ {e = e} k g o x i d. (refl, (both (nat_eq e 1) (nat_eq o 0) (given (nat_eq e 1 && nat_eq o 0) x d)).1);
  moves = λ {e = e} w o b i d p. (p.0, from_copy (nat_eq e 0 && nat_eq o 0) o b d p.1);
  enters = λ w c o i d p. no_call i;
  comes_back = λ w o c d b i e p q j. no_call i;
  hands_out = λ o d i p e. no_call i;
}

covers : Covers (model frees) (supergraph_of frees copy_and_free) (origins_of frees) can_be_known (objects_of frees the_copy)
covers = record {
  known = λ w o p. p.1;
  fires = λ {e = e} k g o r i d. (both (nat_eq o 0) _ ((both (nat_eq e 1) _ d).1)).0;
  handed = λ o c i d p. no_call i;
}

copied : EventOf (model frees) (supergraph_of frees copy_and_free) 0 0
copied = record { labels = Start; from = 0; to = 1; walk = WalkStart; goes = refl }

-- the second call of free is reported
report : Reported (model frees) (supergraph_of frees copy_and_free) 0
report =
    let first : Path (model frees) (supergraph_of frees copy_and_free) 0 true 1 NoCaller = Go (Begin {f = 0} refl) 0 refl in
    let second : Path (model frees) (supergraph_of frees copy_and_free) 0 true 2 NoCaller = Go first 1 refl in
    ReportOf {q = 3} second 1 refl 0 refl

-- without a mask p is at the entry alone
Stands : ℕ → Fact (model frees) → Type 0
Stands p t = (t ≡ NoObject) ⊎ ((p ≡ 0) × ((x : Option ℕ) × (t ≡ HasObject 0 x)))

at_first : (p e q : ℕ) → IsTrue (copy_and_free.goes 0 p e q) → p ≡ 0 → nat_eq e 0 ≡ true
at_first p e q h i = (both (nat_eq e 0) (nat_eq q 1) (subst (λ z. IsTrue (copy_and_free.goes 0 z e q)) i h)).0

never_none : {B : Type 0} (b : Bool) (o : ℕ) → cond b (Some 1) (Some o) ≡ None → B
never_none true o h = cc
never_none false o h = cc

not_from_p : {B : Type 0} (b : Bool) (o c : ℕ) → nat_eq o 0 ≡ b → cond b (Some 1) (Some o) ≡ Some c → c ≡ 0 → B
not_from_p true o c i h d = let e : 1 ≡ c = cc in absurd (omega (arith, d, e))
not_from_p false o c i h d =
    let e : o ≡ c = cc in
    let z : nat_eq o 0 ≡ true = ap (λ n. nat_eq n 0) (e ∙ d) in
    absurd (true≢false (sym z ∙ i))

object_of_fact : {b c : ℕ} {x y : Option ℕ} → HasObject b x ≡ HasObject c y → b ≡ c
object_of_fact h = cc

nothing_goes : {B : Type 0} {t : Fact (model frees)} {x : Option ℕ} (p e q o : ℕ) (z : Option ℕ) → IsTrue (copy_and_free.goes 0 p e q)
    → frees.source e o ≡ z → Gives z t x → Stands p t → B
unfolding Stands
nothing_goes p e q o _ h d GivesNone s = never_none (nat_eq e 0 && nat_eq o 0) o d
nothing_goes p e q o _ h d (GivesState {o = b} {x = x}) s = elim s [
  | inl i ↦ no_object_object b x i
  | inr i ↦ not_from_p (nat_eq o 0) o b refl (ap (λ c. cond (c && nat_eq o 0) (Some 1) (Some o)) (sym (at_first p e q h i.0)) ∙ d) (object_of_fact i.1.1)
]

begins : {f : ℕ} {t : Fact (model frees)} → Starts (model frees) (origins_of frees) (objects_of frees the_copy) f t → Stands 0 t
unfolding Stands
begins StartsNone = inl refl
begins (StartsUnknown o i) = inr (refl, (None, ap (λ n. HasObject n None) (same_number o i)))

flows_on : {f : ℕ} {k : Bool} {e g : ℕ} {t u : Fact (model frees)} (p q : ℕ) → IsTrue (copy_and_free.goes 0 p e q)
    → EventFlow (model frees) (origins_of frees) (objects_of frees the_copy) f k e g t u → Stands p t → Stands q u
unfolding Stands
flows_on p q h EventNone s = inl refl
flows_on {e = e} p q h (EventObject o x i v) s = nothing_goes p e q o (frees.source e o) h refl v s

stands : {f : ℕ} {k : Bool} {g₀ g : ℕ} {t₀ t : Fact (model frees)} {p : ℕ}
    → PathEdge (model frees) (supergraph_of frees copy_and_free) (origins_of frees) (objects_of frees the_copy) f k g₀ t₀ p g t → Stands p t
unfolding Stands
stands (AtRoot r s) = begins s
stands (AlongSkip D t) = absurd (true≢false (sym t))
stands (AlongEvent {p = p} {q = q} D e t a) = flows_on p q t a (stands D)
stands (IntoCallee D s t a) = absurd (true≢false (sym t))
stands (OverCall D s t a C e b) = absurd (true≢false (sym t))
stands (AroundCall D s t C e d) = absurd (true≢false (sym t))

lost : Found (model frees) (supergraph_of frees copy_and_free) (origins_of frees) (objects_of frees the_copy) 0 → ⊥
lost (FoundObject {p = p} {q = q} D e t o x i v r) = nothing_goes p e q o (frees.source e o) t refl v (stands D)
lost (FoundGlobal D e t i) = true≢false (sym i)

pub enough_not_closed : EnoughNotClosed
enough_not_closed = record {
  enough = enough_of_matched (model frees) (supergraph_of frees copy_and_free) (origins_of frees) (numbered_local frees) can_be_known closed (objects_of frees the_copy) covers;
  not_closed = λ q. true≢false (sym (q.source 0 1 copied refl refl));
  reported = (in_errors (model frees) (supergraph_of frees copy_and_free) 0).1 report;
  not_found = lost;
}
