-- Edges, contexts, and what waits at contexts are found the same exactly where they are equal.
use Rattle.std.proofs.Common.{◌≡◌, ℕ, nat_eq, Bool, true, false, ◌&&◌, Option, None, Some, refl, arith}
use Rattle.std.specs.Bool.{beq}
use Rattle.std.specs.Option.{option_eq}
use Rattle.std.proofs.lemmas.Bool.{eqb-true}
use Rattle.c_objects.specs.Objects.{Object}
use Rattle.path_model.specs.CheckerModel.Choices.{State}
use Rattle.least_set.specs.Ways.Same.{both, same_option, same_pair}
use Rattle.least_set.specs.declared.two_premises.Wait.{Wait}
use Rattle.objects.specs.Equality.{same_object, same_object-true, same_object-refl}
use Rattle.path_edges.specs.declared.edges.Context.{Context}
use Rattle.path_edges.specs.declared.edges.Edge.{Edge}
use Rattle.path_edges.specs.declared.edges.Waiter.{Waiter}
use Rattle.path_edges.specs.Ways.Equality.{same_context}
use Rattle.path_edges.specs.Ways.Equality.{contexts_agree, edges_agree}
use Rattle.state_tuples.specs.Ways.Equality.{states_agree, tuples_agree}
use Rattle.state_tuples.specs.declared.tuple.Tuple.{Tuple}

number-itself : (n : ℕ) → nat_eq n n ≡ true
number-itself n = grind arith

truth-itself : (a : Bool) → beq a a ≡ true
truth-itself true = refl
truth-itself false = refl

same-truth : (a b : Bool) → beq a b ≡ true → a ≡ b
same-truth true true h = refl
same-truth false false h = refl
same-truth true false h = cc
same-truth false true h = cc

two : (a b : Bool) → a ≡ true → b ≡ true → a && b ≡ true
two a b p q = λ i. p i && q i

option-itself : {A : Type 0} (eq : A → A → Bool) → ((x : A) → eq x x ≡ true) → (o : Option A) → option_eq eq o o ≡ true
option-itself eq itself None = refl
option-itself eq itself (Some x) = itself x

-- states, tuples and contexts
state-itself : (x : State) → states_agree x x ≡ true
state-itself x = two (nat_eq x.0 x.0) (nat_eq x.1 x.1) (number-itself x.0) (number-itself x.1)

tuple-itself : (t : Tuple) → tuples_agree t t ≡ true
tuple-itself t =
    two (nat_eq t.global t.global) (option_eq same_object t.object t.object && option_eq states_agree t.state t.state) (number-itself t.global)
    (two (option_eq same_object t.object t.object) (option_eq states_agree t.state t.state) (option-itself same_object same_object-refl t.object) (option-itself states_agree state-itself t.state))

pub context-itself : (k : Context) → contexts_agree k k ≡ true
context-itself k = two (nat_eq k.function k.function) (tuples_agree k.entry k.entry) (number-itself k.function) (tuple-itself k.entry)

-- edges
pub edge-itself : (e : Edge) → edges_agree e e ≡ true
edge-itself e =
    two (contexts_agree e.context e.context) (beq e.is_root e.is_root && (nat_eq e.block e.block && tuples_agree e.tuple e.tuple)) (context-itself e.context)
    (two (beq e.is_root e.is_root) (nat_eq e.block e.block && tuples_agree e.tuple e.tuple) (truth-itself e.is_root)
    (two (nat_eq e.block e.block) (tuples_agree e.tuple e.tuple) (number-itself e.block) (tuple-itself e.tuple)))

-- who waits, and where
abbrev saved_agree : Object × Option State → Object × Option State → Bool
saved_agree x y = same_object x.0 y.0 && option_eq states_agree x.1 y.1

abbrev waiters_agree : Waiter → Waiter → Bool
waiters_agree x y = contexts_agree x.context y.context && (beq x.is_root y.is_root && (nat_eq x.block y.block && (nat_eq x.behind y.behind && option_eq saved_agree x.saved y.saved)))

abbrev pub waits_agree : Wait Context Waiter → Wait Context Waiter → Bool
waits_agree x y = contexts_agree x.on y.on && waiters_agree x.waiter y.waiter

same-state : (a b : State) → states_agree a b ≡ true → a ≡ b
same-state a b h = same_pair nat_eq nat_eq eqb-true eqb-true a b h

same-saved : (x y : Object × Option State) → saved_agree x y ≡ true → x ≡ y
same-saved x y h = same_pair same_object (option_eq states_agree) same_object-true (same_option states_agree same-state) x y h

same-waiter : (x y : Waiter) → waiters_agree x y ≡ true → x ≡ y
same-waiter x y h =
    let p = both (contexts_agree x.context y.context) (beq x.is_root y.is_root && (nat_eq x.block y.block && (nat_eq x.behind y.behind && option_eq saved_agree x.saved y.saved))) h in
    let q = both (beq x.is_root y.is_root) (nat_eq x.block y.block && (nat_eq x.behind y.behind && option_eq saved_agree x.saved y.saved)) p.1 in
    let r = both (nat_eq x.block y.block) (nat_eq x.behind y.behind && option_eq saved_agree x.saved y.saved) q.1 in
    let s = both (nat_eq x.behind y.behind) (option_eq saved_agree x.saved y.saved) r.1 in
    λ i. record {
      context = same_context x.context y.context p.0 i;
      is_root = same-truth x.is_root y.is_root q.0 i;
      block = eqb-true x.block y.block r.0 i;
      behind = eqb-true x.behind y.behind s.0 i;
      saved = same_option saved_agree same-saved x.saved y.saved s.1 i;
    }

pub same-wait : (x y : Wait Context Waiter) → waits_agree x y ≡ true → x ≡ y
same-wait x y h =
    let p = both (contexts_agree x.on y.on) (waiters_agree x.waiter y.waiter) h in
    λ i. record { on = same_context x.on y.on p.0 i; waiter = same-waiter x.waiter y.waiter p.1 i }

saved-itself : (x : Object × Option State) → saved_agree x x ≡ true
saved-itself x = two (same_object x.0 x.0) (option_eq states_agree x.1 x.1) (same_object-refl x.0) (option-itself states_agree state-itself x.1)

waiter-itself : (w : Waiter) → waiters_agree w w ≡ true
waiter-itself w =
    two (contexts_agree w.context w.context) (beq w.is_root w.is_root && (nat_eq w.block w.block && (nat_eq w.behind w.behind && option_eq saved_agree w.saved w.saved))) (context-itself w.context)
    (two (beq w.is_root w.is_root) (nat_eq w.block w.block && (nat_eq w.behind w.behind && option_eq saved_agree w.saved w.saved)) (truth-itself w.is_root)
    (two (nat_eq w.block w.block) (nat_eq w.behind w.behind && option_eq saved_agree w.saved w.saved) (number-itself w.block)
    (two (nat_eq w.behind w.behind) (option_eq saved_agree w.saved w.saved) (number-itself w.behind) (option-itself saved_agree saved-itself w.saved))))

pub wait-itself : (x : Wait Context Waiter) → waits_agree x x ≡ true
wait-itself x = two (contexts_agree x.on x.on) (waiters_agree x.waiter x.waiter) (context-itself x.on) (waiter-itself x.waiter)
