-- It is enough to follow what a rule binds where its global state is met.
use Rattle.std.proofs.Common.{arith, ◌≡◌, ℕ, Bool, true, false, cond, nat_eq, IsTrue, ◌&&◌, Some, None, is_none, List, [], ◌∷◌, ◌++◌, Contains, refl, sym, ◌∙◌, ap, subst, true≢false, inl, inr}
use Rattle.std.proofs.lemmas.List.Elements.{Contains-push_cases, Contains-push}
use Rattle.least_set.specs.TwoPremises.{FollowsBase, FollowsOne, FollowsTwo, LeastBase}
use Rattle.path_theory.specs.Model.{Model}
use Rattle.path_theory.specs.Supergraph.{Supergraph}
use Rattle.path_theory.specs.Trails.{Start}
use Rattle.path_theory.specs.Walks.{WalkStart, WalkSkip}
use Rattle.path_theory.specs.Callers.{NoCaller}
use Rattle.path_theory.specs.Paths.{Path, Begin, Skip, Go, Reported, ReportOf}
use Rattle.path_theory.specs.Origins.{Origins}
use Rattle.path_theory.specs.Facts.{NoObject, Fact, Objects}
use Rattle.path_theory.specs.Flows.{Starts, StartsNone, StartsUnknown}
use Rattle.path_theory.specs.Relevant.{EventOf, CallOf}
use Rattle.path_theory.specs.FlowGraphs.{FlowGraphs, Before, EntersBlock, PassesEvent}
use Rattle.path_theory.specs.Numbered.{model, origins_of, graphs_of, block_supergraph_of, objects_of}
use Rattle.path_theory.specs.TabulationRules.Rules.{Base, ContextIn, Goes, GoesOn, GoesInto, WaiterIn, Waits, WaitsForObject, WaitsWithSaved}
use Rattle.path_theory.specs.TabulationRules.LeastSets.{HasNumbers, FollowsFrom, IsDerived}
use Rattle.path_theory.proofs.BlockEvents.{call_in_block}
use Rattle.path_theory.proofs.FlatPaths.{in_errors}
use Rattle.path_theory.proofs.NumberedLaws.{numbered_local}
use Rattle.masked_paths.specs.Masked.{SiteIn, CallAt}
use Rattle.masked_paths.specs.Met.{MetStates, global_behind}
use Rattle.masked_paths.specs.Matched.{ClosedUnderMet, CoversWhereMet}
use Rattle.masked_paths.specs.Theorems.{masked_model, masked_origins_of, masked_graphs_of, matched_of}
use Rattle.masked_paths.specs.MaskedTabulation.Theorems.{Edge, IsTabulated}
use Rattle.masked_paths.specs.MetTheorems.{following_none, met_in_log}
use Rattle.masked_paths.specs.MetExample.{assigns, binds_behind, assign_both, one_function, p_is_known, p_alone, EnoughWhereMet}
use Rattle.masked_paths.proofs.MetObjects.{enough_of_met}
use Rattle.masked_paths.proofs.MetLogs.{log_covers_met}

both : (a b : Bool) → a && b ≡ true → (a ≡ true) × (b ≡ true)
both true true h = (refl, refl)
both true false h = cc
both false b h = cc

same_number : (m n : ℕ) → nat_eq m n ≡ true → m ≡ n
same_number m n h = grind arith

-- ---- the first run

named_zero : (n f : ℕ) (b : Bool) → nat_eq n 0 ≡ b → cond b (Some 0) None ≡ Some f → (n ≡ 0) × (f ≡ 0)
named_zero n f true d e = let z : 0 ≡ f = cc in (same_number n 0 d, sym z)
named_zero n f false d e = cc

numbers : HasNumbers (model binds_behind) (graphs_of binds_behind assign_both) one_function
numbers = record {
  root = λ f r. (0, ap Some (sym (same_number f 0 r)));
  callee = λ f h m s b c d j. absurd (true≢false (sym j));
}

abbrev E : Type 0
E = Edge (following_none binds_behind assign_both one_function numbers)

-- the edge of the one path, at the block's first place
abbrev at_start : E
at_start = record {
  context = record { function = 0; entry = record { global = 0; fact = NoObject } };
  is_root = true;
  block = 0;
  tuple = record { global = 0; fact = NoObject };
}

abbrev log : List E
log = at_start ∷ []

abbrev N : Model
N = masked_model binds_behind (λ f o. false) false

abbrev ML : Origins N
ML = masked_origins_of binds_behind (λ f o. false) false

abbrev A : Objects N
A = objects_of binds_behind (λ f o. false)

abbrev H : FlowGraphs N
H = masked_graphs_of binds_behind (λ f o. false) false assign_both

in_log : (c : E) → Contains log c → at_start ≡ c
in_log c h = elim (Contains-push_cases [] at_start c h) [ inl w ↦ absurd (nothing c w) | inr d ↦ d ]
  where
    nothing : (c : E) → Contains [] c → ⊥
    nothing c w = let l = w.1 in absurd (omega (arith, l))

starts_none : {f : ℕ} {t : Fact N} → Starts N ML A f t → t ≡ NoObject
starts_none StartsNone = refl
starts_none (StartsUnknown o i) = absurd (true≢false (sym i))

base_is : (c : E) → Base N ML A H one_function c → c ≡ at_start
base_is c h =
    let n = named_zero c.context.function h.fn (nat_eq c.context.function 0) refl h.named in
    let fact = starts_none h.starts in
    let entry : c.context.entry ≡ at_start.tuple = λ i. record { global = h.start i; fact = fact i } in
    let tuple : c.tuple ≡ at_start.tuple = h.same ∙ entry in
    λ i. record { context = record { function = n.0 i; entry = entry i }; is_root = h.kind i; block = h.first i; tuple = tuple i }

no_call : {B : Type 0} {f h : ℕ} {b c : ℕ} {s : SiteIn ℕ ℕ} → H.Call f b s h c → B
no_call (CallAt j) = absurd (true≢false (sym j))

goes_nowhere : {B : Type 0} {a c : E} → Goes N ML A H one_function a c → B
goes_nowhere (GoesOn t f b h n) = absurd (true≢false (sym n))
goes_nowhere (GoesInto t f h s b k e j named q i) = no_call j

nobody_waits : {B : Type 0} {a : E} {k : ContextIn N ML A H one_function} {w : WaiterIn N ML A H one_function} → Waits N ML A H one_function a k w → B
nobody_waits (WaitsForObject t f h e j named q i context kind n) = no_call j
nobody_waits (WaitsWithSaved t f h o x e j named q p i context kind n) = no_call j

follows : (c : E) → FollowsFrom N ML A H one_function log c → Contains log c
follows c (FollowsBase h) = subst (Contains log) (sym (base_is c h)) (Contains-push [] at_start)
follows c (FollowsOne a i h) = goes_nowhere h
follows c (FollowsTwo a b k w i h j e v) = nobody_waits h

starts : Base N ML A H one_function at_start
starts = record { fn = 0; named = refl; root = refl; start = refl; starts = StartsNone; kind = refl; first = refl; same = refl }

tabulated : IsTabulated (following_none binds_behind assign_both one_function numbers) log
tabulated = record { closed = follows; only = λ c h. subst (IsDerived N ML A H one_function) (in_log c h) (LeastBase starts) }

-- ---- what the rule binds

abbrev M : Model
M = model binds_behind

abbrev K : Supergraph M
K = block_supergraph_of binds_behind assign_both

abbrev L : Origins M
L = origins_of binds_behind

abbrev R : MetStates M
R = met_in_log (following_none binds_behind assign_both one_function numbers) log

nil_cons : {X B : Type 0} (before : List X) (e : X) (later : List X) → [] ≡ before ++ e ∷ later → B
nil_cons [] e later d = cc
nil_cons (a ∷ before) e later d = cc

one_event : {B : Type 0} (a e : ℕ) (before later : List ℕ) → 3 ∷ [] ≡ a ∷ (before ++ e ∷ later) → B
one_event a e before later d = let rest : [] ≡ before ++ e ∷ later = cc in nil_cons before e later rest

not_got : {B : Type 0} (g : ℕ) → g ≡ 0 → g ≡ 1 → B
not_got g d e = absurd (omega (arith, d, e))

-- `got` is met right before p = x alone
where_got : (f : ℕ) (k : Bool) (before later : List ℕ) (e g i : ℕ) → 0 ∷ 1 ∷ 2 ∷ 3 ∷ [] ≡ before ++ e ∷ later → i ≡ 0
    → g ≡ global_behind M f k before i → g ≡ 1 → e ≡ 2
where_got f k [] later e g i d s m got = not_got g (m ∙ s) got
where_got f k (a ∷ []) later e g i d s m got = let first : 0 ≡ a = cc in not_got g (m ∙ ap (λ z. cond (nat_eq z 1) 1 0) (sym first)) got
where_got f k (a ∷ b ∷ []) later e g i d s m got = let third : 2 ≡ e = cc in sym third
where_got f k (a ∷ b ∷ c ∷ []) later e g i d s m got = let third : 2 ≡ c = cc in not_got g (m ∙ ap (λ z. cond (nat_eq z 1) 1 0) (sym third)) got
where_got f k (a ∷ b ∷ c ∷ h ∷ before) later e g i d s m got = let rest : 3 ∷ [] ≡ h ∷ (before ++ e ∷ later) = cc in one_event h e before later rest

given : (b : Bool) (x : ℕ) → cond b (Some 0) None ≡ Some x → b ≡ true
given true x h = refl
given false x h = cc

bound_where_met : {f e : ℕ} (k : Bool) (g o x : ℕ) → R f e k g → binds_behind.choose e f k g o None ≡ Some x → nat_eq o 0 ≡ true
bound_where_met {f = f} {e = e} k g o x m d =
    let acts = both (nat_eq g 1) (assigns e o) (given (nat_eq g 1 && assigns e o) x d) in
    let first = ap (λ c. c.tuple.global) (sym (in_log _ m.stands.edge.among)) in
    let event = where_got f k m.before m.later e g m.first m.events first m.global (same_number g 1 acts.0) in
    subst (λ z. assigns z o ≡ true) event acts.1

from_itself : (t : Bool) (o b : ℕ) → cond t None (Some o) ≡ Some b → b ≡ o
from_itself true o b d = cc
from_itself false o b d = let e : o ≡ b = cc in sym e

never_called : {B : Type 0} {f h s : ℕ} → CallOf M K f s h → B
never_called i = let w = call_in_block M (graphs_of binds_behind assign_both) i in absurd (true≢false (sym w.2))

closed : ClosedUnderMet M K L R (matched_of binds_behind p_is_known)
closed = record {
  binds = λ k g o x m d. bound_where_met k g o x m d;
  moves = λ {f = f} {e = e} w o b i d p. subst (λ z. IsTrue (p_is_known f w z)) (from_itself (assigns e o) o b d) p;
  enters = λ w c o i d p. never_called i;
  comes_back = λ w o c d b i e p q j. never_called i;
  hands_out = λ o d i p e. never_called i;
}

covers : CoversWhereMet M K L R (matched_of binds_behind p_is_known) (objects_of binds_behind p_alone)
covers = record {
  known = λ w o p. (both (is_none w) (nat_eq o 0) p).1;
  fires = λ {e = e} k g o r m d. (both (nat_eq o 0) _ ((both (nat_eq e 3) _ d).1)).0;
  handed = λ o c i d p. never_called i;
}

-- free(p) is reported
report : Reported M K 0
report =
    let enters : Path M K 0 true (Before 0 (0 ∷ 1 ∷ 2 ∷ 3 ∷ [])) NoCaller = Skip (Begin {f = 0} refl) (EntersBlock 0) in
    let q_assigned : Path M K 0 true (Before 0 (1 ∷ 2 ∷ 3 ∷ [])) NoCaller = Go enters 0 (PassesEvent 0 0 (1 ∷ 2 ∷ 3 ∷ [])) in
    let got : Path M K 0 true (Before 0 (2 ∷ 3 ∷ [])) NoCaller = Go q_assigned 1 (PassesEvent 0 1 (2 ∷ 3 ∷ [])) in
    let p_assigned : Path M K 0 true (Before 0 (3 ∷ [])) NoCaller = Go got 2 (PassesEvent 0 2 (3 ∷ [])) in
    ReportOf p_assigned 3 (PassesEvent 0 3 []) 0 refl

-- ---- where rules act in any state

q_is_assigned : EventOf M K 0 0
q_is_assigned = record {
  labels = Start;
  from = Before 0 (0 ∷ 1 ∷ 2 ∷ 3 ∷ []);
  to = Before 0 (1 ∷ 2 ∷ 3 ∷ []);
  walk = WalkSkip WalkStart (EntersBlock 0);
  goes = PassesEvent 0 0 (1 ∷ 2 ∷ 3 ∷ []);
}

pub enough_where_met : EnoughWhereMet
enough_where_met = record {
  numbers = numbers;
  log = log;
  tabulated = tabulated;
  closed = closed;
  covers = covers;
  enough = enough_of_met M K L (numbered_local binds_behind) R (log_covers_met (following_none binds_behind assign_both one_function numbers) log tabulated) (matched_of binds_behind p_is_known) closed (objects_of binds_behind p_alone) covers;
  reported = (in_errors M K 0).1 report;
  q_in_any_state = λ m a C V. V.known None 1 (C.binds true 1 1 0 q_is_assigned refl);
}
