-- Each member of the least set is a path edge, by the function that has its number.
-- A waiter carries no edge of its caller: the rule that left it has the caller's edge among its premises, and with the callee's that
-- is all that a return asks for.
use Rattle.std.proofs.Common.{◌≡◌, ◌∙◌, ℕ, Bool, true, false, Option, Some, None, [], refl, sym, ap, subst}
use Rattle.path_theory.specs.Model.{Model}
use Rattle.path_theory.specs.Origins.{Origins}
use Rattle.path_theory.specs.Facts.{NoObject, HasObject, Objects}
use Rattle.path_theory.specs.Flows.{CallFlow}
use Rattle.path_theory.specs.Tabulation.{PathEdge, AtRoot, AlongSkip, IntoCallee, OverCall, AroundCall}
use Rattle.path_theory.specs.FlowGraphs.{FlowGraphs, Head, Before, LeavesBlock, MakesCall, EndsFrame, supergraph}
use Rattle.path_theory.proofs.SmallFacts.{some_some, none_some}
use Rattle.path_theory.proofs.Saturated.{to_end}
use Rattle.least_set.specs.TwoPremises.{LeastBase, LeastOne, LeastTwo}
use Rattle.path_theory.specs.TabulationRules.Rules.{at, Base, Behind, ContextIn, EdgeIn, Ends, Goes, GoesOn, GoesInto, Hands, HandsBack, HandsSaved, TupleIn, WaiterIn, Waits, WaitsForObject, WaitsWithSaved, Wakes}
use Rattle.path_theory.specs.TabulationRules.LeastSets.{IsDerived}

abbrev first_of : {A B : Type 0} → A → Option (A × B) → A
first_of a None = a
first_of a (Some p) = p.0

abbrev second_of : {A B : Type 0} → B → Option (A × B) → B
second_of b None = b
second_of b (Some p) = p.1

module _ (M : Model) (L : Origins M) (A : Objects M) (G : FlowGraphs M) (function : ℕ → Option M.Fn) where
  abbrev Edge : Type 0
  Edge = EdgeIn M L A G function

  abbrev Entry : Type 0
  Entry = TupleIn M L A G function

  -- in a frame that was entered so, this tuple stands at the head of a block
  abbrev AtHead : M.Fn → Bool → Entry → G.Block → Entry → Type 0
  AtHead f k e b t = PathEdge M (supergraph M G) L A f k e.global e.fact (Head b) t.global t.fact

  -- and this one at the end of a block
  abbrev AtEnd : M.Fn → Bool → Entry → G.Block → Entry → Type 0
  AtEnd f k e b t = PathEdge M (supergraph M G) L A f k e.global e.fact (Before b []) t.global t.fact

  -- it is a path edge, by the function that has its number
  abbrev IsEdge : Edge → Type 0
  IsEdge e = (f : M.Fn) → function e.context.function ≡ Some f → AtHead f e.is_root e.context.entry e.block e.tuple

  -- one of the same frame is, where it is one by the function of this frame
  in_frame : (a c : Edge) (f : M.Fn) → function a.context.function ≡ Some f → c.context ≡ a.context → c.is_root ≡ a.is_root
      → AtHead f a.is_root a.context.entry c.block c.tuple → IsEdge c
  in_frame a c f named context kind d g other =
      let there = subst (λ k. AtHead f k a.context.entry c.block c.tuple) (sym kind) d in
      let here = subst (λ k. AtHead f c.is_root k.entry c.block c.tuple) (sym context) there in
      subst (λ h. AtHead h c.is_root c.context.entry c.block c.tuple) (some_some _ _ _ other (ap (λ k. function k.function) context ∙ named)) here

  at_end : {e : Edge} {t : Entry} {f : M.Fn} → IsEdge e → Behind M L A G function e t f → AtEnd f e.is_root e.context.entry e.block t
  at_end d h = to_end M L A G (d _ h.named) h.crosses

  of_base : {e : Edge} → Base M L A G function e → IsEdge e
  of_base {e = e} h f other =
      let entry = e.context.entry in
      let begins = subst (λ g. PathEdge M (supergraph M G) L A h.fn true g entry.fact (Head (G.first h.fn)) g entry.fact) (sym h.start) (AtRoot h.root h.starts) in
      let tuple = subst (λ t. AtHead h.fn true entry (G.first h.fn) t) (sym h.same) begins in
      let block = subst (λ b. AtHead h.fn true entry b e.tuple) (sym h.first) tuple in
      let kind = subst (λ k. AtHead h.fn k entry e.block e.tuple) (sym h.kind) block in
      subst (λ g. AtHead g e.is_root entry e.block e.tuple) (some_some _ _ _ other h.named) kind

  of_one : {a c : Edge} → IsEdge a → Goes M L A G function a c → IsEdge c
  of_one {a = a} d (GoesOn t f b h n) = in_frame a (at M L A G function a b t) f h.named refl refl (AlongSkip (at_end d h) (LeavesBlock n))
  of_one d (GoesInto t f h s b k e j named q i) = λ g other.
      let begins = IntoCallee (at_end d e) s (MakesCall j) i in
      let entry = subst (λ y. PathEdge M (supergraph M G) L A h false y k.entry.fact (Head (G.first h)) y k.entry.fact) (sym q) begins in
      subst (λ x. AtHead x false k.entry (G.first h) k.entry) (some_some _ _ _ other named) entry

  -- what the callee that was entered so comes to at its end
  record Summary (h : M.Fn) (e t : Entry) : Type 0 where
    block : G.Block
    edge : AtEnd h false e block t
    ends : G.Ends h block

  summary : {b : Edge} {k : ContextIn M L A G function} {t : Entry} {f h : M.Fn} → IsEdge b → Ends M L A G function b k
      → Behind M L A G function b t f → function k.function ≡ Some h → Summary h k.entry t
  summary {b = b} {k = k} {t = t} {f = f} d e v named =
      let callee = ap (λ x. function x.function) e.context ∙ named in
      let kind = subst (λ x. AtEnd f x b.context.entry b.block t) e.called (at_end d v) in
      let context = subst (λ x. AtEnd f false x.entry b.block t) e.context kind in
      record {
        block = b.block;
        edge = subst (λ x. AtEnd x false k.entry b.block t) (some_some _ _ _ callee v.named) context;
        ends = subst (λ x. G.Ends x b.block) (some_some _ _ _ callee e.named) e.ends;
      }

  -- a caller at a call
  record Caller (a : Edge) (w : WaiterIn M L A G function) (f h : M.Fn) (t : Entry) : Type 0 where
    edge : AtEnd f a.is_root a.context.entry a.block t
    call : G.Call f a.block w.site h w.behind

  -- goes on with what the callee hands back
  handed_back : {a : Edge} {w : WaiterIn M L A G function} {f h : M.Fn} {t e end now : Entry} → Caller a w f h t → Summary h e end
      → e.global ≡ t.global → CallFlow M L A w.site h t.fact e.fact → w.saved ≡ None → Hands M L A G function w f end now
      → AtHead f a.is_root a.context.entry w.behind now
  handed_back {a = a} {w = w} {f = f} {h = h} {t = t} {e = e} {end = end} {now = now} c s q i n (HandsBack m l r) =
      let callee = subst (λ g. PathEdge M (supergraph M G) L A h false g e.fact (Before s.block []) end.global end.fact) q s.edge in
      subst (λ g. PathEdge M (supergraph M G) L A f a.is_root a.context.entry.global a.context.entry.fact (Head w.behind) g now.fact) (sym l)
      (OverCall c.edge w.site (MakesCall c.call) i callee (EndsFrame s.ends) r)
  handed_back c s q i n (HandsSaved o x m p l r) = none_some _ _ n m

  -- or with what is saved
  saved : {a : Edge} {w : WaiterIn M L A G function} {f h : M.Fn} {t end now : Entry} {o : M.Obj} {x : Option M.State} → Caller a w f h t
      → Summary h (record { global = t.global; fact = NoObject }) end → t.fact ≡ HasObject o x → L.out w.site o ≡ None
      → w.saved ≡ Some (o, x) → Hands M L A G function w f end now → AtHead f a.is_root a.context.entry w.behind now
  saved c s q i n (HandsBack m l r) = none_some _ _ m n
  saved {a = a} {w = w} {f = f} {h = h} {t = t} {end = end} {now = now} {o = o} {x = x} c s q i n (HandsSaved p y m v l r) =
      let object = ap (first_of o) (sym m ∙ n) in
      let state = ap (second_of x) (sym m ∙ n) in
      let fact : now.fact ≡ HasObject o x = r ∙ (λ z. HasObject (object z) (state z)) in
      let callee = subst (λ u. PathEdge M (supergraph M G) L A h false t.global NoObject (Before s.block []) end.global u) v s.edge in
      let caller = subst (λ u. PathEdge M (supergraph M G) L A f a.is_root a.context.entry.global a.context.entry.fact (Before a.block []) t.global u) q c.edge in
      let behind = AroundCall caller w.site (MakesCall c.call) callee (EndsFrame s.ends) i in
      subst (λ g. PathEdge M (supergraph M G) L A f a.is_root a.context.entry.global a.context.entry.fact (Head w.behind) g now.fact) (sym l)
      (subst (λ u. PathEdge M (supergraph M G) L A f a.is_root a.context.entry.global a.context.entry.fact (Head w.behind) end.global u) (sym fact) behind)

  -- the tuple that a waiter goes on with, in the frame of its caller
  goes_on : (a : Edge) {b c : Edge} {w : WaiterIn M L A G function} {f : M.Fn} → function a.context.function ≡ Some f → w.context ≡ a.context
      → w.is_root ≡ a.is_root → (v : Wakes M L A G function w b c)
      → (Hands M L A G function w f v.end c.tuple → AtHead f a.is_root a.context.entry w.behind c.tuple) → IsEdge c
  goes_on a {c = c} {w = w} {f = f} named context kind v h =
      let caller = some_some _ _ _ (ap (λ x. function x.function) context ∙ named) v.named in
      let behind = h (subst (λ x. Hands M L A G function w x v.end c.tuple) caller v.hands) in
      in_frame a c f named (v.context ∙ context) (v.kind ∙ kind) (subst (λ b. AtHead f a.is_root a.context.entry b c.tuple) (sym v.block) behind)

  of_two : {a b c : Edge} {k : ContextIn M L A G function} {w : WaiterIn M L A G function} → IsEdge a → Waits M L A G function a k w
      → IsEdge b → Ends M L A G function b k → Wakes M L A G function w b c → IsEdge c
  of_two {a = a} x (WaitsForObject t f h e j named q i context kind n) y l v =
      let callee = summary y l v.behind named in
      goes_on a e.named context kind v (handed_back {a = a} (record { edge = at_end x e; call = j }) callee q i n)
  of_two {a = a} x (WaitsWithSaved t f h o z e j named q p i context kind n) y l v =
      let callee = subst (λ u. Summary h u v.end) q (summary y l v.behind named) in
      goes_on a e.named context kind v (saved {a = a} (record { edge = at_end x e; call = j }) callee p i n)

  -- each member of the least set is a path edge
  pub only_edges : {e : EdgeIn M L A G function} → IsDerived M L A G function e → (f : M.Fn) → function e.context.function ≡ Some f
      → PathEdge M (supergraph M G) L A f e.is_root e.context.entry.global e.context.entry.fact (Head e.block) e.tuple.global e.tuple.fact
  only_edges (LeastBase h) = of_base h
  only_edges (LeastOne x h) = of_one (only_edges x) h
  only_edges (LeastTwo x h y e v) = of_two (only_edges x) h (only_edges y) e v
