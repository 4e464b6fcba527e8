-- Who waits at the end of an edge's block, by the tuples that stand there.
use Rattle.std.proofs.Common.{◌≡◌, ◌↔◌, ℕ, List, [], None, Some, refl, sym, ap, subst, ◌∙◌}
use Rattle.c_objects.specs.Objects.{Object}
use Rattle.flow_graph.specs.CPaths.Building.{Graph}
use Rattle.path_model.specs.CheckerGraphs.Graphs.{AreApartPlaces, function_at}
use Rattle.path_model.proofs.CheckerGraphs.Numbers.{one-number}
use Rattle.path_model.specs.CheckerModel.Checkers.{model, origins}
use Rattle.path_model.specs.CheckerModel.Choices.{State}
use Rattle.path_model.specs.CheckerModel.Happenings.{Function, Site}
use Rattle.path_model.specs.CheckerModel.Reports.{Checker}
use Rattle.path_model.specs.CheckerPrograms.Texts.{functions_in}
use Rattle.typed_unit.specs.Texts.{Text}
use Rattle.path_edges.specs.EdgeSteps.Steps.{StandsBehind, wait_for}
use Rattle.block_flows.specs.FollowedLists.{is_followed, mask_in}
use Rattle.block_flows.specs.TupleFlows.Passed.{out_in}
use Rattle.masked_paths.specs.Masked.{SiteIn}
use Rattle.masked_paths.proofs.StrictFlows.Among.{origins_are, call_among}
use Rattle.block_flows.specs.Masks.{between, graphs_under, model_under, objects_under, origins_under}
use Rattle.path_edges.proofs.MaskedCalls.{MaskedCall, call-of, masked-call, site-between}
use Rattle.path_theory.specs.Origins.{Origins}
use Rattle.path_edges.proofs.EdgeSteps.Lists.{exactly-none}
use Rattle.path_edges.proofs.EdgeSteps.Views.{context-seen, tuple-seen, tuple_with, tuple-there}
use Rattle.least_set.specs.declared.two_premises.Wait.{Wait}
use Rattle.least_set.specs.Logs.{IsExactly, SomeGives}
use Rattle.path_edges.specs.declared.edges.Context.{Context}
use Rattle.path_edges.specs.declared.edges.Edge.{Edge}
use Rattle.path_edges.specs.declared.edges.Waiter.{Waiter}
use Rattle.path_edges.specs.Edges.{context_in, edge_in, tuple_in, waiter_in, call_site_at}
use Rattle.path_edges.specs.Relations.{WaitsAt}
use Rattle.path_theory.specs.Facts.{FactOf, HasObject}
use Rattle.path_theory.specs.Flows.{CallFlow}
use Rattle.state_tuples.specs.declared.tuple.Tuple.{Tuple}
use Rattle.path_theory.specs.TabulationRules.Rules as rules
use Rattle.block_flows.specs.TupleFlows.Facts.{fact_in, fact_of, is_in, listed, origins_in, without_object}
use Rattle.edge_rules.specs.WaitRules.FollowedCalls.{IsCall, HasNoCall}
use Rattle.edge_rules.specs.WaitRules.Waiters.{IsWaiting, ForEntered, WithSaved, wait_with}
use Rattle.edge_rules.proofs.WaitRules.Callers.{CallAt, one-call, one-function, site-of-call, stands, stands-in}

-- who waits is known by his parts
wait-seen : (x y : Wait Context Waiter) → x.on.function ≡ y.on.function → x.on.entry ≡ y.on.entry → x.waiter.context ≡ y.waiter.context
    → x.waiter.is_root ≡ y.waiter.is_root → x.waiter.block ≡ y.waiter.block → x.waiter.behind ≡ y.waiter.behind → x.waiter.saved ≡ y.waiter.saved → x ≡ y
wait-seen x y f t k r b n o = λ i. record {
  on = record { function = f i; entry = t i };
  waiter = record { context = k i; is_root = r i; block = b i; behind = n i; saved = o i };
}

module _ (c : Checker) (ts : List Text) (gs : List Graph) (lists : List (List Object)) where
  abbrev Waits : Edge → Context → Waiter → Type 0
  Waits e k w = rules.Waits (model_under c ts lists) (origins_under c ts lists) (objects_under c ts lists) (graphs_under c ts gs lists) (function_at ts) (edge_in e) (context_in k) (waiter_in c ts gs w)

  abbrev Here : Edge → Wait Context Waiter → Type 0
  Here e w = WaitsAt c ts gs lists e w.on w.waiter

  -- the site of a waiter, and the call of which it is
  abbrev Place : Waiter → SiteIn Function Site
  Place w = call_site_at c ts gs w.context.function w.block

  -- nobody waits where the block ends in no followed call
  pub nobody-waits : (e : Edge) → HasNoCall c ts gs e.context.function e.block → IsExactly [] (λ (w : Wait Context Waiter). WaitsAt c ts gs lists e w.on w.waiter)
  nobody-waits e none = exactly-none (Here e) (λ w h. by w h.waits)
    where
      no-call : (w : Waiter) (f h : Function) → function_at ts e.context.function ≡ Some f → MaskedCall c ts gs lists f e.block (Place w) h w.behind → ⊥
      no-call w f h named masked = let k = call-of c ts gs lists f e.block (Place w) h w.behind masked in none f h k.site w.behind named k.call

      by : (w : Wait Context Waiter) → Waits e w.on w.waiter → ⊥
      by w (rules.WaitsForObject t f h behind call named global flow here kind saved) = no-call w.waiter f h behind.named call
      by w (rules.WaitsWithSaved t f h o x behind call named entry has kept here kind saved) = no-call w.waiter f h behind.named call

  module _ (apart : AreApartPlaces (functions_in ts)) (e : Edge) (number next : ℕ) (s : Site) (k : IsCall c ts gs e.context.function e.block number next s)
      (here there : List Object) (follows : (o : Object) → is_followed ts lists k.caller o ≡ is_in here o) (follows-there : (o : Object) → is_followed ts lists k.called o ≡ is_in there o) where
    abbrev Of : Tuple → Wait Context Waiter → Type 0
    Of u w = IsWaiting c s k.called here there number next e u w

    abbrev Taken : Wait Context Waiter → Type 0
    Taken w = (u : Tuple) × StandsBehind c ts gs lists e u × Of u w

    -- the call of a waiter at this block is the one that is there
    record IsHere (w : Waiter) (h : Function) : Type 0 where
      place : Place w ≡ between k.caller s k.called
      callee : h ≡ k.called
      behind : w.behind ≡ next

    same-call : (w : Waiter) (f h : Function) → function_at ts e.context.function ≡ Some f → MaskedCall c ts gs lists f e.block (Place w) h w.behind → IsHere w h
    same-call w f h named masked =
        let x = call-of c ts gs lists f e.block (Place w) h w.behind masked in
        let own : f ≡ k.caller = one-function f k.caller (sym named ∙ k.named) in
        let there = subst (λ (z : Function). CallAt c ts gs z e.block x.site h w.behind) own x.call in
        let same = one-call c ts gs k.caller e.block x.site s h k.called w.behind next there k.ends in
        record { place = x.is ∙ (λ i. between (own i) (same.site i) (same.callee i)); callee = same.callee; behind = same.behind }

    same-number : (n : ℕ) (h : Function) → function_at ts n ≡ Some h → h ≡ k.called → number ≡ n
    same-number n h named is = one-number ts apart number n k.called k.numbered (named ∙ ap (λ (z : Function). Some z) is)

    -- the flow of facts into the callee where these objects alone are followed, and among those of both functions
    abbrev Enters : SiteIn Function Site → Function → FactOf Object State → FactOf Object State → Type 0
    Enters z h x y = CallFlow (model_under c ts lists) (origins_under c ts lists) (objects_under c ts lists) z h x y

    entering-is : (x y : FactOf Object State) → Enters (between k.caller s k.called) k.called x y
        ↔ CallFlow (model c) (origins_in c here there) (listed c there) s k.called x y
    entering-is x y = call_among (model c) (origins c) (mask_in c ts lists) refl k.caller k.called (is_in here) (is_in there) follows follows-there s x y

    entering : (z : SiteIn Function Site) (h : Function) (x y v : FactOf Object State) → z ≡ between k.caller s k.called → h ≡ k.called → x ≡ v → Enters z h x y
        → CallFlow (model c) (origins_in c here there) (listed c there) s k.called v y
    entering z h x y v place callee fact flow =
        let one = subst (λ (q : SiteIn Function Site). Enters q h x y) place flow in
        let two = subst (λ (q : Function). Enters (between k.caller s k.called) q x y) callee one in
        let three = subst (λ q. Enters (between k.caller s k.called) k.called q y) fact two in
        (entering-is v y).0 three

    -- what is saved, by the site of a waiter
    kept-is : (o : Object) → (origins_under c ts lists).out (between k.caller s k.called) o ≡ out_in c.depth s here there o
    kept-is o = ap (λ (L : Origins (model c)). L.out s o)
        (origins_are (model c) (origins c) (mask_in c ts lists) refl k.caller k.called (is_in here) (is_in there) follows follows-there)

    taken : (w : Wait Context Waiter) → w.waiter.block ≡ e.block → Waits e w.on w.waiter → Taken w
    taken w block (rules.WaitsForObject t f h behind call named global flow same-context kind saved) =
        let same = same-call w.waiter f h behind.named call in
        let u = tuple_with t.global t.fact in
        let fact = ap (λ x. x.fact) (sym (tuple-there t)) in
        let globals = global ∙ ap (λ x. x.global) (sym (tuple-there t)) in (
          u,
          stands c ts gs lists e t f behind,
          ForEntered w.on.entry (record { global = globals; fact = entering (Place w.waiter) h t.fact (fact_in w.on.entry) (fact_in u) same.place same.callee fact flow })
              (wait-seen (wait_for e number next w.on.entry) w (same-number w.on.function h named same.callee) refl (sym (context-seen w.waiter.context e.context same-context)) (sym kind) (sym block) (sym same.behind) (sym saved)),
        )
    taken w block (rules.WaitsWithSaved t f h o x behind call named entry has kept same-context kind saved) =
        let same = same-call w.waiter f h behind.named call in
        let u = tuple_with t.global (HasObject o x) in
        let stand = subst (λ z. rules.Behind (model_under c ts lists) (origins_under c ts lists) (objects_under c ts lists) (graphs_under c ts gs lists) (function_at ts) (edge_in e) z f) (ap (λ z. record { global = t.global; fact = z }) has) behind in
        let at : (origins_under c ts lists).out (between k.caller s k.called) o ≡ None = ap (λ (z : SiteIn Function Site). (origins_under c ts lists).out z o) (sym same.place) ∙ kept in (
          u,
          record { fn = f; behind = stand },
          WithSaved o (record { has = refl; kept = sym (kept-is o) ∙ at })
              (wait-seen (wait_with e number next u o) w (same-number w.on.function h named same.callee) (tuple-seen (without_object u) w.on.entry (sym entry)) (sym (context-seen w.waiter.context e.context same-context)) (sym kind)
              (sym block) (sym same.behind) (sym saved)),
        )

    -- the call of one who waits here
    abbrev r : SiteIn Function Site
    r = call_site_at c ts gs e.context.function e.block

    place-here : between k.caller s k.called ≡ r
    place-here = sym (site-between c ts gs e.context.function e.block k.caller k.called s k.named (site-of-call c ts gs e.context.function e.block k.caller k.called s next k.named k.ends) k.ends.4)

    call-here : MaskedCall c ts gs lists k.caller e.block r k.called next
    call-here = subst (λ (q : SiteIn Function Site). MaskedCall c ts gs lists k.caller e.block q k.called next) place-here (masked-call c ts gs lists k.caller e.block s k.called next k.ends)

    given : (u : Tuple) (w : Wait Context Waiter) → StandsBehind c ts gs lists e u → Of u w → Here e w
    given u w st (ForEntered v enters is) =
        let flow = subst (λ (q : SiteIn Function Site). Enters q k.called (fact_in u) (fact_in v)) place-here ((entering-is (fact_in u) (fact_in v)).1 enters.fact) in
        subst (Here e) is
        (record { here = refl; waits = rules.WaitsForObject (tuple_in u) k.caller k.called (stands-in c ts gs lists e u k.caller k.named st) call-here k.numbered enters.global flow refl refl refl })
    given u w st (WithSaved o saved is) =
        let fact : fact_in u ≡ HasObject o u.state = ap (λ z. fact_of z u.state) saved.has in
        let kept : (origins_under c ts lists).out r o ≡ None = ap (λ (z : SiteIn Function Site). (origins_under c ts lists).out z o) (sym place-here) ∙ kept-is o ∙ saved.kept in
        subst (Here e) is
        (record {
          here = refl;
          waits = rules.WaitsWithSaved (tuple_in u) k.caller k.called o u.state (stands-in c ts gs lists e u k.caller k.named st) call-here k.numbered refl fact kept refl refl refl;
        })

    -- WHO WAITS HERE are those who wait because of one of the tuples
    pub exactly-waits : (tuples : List Tuple) → IsExactly tuples (StandsBehind c ts gs lists e) → (list : List (Wait Context Waiter))
        → IsExactly list (SomeGives (IsWaiting c s k.called here there number next e) tuples) → IsExactly list (λ w. WaitsAt c ts gs lists e w.on w.waiter)
    exactly-waits tuples all list x = (
      λ w m. let g = x.0 w m in given g.0 w (all.0 g.0 g.1) g.2,
      λ w h. let g = taken w h.here h.waits in x.1 w (g.0, all.1 g.0 g.1, g.2),
    )
