-- Where a waiter goes on at the end of its callee, by the tuples that stand there.
use Rattle.std.proofs.Common.{◌≡◌, ◌↔◌, ℕ, List, [], Option, None, Some, false, slice_get, refl, sym, ap, subst, ◌∙◌}
use Rattle.c_objects.specs.Objects.{Object}
use Rattle.flow_graph.specs.CPaths.Building.{Graph}
use Rattle.path_model.specs.CheckerGraphs.Graphs.{function_at, number_of}
use Rattle.path_model.specs.CheckerModel.Calls.{out}
use Rattle.path_model.specs.CheckerModel.Checkers.{model, origins}
use Rattle.path_model.specs.CheckerModel.Choices.{State}
use Rattle.path_model.specs.CheckerModel.Happenings.{Function, Site}
use Rattle.path_model.specs.CheckerModel.Reports.{Checker}
use Rattle.path_model.specs.CheckerPrograms.Texts.{functions_in}
use Rattle.type_rules.specs.Options.{if_there, ◌>?◌}
use Rattle.typed_unit.specs.Texts.{Text}
use Rattle.path_edges.specs.EdgeSteps.Steps.{StandsBehind, put_back, woken_edge}
use Rattle.block_flows.specs.FollowedLists.{is_followed, mask_in}
use Rattle.masked_paths.specs.Masked.{SiteIn}
use Rattle.masked_paths.specs.StrictFlows.Among.{if_followed, of_followed}
use Rattle.masked_paths.proofs.StrictFlows.Among.{return_among}
use Rattle.block_flows.specs.Masks.{between, graphs_under, model_under, objects_under, origins_under}
use Rattle.path_edges.proofs.MaskedCalls.{caller-is}
use Rattle.path_edges.proofs.EdgeSteps.Lists.{exactly-none}
use Rattle.path_edges.proofs.EdgeSteps.Views.{edge-seen, tuple_with, tuple-there}
use Rattle.least_set.specs.Logs.{IsExactly, SomeGives}
use Rattle.path_edges.specs.declared.edges.Edge.{Edge}
use Rattle.path_edges.specs.declared.edges.Waiter.{Waiter}
use Rattle.path_edges.specs.Edges.{tuple_in, waiter_in, site_at, callee_at, call_site_at}
use Rattle.path_edges.specs.Relations.{IsWoken}
use Rattle.path_theory.specs.Facts.{FactOf, NoObject}
use Rattle.path_theory.specs.Flows.{ReturnFlow, ReturnNone, ReturnObject}
use Rattle.state_tuples.specs.declared.tuple.Tuple.{Tuple}
use Rattle.path_theory.specs.TabulationRules.Rules as rules
use Rattle.block_flows.specs.TupleFlows.Facts.{fact_in, fact_of, is_in, listed, origins_in}
use Rattle.edge_rules.specs.WaitRules.Waiters.{GoesOn, WithHanded, WithPutBack}
use Rattle.edge_rules.proofs.WaitRules.Callers.{nowhere, one-function, stands}

-- a return hands back by which object of the callee each of the caller has its state from
returned-by : (c : Checker) (here there : List Object) (s r : Site) (f : Function) (x y : FactOf Object State) → ((o : Object) → out c.depth s o ≡ out c.depth r o)
    → ReturnFlow (model c) (origins_in c here there) (listed c here) s f x y → ReturnFlow (model c) (origins_in c here there) (listed c here) r f x y
returned-by c here there s r f x y same ReturnNone = ReturnNone
returned-by c here there s r f x y same (ReturnObject o p z a is) =
    ReturnObject o p z a (ap (λ w. of_followed (is_in here o) (if_followed (is_in there) w)) (sym (same o)) ∙ is)

no-object : (o : Option Object) (x : Option State) → fact_of o x ≡ NoObject → o ≡ None
no-object None x e = refl
no-object (Some o) x e = cc

-- the list of what is followed in a function, one of the program or not
abbrev pub list_in : List Text → List (List Object) → Function → List Object
list_in ts lists f = if_there (number_of (functions_in ts) f >? slice_get lists) [] (λ os. os)

pub list-is : (ts : List Text) (lists : List (List Object)) (f : Function) (o : Object) → is_followed ts lists f o ≡ is_in (list_in ts lists f) o
list-is ts lists f o = by (number_of (functions_in ts) f >? slice_get lists)
  where
    by : (q : Option (List Object)) → if_there q false (λ objects. is_in objects o) ≡ is_in (if_there q [] (λ os. os)) o
    by None = refl
    by (Some os) = refl

module _ (c : Checker) (ts : List Text) (gs : List Graph) (lists : List (List Object)) where
  -- nobody goes on in a function that isn't there
  pub nobody-goes-on : (w : Waiter) (e : Edge) → function_at ts w.context.function ≡ None → IsExactly [] (IsWoken c ts gs lists w e)
  nobody-goes-on w e none = exactly-none (IsWoken c ts gs lists w e) (λ d h. nowhere h.caller (sym none ∙ h.named))

  -- the site of the call hands back as the waiter's does
  module _ (w : Waiter) (e : Edge) (caller : Function) (named : function_at ts w.context.function ≡ Some caller) (here there : List Object)
      (follows : (o : Object) → is_followed ts lists caller o ≡ is_in here o)
      (follows-there : (o : Object) → is_followed ts lists (callee_at c ts gs w.context.function w.block) o ≡ is_in there o)
      (s : Site) (hands : (o : Object) → out c.depth s o ≡ out c.depth (site_at c.depth ts gs w.context.function w.block) o) where
    abbrev r : Site
    r = site_at c.depth ts gs w.context.function w.block

    abbrev callee : Function
    callee = callee_at c ts gs w.context.function w.block

    abbrev Of : Tuple → Edge → Type 0
    Of u d = GoesOn c s caller here there w u d

    abbrev Handed : Function → rules.Tuple ℕ Object State → Edge → Type 0
    Handed f t d = rules.Hands (model_under c ts lists) (origins_under c ts lists) (objects_under c ts lists) (graphs_under c ts gs lists) (function_at ts) (waiter_in c ts gs w) f t (tuple_in d.tuple)

    -- what comes back where these objects alone are followed is what does among those of both functions
    abbrev Returns : SiteIn Function Site → FactOf Object State → FactOf Object State → Type 0
    Returns z x y = ReturnFlow (model_under c ts lists) (origins_under c ts lists) (objects_under c ts lists) z caller x y

    place : call_site_at c ts gs w.context.function w.block ≡ between caller r callee
    place = λ i. between (caller-is c ts gs w.context.function w.block caller named i) r callee

    returning-is : (x y : FactOf Object State) → Returns (between caller r callee) x y ↔ ReturnFlow (model c) (origins_in c here there) (listed c here) r caller x y
    returning-is x y = return_among (model c) (origins c) (mask_in c ts lists) refl caller callee (is_in here) (is_in there) follows follows-there r x y

    -- behind the call, with this tuple
    goes-on : (u : Tuple) (d : Edge) → IsWoken c ts gs lists w e d → tuple_in u ≡ tuple_in d.tuple → woken_edge w u ≡ d
    goes-on u d h is = edge-seen (woken_edge w u) d (λ i. record { context = sym h.context i; is_root = sym h.kind i; block = sym h.block i; tuple = is i })

    taken : (d : Edge) → IsWoken c ts gs lists w e d → (u : Tuple) × StandsBehind c ts gs lists e u × Of u d
    taken d h = by (subst (λ (f : Function). Handed f h.end d) (one-function h.caller caller (sym h.named ∙ named)) h.hands)
      where
        by : Handed caller h.end d → (u : Tuple) × StandsBehind c ts gs lists e u × Of u d
        by (rules.HandsBack saved global flow) =
            let u = tuple_with h.end.global h.end.fact in
            let fact = sym (tuple-there h.end) in
            let one = subst (λ (z : SiteIn Function Site). Returns z h.end.fact (fact_in d.tuple)) place flow in
            let two = subst (λ x. Returns (between caller r callee) x (fact_in d.tuple)) (ap (λ x. x.fact) fact) one in
            let back = returned-by c here there r s caller (fact_in u) (fact_in d.tuple) (λ o. sym (hands o)) ((returning-is (fact_in u) (fact_in d.tuple)).0 two) in (
              u,
              stands c ts gs lists e h.end h.fn h.behind,
              WithHanded d.tuple saved (record { global = global ∙ ap (λ x. x.global) fact; fact = back }) (goes-on d.tuple d h refl),
            )
        by (rules.HandsSaved o x saved ended global fact) =
            let u = tuple_with h.end.global h.end.fact in (
              u,
              stands c ts gs lists e h.end h.fn h.behind,
              WithPutBack o x saved (no-object u.object u.state (ap (λ z. z.fact) (tuple-there h.end) ∙ ended))
                  (goes-on (put_back u o x) d h (λ i. record { global = (ap (λ z. z.global) (tuple-there h.end) ∙ sym global) i; fact = sym fact i })),
            )

    given : (u : Tuple) (d : Edge) → StandsBehind c ts gs lists e u → Of u d → IsWoken c ts gs lists w e d
    given u d st (WithHanded v saved back is) =
        let over = returned-by c here there s r caller (fact_in u) (fact_in v) hands back.fact in
        let flow = subst (λ (z : SiteIn Function Site). Returns z (fact_in u) (fact_in v)) (sym place) ((returning-is (fact_in u) (fact_in v)).1 over) in
        subst (IsWoken c ts gs lists w e) is
        (record { caller = caller; named = named; fn = st.fn; end = tuple_in u; behind = st.behind; hands = rules.HandsBack saved back.global flow; context = refl; kind = refl; block = refl })
    given u d st (WithPutBack o x saved none is) =
        subst (IsWoken c ts gs lists w e) is
        (record {
          caller = caller;
          named = named;
          fn = st.fn;
          end = tuple_in u;
          behind = st.behind;
          hands = rules.HandsSaved o x saved (ap (λ z. fact_of z u.state) none) refl refl;
          context = refl;
          kind = refl;
          block = refl;
        })

    -- WHERE THE WAITER GOES ON is where it does because of one of the tuples
    pub exactly-woken : (tuples : List Tuple) → IsExactly tuples (StandsBehind c ts gs lists e) → (list : List Edge) → IsExactly list (SomeGives (GoesOn c s caller here there w) tuples)
        → IsExactly list (IsWoken c ts gs lists w e)
    exactly-woken tuples all list x = (
      λ d m. let g = x.0 d m in given g.0 d (all.0 g.0 g.1) g.2,
      λ d h. let g = taken d h in x.1 d (g.0, all.1 g.0 g.1, g.2),
    )
