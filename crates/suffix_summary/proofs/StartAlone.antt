-- Under a checker that never leaves `start` each path stays in it, and in functions of the program.
use Rattle.std.proofs.Common.{◌≡◌, ◌∙◌, ◌≤◌, ℕ, Bool, true, false, not, ◌&&◌, ◌||◌, cond, List, [], ◌∷◌, map, length, slice_get, nat_eq, Contains, Option, None, Some, inl, inr, refl, sym, ap, subst, true≢false, arith}
use Rattle.std.proofs.lemmas.Option.{slice_get_within}
use Rattle.std.specs.List.{list_all}
use Rattle.std.specs.Option.{option_map}
use Rattle.c_objects.specs.Objects.{Object, IsObject}
use Rattle.flow_graph.specs.CPaths.BlockGraphs.{events_at}
use Rattle.flow_graph.specs.CPaths.Building.{Graph}
use Rattle.flow_graph.specs.CPaths.Events.{Event, Evaluated, Declared, Branched, Exited}
use Rattle.flow_graph.specs.CPaths.Graphs.{Block}
use Rattle.function_tables.proofs.EngineTables.Places.{there-too}
use Rattle.hole_matching.specs.Holes.{Setting}
use Rattle.call_graph.specs.Followed.{followed}
use Rattle.known_objects.specs.Theorems.{KnownListsAreEnough}
use Rattle.least_set.proofs.Growing.{at_place}
use Rattle.least_set.specs.Logs.{IsExactly, SomeGives}
use Rattle.masked_paths.proofs.MetBlocks.{blocks_cover_met}
use Rattle.masked_paths.specs.Met.{BlockStates, CoversBlocks, MetInBlocks, global_behind as behind}
use Rattle.metal_tree.specs.MetalMachines.Machine.{Always, ByTruth, Dest, Machine, Rule, start, stop}
use Rattle.path_model.proofs.CheckerGraphs.Calls.{followed-number}
use Rattle.path_model.proofs.CheckerGraphs.Numbers.{defined-at, graph-at}
use Rattle.path_model.proofs.CheckerPrograms.Closed.{binds-object}
use Rattle.path_model.specs.CheckerGraphs.Graphs.{AreApartPlaces, AreGraphs, flow_graphs, function_at}
use Rattle.path_model.specs.CheckerGraphs.Members.{Member}
use Rattle.path_model.specs.CheckerModel.Checkers.{model}
use Rattle.path_model.specs.CheckerModel.Choices.{Taken, always, by_alternative, first_some, from_global, global_behind, global_rule, is_global_asked, leads_to_global, next_global, scene, taken_global, target_at}
use Rattle.path_model.specs.CheckerModel.Happenings.{Function, Happening, Site}
use Rattle.path_model.specs.CheckerModel.Reports.{Checker}
use Rattle.path_model.specs.CheckerPrograms.Roots.{followed_into}
use Rattle.path_model.specs.CheckerPrograms.Texts.{functions_in, function_of, happening, type_table}
use Rattle.path_theory.specs.Callers.{Callers, NoCaller, Waiting}
use Rattle.path_theory.specs.FlowGraphs.{FlowGraphs, MakesCall, PointCalls, supergraph}
use Rattle.path_theory.specs.Model.{Model}
use Rattle.path_theory.specs.Paths.{Path, Begin, Skip, Go, Call, Return, after}
use Rattle.path_theory.specs.Supergraph.{Supergraph}
use Rattle.suffix_summary.proofs.KnownSets.{followable-met}
use Rattle.suffix_summary.proofs.MetStates.AmongEvents.{among-at, split-at}
use Rattle.suffix_summary.proofs.MetStates.Gifts.{takes-gives}
use Rattle.suffix_summary.specs.InStart.{AreEnoughBound, GivesBelow, GivesInBlock, GivesInFunction, TakesInStart, leads_globally, stays, stays_in_start}
use Rattle.suffix_summary.specs.MetStates.{TakesAmong, TakesUnknown}
use Rattle.type_rules.specs.Functions.{Defined}
use Rattle.type_rules.specs.Options.{if_there, or_else, ◌>?◌}
use Rattle.typed_unit.specs.Texts.{Text}

-- ---- paths that stay

module _ (M : Model) (G : FlowGraphs M) (still : (e : M.Event) (f : M.Fn) (k : Bool) → M.next_global e f k M.start ≡ M.start) where
  abbrev K : Supergraph M
  K = supergraph M G

  pub in_start : {f : M.Fn} {k : Bool} {p : K.Place} {b : Callers M K} (P : Path M K f k p b) → (after M K P).global ≡ M.start
  in_start (Begin r) = refl
  in_start (Skip P t) = in_start P
  in_start (Go {f = f} {k = k} P e t) = ap (M.next_global e f k) (in_start P) ∙ still e f k
  in_start (Call P s h t) = in_start P
  in_start (Return s P t) = in_start P

  -- in functions of which something is known, as of roots and of callees
  module _ (Named : M.Fn → Type 0) (roots : (f : M.Fn) → G.IsRoot f → Named f) (callees : (f h : M.Fn) (s : M.Site) (b c : G.Block) → G.Call f b s h c → Named h) where
    abbrev AreNamed : Callers M K → Type 0
    AreNamed NoCaller = Unit {0}
    AreNamed (Waiting f k s q b) = Named f × AreNamed b

    callee : {f h : M.Fn} {s : M.Site} (p q : K.Place) → PointCalls M G f p s h q → Named h
    callee {f = f} {h = h} {s = s} _ _ (MakesCall {b = b} {c = c} j) = callees f h s b c j

    in_named : {f : M.Fn} {k : Bool} {p : K.Place} {b : Callers M K} → Path M K f k p b → Named f × AreNamed b
    in_named (Begin {f = f} r) = (roots f r, tt)
    in_named (Skip P t) = in_named P
    in_named (Go P e t) = in_named P
    in_named (Call {p = p} {q = q} P s h t) = (callee p q t, in_named P)
    in_named (Return s P t) = (in_named P).1

    abbrev pub StandsInStart : BlockStates M G
    StandsInStart f k b g = Named f × (g ≡ M.start)

    pub covers_start : CoversBlocks M G StandsInStart
    covers_start = record { stands = λ P. ((in_named P).0, in_start P) }

-- ---- a checker without rules that lead to a global state

both_true : (a b : Bool) → a && b ≡ true → (a ≡ true) × (b ≡ true)
both_true true b e = (refl, e)
both_true false b e = absurd (true≢false (sym e))

neither : (a b : Bool) → not (a || b) ≡ true → (a ≡ false) × (b ≡ false)
neither true b e = absurd (true≢false (sym e))
neither false true e = absurd (true≢false (sym e))
neither false false e = (refl, refl)

not_so : (b : Bool) → not b ≡ true → b ≡ false
not_so true e = absurd (true≢false (sym e))
not_so false e = refl

nowhere : (e : Event) (d : Dest) → not (leads_globally d) ≡ true → leads_to_global (target_at e d) ≡ false
nowhere e (Always t) h = not_so (leads_to_global t) h
nowhere (Branched n true) (ByTruth on_true on_false) h = (neither (leads_to_global on_true) (leads_to_global on_false) h).0
nowhere (Branched n false) (ByTruth on_true on_false) h = (neither (leads_to_global on_true) (leads_to_global on_false) h).1
nowhere (Evaluated s) (ByTruth on_true on_false) h = (neither (leads_to_global on_true) (leads_to_global on_false) h).0
nowhere (Declared v) (ByTruth on_true on_false) h = (neither (leads_to_global on_true) (leads_to_global on_false) h).0
nowhere (Exited p q) (ByTruth on_true on_false) h = (neither (leads_to_global on_true) (leads_to_global on_false) h).0

module _ (g : Setting) (e : Event) (state : ℕ) where
  untaken : (r : Rule) → stays r ≡ true → global_rule g e state r ≡ None
  untaken r h = ap (λ b. cond (from_global state r.source && b) (by_alternative g e r always) None) (nowhere e r.dest h) ∙ by (from_global state r.source)
    where
      by : (b : Bool) → cond (b && false) (by_alternative g e r always) None ≡ None
      by true = refl
      by false = refl

  none_taken : (rs : List Rule) → list_all stays rs ≡ true → first_some (global_rule g e state) rs ≡ None
  none_taken [] h = refl
  none_taken (r ∷ rs) h =
      let k = both_true (stays r) (list_all stays rs) h in
      ap (λ o. or_else o (first_some (global_rule g e state) rs)) (untaken r k.0) ∙ none_taken rs k.1

-- its global state stays what it is
same_global : (m : Machine) → stays_in_start m ≡ true → (depth : ℕ) (h : Happening) (f : Function) (k : Bool) (state : ℕ) → next_global m depth h f k state ≡ state
same_global m s depth h f k state = ap (λ (o : Option Taken). if_there o state (λ t. global_behind (target_at h.event t.rule.dest) state)) none
  where
    by : (b : Bool) → cond b None (first_some (global_rule (scene m depth h f) h.event state) m.rules) ≡ None
    by true = refl
    by false = none_taken (scene m depth h f) h.event state m.rules s

    none : taken_global m depth h f k state ≡ None
    none = by (nat_eq state stop || not (is_global_asked h.event k))

-- ---- the functions of a program

module _ (c : Checker) (ts : List Text) (gs : List Graph) where
  abbrev M : Model
  M = model c

  abbrev G : FlowGraphs M
  G = flow_graphs c ts gs

  abbrev pub IsNamed : Function → Type 0
  IsNamed f = (n : ℕ) × (function_at ts n ≡ Some f)

  pub root_named : (f : Function) → G.IsRoot f → IsNamed f
  root_named f r = (r.number, ap (option_map function_of) r.is ∙ ap Some (sym r.named))

  of_followed : (o : Option ℕ) (h : Function) → option_map function_of (o >? slice_get (functions_in ts)) ≡ Some h → IsNamed h
  of_followed None h e = cc
  of_followed (Some n) h e = (n, e)

  pub callee_named : (f h : Function) (s : Site) (b d : ℕ) → G.Call f b s h d → IsNamed h
  callee_named f h s b d j =
      let call = j.1 in
      of_followed (followed c.machine (type_table ts f.place.file) f.place.file (functions_in ts) call) h
      (sym (followed-number c.machine c.depth ts f call) ∙ ap (followed_into c.machine) (sym j.3) ∙ j.4)

  module _ (still : stays_in_start c.machine ≡ true) where
    pub still_start : (e : Happening) (f : Function) (k : Bool) → M.next_global e f k M.start ≡ M.start
    still_start e f k = same_global c.machine still c.depth e f k start

    abbrev pub Stands : BlockStates M G
    Stands = StandsInStart M G still_start IsNamed root_named callee_named

    pub stands : CoversBlocks M G Stands
    stands = covers_start M G still_start IsNamed root_named callee_named

  -- ---- WHAT RULES BIND IN `start` IS ENOUGH

  module _ (still : stays_in_start c.machine ≡ true) (are : AreGraphs ts gs) (apart : AreApartPlaces (functions_in ts)) (bound : List Member) (count : ℕ) (all : length (functions_in ts) ≤ count)
      (exact : IsExactly bound (GivesBelow c ts gs count)) where
    -- at one of the events of a block, if there is such a block
    in_block : (d : Defined) (k : Bool) (bs : List Block) (b n : ℕ) (o : Object) → TakesAmong c (function_of d) k (map (happening ts (function_of d)) (events_at (slice_get bs b))) 0 o
        → SomeGives (GivesInBlock c ts d n) bs (n, o)
    in_block d k bs b n o = by (slice_get bs b) refl k
      where
        by : (q : Option Block) → slice_get bs b ≡ q → (j : Bool) → TakesAmong c (function_of d) j (map (happening ts (function_of d)) (events_at q)) 0 o → SomeGives (GivesInBlock c ts d n) bs (n, o)
        by None e j w = absurd w
        by (Some x) e false w = (x, at_place bs b x e, (refl, inl w))
        by (Some x) e true w = (x, at_place bs b x e, (refl, inr w))

    listed : (f : Function) (h : Happening) (k : Bool) (g : ℕ) (o : Object) → MetInBlocks M G (Stands still) f h k g → TakesUnknown c f k h g o
        → (n : ℕ) × (function_at ts n ≡ Some f) × Contains bound (n, o)
    listed f h k g o m t =
        let n = m.stands.0.0 in
        let named = m.stands.0.1 in
        let d = defined-at ts n f named in
        let x = there-too (functions_in ts) gs n d.0 (sym are.count) d.1 in
        let here : TakesUnknown c f k h (behind M f k m.before 0) o = subst (λ z. TakesUnknown c f k h z o) (m.global ∙ ap (behind M f k m.before) m.stands.1) t in
        let among : TakesAmong c f k (G.events f m.block) 0 o = subst (λ l. TakesAmong c f k l 0 o) (sym m.events) (among-at c f k m.before h m.later 0 o here) in
        let there : TakesAmong c (function_of d.0) k (G.events (function_of d.0) m.block) 0 o = subst (λ z. TakesAmong c z k (G.events z m.block) 0 o) (sym d.2) among in
        let same = graph-at ts apart gs n d.0 x.0 d.1 x.1 in
        let placed = subst (λ (z : Graph). TakesAmong c (function_of d.0) k (map (happening ts (function_of d.0)) (events_at (slice_get z.blocks m.block))) 0 o) same there in
        let gives : GivesInFunction c ts gs n (n, o) = record { defined = d.0; is = d.1; graph = x.0; has = x.1; gives = in_block d.0 k x.0.blocks m.block n o placed } in
        let inside = slice_get_within (functions_in ts) n d.0 d.1 in
        (n, named, exact.1 (n, o) (n, omega (arith, inside, all), gives))

    objects_are : (n : ℕ) (o : Object) → Contains bound (n, o) → IsObject c.depth o
    objects_are n o m =
        let w = (exact.0 (n, o) m).2.gives in
        by (function_of (exact.0 (n, o) m).2.defined) (map (happening ts (function_of (exact.0 (n, o) m).2.defined)) w.0.events) w.2.1
      where
        of_kind : (f : Function) (k : Bool) (hs : List Happening) → TakesAmong c f k hs 0 o → IsObject c.depth o
        of_kind f k hs t = let s = split-at c f k hs 0 o t in binds-object c f s.event o (takes-gives c f k s.event _ o s.takes).binds

        by : (f : Function) (hs : List Happening) → TakesInStart c f hs o → IsObject c.depth o
        by f hs (inl t) = of_kind f false hs t
        by f hs (inr t) = of_kind f true hs t

    pub enough_in_start : KnownListsAreEnough → AreEnoughBound c ts gs bound
    enough_in_start lists = record {
      objects = objects_are;
      enough = followable-met c ts gs bound (MetInBlocks M G (Stands still)) listed are (blocks_cover_met M G (Stands still) (stands still)) lists;
    }
