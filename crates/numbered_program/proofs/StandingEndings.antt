-- THE ENDING OF A BLOCK STANDS for that of its graph's block.
use Rattle.std.proofs.Common.{◌≡◌, ◌∙◌, refl, sym, ap, subst, subst₂, inl, inr, ℕ, List, [], ◌∷◌, map, Contains, Option, Some, Vec, slice_get}
use Rattle.std.proofs.lemmas.Option.{none-some, same_Some}
use Rattle.std.specs.declared.alloc.Global.{Global}
use Rattle.block_flows.proofs.TupleFlows.Lists.{among-contains, contains-among}
use Rattle.block_flows.specs.Masks.{between, graphs_under, model_under, objects_under, origins_under}
use Rattle.block_flows.specs.TupleFlows.Passed.{IsSite}
use Rattle.c_objects.specs.Objects.{Object}
use Rattle.c_tree.specs.Node.{Node}
use Rattle.flow_graph.specs.CPaths.BlockGraphs.{LeadsTo}
use Rattle.flow_graph.specs.CPaths.Building.{Graph}
use Rattle.flow_graph.specs.CPaths.Events.{Event}
use Rattle.flow_graph.specs.CPaths.Fragments.{Has}
use Rattle.flow_graph.specs.CPaths.Graphs as graphs
use Rattle.flow_graph.specs.CPaths.Membership.{Among}
use Rattle.masked_paths.specs.Masked.{SiteIn}
use Rattle.numbered_program.specs.NumberedCalls.Stands.{StandsForSites}
use Rattle.numbered_engine.specs.declared.program.Call.{Call}
use Rattle.numbered_engine.specs.declared.program.Ending.{Ending}
use Rattle.numbered_engine.specs.declared.program.Ending.TheVariants as ending
use Rattle.row_flows.proofs.Lists.{of_map, to_map}
use Rattle.numbered_paths.specs.Calls.{IsCall}
use Rattle.numbered_paths.specs.Tables.{IsEnding}
use Rattle.numbered_paths.specs.Views.{AreNumbers}
use Rattle.numbered_program.proofs.GraphEndings.{Into, IsPassed, calls_so, leads_so, so_calls, so_leads, so_stops, stops_so}
use Rattle.numbered_program.proofs.SwappedBlocks.{block_swapped, swapped_block}
use Rattle.numbered_program.specs.Rows.{EndsFrame, FollowsCall, IsEndingOf, LeadsOn, PassesCall}
use Rattle.numbered_program.specs.Views.{block_at, listed_at, swapped, views}
use Rattle.path_model.specs.CheckerGraphs.Graphs.{function_at, graph_at}
use Rattle.path_model.specs.CheckerModel.Choices.{State}
use Rattle.path_model.specs.CheckerModel.Happenings.{Function, Site}
use Rattle.path_model.specs.CheckerModel.Reports.{Checker}
use Rattle.path_model.specs.CheckerPrograms.Roots.{followed_into}
use Rattle.path_model.specs.CheckerPrograms.Texts.{site}
use Rattle.path_theory.specs.Merged.{Kinds}
use Rattle.refine_restore.specs.declared.site.Site as code
use Rattle.typed_unit.specs.Texts.{Text}

abbrev followed_of : Checker → List Text → Function → Node → Option Function
followed_of c ts f call = followed_into c.machine (site c.depth ts f call)

-- ---- endings of one kind are none of another

no_call : (bs : Vec ℕ Global) (y : Call) → ending.Next bs ≡ ending.Calls y → ⊥
no_call bs y e = cc

no_exit : (bs : Vec ℕ Global) → ending.Next bs ≡ ending.Exit → ⊥
no_exit bs e = cc

call_no_exit : (y : Call) → ending.Calls y ≡ ending.Exit → ⊥
call_no_exit y e = cc

one_list : (bs ds : Vec ℕ Global) → ending.Next bs ≡ ending.Next ds → bs ≡ ds
one_list bs ds e = cc

one_call : (y z : Call) → ending.Calls y ≡ ending.Calls z → y ≡ z
one_call y z e = cc

jump_no_call : (targets : List ℕ) (call : Node) (x : ℕ) → graphs.ToAny targets ≡ graphs.Calls call x → ⊥
jump_no_call targets call x e = cc

jump_no_stop : (targets : List ℕ) → graphs.ToAny targets ≡ graphs.Stops → ⊥
jump_no_stop targets e = cc

call_no_stop : (call : Node) (x : ℕ) → graphs.Calls call x ≡ graphs.Stops → ⊥
call_no_stop call x e = cc

same_parts : (call other : Node) (x y : ℕ) → graphs.Calls call x ≡ graphs.Calls other y → (call ≡ other) × (x ≡ y)
same_parts call other x y e = (cc, cc)

module _ (c : Checker) (ts : List Text) (gs : List Graph) (lists : List (List Object)) (states : List State)
    (N : AreNumbers (model_under c ts lists) (objects_under c ts lists) (graphs_under c ts gs lists) (views c ts gs lists states))
    (C : Kinds (model_under c ts lists) (graphs_under c ts gs lists)) (n : ℕ) (f : Function) (g : Graph)
    (named : function_at ts n ≡ Some f) (here : slice_get gs n ≡ Some g) (b : ℕ) where
  abbrev pub Stands : Ending → Type 0
  Stands e = IsEnding (model_under c ts lists) (origins_under c ts lists) (objects_under c ts lists) (graphs_under c ts gs lists) C (views c ts gs lists states) n f b e

  abbrev pub Ends : List Event → graphs.Ending → Type 0
  Ends es end = Has (graph_at ts gs f).blocks (block_at gs n b) es end

  -- ---- numbers of blocks in a list, and the blocks

  target : (targets : List ℕ) (bs : Vec ℕ Global) → bs.items ≡ map (swapped g.entry) targets → (d : ℕ) → Contains bs.items d → Contains targets (block_at gs n d)
  target targets bs same d m =
      let t = of_map (swapped g.entry) targets d (subst (λ l. Contains l d) same m) in
      subst (λ z. Contains targets z) (sym (block_swapped gs n g here t.0 d (sym t.2))) t.1

  listed : (targets : List ℕ) (bs : Vec ℕ Global) → bs.items ≡ map (swapped g.entry) targets → (d : ℕ) → Contains targets (block_at gs n d) → Contains bs.items d
  listed targets bs same d m =
      subst (λ l. Contains l d) (sym same)
      (subst (λ z. Contains (map (swapped g.entry) targets) z) (swapped_block gs n g here d) (to_map (swapped g.entry) targets (block_at gs n d) m))

  -- ---- a block that leads on to these blocks, and neither calls nor ends the frame

  module _ (es : List Event) (end : graphs.Ending) (has : Ends es end) (targets : List ℕ) (bs : Vec ℕ Global) (same : bs.items ≡ map (swapped g.entry) targets)
      (to : (x : ℕ) → Contains targets x → LeadsTo (IsPassed c ts f) end x) (from : (x : ℕ) → LeadsTo (IsPassed c ts f) end x → Contains targets x)
      (unfollowed : (call : Node) (x : ℕ) (h : Function) → end ≡ graphs.Calls call x → Into c ts f call h → ⊥) (goes_on : end ≡ graphs.Stops → ⊥) where
    leads_there : (ds : Vec ℕ Global) (d : ℕ) → ending.Next bs ≡ ending.Next ds → Contains ds.items d → (graphs_under c ts gs lists).Next f (block_at gs n b) (block_at gs n d)
    leads_there ds d e m =
        so_leads c ts gs lists f (block_at gs n b) es end has (block_at gs n d)
        (to (block_at gs n d) (target targets bs same d (subst (λ (v : Vec ℕ Global). Contains v.items d) (sym (one_list bs ds e)) m)))

    makes_none : (z : SiteIn Function Site) (h : Function) (d : ℕ) → (graphs_under c ts gs lists).Call f (block_at gs n b) z h (block_at gs n d) → ⊥
    makes_none z h d w =
        let k = calls_so c ts gs lists f (block_at gs n b) es end has z h (block_at gs n d) w in
        unfollowed k.call (block_at gs n d) h k.ends k.into

    leads_on : Stands (ending.Next bs)
    leads_on = record {
      leads = leads_there;
      next = λ d w. (bs, refl, listed targets bs same d (from (block_at gs n d) (leads_so c ts gs lists f (block_at gs n b) es end has (block_at gs n d) w)));
      calls = λ y e. absurd (no_call bs y e);
      call = λ z h d w. absurd (makes_none z h d w);
      stops = λ e. absurd (no_exit bs e);
      stop = λ w. absurd (goes_on (stops_so c ts gs lists f (block_at gs n b) es end has w));
    }

  -- ---- a jump, and a call that isn't followed

  jump_stands : (es : List Event) (targets : List ℕ) (bs : Vec ℕ Global) → bs.items ≡ map (swapped g.entry) targets → Ends es (graphs.ToAny targets) → Stands (ending.Next bs)
  jump_stands es targets bs same has =
      leads_on es (graphs.ToAny targets) has targets bs same (λ x m. among-contains targets x m) (λ x l. contains-among targets x l) (λ call x h e i. jump_no_call targets call x e) (jump_no_stop targets)

  passed_stands : (es : List Event) (call : Node) (next : ℕ) (bs : Vec ℕ Global) → IsPassed c ts f call → bs.items ≡ swapped g.entry next ∷ [] → Ends es (graphs.Calls call next) → Stands (ending.Next bs)
  passed_stands es call next bs none same has =
      leads_on es (graphs.Calls call next) has (next ∷ []) bs same
      (λ x m. (none, single x (among-contains (next ∷ []) x m)))
      (λ x l. contains-among (next ∷ []) x (inl l.1))
      (λ other x h e i. none-some h (sym none ∙ ap (followed_of c ts f) (same_parts call other next x e).0 ∙ i))
      (call_no_stop call next)
    where
      single : (x : ℕ) → Among x (next ∷ []) → x ≡ next
      single x (inl e) = e
      single x (inr w) = absurd w

  -- ---- a call that is followed

  module _ (es : List Event) (call : Node) (next : ℕ) (h : Function) (by : Call) (s : code.Site) (into : Into c ts f call h) (callee : function_at ts by.callee ≡ Some h)
      (behind : by.behind ≡ swapped g.entry next) (passes : IsSite c.depth s (site c.depth ts f call)) (stands : StandsForSites c.depth s (listed_at lists n) (listed_at lists by.callee) by)
      (has : Ends es (graphs.Calls call next)) where
    abbrev IsCallAt : Function → SiteIn Function Site → Call → Type 0
    IsCallAt k z y = IsCall (model_under c ts lists) (origins_under c ts lists) (objects_under c ts lists) (graphs_under c ts gs lists) (views c ts gs lists states) n y.callee f k z y

    abbrev MakesAt : Call → Type 0
    MakesAt y = (k : Function) × (z : SiteIn Function Site) × (function_at ts y.callee ≡ Some k) × (graphs_under c ts gs lists).Call f (block_at gs n b) z k (block_at gs n y.behind) × IsCallAt k z y

    stands_here : IsCallAt h (between f (site c.depth ts f call) h) by
    stands_here =
        stands c ts gs lists (views c ts gs lists states) N n f (site c.depth ts f call) h refl passes (record { function = named; object = λ i. refl }) (record { function = callee; object = λ i. refl })

    makes_here : MakesAt by
    makes_here = (
      h,
      between f (site c.depth ts f call) h,
      callee,
      subst (λ x. (graphs_under c ts gs lists).Call f (block_at gs n b) (between f (site c.depth ts f call) h) h x) (sym (block_swapped gs n g here next by.behind behind))
          (so_calls c ts gs lists f (block_at gs n b) es (graphs.Calls call next) has call next h refl into),
      stands_here,
    )

    abbrev IsMade : SiteIn Function Site → Function → ℕ → Type 0
    IsMade z k d = (y : Call) × (ending.Calls by ≡ ending.Calls y) × (y.behind ≡ d) × (function_at ts y.callee ≡ Some k) × IsCallAt k z y

    is_made : (z : SiteIn Function Site) (k : Function) (d : ℕ) → (graphs_under c ts gs lists).Call f (block_at gs n b) z k (block_at gs n d) → IsMade z k d
    is_made z k d w =
        let m = calls_so c ts gs lists f (block_at gs n b) es (graphs.Calls call next) has z k (block_at gs n d) w in
        let parts = same_parts call m.call next (block_at gs n d) m.ends in
        let one : h ≡ k = same_Some h k (sym into ∙ ap (followed_of c ts f) parts.0 ∙ m.into) in
        let whole : between f (site c.depth ts f call) h ≡ z = (λ i. between f (site c.depth ts f (parts.0 i)) (one i)) ∙ sym m.is in (
          by,
          refl,
          behind ∙ ap (swapped g.entry) parts.1 ∙ swapped_block gs n g here d,
          callee ∙ ap (λ (x : Function). Some x) one,
          subst₂ (λ (x : Function) (y : SiteIn Function Site). IsCallAt x y by) one whole stands_here,
        )

    leads_nowhere : (x : ℕ) → LeadsTo (IsPassed c ts f) (graphs.Calls call next) x → ⊥
    leads_nowhere x l = none-some h (sym l.0 ∙ into)

    call_stands : Stands (ending.Calls by)
    call_stands = record {
      leads = λ ds d e m. absurd (no_call ds by (sym e));
      next = λ d w. absurd (leads_nowhere (block_at gs n d) (leads_so c ts gs lists f (block_at gs n b) es (graphs.Calls call next) has (block_at gs n d) w));
      calls = λ y e. subst MakesAt (one_call by y e) makes_here;
      call = is_made;
      stops = λ e. absurd (call_no_exit by e);
      stop = λ w. absurd (call_no_stop call next (stops_so c ts gs lists f (block_at gs n b) es (graphs.Calls call next) has w));
    }

  -- ---- the end of the frame

  exit_stands : (es : List Event) → Ends es graphs.Stops → Stands ending.Exit
  exit_stands es has = record {
    leads = λ ds d e m. absurd (no_exit ds (sym e));
    next = λ d w. absurd (leads_so c ts gs lists f (block_at gs n b) es graphs.Stops has (block_at gs n d) w);
    calls = λ y e. absurd (call_no_exit y (sym e));
    call = λ z h d w. let k = calls_so c ts gs lists f (block_at gs n b) es graphs.Stops has z h (block_at gs n d) w in absurd (call_no_stop k.call (block_at gs n d) (sym k.ends));
    stops = λ e. so_stops c ts gs lists f (block_at gs n b) es graphs.Stops has refl;
    stop = λ w. refl;
  }

  -- THE ENDING STANDS for that of the block
  pub ending_stands : (es : List Event) (end : graphs.Ending) (e : Ending) → IsEndingOf c ts gs lists states n g.entry f end e → Ends es end → Stands e
  ending_stands es _ _ (LeadsOn targets bs same) has = jump_stands es targets bs same has
  ending_stands es _ _ (PassesCall call next bs none same) has = passed_stands es call next bs none same has
  ending_stands es _ _ (FollowsCall call next h by s into callee behind passes stands) has = call_stands es call next h by s into callee behind passes stands has
  ending_stands es _ _ EndsFrame has = exit_stands es has
