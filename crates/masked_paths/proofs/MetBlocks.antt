-- What is met at the first places of blocks covers, carried over the events of each block, what is met at every event.
-- A path is at a first place of a block, or within one behind some of its events.
use Rattle.std.proofs.Common.{◌≡◌, Bool, List, [], ◌∷◌, ◌++◌, refl, sym, ◌∙◌, ap, subst}
use Rattle.std.proofs.Math.Seq.{append_snoc}
use Rattle.path_theory.specs.Model.{Model}
use Rattle.path_theory.specs.Supergraph.{Supergraph}
use Rattle.path_theory.specs.Callers.{Callers}
use Rattle.path_theory.specs.Runs.{Run, Here, Skipped, Gone, Closed, run_global}
use Rattle.path_theory.specs.OpenFrames.{OpenFrames, at_entry}
use Rattle.path_theory.specs.FlowGraphs.{FlowGraphs, Point, Head, Before, PointSkips, EntersBlock, LeavesBlock, PointGoes, PassesEvent, PointCalls, MakesCall, supergraph}
use Rattle.path_theory.proofs.Splitting.{split, flat}
use Rattle.masked_paths.specs.Met.{CoversMet, BlockStates, CoversBlocks, global_behind, MetInBlocks}

module _ (M : Model) where
  -- one event more
  pub behind_one : (f : M.Fn) (k : Bool) (es : List M.Event) (e : M.Event) (g : M.Global)
      → M.next_global e f k (global_behind M f k es g) ≡ global_behind M f k (es ++ e ∷ []) g
  behind_one f k [] e g = refl
  behind_one f k (d ∷ es) e g = behind_one f k es e (M.next_global d f k g)

module _ (M : Model) (G : FlowGraphs M) (S : BlockStates M G) (C : CoversBlocks M G S) where
  abbrev K : Supergraph M
  K = supergraph M G

  -- the events of the block that are still to come, and what it was met with before those that have been
  record Within (f : M.Fn) (k : Bool) (b : G.Block) (es : List M.Event) (g : M.Global) : Type 0 where
    first : M.Global
    stands : S f k b first
    before : List M.Event
    events : G.events f b ≡ before ++ es
    global : g ≡ global_behind M f k before first

  abbrev IsAt : M.Fn → Bool → Point G.Block M.Event → M.Global → Type 0
  IsAt f k (Head b) g = Unit {0}
  IsAt f k (Before b es) g = Within f k b es g

  -- into a block, and on to the next
  skipped : {f : M.Fn} {k : Bool} {c : Callers M K} (O : OpenFrames M K f k c) (p q : Point G.Block M.Event) (R : Run M K f p)
      → PointSkips M G f p q → IsAt f k q (run_global M K R k (at_entry M K O).global)
  skipped {f = f} {k = k} O _ _ R (EntersBlock b) =
      let w = flat M K O R in
      record { first = _; stands = subst (S f k b) (ap (λ n. n.global) w.state) (C.stands w.path); before = []; events = refl; global = refl }
  skipped O _ _ R (LeavesBlock n) = tt

  -- over an event of it
  gone : {f : M.Fn} (k : Bool) (g : M.Global) (p : Point G.Block M.Event) (e : M.Event) (q : Point G.Block M.Event)
      → PointGoes M G f p e q → IsAt f k p g → IsAt f k q (M.next_global e f k g)
  gone {f = f} k g _ _ _ (PassesEvent b e es) w = record {
    first = w.first;
    stands = w.stands;
    before = w.before ++ e ∷ [];
    events = w.events ∙ sym (append_snoc w.before e es);
    global = ap (M.next_global e f k) w.global ∙ behind_one M f k w.before e w.first;
  }

  called : {f h : M.Fn} (k : Bool) (g : M.Global) (p : Point G.Block M.Event) (s : M.Site) (q : Point G.Block M.Event)
      → PointCalls M G f p s h q → IsAt f k q g
  called k g _ _ _ (MakesCall j) = tt

  -- each run stands so
  is_at : {f : M.Fn} {k : Bool} {p : Point G.Block M.Event} {c : Callers M K} (O : OpenFrames M K f k c) (R : Run M K f p)
      → IsAt f k p (run_global M K R k (at_entry M K O).global)
  is_at O Here = tt
  is_at O (Skipped R t) = skipped O _ _ R t
  is_at {k = k} O (Gone R e t) = gone k (run_global M K R k (at_entry M K O).global) _ _ _ t (is_at O R)
  is_at {k = k} O (Closed R s t D e) = called k (run_global M K (Closed R s t D e) k (at_entry M K O).global) _ _ _ t

  met_here : {f : M.Fn} {k : Bool} {g : M.Global} (p : Point G.Block M.Event) (e : M.Event) (q : Point G.Block M.Event)
      → PointGoes M G f p e q → IsAt f k p g → MetInBlocks M G S f e k g
  met_here _ _ _ (PassesEvent b e es) w = record { block = b; first = w.first; stands = w.stands; before = w.before; later = es; events = w.events; global = w.global }

  -- each event of a path is met in its block
  pub blocks_cover_met : CoversMet M K (MetInBlocks M G S)
  blocks_cover_met = record {
    met = λ {f = f} {k = k} P e t.
        let s = split M K P in
        subst (MetInBlocks M G S f e k) (ap (λ n. n.global) (sym s.state)) (met_here _ _ _ t (is_at s.opened s.run));
  }
