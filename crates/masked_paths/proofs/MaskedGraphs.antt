-- The supergraph of masked graphs has the traces of the masked supergraph: only the events that a point has before it differ,
-- by their functions.
use Rattle.std.proofs.Common.{◌≡◌, ◌↔◌, Bool, List, [], ◌∷◌, refl, sym, ap, ap₂, subst}
use Rattle.path_theory.specs.Model.{Model}
use Rattle.path_theory.specs.Supergraph.{Supergraph}
use Rattle.path_theory.specs.Walks.{Labels, Walk, WalkStart, WalkSkip, WalkGo, WalkCall, HasTraces}
use Rattle.path_theory.specs.Paths.{Reported}
use Rattle.path_theory.specs.Origins.{Origins}
use Rattle.path_theory.specs.FlowGraphs.{FlowGraphs, Point, Head, Before, PointSkips, EntersBlock, LeavesBlock, PointGoes, PassesEvent, PointCalls, MakesCall, PointEnds, EndsFrame, supergraph}
use Rattle.path_theory.specs.Runs.{labels_of}
use Rattle.path_theory.specs.Facts.{Fact}
use Rattle.path_theory.specs.Realised.{Realised}
use Rattle.path_theory.proofs.Known.{walk_of}
use Rattle.path_theory.proofs.Traces.{reported_on, realised_on}
use Rattle.masked_paths.specs.Masked.{EventIn, SiteIn, Mask, masked, masked_origins, GoesIn, GoesAt, CallsIn, CallsAt, masked_supergraph, CallIn, CallAt, masked_events, masked_graphs}

block_at : {B E : Type 0} → Point B E → B
block_at (Head b) = b
block_at (Before b es) = b

head_before : {B E X : Type 0} {b c : B} {es : List E} → Head b ≡ Before c es → X
head_before d = cc

before_block : {B E : Type 0} {b c : B} {es ds : List E} → Before b es ≡ Before c ds → b ≡ c
before_block d = cc

before_events : {B E : Type 0} {b c : B} {es ds : List E} → Before b es ≡ Before c ds → es ≡ ds
before_events d = cc

nil_cons : {E X : Type 0} {e : E} {es : List E} → [] ≡ e ∷ es → X
nil_cons d = cc

cons_head : {E : Type 0} {d e : E} {ds es : List E} → d ∷ ds ≡ e ∷ es → d ≡ e
cons_head d = cc

cons_tail : {E : Type 0} {d e : E} {ds es : List E} → d ∷ ds ≡ e ∷ es → ds ≡ es
cons_tail d = cc

module _ (M : Model) (L : Origins M) (a : Mask M) (G : FlowGraphs M) where
  abbrev N : Model
  N = masked M L a

  -- the program under the mask, and its masked graphs
  abbrev J : Supergraph N
  J = masked_supergraph M L a (supergraph M G)

  abbrev H : FlowGraphs N
  H = masked_graphs M L a G

  abbrev pub point_in : M.Fn → Point G.Block M.Event → Point G.Block (EventIn M.Fn M.Event)
  point_in f (Head b) = Head b
  point_in f (Before b es) = Before b (masked_events M f es)

  pub skip_in : {f : M.Fn} (p q : Point G.Block M.Event) → PointSkips M G f p q → PointSkips N H f (point_in f p) (point_in f q)
  skip_in _ _ (EntersBlock b) = EntersBlock b
  skip_in _ _ (LeavesBlock n) = LeavesBlock n

  pub go_in : {f : M.Fn} (p q : Point G.Block M.Event) (e : M.Event) → PointGoes M G f p e q
      → PointGoes N H f (point_in f p) (record { fn = f; event = e }) (point_in f q)
  go_in _ _ _ (PassesEvent b e es) = PassesEvent b _ _

  pub call_in : {f h : M.Fn} (p q : Point G.Block M.Event) (s : M.Site) → PointCalls M G f p s h q
      → PointCalls N H f (point_in f p) (record { caller = f; site = s; callee = h }) h (point_in f q)
  call_in _ _ _ (MakesCall j) = MakesCall (CallAt j)

  walk_in : {f : M.Fn} {l : Labels N} {p : Point G.Block M.Event} → Walk N J f l p
      → Walk N (supergraph N H) f l (point_in f p)
  walk_in WalkStart = WalkStart
  walk_in (WalkSkip {p = p} {q = q} W t) = WalkSkip (walk_in W) (skip_in p q t)
  walk_in (WalkGo {p = p} {q = q} W e (GoesAt {e = d} t)) = WalkGo (walk_in W) _ (go_in p q d t)
  walk_in (WalkCall {p = p} {q = q} W s h (CallsAt {s = d} t)) = WalkCall (walk_in W) _ h (call_in p q d t)

  pub end_in : {f : M.Fn} (p : Point G.Block M.Event) → PointEnds M G f p → PointEnds N H f (point_in f p)
  end_in _ (EndsFrame j) = EndsFrame j

  pub graphs_have_traces : HasTraces N J (supergraph N H)
  graphs_have_traces = record {
    roots = λ f r. r;
    traces = λ f l w. (point_in f w.0, walk_in w.1);
    whole = λ f l w. (point_in f w.0, walk_in w.1, end_in w.0 w.2);
  }

  -- and back: a step from a point that is the image of one
  abbrev pub SkipsTo : M.Fn → Point G.Block M.Event → Point G.Block (EventIn M.Fn M.Event) → Type 0
  SkipsTo f p r = (q : Point G.Block M.Event) × (point_in f q ≡ r) × PointSkips M G f p q

  leaves : {f : M.Fn} {b c d : G.Block} (es : List M.Event) → masked_events M f es ≡ [] → b ≡ c → G.Next f c d
      → SkipsTo f (Before b es) (Head d)
  leaves {f = f} {d = d} [] i j n = (Head d, refl, LeavesBlock (subst (λ x. G.Next f x d) (sym j) n))
  leaves (e ∷ es) i j n = nil_cons (sym i)

  pub skip_back : {f : M.Fn} (p : Point G.Block M.Event) {r t : Point G.Block (EventIn M.Fn M.Event)} → PointSkips N H f r t
      → point_in f p ≡ r → SkipsTo f p t
  unfolding block_at
  skip_back {f = f} (Head b) (EntersBlock c) d = (Before b (G.events f b), ap (λ x. Before (block_at x) (masked_events M f (G.events f (block_at x)))) d, EntersBlock b)
  skip_back (Head b) (LeavesBlock n) d = head_before d
  skip_back (Before b es) (EntersBlock c) d = head_before (sym d)
  skip_back (Before b es) (LeavesBlock n) d = leaves es (before_events d) (before_block d) n

  abbrev pub GoesTo : M.Fn → Point G.Block M.Event → EventIn M.Fn M.Event → Point G.Block (EventIn M.Fn M.Event) → Type 0
  GoesTo f p e r = (q : Point G.Block M.Event) × (point_in f q ≡ r) × GoesIn M L a (supergraph M G) f p e q

  passes : (f : M.Fn) {b c : G.Block} {d : EventIn M.Fn M.Event} {ds : List (EventIn M.Fn M.Event)} (es : List M.Event)
      → masked_events M f es ≡ d ∷ ds → b ≡ c → GoesTo f (Before b es) d (Before c ds)
  passes f [] i j = nil_cons i
  passes f {b = b} (e ∷ es) i j = (
    Before b es,
    ap₂ (λ x y. Before x y) j (cons_tail i),
    subst (λ x. GoesIn M L a (supergraph M G) f (Before b (e ∷ es)) x (Before b es)) (cons_head i) (GoesAt (PassesEvent b e es)),
  )

  pub go_back : {f : M.Fn} (p : Point G.Block M.Event) {r t : Point G.Block (EventIn M.Fn M.Event)} {e : EventIn M.Fn M.Event}
      → PointGoes N H f r e t → point_in f p ≡ r → GoesTo f p e t
  go_back (Head b) (PassesEvent c e es) d = head_before d
  go_back {f = f} (Before b ds) (PassesEvent c e es) d = passes f ds (before_events d) (before_block d)

  abbrev pub CallsTo : M.Fn → Point G.Block M.Event → SiteIn M.Fn M.Site → M.Fn → Point G.Block (EventIn M.Fn M.Event) → Type 0
  CallsTo f p s h r = (q : Point G.Block M.Event) × (point_in f q ≡ r) × CallsIn M L a (supergraph M G) f p s h q

  calls : {f h : M.Fn} {b c d : G.Block} {s : SiteIn M.Fn M.Site} (es : List M.Event) → masked_events M f es ≡ []
      → b ≡ c → CallIn M L a G f c s h d → CallsTo f (Before b es) s h (Head d)
  calls {f = f} {d = d} [] i j (CallAt {h = h} {s = s} n) = (Head d, refl, CallsAt (MakesCall (subst (λ x. G.Call f x s h d) (sym j) n)))
  calls (e ∷ es) i j n = nil_cons (sym i)

  pub call_back : {f h : M.Fn} (p : Point G.Block M.Event) {r t : Point G.Block (EventIn M.Fn M.Event)} {s : SiteIn M.Fn M.Site}
      → PointCalls N H f r s h t → point_in f p ≡ r → CallsTo f p s h t
  call_back (Head b) (MakesCall j) d = head_before d
  call_back (Before b es) (MakesCall j) d = calls es (before_events d) (before_block d) j

  pub record WalkBack (f : M.Fn) (l : Labels N) (r : Point G.Block (EventIn M.Fn M.Event)) : Type 0 where
    pub place : Point G.Block M.Event
    pub is : point_in f place ≡ r
    pub walk : Walk N J f l place

  pub walk_back : {f : M.Fn} {l : Labels N} {r : Point G.Block (EventIn M.Fn M.Event)} → Walk N (supergraph N H) f l r
      → WalkBack f l r
  walk_back WalkStart = record { place = _; is = refl; walk = WalkStart }
  walk_back (WalkSkip W t) =
      let w = walk_back W in
      let v = skip_back w.place t w.is in
      record { place = v.0; is = v.1; walk = WalkSkip w.walk v.2 }
  walk_back (WalkGo W e t) =
      let w = walk_back W in
      let v = go_back w.place t w.is in
      record { place = v.0; is = v.1; walk = WalkGo w.walk e v.2 }
  walk_back (WalkCall W s h t) =
      let w = walk_back W in
      let v = call_back w.place t w.is in
      record { place = v.0; is = v.1; walk = WalkCall w.walk s h v.2 }

  ends : {f : M.Fn} {b c : G.Block} (es : List M.Event) → masked_events M f es ≡ [] → b ≡ c → G.Ends f c
      → PointEnds M G f (Before b es)
  ends {f = f} [] i j n = EndsFrame (subst (λ x. G.Ends f x) (sym j) n)
  ends (e ∷ es) i j n = nil_cons (sym i)

  pub end_back : {f : M.Fn} (p : Point G.Block M.Event) {r : Point G.Block (EventIn M.Fn M.Event)} → PointEnds N H f r
      → point_in f p ≡ r → PointEnds M G f p
  end_back (Head b) (EndsFrame j) d = head_before d
  end_back (Before b es) (EndsFrame j) d = ends es (before_events d) (before_block d) j

  pub traces_of_graphs : HasTraces N (supergraph N H) J
  traces_of_graphs = record {
    roots = λ f r. r;
    traces = λ f l w. let v = walk_back w.1 in (v.place, v.walk);
    whole = λ f l w. let v = walk_back w.1 in (v.place, v.walk, end_back v.place w.2 v.is);
  }

  -- so the reports are the same
  pub graph_reports : (r : M.Report) → Reported N (supergraph N H) r ↔ Reported N J r
  graph_reports r = (reported_on N (supergraph N H) J traces_of_graphs r, reported_on N J (supergraph N H) graphs_have_traces r)

  head_only : (f : M.Fn) (b : G.Block) (p : Point G.Block M.Event) → point_in f p ≡ Head b → p ≡ Head b
  unfolding block_at
  head_only f b (Head c) d = ap (λ q. Head (block_at q)) d
  head_only f b (Before c es) d = head_before (sym d)

  realised_back : {f : M.Fn} {k : Bool} {g₀ g : M.Global} {t₀ t : Fact M} {b : G.Block}
      → Realised N (supergraph N H) (masked_origins M L a) f k g₀ t₀ (Head b) g t → Realised N J (masked_origins M L a) f k g₀ t₀ (Head b) g t
  realised_back {f = f} {b = b} w =
      let v = walk_back (walk_of N (supergraph N H) w.run) in
      realised_on N (supergraph N H) J traces_of_graphs (masked_origins M L a) w (subst (λ p. Walk N J f (labels_of N (supergraph N H) w.run) p) (head_only f b v.place v.is) v.walk)

  -- and so is what is realised at the heads of blocks
  pub graph_realised : (f : M.Fn) (k : Bool) (g₀ : M.Global) (t₀ : Fact M) (b : G.Block) (g : M.Global) (t : Fact M)
      → Realised N (supergraph N H) (masked_origins M L a) f k g₀ t₀ (Head b) g t ↔ Realised N J (masked_origins M L a) f k g₀ t₀ (Head b) g t
  graph_realised f k g₀ t₀ b g t = (
    realised_back,
    (λ w. realised_on N J (supergraph N H) graphs_have_traces (masked_origins M L a) w (walk_in (walk_of N J w.run))),
  )
