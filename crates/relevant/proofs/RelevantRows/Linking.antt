-- The links of right rows are the steps of the program.
use Rattle.std.proofs.Common.{arith, ◌≡◌, ◌⊎◌, inl, inr, ℕ, zero, suc, List, [], ◌∷◌, length, map, slice_get, cond, Option, None, Some, refl, ◌∙◌, sym, ap, subst}
use Rattle.std.specs.Option.{option_map}
use Rattle.c_objects.specs.Objects.{Object, if_object, are_static, is_static}
use Rattle.flow_graph.specs.CPaths.Building.{Graph}
use Rattle.flow_graph.specs.CPaths.Events.{Event}
use Rattle.flow_graph.specs.CPaths.Membership.{Among}
use Rattle.type_rules.specs.Options.{◌>?◌, or_else}
use Rattle.path_model.specs.CheckerGraphs.Graphs.{AreGraphs, function_at}
use Rattle.path_model.specs.CheckerModel.Calls.{passed, into, reached, out}
use Rattle.path_model.specs.CheckerModel.Happenings.{Function, Site}
use Rattle.path_model.specs.CheckerModel.Reports.{Checker}
use Rattle.path_model.specs.CheckerPrograms.Texts.{functions_in, function_of, objects_in}
use Rattle.typed_unit.specs.Texts.{Text}
use Rattle.flow_graph.specs.declared.event.Event as code
use Rattle.flow_graph.specs.Values.{event_of}
use Rattle.relevant.specs.LinkedObjects.Linked.{AreLinkedAt, AreLinkedOver}
use Rattle.relevant.proofs.LinkedObjects.Listed.{among-contains, contains-among}
use Rattle.flow_graph.specs.ReachedBlocks.Reached.{Happens}
use Rattle.refine_restore.specs.Sites.{site_of}
use Rattle.relevant.specs.RelevantObjects.Links.{LinksOver, LinksIn, LinksFrom}
use Rattle.path_model.specs.CheckerGraphs.Members.{Member}
use Rattle.relevant.specs.declared.relevant_objects.rows.FollowedCall.{FollowedCall}
use Rattle.relevant.specs.declared.relevant_objects.rows.FunctionRow.{FunctionRow}
use Rattle.relevant.specs.RelevantRows.Rows.{Passes, IsCallOfProgram, IsRow, AreRows}
use Rattle.relevant.specs.RelevantSteps.Steps.{IsNumbered, IsCall, Takes, AtEvent, AtEntry, AtReturn, Goes}

-- ---- lists

mapped : {A B : Type 0} (f : A → B) (xs : List A) (y : B) → Among y (map f xs) → (x : A) × Among x xs × (y ≡ f x)
mapped f [] y h = absurd h
mapped f (x ∷ xs) y (inl e) = (x, inl refl, e)
mapped f (x ∷ xs) y (inr h) = let k = mapped f xs y h in (k.0, inr k.1, k.2)

map-among : {A B : Type 0} (f : A → B) (xs : List A) (x : A) → Among x xs → Among (f x) (map f xs)
map-among f [] x h = absurd h
map-among f (y ∷ xs) x (inl e) = inl (ap f e)
map-among f (y ∷ xs) x (inr h) = inr (map-among f xs x h)

-- of lists of one length both have a value at a number
there : {A B : Type 0} (xs : List A) (ys : List B) (n : ℕ) (x : A) → length ys ≡ length xs → slice_get xs n ≡ Some x → (y : B) × (slice_get ys n ≡ Some y)
there [] ys n x l e = cc
there (z ∷ xs) [] n x l e = cc
there (z ∷ xs) (y ∷ ys) zero x l e = (y, refl)
there (z ∷ xs) (y ∷ ys) (suc n) x l e = there xs ys n x (grind arith) e

of-number : {A B : Type 0} (f : A → B) (o : Option A) (y : B) → option_map f o ≡ Some y → (x : A) × (o ≡ Some x)
of-number f None y e = cc
of-number f (Some x) y e = (x, refl)

-- ---- what is passed

pub into-same : (depth : ℕ) (k : FollowedCall) (s : Site) (o : Object) → Passes depth k s → into depth (site_of depth k.site) o ≡ into depth s o
into-same depth k s o p =
    ap (λ xs. if_object depth o >? λ q. cond (are_static q.selectors) (passed depth xs (site_of depth k.site).actuals q) None) p.formals
    ∙ ap (λ as_. if_object depth o >? λ q. cond (are_static q.selectors) (passed depth s.formals as_ q) None) p.actuals

pub out-same : (depth : ℕ) (k : FollowedCall) (s : Site) (o : Object) → Passes depth k s → out depth (site_of depth k.site) o ≡ out depth s o
out-same depth k s o p =
    ap (λ xs. or_else (reached depth xs (site_of depth k.site).actuals o) (cond (is_static o) (Some o) None)) p.formals
    ∙ ap (λ as_. or_else (reached depth s.formals as_ o) (cond (is_static o) (Some o) None)) p.actuals

module _ (c : Checker) (ts : List Text) (gs : List Graph) (rows : List FunctionRow) (A : AreGraphs ts gs) (R : AreRows c ts gs rows) where
  abbrev T : ℕ → Object → ℕ → Object → Type 0
  T = Takes c ts gs

  -- a row is that of a function
  numbered : (n : ℕ) (row : FunctionRow) → slice_get rows n ≡ Some row → (f : Function) × (g : Graph) × IsNumbered c ts gs n f g
  numbered n row e =
      let d = there rows (functions_in ts) n row (sym R.count) e in
      let g = there rows gs n row (A.count ∙ sym R.count) e in
      (function_of d.0, g.0, record { named = ap (option_map function_of) d.1; graph = g.1 })

  -- and a function has one
  pub row-of : (n : ℕ) (f : Function) → function_at ts n ≡ Some f → (row : FunctionRow) × (slice_get rows n ≡ Some row)
  row-of n f e =
      let d = of-number function_of (slice_get (functions_in ts) n) f e in
      there (functions_in ts) rows n d.0 R.count d.1

  -- ---- links are steps

  at-step : (n : ℕ) (o b : Object) (f : Function) (g : Graph) (e : Event) → IsNumbered c ts gs n f g → Happens g e → AreLinkedAt (objects_in ts f.place.file) c.depth o e b → T n o n b ⊎ T n b n o
  at-step n o b f g e is h (inl k) = inr (AtEvent (record { function = f; graph = g; is = is; event = e; happens = h; source = k }))
  at-step n o b f g e is h (inr k) = inl (AtEvent (record { function = f; graph = g; is = is; event = e; happens = h; source = k }))

  over-step : (n m : ℕ) (o b : Object) (s : Site) (k : FollowedCall) → IsCall c ts gs n m s → Passes c.depth k s → AreLinkedOver c.depth (site_of c.depth k.site) o b → T n o m b ⊎ T m b n o
  over-step n m o b s k call p (inl i) = inr (AtEntry s call (sym (into-same c.depth k s b p) ∙ i))
  over-step n m o b s k call p (inr i) = inl (AtReturn s call (sym (out-same c.depth k s o p) ∙ i))

  -- the numbers of a call are those of the objects
  over-goes : (x y : Member) (k : FollowedCall) → IsCallOfProgram c ts gs k → LinksOver c.depth x k y → Goes c ts gs x y
  over-goes x y k is (inl l) =
      let t = over-step k.caller k.callee x.1 y.1 is.site k is.call is.passes l.2 in
      subst (λ n. T n x.1 y.0 y.1 ⊎ T y.0 y.1 n x.1) l.0 (subst (λ m. T k.caller x.1 m y.1 ⊎ T m y.1 k.caller x.1) l.1 t)
  over-goes x y k is (inr l) =
      let t = over-step k.caller k.callee y.1 x.1 is.site k is.call is.passes l.2 in
      turned (subst (λ n. T n y.1 x.0 x.1 ⊎ T x.0 x.1 n y.1) l.1 (subst (λ m. T k.caller y.1 m x.1 ⊎ T m x.1 k.caller y.1) l.0 t))
    where
      turned : T y.0 y.1 x.0 x.1 ⊎ T x.0 x.1 y.0 y.1 → Goes c ts gs x y
      turned (inl t) = inr t
      turned (inr t) = inl t

  pub links-go : (x y : Member) → LinksFrom c.depth rows x y → Goes c ts gs x y
  links-go x y h = by h.2
    where
      row : FunctionRow
      row = h.0

      is : IsRow c ts gs x.0 row
      is = R.each x.0 row h.1

      by : LinksIn c.depth row x y → Goes c ts gs x y
      by (inl l) =
          let n = numbered x.0 row h.1 in
          let e : code.Event = l.0 in
          let among = among-contains (map event_of row.events.items) (event_of e) (map-among event_of row.events.items e (contains-among row.events.items e l.1)) in
          let happens = is.happens n.0 n.1 (event_of e) n.2 among in
          let linked : AreLinkedAt (objects_in ts (n.0).place.file) c.depth x.1 (event_of e) y.1 = subst (λ u. AreLinkedAt u c.depth x.1 (event_of e) y.1) (is.unit n.0 n.1 n.2) l.2.1 in
          subst (λ m. T x.0 x.1 m y.1 ⊎ T m y.1 x.0 x.1) l.2.0 (at-step x.0 x.1 y.1 n.0 n.1 (event_of e) n.2 happens linked)
      by (inr l) = over-goes x y l.0 (is.real l.0 l.1) l.2

  -- ---- steps are links

  -- an event of the function
  event-link : (n : ℕ) (o b : Object) (f : Function) (g : Graph) (e : Event) → IsNumbered c ts gs n f g → Happens g e → AreLinkedAt (objects_in ts f.place.file) c.depth o e b → LinksFrom c.depth rows (n, o) (n, b)
  event-link n o b f g e is h l =
      let r = row-of n f is.named in
      let row : FunctionRow = r.0 in
      let own = R.each n row r.1 in
      let k = mapped event_of row.events.items e (contains-among (map event_of row.events.items) e (own.events f g e is h)) in
      let linked = subst (λ u. AreLinkedAt u c.depth o (event_of k.0) b) (sym (own.unit f g is)) (subst (λ z. AreLinkedAt (objects_in ts f.place.file) c.depth o z b) k.2 l) in
      (row, r.1, inl (k.0, among-contains row.events.items k.0 k.1, (refl, linked)))

  -- a call from the function
  into-link : (n m : ℕ) (o b : Object) (s : Site) → IsCall c ts gs n m s → AreLinkedOver c.depth s o b → LinksFrom c.depth rows (n, o) (m, b)
  into-link n m o b s call l =
      let r = row-of n call.function call.is.named in
      let own = R.each n r.0 r.1 in
      let k = own.calls m s call in
      (r.0, r.1, inr (k.call, k.among, inl (k.caller, k.callee, same k.call k.passes l)))
    where
      same : (q : FollowedCall) → Passes c.depth q s → AreLinkedOver c.depth s o b → AreLinkedOver c.depth (site_of c.depth q.site) o b
      same q p (inl i) = inl (into-same c.depth q s b p ∙ i)
      same q p (inr i) = inr (out-same c.depth q s o p ∙ i)

  -- a call into it
  back-link : (n m : ℕ) (o b : Object) (s : Site) → IsCall c ts gs n m s → AreLinkedOver c.depth s o b → LinksFrom c.depth rows (m, b) (n, o)
  back-link n m o b s call l =
      let r = row-of m call.callee call.named in
      let own = R.each m r.0 r.1 in
      let k = own.called n s call in
      (r.0, r.1, inr (k.call, k.among, inr (k.callee, k.caller, same k.call k.passes l)))
    where
      same : (q : FollowedCall) → Passes c.depth q s → AreLinkedOver c.depth s o b → AreLinkedOver c.depth (site_of c.depth q.site) o b
      same q p (inl i) = inl (into-same c.depth q s b p ∙ i)
      same q p (inr i) = inr (out-same c.depth q s o p ∙ i)

  -- both ways of what takes a state
  takes-links : (n : ℕ) (o : Object) (m : ℕ) (b : Object) → T n o m b → LinksFrom c.depth rows (n, o) (m, b) × LinksFrom c.depth rows (m, b) (n, o)
  takes-links _ _ _ _ (AtEvent {n} {o} {b} v) = (
    event-link n o b v.function v.graph v.event v.is v.happens (inr v.source),
    event-link n b o v.function v.graph v.event v.is v.happens (inl v.source),
  )
  takes-links _ _ _ _ (AtEntry {n} {m} {o} {b} s call i) = (back-link n m b o s call (inl i), into-link n m b o s call (inl i))
  takes-links _ _ _ _ (AtReturn {n} {m} {o} {b} s call i) = (into-link n m o b s call (inr i), back-link n m o b s call (inr i))

  pub goes-link : (x y : Member) → Goes c ts gs x y → LinksFrom c.depth rows x y
  goes-link x y (inl t) = (takes-links x.0 x.1 y.0 y.1 t).0
  goes-link x y (inr t) = (takes-links y.0 y.1 x.0 x.1 t).1
