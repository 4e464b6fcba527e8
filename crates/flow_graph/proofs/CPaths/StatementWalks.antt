-- Each place in the graph where a statement begins or ends has the traces of that place's continuation.
use Rattle.std.proofs.Common.{◌≡◌, ◌↔◌, ℕ, zero, suc, Bool, true, false, List, [], ◌∷◌, ◌++◌, ◌⊎◌, inl, inr, Option, Some, None, refl, sym, ap, ◌∙◌, subst, append_assoc}
use Rattle.std.specs.Prelude.{not, ◌||◌, ◌==◌}
use Rattle.std.proofs.lemmas.Bool.{eq-eqb, eqb-true}
use Rattle.std.proofs.lemmas.List.{append-nil}
use Rattle.path_theory.specs.Marks.{EventMark}
use Rattle.flow_graph.specs.CPaths.Membership.{Among}
use Rattle.flow_graph.specs.CPaths.Events.{Event, Item}
use Rattle.flow_graph.specs.CPaths.Words.{Nothing, Only, Then, Either}
use Rattle.flow_graph.specs.CPaths.Forms.{Form, Row, done}
use Rattle.flow_graph.specs.CPaths.Evaluation.{Happens, Condition}
use Rattle.flow_graph.specs.CPaths.Flow.{Flow, Does, Block, If, While, Do, For, Switch, Case, Default, Label, Goto, Break, Continue, Return, Flows, no_flows, flows}
use Rattle.flow_graph.specs.CPaths.Tasks.{Task, Run, Test, Turn, Behind, Close, Nowhere, in_order, after_break, after_continue}
use Rattle.flow_graph.specs.CPaths.Steps.{Step}
use Rattle.flow_graph.specs.CPaths.Labels.{if_so, labels_at, labels_in, cases_at, cases_in, has_default, has_default_in}
use Rattle.flow_graph.specs.CPaths.Traces.{Runs, TraceFrom, BodyTrace}
use Rattle.flow_graph.specs.CPaths.Graphs.{Block as BasicBlock, ToAny, Stops, AtBlock, Walks, GraphTrace}
use Rattle.flow_graph.specs.CPaths.Fragments.{ToEither, Has, Fits, FitsRow}
use Rattle.flow_graph.specs.CPaths.Layout.{Entry, HasEntry, TestAt, Built, BuiltIn, GotoAt, IsGraphOf}
use Rattle.flow_graph.proofs.CPaths.Listed.{among_front, among_back, among_either}
use Rattle.flow_graph.proofs.CPaths.Ahead.{Ahead, ahead_then, ahead_maps}
use Rattle.flow_graph.proofs.CPaths.GraphWalks.{walks_more, Forward, Within, opened, closed, block_to, reaches_then, stay, stay_back}
use Rattle.flow_graph.proofs.CPaths.FormWalks.{Two, fits_forward, fits_back, row_forward, row_back}

one_is : (a b : Bool) → (a || b) ≡ true → (a ≡ true) ⊎ (b ≡ true)
one_is true b e = inl refl
one_is false b e = inr e

-- a default label has a continuation
mutual
  default_case : (s : Flow) → has_default s ≡ true → (k : List Task) → (h : List Task) × Among h (cases_at s k)
  default_case (Does r) d k = let bad : false ≡ true = d in cc
  default_case (Block ss) d k = default_in ss d k
  default_case (If c s t) d k = elim (one_is (has_default s) (has_default t) d) [
    | inl e ↦ let a = default_case s e k in (a.0, among_front a.0 (cases_at s k) (cases_at t k) a.1)
    | inr e ↦ let a = default_case t e k in (a.0, among_back a.0 (cases_at s k) (cases_at t k) a.1)
  ]
  default_case (While c s) d k = default_case s d (Turn (Some c) done s ∷ k)
  default_case (Do s c) d k = default_case s d (Turn (Some c) done s ∷ k)
  default_case (For i c u s) d k = default_case s d (Turn c u s ∷ k)
  default_case (Switch r s) d k = let bad : false ≡ true = d in cc
  default_case (Case s) d k = let e = default_case s d k in (e.0, inr e.1)
  default_case (Default s) d k = (Run s ∷ k, inl refl)
  default_case (Label M s) d k = default_case s d k
  default_case (Goto M) d k = let bad : false ≡ true = d in cc
  default_case Break d k = let bad : false ≡ true = d in cc
  default_case Continue d k = let bad : false ≡ true = d in cc
  default_case (Return r e) d k = let bad : false ≡ true = d in cc

  default_in : (ss : Flows) → has_default_in ss ≡ true → (k : List Task) → (h : List Task) × Among h (cases_in ss k)
  default_in no_flows d k = let bad : false ≡ true = d in cc
  default_in (flows s ss) d k = elim (one_is (has_default s) (has_default_in ss) d) [
    | inl e ↦ let a = default_case s e (in_order ss k) in (a.0, among_front a.0 (cases_at s (in_order ss k)) (cases_in ss k) a.1)
    | inr e ↦ let a = default_in ss e k in (a.0, among_back a.0 (cases_at s (in_order ss k)) (cases_in ss k) a.1)
  ]

-- what stands in a list of one, if it is so
if_so_has : (b : Bool) (P : Type 0) (h k : List Task) → (P → b ≡ true) → P → h ≡ k → Among h (if_so b k)
if_so_has true P h k to p e = inl e
if_so_has false P h k to p e = let bad : false ≡ true = to p in cc

of_if_so : (b : Bool) (P : Type 0) (h k : List Task) → (b ≡ true → P) → Among h (if_so b k) → P × (h ≡ k)
of_if_so true P h k from a = elim a [ inl e ↦ (from refl, e) | inr x ↦ absurd x ]
of_if_so false P h k from a = absurd a

entries_front : (L b : ℕ) (xs ys : List Entry) → HasEntry L b xs → HasEntry L b (xs ++ ys)
entries_front L b [] ys h = absurd h
entries_front L b (x ∷ xs) ys (inl h) = inl h
entries_front L b (x ∷ xs) ys (inr h) = inr (entries_front L b xs ys h)

entries_back : (L b : ℕ) (xs ys : List Entry) → HasEntry L b ys → HasEntry L b (xs ++ ys)
entries_back L b [] ys h = h
entries_back L b (x ∷ xs) ys h = inr (entries_back L b xs ys h)

entries_either : (L b : ℕ) (xs ys : List Entry) → HasEntry L b (xs ++ ys) → HasEntry L b xs ⊎ HasEntry L b ys
entries_either L b [] ys h = inr h
entries_either L b (x ∷ xs) ys (inl h) = inl (inl h)
entries_either L b (x ∷ xs) ys (inr h) = elim (entries_either L b xs ys h) [ inl a ↦ inl (inr a) | inr a ↦ inr a ]

module _ (g : List BasicBlock) (body : Flow) (whole : List Task) where
  abbrev Steps : List Task → List Item → List Task → Type 0
  Steps K l k = Step body whole K l k

  abbrev From : List Task → List Item → Type 0
  From k l = TraceFrom body whole k l

  runs_more : (n : ℕ) (k : List Task) (l : List Item) → Runs body whole n k l → Runs body whole (suc n) k l
  runs_more zero k l h = inl h
  runs_more (suc n) k l (inl h) = inl h
  runs_more (suc n) k l (inr h) = inr (h.0, h.1, h.2, h.3, runs_more n h.2 h.1 h.4, h.5)

  -- up to n steps, the traces from k are walks from b; up to n blocks, the walks from b are traces from k
  pub record Represents (n : ℕ) (k : List Task) (b : ℕ) : Type 0 where
    pub forward : (l : List Item) → Runs body whole n k l → (m : ℕ) × Walks g m b l
    pub back : Within g n b (From k)

  from_nil : (k : List Task) → From k []
  from_nil k = (0, [], refl)

  at_first : (k : List Task) (b : ℕ) → Represents 0 k b
  at_first k b = record { forward = λ l h. (0, h); back = λ l h. subst (From k) (sym h) (from_nil k) }

  pub fewer : (n : ℕ) (k : List Task) (b : ℕ) → Represents (suc n) k b → Represents n k b
  fewer n k b r = record { forward = λ l h. r.forward l (runs_more n k l h); back = λ l h. r.back l (walks_more g n b l h) }

  -- a step that gives a list of A, and then a trace
  from_ahead : (K k : List Task) (A : List Item → Type 0) → ((w : List Item) → A w → Steps K w k) → (l : List Item) → Ahead A (From k) l → From K l
  from_ahead K k A st l a =
      let t = a.is_then in
      (suc t.0, a.rest ++ t.1, inr (a.first, a.then ++ t.1, k, st a.first a.is_first, t.2, sym (append_assoc l a.rest t.1) ∙ ap (λ m. m ++ t.1) a.whole ∙ append_assoc a.first a.then t.1))

  -- one kind of step, to one continuation
  does : (n : ℕ) (K k : List Task) (A : List Item → Type 0) (b c : ℕ) → ((l : List Item) (k' : List Task) → Steps K l k' → A l × (k' ≡ k)) → ((w : List Item) → A w → Steps K w k) → Forward g A b c → ((T : List Item → Type 0) → Within g n c T → Within g n b (Ahead A T)) → Represents n k c → Represents n K b
  does n K k A b c only st f back r = record { forward = λ l h. go n r l h; back = λ l h. from_ahead K k A st l (back (From k) r.back l h) }
    where
      go : (n : ℕ) → Represents n k c → (l : List Item) → Runs body whole n K l → (m : ℕ) × Walks g m b l
      go zero r l h = (0, h)
      go (suc n) r l (inl h) = (0, h)
      go (suc n) r l (inr (x, y, k', s, h, e)) =
          let o = only x k' s in
          let w = r.forward y (runs_more n k y (subst (λ q. Runs body whole n q y) o.1 h)) in
          let v = (f x o.0).by w.0 y w.1 in
          (v.0, subst (Walks g v.0 b) (sym e) v.1)

  -- a silent step, with no block of its own
  silent : (n : ℕ) (K k : List Task) (b : ℕ) → ((l : List Item) (k' : List Task) → Steps K l k' → (l ≡ []) × (k' ≡ k)) → Steps K [] k → Represents n k b → Represents n K b
  silent n K k b only st r = does n K k Nothing b b only (λ w e. subst (λ v. Steps K v k) (sym e) st) (stay g b) (stay_back g n b) r

  -- two kinds of step, each to one continuation
  chooses : (n m : ℕ) (K k1 k2 : List Task) (A1 A2 : List Item → Type 0) (b c1 c2 : ℕ) → ((l : List Item) (k' : List Task) → Steps K l k' → (A1 l × (k' ≡ k1)) ⊎ (A2 l × (k' ≡ k2))) → ((w : List Item) → A1 w → Steps K w k1) → ((w : List Item) → A2 w → Steps K w k2) → Forward g A1 b c1 → Forward g A2 b c2 → Represents n k1 c1 → Represents n k2 c2 → (l : List Item) → Runs body whole (suc n) K l → (m : ℕ) × Walks g m b l
  chooses n m K k1 k2 A1 A2 b c1 c2 only st1 st2 f1 f2 r1 r2 l (inl h) = (0, h)
  chooses n m K k1 k2 A1 A2 b c1 c2 only st1 st2 f1 f2 r1 r2 l (inr (x, y, k', s, h, e)) = arm (only x k' s)
    where
      arm : (A1 x × (k' ≡ k1)) ⊎ (A2 x × (k' ≡ k2)) → (m : ℕ) × Walks g m b l
      arm (inl o) =
          let w = r1.forward y (subst (λ q. Runs body whole n q y) o.1 h) in
          let v = (f1 x o.0).by w.0 y w.1 in
          (v.0, subst (Walks g v.0 b) (sym e) v.1)
      arm (inr o) =
          let w = r2.forward y (subst (λ q. Runs body whole n q y) o.1 h) in
          let v = (f2 x o.0).by w.0 y w.1 in
          (v.0, subst (Walks g v.0 b) (sym e) v.1)

  -- if: a condition, at any bound
  if_case : (n : ℕ) (c : Form) (x y : Flow) (k : List Task) (b m1 m2 : ℕ) (K : List Task) → ((l : List Item) (k' : List Task) → Steps K l k' → (Condition c true l × (k' ≡ Run x ∷ k)) ⊎ (Condition c false l × (k' ≡ Run y ∷ k))) → ((l : List Item) (k' : List Task) → (Condition c true l × (k' ≡ Run x ∷ k)) ⊎ (Condition c false l × (k' ≡ Run y ∷ k)) → Steps K l k') → Fits (Has g) c (ToEither m1 m2) b → Represents n (Run x ∷ k) m1 → Represents n (Run y ∷ k) m2 → Represents n K b
  if_case n c x y k b m1 m2 K only st h r1 r2 = record { forward = go n r1 r2; back = back }
    where
      f : Forward g (Condition c true) b m1 × Forward g (Condition c false) b m2
      f = fits_forward g c (ToEither m1 m2) b h

      go : (n : ℕ) → Represents n (Run x ∷ k) m1 → Represents n (Run y ∷ k) m2 → (l : List Item) → Runs body whole n K l → (m : ℕ) × Walks g m b l
      go zero r1 r2 l w = (0, w)
      go (suc n) r1 r2 l w = chooses n n K (Run x ∷ k) (Run y ∷ k) (Condition c true) (Condition c false) b m1 m2 only (λ w a. st w _ (inl (a, refl))) (λ w a. st w _ (inr (a, refl))) f.0 f.1 (fewer n _ m1 r1) (fewer n _ m2 r2) l w

      back : Within g n b (From K)
      back l w = joined (fits_back g c (ToEither m1 m2) b n (Two g (From (Run x ∷ k)) (From (Run y ∷ k))) h (r1.back, r2.back) l w)
        where
          joined : Either (Ahead (Condition c true) (From (Run x ∷ k))) (Ahead (Condition c false) (From (Run y ∷ k))) l → From K l
          joined (inl a) = from_ahead K (Run x ∷ k) (Condition c true) (λ w a. st w _ (inl (a, refl))) l a
          joined (inr a) = from_ahead K (Run y ∷ k) (Condition c false) (λ w a. st w _ (inr (a, refl))) l a

  -- one kind of step that gives nothing new and leads to any of several continuations, by one block
  pub record Covers (n : ℕ) (P : List Task → Type 0) (Q : ℕ → Type 0) : Type 0 where
    pub each : (k : List Task) → P k → (b : ℕ) × Q b × Represents n k b
    pub only : (b : ℕ) → Q b → (k : List Task) × P k × Represents n k b

  fewer_covers : (n : ℕ) (P : List Task → Type 0) (Q : ℕ → Type 0) → Covers (suc n) P Q → Covers n P Q
  fewer_covers n P Q c = record {
    each = λ k p. let a = c.each k p in (a.0, a.1, fewer n k a.0 a.2);
    only = λ b q. let a = c.only b q in (a.0, a.1, fewer n a.0 b a.2);
  }

  -- a block without events, and what it leads to
  opens : (n b : ℕ) (bs : List ℕ) (l : List Item) → Has g b [] (ToAny bs) → Walks g (suc n) b l → (l ≡ []) ⊎ ((c : ℕ) × Among c bs × Walks g n c l)
  opens n b bs l e w = cases (opened g n b (record { events = []; ending = ToAny bs }) l e w)
    where
      cases : AtBlock (Walks g n) (Some (record { events = []; ending = ToAny bs })) l → (l ≡ []) ⊎ ((c : ℕ) × Among c bs × Walks g n c l)
      cases (inl h) = inl h
      cases (inr (r, inl h, q)) = inl (q ∙ h)
      cases (inr (r, inr (c, i, w), q)) = inr (c, i, subst (Walks g n c) (sym q) w)

  -- a block that leads on to one other, with the same continuation: one block more
  hops : (n b c : ℕ) (T : List Item → Type 0) → T [] → Has g b [] (ToAny (c ∷ [])) → Within g n c T → Within g (suc n) b T
  hops n b c T t e f l w = cases (opens n b (c ∷ []) l e w)
    where
      cases : (l ≡ []) ⊎ ((d : ℕ) × Among d (c ∷ []) × Walks g n d l) → T l
      cases (inl h) = subst T (sym h) t
      cases (inr (d, inl i, v)) = f l (subst (λ x. Walks g n x l) i v)
      cases (inr (d, inr x, v)) = absurd x

  -- `switch` and `goto`: a step that gives a list of A leads to any continuation of P, by a block that leads to any block of bs
  selects : (n : ℕ) (K : List Task) (P : List Task → Type 0) (A : List Item → Type 0) (b v : ℕ) (bs : List ℕ) → ((l : List Item) (k' : List Task) → Steps K l k' → A l × P k') → ((l : List Item) (k' : List Task) → A l → P k' → Steps K l k') → Forward g A b v → ((T : List Item → Type 0) → Within g n v T → Within g n b (Ahead A T)) → Has g v [] (ToAny bs) → Covers n P (λ c. Among c bs) → ((l : List Item) → Ahead A Nothing l → From K l) → Represents n K b
  selects n K P A b v bs only st f back e cov short = record { forward = go n cov; back = λ l w. done l (back (λ m. (m ≡ []) ⊎ ((k : List Task) × P k × From k m)) (at_v n cov) l w) }
    where
      go : (n : ℕ) → Covers n P (λ c. Among c bs) → (l : List Item) → Runs body whole n K l → (m : ℕ) × Walks g m b l
      go zero cov l h = (0, h)
      go (suc n) cov l (inl h) = (0, h)
      go (suc n) cov l (inr (x, y, k', s, h, q)) =
          let o = only x k' s in
          let c = cov.each k' o.1 in
          let w = c.2.forward y (runs_more n k' y h) in
          let at = (block_to g v [] bs c.0 e c.1).by w.0 y w.1 in
          let u = (f x o.0).by at.0 y at.1 in
          (u.0, subst (Walks g u.0 b) (sym q) u.1)

      at_v : (n : ℕ) → Covers n P (λ c. Among c bs) → Within g n v (λ m. (m ≡ []) ⊎ ((k : List Task) × P k × From k m))
      at_v zero cov l w = inl w
      at_v (suc n) cov l w = cases (opens n v bs l e w)
        where
          cases : (l ≡ []) ⊎ ((c : ℕ) × Among c bs × Walks g n c l) → (l ≡ []) ⊎ ((k : List Task) × P k × From k l)
          cases (inl h) = inl h
          cases (inr (c, i, u)) = let a = cov.only c i in inr (a.0, a.1, a.2.back l (walks_more g n c l u))

      done : (l : List Item) → Ahead A (λ m. (m ≡ []) ⊎ ((k : List Task) × P k × From k m)) l → From K l
      done l a = ends a.then a.is_then a.whole
        where
          ends : (m : List Item) → (m ≡ []) ⊎ ((k : List Task) × P k × From k m) → l ++ a.rest ≡ a.first ++ m → From K l
          ends m (inl h) q = short l (record { first = a.first; then = m; rest = a.rest; is_first = a.is_first; is_then = h; whole = q })
          ends m (inr (k, p, t)) q = from_ahead K k A (λ w x. st w k x p) l (record { first = a.first; then = m; rest = a.rest; is_first = a.is_first; is_then = t; whole = q })

  -- an exit
  exits : (n : ℕ) (p : Event) (x : ℕ) → Has g x (p ∷ []) Stops → Within g n x (λ l. Ahead (Only (EventMark p)) Nothing l)
  exits zero p x e l w = record { first = EventMark p ∷ []; then = []; rest = EventMark p ∷ []; is_first = refl; is_then = refl; whole = ap (λ m. m ++ EventMark p ∷ []) w }
  exits (suc n) p x e l w = cases (opened g n x (record { events = p ∷ []; ending = Stops }) l e w)
    where
      cases : AtBlock (Walks g n) (Some (record { events = p ∷ []; ending = Stops })) l → Ahead (Only (EventMark p)) Nothing l
      cases (inl h) = record { first = EventMark p ∷ []; then = []; rest = EventMark p ∷ []; is_first = refl; is_then = refl; whole = ap (λ m. m ++ EventMark p ∷ []) h }
      cases (inr (r, h, q)) = record { first = EventMark p ∷ []; then = []; rest = []; is_first = refl; is_then = refl; whole = append-nil l ∙ q ∙ ap (λ m. EventMark p ∷ m) h }

  nothing_left : (n : ℕ) (l : List Item) → Runs body whole n [] l → l ≡ []
  nothing_left zero l h = h
  nothing_left (suc n) l (inl h) = h
  nothing_left (suc n) l (inr h) = absurd h.3

  -- an expression that may be left out, and an exit
  returns : (n : ℕ) (K : List Task) (o : Row) (p : Event) (x b : ℕ) → ((l : List Item) (k' : List Task) → Steps K l k' → Then (Happens o) (Only (EventMark p)) l × (k' ≡ [])) → ((w : List Item) → Then (Happens o) (Only (EventMark p)) w → Steps K w []) → FitsRow (Has g) o x b → Has g x (p ∷ []) Stops → Represents n K b
  returns n K o p x b only st h e = record { forward = go n; back = λ l w. from_ahead K [] (Then (Happens o) (Only (EventMark p))) st l (ahead_then (Happens o) (Only (EventMark p)) (From []) l (row_back g o x b n (Ahead (Only (EventMark p)) (From [])) h at_x l w)) }
    where
      at_x : Within g n x (Ahead (Only (EventMark p)) (From []))
      at_x l w = ahead_maps (Only (EventMark p)) (Only (EventMark p)) Nothing (From []) (λ v a. a) (λ v a. subst (From []) (sym a) (from_nil [])) l (exits n p x e l w)

      go : (n : ℕ) → (l : List Item) → Runs body whole n K l → (m : ℕ) × Walks g m b l
      go zero l w = (0, w)
      go (suc n) l (inl w) = (0, w)
      go (suc n) l (inr (u, y, k', s, w, q)) =
          let a = only u k' s in
          let no = nothing_left n y (subst (λ z. Runs body whole n z y) a.1 w) in
          let t = a.0 in
          let last : Walks g 1 x (t.1 ++ y) = closed g 0 x (record { events = p ∷ []; ending = Stops }) (t.1 ++ y) e (inr (y, no, ap (λ z. z ++ y) t.3)) in
          let v = (row_forward g o x b h t.0 t.2).by 1 (t.1 ++ y) last in
          (v.0, subst (Walks g v.0 b) (sym (q ∙ ap (λ z. z ++ y) t.4 ∙ append_assoc t.0 t.1 y)) v.1)

  -- a loop's condition behind the block h, and one step more
  tests : (n : ℕ) (c : Option Form) (u : Row) (s : Flow) (k : List Task) (m next h : ℕ) → TestAt (Has g) c m next h → Represents n (Run s ∷ Turn c u s ∷ k) m → Represents n k next → Represents (suc n) (Test c u s ∷ k) h
  tests n None u s k m next h e r q = record { forward = go; back = λ l w. hops n h m (From (Test None u s ∷ k)) (from_nil _) e (λ v a. from_ahead (Test None u s ∷ k) (Run s ∷ Turn None u s ∷ k) Nothing (λ w b. inl ((refl, b), refl)) v (stay_back g n m (From (Run s ∷ Turn None u s ∷ k)) r.back v a)) l w }
    where
      go : (l : List Item) → Runs body whole (suc n) (Test None u s ∷ k) l → (m : ℕ) × Walks g m h l
      go l (inl w) = (0, w)
      go l (inr (x, y, k', inl a, w, q)) =
          let v = r.forward y (subst (λ z. Runs body whole n z y) a.1 w) in
          let o = (block_to g h [] (m ∷ []) m e (inl refl)).by v.0 y v.1 in
          (o.0, subst (Walks g o.0 h) (sym (q ∙ ap (λ z. z ++ y) a.0.1)) o.1)
      go l (inr (x, y, k', inr a, w, q)) = let bad : false ≡ true = a.0.0 in cc
  tests n (Some c) u s k m next h e r q = record { forward = go; back = back }
    where
      f : Forward g (Condition c true) e.0 m × Forward g (Condition c false) e.0 next
      f = fits_forward g c (ToEither m next) e.0 e.2

      on : (A : List Item → Type 0) (x : ℕ) → Forward g A e.0 x → Forward g A h x
      on A x f w a = reaches_then g [] w h e.0 x (block_to g h [] (e.0 ∷ []) e.0 e.1 (inl refl)) (f w a)

      go : (l : List Item) → Runs body whole (suc n) (Test (Some c) u s ∷ k) l → (m : ℕ) × Walks g m h l
      go l w = chooses n n (Test (Some c) u s ∷ k) (Run s ∷ Turn (Some c) u s ∷ k) k (Condition c true) (Condition c false) h m next (λ l k' a. a) (λ w a. inl (a, refl)) (λ w a. inr (a, refl)) (on (Condition c true) m f.0) (on (Condition c false) next f.1) r q l w

      back : Within g (suc n) h (From (Test (Some c) u s ∷ k))
      back = hops n h e.0 (From (Test (Some c) u s ∷ k)) (from_nil _) e.1 (λ l w. joined l (fits_back g c (ToEither m next) e.0 n (Two g (From (Run s ∷ Turn (Some c) u s ∷ k)) (From k)) e.2 (r.back, q.back) l w))
        where
          joined : (l : List Item) → Either (Ahead (Condition c true) (From (Run s ∷ Turn (Some c) u s ∷ k))) (Ahead (Condition c false) (From k)) l → From (Test (Some c) u s ∷ k) l
          joined l (inl a) = from_ahead (Test (Some c) u s ∷ k) (Run s ∷ Turn (Some c) u s ∷ k) (Condition c true) (λ w a. inl (a, refl)) l a
          joined l (inr a) = from_ahead (Test (Some c) u s ∷ k) k (Condition c false) (λ w a. inr (a, refl)) l a

  -- what the blocks of a statement with k behind it represent
  pub record Done (n : ℕ) (s : Flow) (k : List Task) (b : ℕ) (cs : List ℕ) (ls : List Entry) : Type 0 where
    pub entry : Represents n (Run s ∷ k) b
    pub cases : Covers n (λ h. Among h (cases_at s k)) (λ c. Among c cs)
    pub labels : (L : ℕ) → Covers n (λ h. Among h (labels_at L s k)) (λ c. HasEntry L c ls)

  -- the same of a list of statements
  pub record RowDone (n : ℕ) (ss : Flows) (k : List Task) (b : ℕ) (cs : List ℕ) (ls : List Entry) : Type 0 where
    pub entry : Represents n (in_order ss k) b
    pub cases : Covers n (λ h. Among h (cases_in ss k)) (λ c. Among c cs)
    pub labels : (L : ℕ) → Covers n (λ h. Among h (labels_in L ss k)) (λ c. HasEntry L c ls)

  break_row : (ss : Flows) (k : List Task) → after_break (in_order ss k) ≡ after_break k
  break_row no_flows k = refl
  break_row (flows s rest) k = break_row rest k

  continue_row : (ss : Flows) (k : List Task) → after_continue (in_order ss k) ≡ after_continue k
  continue_row no_flows k = refl
  continue_row (flows s rest) k = continue_row rest k

  abbrev Gotos : ℕ → (ℕ → ℕ → Type 0) → Type 0
  Gotos n J = (L b : ℕ) → J L b → (k : List Task) → Represents n (Run (Goto L) ∷ k) b

  fewer_gotos : (n : ℕ) (J : ℕ → ℕ → Type 0) → Gotos (suc n) J → Gotos n J
  fewer_gotos n J j L b i k = fewer n _ b (j L b i k)

  -- a loop's body represents what it is to at every bound: so do its condition and its next turn
  loop : (J : ℕ → ℕ → Type 0) (s : Flow) (cs : List ℕ) (ls : List Entry) (c : Option Form) (u : Row) (m next h t : ℕ) (k : List Task) → TestAt (Has g) c m next h → FitsRow (Has g) u h t → ((n : ℕ) → Represents n (Turn c u s ∷ k) t → Represents n k next → Gotos n J → Done n s (Turn c u s ∷ k) m cs ls) → (n : ℕ) → Represents n k next → Gotos n J → Represents n (Test c u s ∷ k) h
  loop J s cs ls c u m next h t k e o ih zero r j = at_first _ h
  loop J s cs ls c u m next h t k e o ih (suc n) r j =
      let r' = fewer n k next r in
      let j' = fewer_gotos n J j in
      let at_h = loop J s cs ls c u m next h t k e o ih n r' j' in
      let at_t = does n (Turn c u s ∷ k) (Test c u s ∷ k) (Happens u) t h (λ l k' a. a) (λ w a. (a, refl)) (row_forward g u h t o) (λ T w. row_back g u h t n T o w) at_h in
      tests n c u s k m next h e (ih n at_t r' j').entry r'

  covers_or : (n : ℕ) (P1 P2 : List Task → Type 0) (Q1 Q2 Q : ℕ → Type 0) → ((b : ℕ) → Q1 b → Q b) → ((b : ℕ) → Q2 b → Q b) → ((b : ℕ) → Q b → Q1 b ⊎ Q2 b) → Covers n P1 Q1 → Covers n P2 Q2 → Covers n (λ k. P1 k ⊎ P2 k) Q
  covers_or n P1 P2 Q1 Q2 Q i1 i2 out c1 c2 = record { each = each; only = λ b q. only b (out b q) }
    where
      each : (k : List Task) → P1 k ⊎ P2 k → (b : ℕ) × Q b × Represents n k b
      each k (inl p) = let a = c1.each k p in (a.0, i1 a.0 a.1, a.2)
      each k (inr p) = let a = c2.each k p in (a.0, i2 a.0 a.1, a.2)

      only : (b : ℕ) → Q1 b ⊎ Q2 b → (k : List Task) × (P1 k ⊎ P2 k) × Represents n k b
      only b (inl q) = let a = c1.only b q in (a.0, inl a.1, a.2)
      only b (inr q) = let a = c2.only b q in (a.0, inr a.1, a.2)

  covers_one : (n : ℕ) (k : List Task) (b : ℕ) → Represents n k b → Covers n (λ k'. k' ≡ k) (λ c. Among c (b ∷ []))
  covers_one n k b r = record { each = λ k' e. (b, inl refl, subst (λ q. Represents n q b) (sym e) r); only = only }
    where
      only : (c : ℕ) → Among c (b ∷ []) → (k' : List Task) × (k' ≡ k) × Represents n k' c
      only c (inl e) = (k, refl, subst (Represents n k) (sym e) r)
      only c (inr e) = absurd e

  covers_label : (n L M : ℕ) (k : List Task) (b : ℕ) → Represents n k b → Covers n (λ k'. (M ≡ L) × (k' ≡ k)) (λ c. HasEntry L c (record { label = M; block = b } ∷ []))
  covers_label n L M k b r = record { each = λ k' e. (b, inl (e.0, refl), subst (λ q. Represents n q b) (sym e.1) r); only = only }
    where
      only : (c : ℕ) → HasEntry L c (record { label = M; block = b } ∷ []) → (k' : List Task) × ((M ≡ L) × (k' ≡ k)) × Represents n k' c
      only c (inl e) = (k, (e.0, refl), subst (Represents n k) e.1 r)
      only c (inr e) = absurd e

  -- no cases and no labels
  plain : (n : ℕ) (s : Flow) (k : List Task) (b : ℕ) (cs : List ℕ) (ls : List Entry) → cs ≡ [] → ls ≡ [] → ((k' : List Task) → Among k' (cases_at s k) → ⊥) → ((L : ℕ) (k' : List Task) → Among k' (labels_at L s k) → ⊥) → Represents n (Run s ∷ k) b → Done n s k b cs ls
  plain n s k b cs ls ec el nc nl r = record {
    entry = r;
    cases = subst (λ xs. Covers n (λ h. Among h (cases_at s k)) (λ c. Among c xs)) (sym ec) (record { each = λ k' p. absurd (nc k' p); only = λ c q. absurd q });
    labels = λ L. subst (λ xs. Covers n (λ h. Among h (labels_at L s k)) (λ c. HasEntry L c xs)) (sym el) (record { each = λ k' p. absurd (nl L k' p); only = λ c q. absurd q });
  }

  cases_or : (n : ℕ) (P1 P2 : List Task → Type 0) (c1 c2 cs : List ℕ) → cs ≡ c2 ++ c1 → Covers n P1 (λ c. Among c c1) → Covers n P2 (λ c. Among c c2) → Covers n (λ k. P1 k ⊎ P2 k) (λ c. Among c cs)
  cases_or n P1 P2 c1 c2 cs e a b =
      subst (λ xs. Covers n (λ k. P1 k ⊎ P2 k) (λ c. Among c xs)) (sym e) (covers_or n P1 P2 _ _ (λ c. Among c (c2 ++ c1)) (λ c h. among_back c c2 c1 h) (λ c h. among_front c c2 c1 h) (λ c h. elim (among_either c c2 c1 h) [ inl x ↦ inr x | inr x ↦ inl x ]) a b)

  labels_or : (n L : ℕ) (P1 P2 : List Task → Type 0) (l1 l2 ls : List Entry) → ls ≡ l2 ++ l1 → Covers n P1 (λ c. HasEntry L c l1) → Covers n P2 (λ c. HasEntry L c l2) → Covers n (λ k. P1 k ⊎ P2 k) (λ c. HasEntry L c ls)
  labels_or n L P1 P2 l1 l2 ls e a b =
      subst (λ xs. Covers n (λ k. P1 k ⊎ P2 k) (λ c. HasEntry L c xs)) (sym e) (covers_or n P1 P2 _ _ (λ c. HasEntry L c (l2 ++ l1)) (λ c h. entries_back L c l2 l1 h) (λ c h. entries_front L c l2 l1 h) (λ c h. elim (entries_either L c l2 l1 h) [ inl x ↦ inr x | inr x ↦ inl x ]) a b)

  -- the same said of a list of continuations
  covers_same : (n : ℕ) (P1 P2 : List Task → Type 0) (Q : ℕ → Type 0) → ((k : List Task) → P1 k → P2 k) → ((k : List Task) → P2 k → P1 k) → Covers n P1 Q → Covers n P2 Q
  covers_same n P1 P2 Q to from c = record { each = λ k p. c.each k (from k p); only = λ b q. let a = c.only b q in (a.0, to a.0 a.1, a.2) }

  covers_both : (n : ℕ) (xs ys : List (List Task)) (Q : ℕ → Type 0) → Covers n (λ k. Among k xs ⊎ Among k ys) Q → Covers n (λ k. Among k (xs ++ ys)) Q
  covers_both n xs ys Q c = covers_same n (λ k. Among k xs ⊎ Among k ys) (λ k. Among k (xs ++ ys)) Q (λ k p. elim p [ inl a ↦ among_front k xs ys a | inr a ↦ among_back k xs ys a ]) (λ k p. among_either k xs ys p) c

  cases_both : (n : ℕ) (xs ys : List (List Task)) (c1 c2 cs : List ℕ) → cs ≡ c2 ++ c1 → Covers n (λ k. Among k xs) (λ c. Among c c1) → Covers n (λ k. Among k ys) (λ c. Among c c2) → Covers n (λ k. Among k (xs ++ ys)) (λ c. Among c cs)
  cases_both n xs ys c1 c2 cs e a b = covers_both n xs ys (λ c. Among c cs) (cases_or n (λ k. Among k xs) (λ k. Among k ys) c1 c2 cs e a b)

  labels_both : (n L : ℕ) (xs ys : List (List Task)) (l1 l2 ls : List Entry) → ls ≡ l2 ++ l1 → Covers n (λ k. Among k xs) (λ c. HasEntry L c l1) → Covers n (λ k. Among k ys) (λ c. HasEntry L c l2) → Covers n (λ k. Among k (xs ++ ys)) (λ c. HasEntry L c ls)
  labels_both n L xs ys l1 l2 ls e a b = covers_both n xs ys (λ c. HasEntry L c ls) (labels_or n L (λ k. Among k xs) (λ k. Among k ys) l1 l2 ls e a b)

  -- a label, if it is that one
  covers_if_so : (n L M : ℕ) (k : List Task) (Q : ℕ → Type 0) → Covers n (λ k'. (M ≡ L) × (k' ≡ k)) Q → Covers n (λ k'. Among k' (if_so (M == L) k)) Q
  covers_if_so n L M k Q c = covers_same n (λ k'. (M ≡ L) × (k' ≡ k)) (λ k'. Among k' (if_so (M == L) k)) Q (λ k' p. if_so_has (M == L) (M ≡ L) k' k (λ e. eq-eqb M L e) p.0 p.1) (λ k' p. of_if_so (M == L) (M ≡ L) k' k (λ e. eqb-true M L e) p) c

  switch_entry : (n : ℕ) (e : Row) (x : Flow) (k : List Task) (b v next : ℕ) (cx targets : List ℕ) → FitsRow (Has g) e v b → Has g v [] (ToAny targets) → targets ≡ cx ++ if_so (not (has_default x)) next → Covers n (λ h. Among h (cases_at x (Behind ∷ k))) (λ c. Among c cx) → Represents n k next → Represents n (Run (Switch e x) ∷ k) b
  switch_entry n e x k b v next cx targets f h t cov r =
      selects n (Run (Switch e x) ∷ k) P (Happens e) b v targets (λ l k' a. a) (λ l k' a q. (a, q)) (row_forward g e v b f) (λ T w. row_back g e v b n T f w) h (subst (λ xs. Covers n P (λ c. Among c xs)) (sym t) (all (has_default x) refl)) (λ l a. from_ahead (Run (Switch e x) ∷ k) some.0 (Happens e) (λ w y. (y, some.1)) l (ahead_maps (Happens e) (Happens e) Nothing (From some.0) (λ w y. y) (λ w y. subst (From some.0) (sym y) (from_nil some.0)) l a))
    where
      P : List Task → Type 0
      P k' = Among k' (cases_at x (Behind ∷ k)) ⊎ ((has_default x ≡ false) × (k' ≡ k))

      some_by : (d : Bool) → has_default x ≡ d → (k' : List Task) × P k'
      some_by true q = let c = default_case x q (Behind ∷ k) in (c.0, inl c.1)
      some_by false q = (k, inr (q, refl))

      some : (k' : List Task) × P k'
      some = some_by (has_default x) refl

      all : (d : Bool) → has_default x ≡ d → Covers n P (λ c. Among c (cx ++ if_so (not d) next))
      all true q = subst (λ xs. Covers n P (λ c. Among c xs)) (sym (append-nil cx)) (record { each = λ k' p. elim p [ inl y ↦ cov.each k' y | inr y ↦ (let bad : false ≡ true = sym y.0 ∙ q in cc) ]; only = λ c p. let o = cov.only c p in (o.0, inl o.1, o.2) })
      all false q =
          covers_or n (λ h. Among h (cases_at x (Behind ∷ k))) (λ k'. (has_default x ≡ false) × (k' ≡ k)) (λ c. Among c cx) (λ c. Among c (next ∷ [])) (λ c. Among c (cx ++ next ∷ [])) (λ c p. among_front c cx (next ∷ []) p) (λ c p. among_back c cx (next ∷ []) p) (λ c p. among_either c cx (next ∷ []) p) cov
          (record { each = λ k' p. (next, inl refl, subst (λ z. Represents n z next) (sym p.1) r); only = λ c p. elim p [ inl y ↦ (k, (q, refl), subst (Represents n k) (sym y) r) | inr y ↦ absurd y ] })

  mutual
    pub represents : (J : ℕ → ℕ → Type 0) (s : Flow) (next brk cont b : ℕ) (cs : List ℕ) (ls : List Entry) → Built (Has g) J s next brk cont b cs ls → (n : ℕ) (k : List Task) → Represents n k next → Represents n (after_break k) brk → Represents n (after_continue k) cont → Gotos n J → Done n s k b cs ls
    represents J (Does e) next brk cont b cs ls h n k r rb rc j =
        plain n (Does e) k b cs ls h.1 h.2 (λ k' x. x) (λ L k' x. x) (does n (Run (Does e) ∷ k) k (Happens e) b next (λ l k' a. a) (λ w a. (a, refl)) (row_forward g e next b h.0) (λ T w. row_back g e next b n T h.0 w) r)
    represents J (Block ss) next brk cont b cs ls h n k r rb rc j =
        let d = represents_row J ss next brk cont b cs ls h n k r rb rc j in
        record {
          entry = silent n (Run (Block ss) ∷ k) (in_order ss k) b (λ l k' a. a) (refl, refl) d.entry;
          cases = d.cases;
          labels = d.labels;
        }
    represents J (If c x y) next brk cont b cs ls h n k r rb rc j =
        let dy = represents J y next brk cont h.1 h.3 h.5 h.6 n k r rb rc j in
        let dx = represents J x next brk cont h.0 h.2 h.4 h.7 n k r rb rc j in
        record {
          entry = if_case n c x y k b h.0 h.1 (Run (If c x y) ∷ k) (λ l k' a. a) (λ l k' a. a) h.8 dx.entry dy.entry;
          cases = cases_both n (cases_at x k) (cases_at y k) h.2 h.3 cs h.9 dx.cases dy.cases;
          labels = λ L. labels_both n L (labels_at L x k) (labels_at L y k) h.4 h.5 ls h.10 (dx.labels L) (dy.labels L);
        }
    represents J (While c x) next brk cont b cs ls h n k r rb rc j =
        let T = Turn (Some c) done x ∷ k in
        let ih = λ (n : ℕ) (rt : Represents n (Turn (Some c) done x ∷ k) b) (rn : Represents n k next) (jn : Gotos n J).
        represents J x b next b h.0 cs ls h.2 n (Turn (Some c) done x ∷ k) rt rn rt jn in
        let at_b = loop J x cs ls (Some c) done h.0 next b b k h.1 refl ih n r j in
        let at_t = silent n (Turn (Some c) done x ∷ k) (Test (Some c) done x ∷ k) b (λ l k' a. a) (refl, refl) at_b in
        let d = ih n at_t r j in
        record {
          entry = silent n (Run (While c x) ∷ k) (Test (Some c) done x ∷ k) b (λ l k' a. a) (refl, refl) at_b;
          cases = d.cases;
          labels = d.labels;
        }
    represents J (Do x c) next brk cont b cs ls h n k r rb rc j =
        let ih = λ (n : ℕ) (rt : Represents n (Turn (Some c) done x ∷ k) h.0) (rn : Represents n k next) (jn : Gotos n J).
        represents J x h.0 next h.0 b cs ls h.2 n (Turn (Some c) done x ∷ k) rt rn rt jn in
        let at_h = loop J x cs ls (Some c) done b next h.0 h.0 k h.1 refl ih n r j in
        let at_t = silent n (Turn (Some c) done x ∷ k) (Test (Some c) done x ∷ k) h.0 (λ l k' a. a) (refl, refl) at_h in
        let d = ih n at_t r j in
        record {
          entry = silent n (Run (Do x c) ∷ k) (Run x ∷ Turn (Some c) done x ∷ k) b (λ l k' a. a) (refl, refl) d.entry;
          cases = d.cases;
          labels = d.labels;
        }
    represents J (For i c u x) next brk cont b cs ls h n k r rb rc j =
        let ih = λ (n : ℕ) (rt : Represents n (Turn c u x ∷ k) h.1) (rn : Represents n k next) (jn : Gotos n J).
        represents J x h.1 next h.1 h.2 cs ls h.6 n (Turn c u x ∷ k) rt rn rt jn in
        let at_h = loop J x cs ls c u h.2 next h.0 h.1 k h.5 h.4 ih n r j in
        let at_t = does n (Turn c u x ∷ k) (Test c u x ∷ k) (Happens u) h.1 h.0 (λ l k' a. a) (λ w a. (a, refl)) (row_forward g u h.0 h.1 h.4) (λ T w. row_back g u h.0 h.1 n T h.4 w) at_h in
        let d = ih n at_t r j in
        record {
          entry = does n (Run (For i c u x) ∷ k) (Test c u x ∷ k) (Happens i) b h.0 (λ l k' a. a) (λ w a. (a, refl)) (row_forward g i h.0 b h.3) (λ T w. row_back g i h.0 b n T h.3 w) at_h;
          cases = d.cases;
          labels = d.labels;
        }
    represents J (Switch e x) next brk cont b cs ls h n k r rb rc j =
        let v = h.0 in
        let behind = silent n (Behind ∷ k) k next (λ l k' a. a) (refl, refl) r in
        let d = represents J x next next cont h.1 h.2 ls h.6 n (Behind ∷ k) behind r rc j in
        record {
          entry = switch_entry n e x k b v next h.2 h.3 h.4 h.5 h.7 d.cases r;
          cases = subst (λ xs. Covers n (λ k'. ⊥) (λ c. Among c xs)) (sym h.8) (record { each = λ k' q. absurd q; only = λ c q. absurd q });
          labels = d.labels;
        }
    represents J (Case x) next brk cont b cs ls h n k r rb rc j =
        let d = represents J x next brk cont b h.0 ls h.1 n k r rb rc j in
        record {
          entry = silent n (Run (Case x) ∷ k) (Run x ∷ k) b (λ l k' a. a) (refl, refl) d.entry;
          cases = cases_or n (λ k'. k' ≡ Run x ∷ k) (λ k'. Among k' (cases_at x k)) (b ∷ []) h.0 cs h.2 (covers_one n (Run x ∷ k) b d.entry) d.cases;
          labels = d.labels;
        }
    represents J (Default x) next brk cont b cs ls h n k r rb rc j =
        let d = represents J x next brk cont b h.0 ls h.1 n k r rb rc j in
        record {
          entry = silent n (Run (Default x) ∷ k) (Run x ∷ k) b (λ l k' a. a) (refl, refl) d.entry;
          cases = cases_or n (λ k'. k' ≡ Run x ∷ k) (λ k'. Among k' (cases_at x k)) (b ∷ []) h.0 cs h.2 (covers_one n (Run x ∷ k) b d.entry) d.cases;
          labels = d.labels;
        }
    represents J (Label M x) next brk cont b cs ls h n k r rb rc j =
        let d = represents J x next brk cont b cs h.0 h.1 n k r rb rc j in
        record {
          entry = silent n (Run (Label M x) ∷ k) (Run x ∷ k) b (λ l k' a. a) (refl, refl) d.entry;
          cases = d.cases;
          labels = λ L. labels_both n L (if_so (M == L) (Run x ∷ k)) (labels_at L x k) (record { label = M; block = b } ∷ []) h.0 ls h.2 (covers_if_so n L M (Run x ∷ k) _ (covers_label n L M (Run x ∷ k) b d.entry)) (d.labels L);
        }
    represents J (Goto L) next brk cont b cs ls h n k r rb rc j =
        plain n (Goto L) k b cs ls h.1 h.2 (λ k' x. x) (λ M k' x. x) (j L b h.0 k)
    represents J Break next brk cont b cs ls h n k r rb rc j =
        plain n Break k b cs ls h.1 h.2 (λ k' x. x) (λ L k' x. x) (silent n (Run Break ∷ k) (after_break k) b (λ l k' a. a) (refl, refl) (subst (Represents n (after_break k)) (sym h.0) rb))
    represents J Continue next brk cont b cs ls h n k r rb rc j =
        plain n Continue k b cs ls h.1 h.2 (λ k' x. x) (λ L k' x. x) (silent n (Run Continue ∷ k) (after_continue k) b (λ l k' a. a) (refl, refl) (subst (Represents n (after_continue k)) (sym h.0) rc))
    represents J (Return e p) next brk cont b cs ls h n k r rb rc j =
        plain n (Return e p) k b cs ls h.3 h.4 (λ k' x. x) (λ L k' x. x) (returns n (Run (Return e p) ∷ k) e p h.0 b (λ l k' a. a) (λ w a. (a, refl)) h.2 h.1)

    represents_row : (J : ℕ → ℕ → Type 0) (ss : Flows) (next brk cont b : ℕ) (cs : List ℕ) (ls : List Entry) → BuiltIn (Has g) J ss next brk cont b cs ls → (n : ℕ) (k : List Task) → Represents n k next → Represents n (after_break k) brk → Represents n (after_continue k) cont → Gotos n J → RowDone n ss k b cs ls
    represents_row J no_flows next brk cont b cs ls h n k r rb rc j = record {
      entry = subst (Represents n k) (sym h.0) r;
      cases = subst (λ xs. Covers n (λ k'. ⊥) (λ c. Among c xs)) (sym h.1) (record { each = λ k' q. absurd q; only = λ c q. absurd q });
      labels = λ L. subst (λ xs. Covers n (λ k'. ⊥) (λ c. HasEntry L c xs)) (sym h.2) (record { each = λ k' q. absurd q; only = λ c q. absurd q });
    }
    represents_row J (flows x y) next brk cont b cs ls h n k r rb rc j =
        let dy = represents_row J y next brk cont h.0 h.2 h.4 h.5 n k r rb rc j in
        let dx = represents J x h.0 brk cont b h.1 h.3 h.6 n (in_order y k) dy.entry (subst (λ q. Represents n q brk) (sym (break_row y k)) rb) (subst (λ q. Represents n q cont) (sym (continue_row y k)) rc) j in
        record {
          entry = dx.entry;
          cases = cases_both n (cases_at x (in_order y k)) (cases_in y k) h.1 h.2 cs h.7 dx.cases dy.cases;
          labels = λ L. labels_both n L (labels_at L x (in_order y k)) (labels_in L y k) h.3 h.4 ls h.8 (dx.labels L) (dy.labels L);
        }

  -- a `goto`, whose block leads to its labels: one block and one step more
  jumps_to : (n L b : ℕ) (bs : List ℕ) (k : List Task) → Has g b [] (ToAny bs) → Covers n (λ h. Among h (labels_at L body whole)) (λ c. Among c bs) → Represents (suc n) (Run (Goto L) ∷ k) b
  jumps_to n L b bs k e cov = record { forward = go; back = λ l w. back l (opens n b bs l e w) }
    where
      go : (l : List Item) → Runs body whole (suc n) (Run (Goto L) ∷ k) l → (m : ℕ) × Walks g m b l
      go l (inl w) = (0, w)
      go l (inr (x, y, k', s, w, q)) =
          let c = cov.each k' s.1 in
          let v = c.2.forward y w in
          let o = (block_to g b [] bs c.0 e c.1).by v.0 y v.1 in
          (o.0, subst (Walks g o.0 b) (sym (q ∙ ap (λ z. z ++ y) s.0)) o.1)

      back : (l : List Item) → (l ≡ []) ⊎ ((c : ℕ) × Among c bs × Walks g n c l) → From (Run (Goto L) ∷ k) l
      back l (inl h) = subst (From (Run (Goto L) ∷ k)) (sym h) (from_nil _)
      back l (inr (c, i, w)) =
          let a = cov.only c i in
          from_ahead (Run (Goto L) ∷ k) a.0 Nothing (λ v z. (z, a.1)) l (record { first = []; then = l; rest = []; is_first = refl; is_then = a.2.back l w; whole = append-nil l })

module _ (g : List BasicBlock) (body : Flow) (exit : Event) (entry : ℕ) (is : IsGraphOf g body exit entry) where
  abbrev behind : List Task
  behind = Close exit ∷ []

  rep_last : (n : ℕ) → Represents g body behind n behind is.last
  rep_last n = returns g body behind n behind done exit is.last is.last
      (λ l k' a. (([], l, refl, a.0, refl), a.1)) (λ w a. (a.4 ∙ ap (λ x. x ++ a.1) a.2 ∙ a.3, refl)) refl is.at_last

  rep_dead : (n : ℕ) → Represents g body behind n (Nowhere ∷ []) is.dead
  rep_dead n = record { forward = λ l h. (0, no_way n l h); back = back n }
    where
      no_way : (n : ℕ) (l : List Item) → Runs body behind n (Nowhere ∷ []) l → l ≡ []
      no_way zero l h = h
      no_way (suc n) l (inl h) = h
      no_way (suc n) l (inr h) = absurd h.3

      back : (n : ℕ) → Within g n is.dead (TraceFrom body behind (Nowhere ∷ []))
      back zero l w = (0, [], append-nil l ∙ w)
      back (suc n) l w = (0, [], append-nil l ∙ elim (opens g body behind n is.dead [] l is.at_dead w) [ inl e ↦ e | inr a ↦ absurd a.1 ])

  all_done : (n : ℕ) → Gotos g body behind n (GotoAt g is.labels) → Done g body behind n body behind entry is.cases is.labels
  all_done n j = represents g body behind (GotoAt g is.labels) body is.last is.dead is.dead entry is.cases is.labels is.built n behind (rep_last n) (rep_dead n) (rep_dead n) j

  gotos : (n : ℕ) → Gotos g body behind n (GotoAt g is.labels)
  gotos zero L b i k = at_first g body behind _ b
  gotos (suc n) L b f k =
      let cov = (all_done n (gotos n)).labels L in
      jumps_to g body behind n L b f.0 k f.1 (record {
        each = λ k' p. let a = cov.each k' p in (a.0, f.3 a.0 a.1, a.2);
        only = λ c q. cov.only c (f.2 c q);
      })

  pub graph_traces : (l : List Item) → BodyTrace body exit l ↔ GraphTrace g entry l
  graph_traces l = (there, here)
    where
      there : BodyTrace body exit l → GraphTrace g entry l
      there t = let w = (all_done t.0 (gotos t.0)).entry.forward (l ++ t.1) t.2 in (w.0, t.1, w.1)

      here : GraphTrace g entry l → BodyTrace body exit l
      here t =
          let w = (all_done t.0 (gotos t.0)).entry.back (l ++ t.1) t.2 in
          (w.0, t.1 ++ w.1, subst (Runs body behind w.0 (Run body ∷ behind)) (append_assoc l t.1 w.1) w.2)
