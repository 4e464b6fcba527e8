-- The walks of a body by steps are its traces, with the end behind an exit.
use Rattle.std.proofs.Common.{◌≡◌, ℕ, zero, suc, Bool, true, false, List, [], ◌∷◌, ◌++◌, inl, inr, refl, sym, ap, ◌∙◌, subst, append_assoc}
use Rattle.std.proofs.lemmas.List.{append-nil}
use Rattle.c_tree.specs.Node.{Node}
use Rattle.path_theory.specs.Model.{Model}
use Rattle.path_theory.specs.Trails.{Trail, Start, More}
use Rattle.path_theory.specs.Marks.{Mark, EventMark, CallMark, Bodies, Marked, MarkedWalk, MarkedStart, MarkedSkip, MarkedGo, MarkedCall, HasMarked}
use Rattle.flow_graph.specs.CPaths.Events.{Event, Exited, Item}
use Rattle.flow_graph.specs.CPaths.Facts.{Facts}
use Rattle.flow_graph.specs.CPaths.Flow.{Flow}
use Rattle.flow_graph.specs.CPaths.TreeFlow.{flow_of}
use Rattle.flow_graph.specs.CPaths.Tasks.{Task, Run, Close}
use Rattle.flow_graph.specs.CPaths.Steps.{Step}
use Rattle.flow_graph.specs.CPaths.Traces.{Runs, Definition, Trace}
use Rattle.flow_graph.specs.CPaths.Exits.{is_exit}
use Rattle.flow_graph.specs.CPaths.Bodies.{Pending, step_bodies, mark_of, marked_then, ends_in_exit}

pub ends_snoc : (b : Bool) (w : List Item) (i : Item) → ends_in_exit b (w ++ i ∷ []) ≡ is_exit i
ends_snoc b [] i = refl
ends_snoc b (j ∷ w) i = ends_snoc (is_exit j) w i

-- n steps from k give y and lead to h
abbrev Leads : (body : Flow) (whole : List Task) → ℕ → List Task → List Item → List Task → Type 0
Leads body whole zero k y h = (y ≡ []) × (h ≡ k)
Leads body whole (suc n) k y h = (a b : List Item) × (j : List Task) × Step body whole k a j × Leads body whole n j b h × (y ≡ a ++ b)

leads_runs : (body : Flow) (whole : List Task) (n : ℕ) (k : List Task) (y : List Item) (h : List Task) → Leads body whole n k y h → Runs body whole n k y
leads_runs body whole zero k y h l = l.0
leads_runs body whole (suc n) k y h l = inr (l.0, l.1, l.2, l.3, leads_runs body whole n l.2 l.1 h l.4, l.5)

leads_step : (body : Flow) (whole : List Task) (n : ℕ) (k : List Task) (y : List Item) (h : List Task) (a : List Item) (j : List Task) → Leads body whole n k y h → Step body whole h a j → Leads body whole (suc n) k (y ++ a) j
leads_step body whole zero k y h a j l s = (a, [], j, subst (λ z. Step body whole z a j) l.1 s, (refl, refl), ap (λ z. z ++ a) l.0 ∙ sym (append-nil a))
leads_step body whole (suc n) k y h a j l s =
    (l.0, l.1 ++ a, l.2, l.3, leads_step body whole n l.2 l.1 h a j l.4 s, ap (λ z. z ++ a) l.5 ∙ append_assoc l.0 l.1 a)

module _ (M : Model) (facts : M.Fn → Facts) (definition : M.Fn → Definition) (event : M.Fn → Event → M.Event) (site : M.Fn → Node → M.Site) where
  abbrev marks : M.Fn → Trail (Mark M.Event M.Site) → List Item → Trail (Mark M.Event M.Site)
  marks f t w = marked_then M facts definition event site f t w

  abbrev mark : M.Fn → Item → Mark M.Event M.Site
  mark f i = mark_of M facts definition event site f i

  pub marks_snoc : (f : M.Fn) (t : Trail (Mark M.Event M.Site)) (w : List Item) (i : Item) → marks f t (w ++ i ∷ []) ≡ More (marks f t w) (mark f i)
  marks_snoc f t [] i = refl
  marks_snoc f t (j ∷ w) i = marks_snoc f (More t (mark f j)) w i

  -- the walks of bodies are these lists, and those that end with the frame end in an exit
  pub record WalksAre (B : Bodies M) (f : M.Fn) (T : List Item → Type 0) : Type 0 where
    pub walked : (l : Marked M) (p : B.Place) → MarkedWalk M B f l p → (w : List Item) × (l ≡ marks f Start w) × T w × (B.Ends f p → ends_in_exit false w ≡ true)
    pub walks : (w : List Item) → T w → (p : B.Place) × MarkedWalk M B f (marks f Start w) p × (ends_in_exit false w ≡ true → B.Ends f p)

  -- bodies with the same lists have the same marked walks
  pub same_walks : (B C : Bodies M) (T U : M.Fn → List Item → Type 0) → ((f : M.Fn) (w : List Item) → T f w → U f w) → ((f : M.Fn) → WalksAre B f (T f)) → ((f : M.Fn) → WalksAre C f (U f)) → HasMarked M B C
  same_walks B C T U to b c = record {
    traces = λ f l p walk.
        let x = (b f).walked l p walk in
        let y = (c f).walks x.0 (to f x.0 x.2) in
        (y.0, subst (λ z. MarkedWalk M C f z y.0) (sym x.1) y.1);
    whole = λ f l p walk ends.
        let x = (b f).walked l p walk in
        let y = (c f).walks x.0 (to f x.0 x.2) in
        (y.0, subst (λ z. MarkedWalk M C f z y.0) (sym x.1) y.1, y.2 (x.3 ends));
  }

  abbrev B : Bodies M
  B = step_bodies M facts definition event site

  module _ (f : M.Fn) where
    abbrev body : Flow
    body = flow_of (facts f) (definition f).place (definition f).body

    abbrev whole : List Task
    whole = Close (Exited (definition f).place (definition f).close) ∷ []

    record At (l : Marked M) (p : Pending) : Type 0 where
      word : List Item
      is : l ≡ marks f Start word
      last : p.last ≡ ends_in_exit false word
      count : ℕ
      leads : Leads body whole count (Run body ∷ whole) (word ++ p.rest) p.behind

    go_on : (l : Marked M) (p q : Pending) (i : Item) → At l p → p.rest ≡ i ∷ q.rest → q.behind ≡ p.behind → q.last ≡ is_exit i → At (More l (mark f i)) q
    go_on l p q i a r b e = record {
      word = a.word ++ i ∷ [];
      is = ap (λ t. More t (mark f i)) a.is ∙ sym (marks_snoc f Start a.word i);
      last = e ∙ sym (ends_snoc false a.word i);
      count = a.count;
      leads = subst (λ y. Leads body whole a.count (Run body ∷ whole) y q.behind) (ap (λ z. a.word ++ z) r ∙ sym (append_assoc a.word (i ∷ []) q.rest))
          (subst (λ h. Leads body whole a.count (Run body ∷ whole) (a.word ++ p.rest) h) (sym b) a.leads);
    }

    at : (l : Marked M) (p : Pending) → MarkedWalk M B f l p → At l p
    at l p MarkedStart = record { word = []; is = refl; last = refl; count = 0; leads = (refl, refl) }
    at l q (MarkedSkip {p = p} walk s) =
        let a = at l p walk in
        record {
          word = a.word;
          is = a.is;
          last = s.1 ∙ a.last;
          count = suc a.count;
          leads = subst (λ y. Leads body whole (suc a.count) (Run body ∷ whole) y q.behind) (ap (λ z. (a.word ++ z) ++ q.rest) s.0 ∙ ap (λ z. z ++ q.rest) (append-nil a.word))
              (leads_step body whole a.count (Run body ∷ whole) (a.word ++ p.rest) p.behind q.rest q.behind a.leads s.2);
        }
    at _ q (MarkedGo {l = l} {p = p} walk e s) =
        subst (λ x. At (More l (EventMark x)) q) (sym s.4) (go_on l p q (EventMark s.0) (at l p walk) s.1 s.2 s.3)
    at _ q (MarkedCall {l = l} {p = p} walk c s) =
        subst (λ x. At (More l (CallMark x)) q) (sym s.4) (go_on l p q (CallMark s.0) (at l p walk) s.1 s.2 s.3)

    -- a walk that has come so far goes on by the list
    abbrev Goes_on : Marked M → Bool → List Item → Type 0
    Goes_on t b w = (p : Pending) × MarkedWalk M B f (marks f t w) p × (p.last ≡ ends_in_exit b w)

    pass : (x y : List Item) (k : List Task) → ((t : Marked M) (b : Bool) (w r : List Item) → MarkedWalk M B f t (record { last = b; rest = []; behind = k }) → w ++ r ≡ y → Goes_on t b w)
        → (t : Marked M) (b : Bool) (w r : List Item) → MarkedWalk M B f t (record { last = b; rest = x; behind = k }) → w ++ r ≡ x ++ y → Goes_on t b w
    pass [] y k next t b w r walk e = next t b w r walk e
    pass (i ∷ x) y k next t b [] r walk e = (record { last = b; rest = i ∷ x; behind = k }, walk, refl)
    pass (i ∷ x) y k next t b (j ∷ w) r walk e =
        let parts = same_front j i (w ++ r) (x ++ y) e in
        subst (λ z. Goes_on t b (z ∷ w)) (sym parts.0) (pass x y k next (More t (mark f i)) (is_exit i) w r (over i x k t b walk) parts.1)
      where
        same_front : (j i : Item) (v z : List Item) → j ∷ v ≡ i ∷ z → (j ≡ i) × (v ≡ z)
        same_front j i v z e = (cc, cc)

        over : (i : Item) (x : List Item) (k : List Task) (t : Marked M) (b : Bool) → MarkedWalk M B f t (record { last = b; rest = i ∷ x; behind = k }) → MarkedWalk M B f (More t (mark f i)) (record { last = is_exit i; rest = x; behind = k })
        over (EventMark e) x k t b walk = MarkedGo walk (event f e) (e, refl, refl, refl, refl)
        over (CallMark n) x k t b walk = MarkedCall walk (site f n) (n, refl, refl, refl, refl)

    no_more : (w r : List Item) → w ++ r ≡ [] → w ≡ []
    no_more [] r e = refl
    no_more (x ∷ w) r e = cc

    from : (n : ℕ) (k : List Task) (y : List Item) → Runs body whole n k y → (t : Marked M) (b : Bool) (w r : List Item) → MarkedWalk M B f t (record { last = b; rest = []; behind = k }) → w ++ r ≡ y → Goes_on t b w
    from zero k y e t b w r walk q = subst (Goes_on t b) (sym (no_more w r (q ∙ e))) (record { last = b; rest = []; behind = k }, walk, refl)
    from (suc n) k y (inl e) t b w r walk q = subst (Goes_on t b) (sym (no_more w r (q ∙ e))) (record { last = b; rest = []; behind = k }, walk, refl)
    from (suc n) k y (inr (x, z, h, s, run, e)) t b w r walk q =
        pass x z h (from n h z run) t b w r (MarkedSkip walk (refl, refl, s)) (q ∙ e)

    pub step_walks : WalksAre B f (Trace (facts f) (definition f))
    step_walks = record {
      walked = λ l p walk.
          let a = at l p walk in
          (a.word, a.is, (a.count, p.rest, leads_runs body whole a.count (Run body ∷ whole) (a.word ++ p.rest) p.behind a.leads), λ e. sym a.last ∙ e);
      walks = λ w t.
          let g = from t.0 (Run body ∷ whole) (w ++ t.1) t.2 Start false w t.1 MarkedStart refl in
          (g.0, g.1, λ e. g.2 ∙ e);
    }
