-- Walks through one block, and from one block to another.
use Rattle.std.proofs.Common.{◌≡◌, ℕ, zero, suc, List, [], ◌∷◌, ◌++◌, inl, inr, Option, Some, None, refl, sym, ap, ◌∙◌, subst, append_assoc}
use Rattle.std.specs.Prelude.{slice_get}
use Rattle.std.proofs.lemmas.List.{append-nil}
use Rattle.c_tree.specs.Node.{Node}
use Rattle.path_theory.specs.Marks.{EventMark, CallMark}
use Rattle.flow_graph.specs.CPaths.Membership.{Among}
use Rattle.flow_graph.specs.CPaths.Events.{Event, Item}
use Rattle.flow_graph.specs.CPaths.Words.{Nothing, Only, Then, Either}
use Rattle.flow_graph.specs.CPaths.Graphs.{Block, Ending, ToAny, Calls, Stops, marks_of, Leaves, AtBlock, Walks}
use Rattle.flow_graph.specs.CPaths.Fragments.{Has, ItemAt}
use Rattle.flow_graph.proofs.CPaths.Ahead.{Ahead}

pub marks_append : (xs ys : List Event) → marks_of (xs ++ ys) ≡ marks_of xs ++ marks_of ys
marks_append [] ys = refl
marks_append (x ∷ xs) ys = ap (λ z. EventMark x ∷ z) (marks_append xs ys)

pub leaves_maps : (f h : ℕ → List Item → Type 0) → ((b : ℕ) (l : List Item) → f b l → h b l) → (e : Ending) (l : List Item) → Leaves f e l → Leaves h e l
leaves_maps f h m (ToAny bs) l (inl e) = inl e
leaves_maps f h m (ToAny bs) l (inr w) = inr (w.0, w.1, m w.0 l w.2)
leaves_maps f h m (Calls s b) l (inl e) = inl e
leaves_maps f h m (Calls s b) l (inr w) = inr (w.0, m b w.0 w.1, w.2)
leaves_maps f h m Stops l e = e

at_block_maps : (f h : ℕ → List Item → Type 0) → ((b : ℕ) (l : List Item) → f b l → h b l) → (o : Option Block) (l : List Item) → AtBlock f o l → AtBlock h o l
at_block_maps f h m None l e = e
at_block_maps f h m (Some s) l (inl e) = inl e
at_block_maps f h m (Some s) l (inr w) = inr (w.0, leaves_maps f h m s.ending w.0 w.1, w.2)

at_block_nil : (f : ℕ → List Item → Type 0) (o : Option Block) → AtBlock f o []
at_block_nil f None = refl
at_block_nil f (Some s) = inl refl

module _ (g : List Block) where
  pub walks_nil : (n b : ℕ) → Walks g n b []
  walks_nil zero b = refl
  walks_nil (suc n) b = at_block_nil (Walks g n) (slice_get g b)

  pub walks_more : (n b : ℕ) (l : List Item) → Walks g n b l → Walks g (suc n) b l
  walks_more zero b l h = subst (λ m. Walks g 1 b m) (sym h) (walks_nil 1 b)
  walks_more (suc n) b l h = at_block_maps (Walks g n) (Walks g (suc n)) (λ c m w. walks_more n c m w) (slice_get g b) l h

  -- each walk from c goes on from one from b that gives w
  pub record Reaches (w : List Item) (b c : ℕ) : Type 0 where
    pub by : (n : ℕ) (r : List Item) → Walks g n c r → (m : ℕ) × Walks g m b (w ++ r)

  -- so it does for each list of the set
  abbrev pub Forward : (A : List Item → Type 0) (b c : ℕ) → Type 0
  Forward A b c = (w : List Item) → A w → Reaches w b c

  -- whatever a walk of at most n blocks from b gives is in T
  abbrev pub Within : ℕ → ℕ → (List Item → Type 0) → Type 0
  Within n b T = (l : List Item) → Walks g n b l → T l

  pub opened : (n b : ℕ) (s : Block) (l : List Item) → slice_get g b ≡ Some s → Walks g (suc n) b l → AtBlock (Walks g n) (Some s) l
  opened n b s l e h = subst (λ o. AtBlock (Walks g n) o l) e h

  pub closed : (n b : ℕ) (s : Block) (l : List Item) → slice_get g b ≡ Some s → AtBlock (Walks g n) (Some s) l → Walks g (suc n) b l
  closed n b s l e h = subst (λ o. AtBlock (Walks g n) o l) (sym e) h

  -- one block
  pub block_to : (b : ℕ) (es : List Event) (bs : List ℕ) (c : ℕ) → Has g b es (ToAny bs) → Among c bs → Reaches (marks_of es) b c
  block_to b es bs c e i = record { by = λ n r w. (suc n, closed n b (record { events = es; ending = ToAny bs }) (marks_of es ++ r) e (inr (r, inr (c, i, w), refl))) }

  pub forward_block : (b : ℕ) (i : Event) (bs : List ℕ) (c : ℕ) → Has g b (i ∷ []) (ToAny bs) → Among c bs → Forward (Only (EventMark i)) b c
  forward_block b i bs c e h w a = subst (λ v. Reaches v b c) (sym a) (block_to b (i ∷ []) bs c e h)

  pub item_forward : (i : Item) (b v : ℕ) → ItemAt (Has g) i v b → Forward (Only i) b v
  item_forward (EventMark e) b v h w a = forward_block b e (v ∷ []) v h (inl refl) w a
  item_forward (CallMark s) b v h w a = subst (λ u. Reaches u b v) (sym a)
      (record { by = λ m r k. (suc m, closed m b (record { events = []; ending = Calls s v }) (CallMark s ∷ r) h (inr (CallMark s ∷ r, inr (r, k, refl), refl))) })

  pub reaches_then : (x y : List Item) (b c d : ℕ) → Reaches x b c → Reaches y c d → Reaches (x ++ y) b d
  reaches_then x y b c d p q = record {
    by = λ n r w.
        let v = q.by n r w in
        let u = p.by v.0 (y ++ r) v.1 in
        (u.0, subst (Walks g u.0 b) (sym (append_assoc x y r)) u.1);
  }

  pub stay : (b : ℕ) → Forward Nothing b b
  stay b w e = subst (λ v. Reaches v b b) (sym e) (record { by = λ n r h. (n, h) })

  pub stay_back : (n b : ℕ) (T : List Item → Type 0) → Within n b T → Within n b (Ahead Nothing T)
  stay_back n b T f l h = record { first = []; then = l; rest = []; is_first = refl; is_then = f l h; whole = append-nil l }

  pub forward_then : (A B : List Item → Type 0) (b c d : ℕ) → Forward A b c → Forward B c d → Forward (Then A B) b d
  forward_then A B b c d f h w a = subst (λ v. Reaches v b d) (sym a.4) (reaches_then a.0 a.1 b c d (f a.0 a.2) (h a.1 a.3))

  pub forward_either : (A B : List Item → Type 0) (b c : ℕ) → Forward A b c → Forward B b c → Forward (Either A B) b c
  forward_either A B b c f h w (inl a) = f w a
  forward_either A B b c f h w (inr a) = h w a

  stop_at : (es : List Item) (T : List Item → Type 0) (l : List Item) → l ≡ [] → T [] → Ahead (λ w. w ≡ es) T l
  stop_at es T l e t = record { first = es; then = []; rest = es; is_first = refl; is_then = t; whole = ap (λ m. m ++ es) e ∙ sym (append-nil es) }

  after_block : (n : ℕ) (es : List Event) (bs : List ℕ) (T : List Item → Type 0) (l : List Item) → T [] → ((c : ℕ) → Among c bs → Within n c T) → AtBlock (Walks g n) (Some (record { events = es; ending = ToAny bs })) l → Ahead (λ w. w ≡ marks_of es) T l
  after_block n es bs T l t f (inl e) = stop_at (marks_of es) T l e t
  after_block n es bs T l t f (inr (r, inl e, q)) =
      record { first = marks_of es; then = []; rest = []; is_first = refl; is_then = t; whole = append-nil l ∙ q ∙ ap (λ m. marks_of es ++ m) e }
  after_block n es bs T l t f (inr (r, inr (c, i, w), q)) =
      record { first = marks_of es; then = r; rest = []; is_first = refl; is_then = f c i r w; whole = append-nil l ∙ q }

  pub block_back : (n b : ℕ) (es : List Event) (bs : List ℕ) (T : List Item → Type 0) → Has g b es (ToAny bs) → T [] → ((c : ℕ) → Among c bs → Within n c T) → Within n b (Ahead (λ w. w ≡ marks_of es) T)
  block_back zero b es bs T e t f l w = stop_at (marks_of es) T l w t
  block_back (suc n) b es bs T e t f l w =
      after_block n es bs T l t (λ c i r h. f c i r (walks_more n c r h)) (opened n b (record { events = es; ending = ToAny bs }) l e w)

  -- a block that leads to one other
  pub one_back : (n b : ℕ) (i : Event) (c : ℕ) (T : List Item → Type 0) → Has g b (i ∷ []) (ToAny (c ∷ [])) → Within n c T → Within n b (Ahead (Only (EventMark i)) T)
  one_back n b i c T e f = block_back n b (i ∷ []) (c ∷ []) T e (f [] (walks_nil n c)) (only_in c f)
    where
      only_in : (c : ℕ) → Within n c T → (d : ℕ) → Among d (c ∷ []) → Within n d T
      only_in c f d (inl e) = subst (λ x. Within n x T) (sym e) f
      only_in c f d (inr x) = absurd x

  after_call : (n : ℕ) (s : Node) (v : ℕ) (T : List Item → Type 0) (l : List Item) → Within n v T → AtBlock (Walks g n) (Some (record { events = []; ending = Calls s v })) l → Ahead (Only (CallMark s)) T l
  after_call n s v T l f (inl e) =
      record { first = CallMark s ∷ []; then = []; rest = CallMark s ∷ []; is_first = refl; is_then = f [] (walks_nil n v); whole = ap (λ m. m ++ CallMark s ∷ []) e }
  after_call n s v T l f (inr (r, inl e, q)) =
      record { first = CallMark s ∷ []; then = []; rest = CallMark s ∷ []; is_first = refl; is_then = f [] (walks_nil n v); whole = ap (λ m. m ++ CallMark s ∷ []) (q ∙ e) }
  after_call n s v T l f (inr (r, inr (x, w, e), q)) =
      record { first = CallMark s ∷ []; then = x; rest = []; is_first = refl; is_then = f x w; whole = append-nil l ∙ q ∙ e }

  call_back : (n b : ℕ) (s : Node) (v : ℕ) (T : List Item → Type 0) → Has g b [] (Calls s v) → Within n v T → Within n b (Ahead (Only (CallMark s)) T)
  call_back zero b s v T e f l w = after_call zero s v T l f (inl w)
  call_back (suc n) b s v T e f l w =
      after_call n s v T l (λ r h. f r (walks_more n v r h)) (opened n b (record { events = []; ending = Calls s v }) l e w)

  pub item_back : (n : ℕ) (i : Item) (b v : ℕ) (T : List Item → Type 0) → ItemAt (Has g) i v b → Within n v T → Within n b (Ahead (Only i) T)
  item_back n (EventMark e) b v T h f = one_back n b e v T h f
  item_back n (CallMark s) b v T h f = call_back n b s v T h f
