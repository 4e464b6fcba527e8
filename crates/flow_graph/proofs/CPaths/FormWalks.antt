-- The walks through the blocks of an expression are its evaluations.
use Rattle.std.proofs.Common.{◌≡◌, ℕ, Bool, true, false, List, [], ◌∷◌, ◌++◌, inl, inr, Option, Some, None, refl, sym, subst}
use Rattle.c_tree.specs.Node.{Node}
use Rattle.flow_graph.specs.CPaths.Membership.{Among}
use Rattle.flow_graph.specs.CPaths.Events.{Item, Branched, branched}
use Rattle.flow_graph.specs.CPaths.Words.{Nothing, Only, Then, Either}
use Rattle.flow_graph.specs.CPaths.Forms.{Form, Plain, Inverts, Keeps, Both, Any, Chooses, Follows, Row, done, operand, item}
use Rattle.flow_graph.specs.CPaths.Evaluation.{Evaluates, Happens}
use Rattle.flow_graph.specs.CPaths.Graphs.{Block, ToAny, Walks}
use Rattle.flow_graph.specs.CPaths.Fragments.{Way, To, ToEither, Has, Split, Fits, FitsRow}
use Rattle.flow_graph.proofs.CPaths.Ahead.{Ahead, ahead_then, ahead_maps, ahead_prefix, ahead_nothing, ahead_or_then, ahead_second, and_value, or_value, choose_value, and_cond, or_cond, choose_cond}
use Rattle.flow_graph.proofs.CPaths.GraphWalks.{walks_nil, Forward, Within, block_to, forward_block, item_forward, reaches_then, stay, stay_back, forward_then, forward_either, block_back, one_back, item_back}

module _ (g : List Block) where
  -- what holds of each place to which an expression leads
  abbrev pub EachEnd : Way → (Option Bool → ℕ → Type 0) → Type 0
  EachEnd (To x) P = P None x
  EachEnd (ToEither y z) P = P (Some true) y × P (Some false) z

  -- the value, and as a condition a branch behind it
  abbrev plain : Node → (List Item → Type 0) → Option Bool → List Item → Type 0
  plain n V None = V
  plain n V (Some t) = Then V (Only (branched n t))

  plain_forward : (n : Node) (V : List Item → Type 0) (way : Way) (v b : ℕ) → Split (Has g) n way v → Forward g V b v → EachEnd way (λ o x. Forward g (plain n V o) b x)
  plain_forward n V (To x) v b s f = subst (Forward g V b) s f
  plain_forward n V (ToEither y z) v b s f =
      let arm = λ (t : Bool) (c x : ℕ) (i : Among c (s.0 ∷ s.1 ∷ [])) (h : Has g c (Branched n t ∷ []) (ToAny (x ∷ []))).
      forward_then g V (Only (branched n t)) b v x f (λ w a. reaches_then g [] w v c x (block_to g v [] _ c s.4 i) (forward_block g c (Branched n t) _ x h (inl refl) w a)) in
      (arm true s.0 y (inl refl) s.2, arm false s.1 z (inr (inl refl)) s.3)

  mutual
    pub fits_forward : (e : Form) (way : Way) (b : ℕ) → Fits (Has g) e way b → EachEnd way (λ o x. Forward g (Evaluates e o) b x)
    fits_forward (Plain n r) (To v) b h = plain_forward n (Happens r) (To v) h.0 b h.1 (row_forward r h.0 b h.2)
    fits_forward (Plain n r) (ToEither y z) b h = plain_forward n (Happens r) (ToEither y z) h.0 b h.1 (row_forward r h.0 b h.2)
    fits_forward (Inverts x r) (To v) b h = forward_then g _ _ b h.0 v (fits_forward x (To h.0) b h.2) (row_forward r v h.0 h.1)
    fits_forward (Inverts x r) (ToEither y z) b h = let f = fits_forward x (ToEither z y) b h in (f.1, f.0)
    fits_forward (Keeps x r) (To v) b h = forward_then g _ _ b h.0 v (fits_forward x (To h.0) b h.2) (row_forward r v h.0 h.1)
    fits_forward (Keeps x r) (ToEither y z) b h = fits_forward x (ToEither y z) b h
    fits_forward (Both x y r) (To v) b h =
        let fx = fits_forward x (ToEither h.1 h.0) b h.4 in
        let fy = fits_forward y (ToEither h.0 h.0) h.1 h.3 in
        forward_then g _ _ b h.0 v (forward_either g _ _ b h.0 fx.1 (forward_then g _ _ b h.1 h.0 fx.0 (forward_either g _ _ h.1 h.0 fy.1 fy.0))) (row_forward r v h.0 h.2)
    fits_forward (Both x y r) (ToEither t f) b h =
        let fx = fits_forward x (ToEither h.0 f) b h.2 in
        let fy = fits_forward y (ToEither t f) h.0 h.1 in
        (forward_then g _ _ b h.0 t fx.0 fy.0, forward_either g _ _ b f fx.1 (forward_then g _ _ b h.0 f fx.0 fy.1))
    fits_forward (Any x y r) (To v) b h =
        let fx = fits_forward x (ToEither h.0 h.1) b h.4 in
        let fy = fits_forward y (ToEither h.0 h.0) h.1 h.3 in
        forward_then g _ _ b h.0 v (forward_either g _ _ b h.0 fx.0 (forward_then g _ _ b h.1 h.0 fx.1 (forward_either g _ _ h.1 h.0 fy.1 fy.0))) (row_forward r v h.0 h.2)
    fits_forward (Any x y r) (ToEither t f) b h =
        let fx = fits_forward x (ToEither t h.0) b h.2 in
        let fy = fits_forward y (ToEither t f) h.0 h.1 in
        (forward_either g _ _ b t fx.0 (forward_then g _ _ b h.0 t fx.1 fy.0), forward_then g _ _ b h.0 f fx.1 fy.1)
    fits_forward (Chooses x y z r) (To v) b h =
        let fx = fits_forward x (ToEither h.1 h.2) b h.6 in
        forward_then g _ _ b h.0 v
        (forward_either g _ _ b h.0 (forward_then g _ _ b h.1 h.0 fx.0 (fits_forward y (To h.0) h.1 h.4)) (forward_then g _ _ b h.2 h.0 fx.1 (fits_forward z (To h.0) h.2 h.5)))
        (row_forward r v h.0 h.3)
    fits_forward (Chooses x y z r) (ToEither t f) b h =
        let fx = fits_forward x (ToEither h.0 h.1) b h.4 in
        let fy = fits_forward y (ToEither t f) h.0 h.2 in
        let fz = fits_forward z (ToEither t f) h.1 h.3 in (
          forward_either g _ _ b t (forward_then g _ _ b h.0 t fx.0 fy.0) (forward_then g _ _ b h.1 t fx.1 fz.0),
          forward_either g _ _ b f (forward_then g _ _ b h.0 f fx.0 fy.1) (forward_then g _ _ b h.1 f fx.1 fz.1),
        )
    fits_forward (Follows x y r) (To v) b h =
        forward_then g _ _ b h.1 v (fits_forward x (To h.1) b h.4) (forward_then g _ _ h.1 h.0 v (fits_forward y (To h.0) h.1 h.3) (row_forward r v h.0 h.2))
    fits_forward (Follows x y r) (ToEither t f) b h =
        let fx = fits_forward x (To h.0) b h.2 in
        let fy = fits_forward y (ToEither t f) h.0 h.1 in
        (forward_then g _ _ b h.0 t fx fy.0, forward_then g _ _ b h.0 f fx fy.1)

    pub row_forward : (r : Row) (v b : ℕ) → FitsRow (Has g) r v b → Forward g (Happens r) b v
    row_forward done v b h = subst (λ x. Forward g Nothing b x) h (stay g b)
    row_forward (operand x r) v b h = forward_then g _ _ b h.0 v (fits_forward x (To h.0) b h.2) (row_forward r v h.0 h.1)
    row_forward (item i r) v b h = forward_then g _ _ b h.0 v (item_forward g i b h.0 h.2) (row_forward r v h.0 h.1)

  -- one of the ends
  abbrev pub SomeEnd : Way → (Option Bool → List Item → Type 0) → List Item → Type 0
  SomeEnd (To x) P = P None
  SomeEnd (ToEither y z) P = Either (P (Some true)) (P (Some false))

  -- the first at true, and the second at false
  abbrev pub Two : (List Item → Type 0) → (List Item → Type 0) → Option Bool → List Item → Type 0
  Two A B None = A
  Two A B (Some true) = A
  Two A B (Some false) = B

  split_back : (n b v t f : ℕ) (T U : List Item → Type 0) → Has g b [] (ToAny (t ∷ f ∷ [])) → Within g n t T → Within g n f U → Within g n b (Ahead (λ w. w ≡ []) (Either T U))
  split_back n b v t f T U e p q = block_back g n b [] (t ∷ f ∷ []) (Either T U) e (inl (p [] (walks_nil g n t))) two_in
    where
      two_in : (d : ℕ) → Among d (t ∷ f ∷ []) → Within g n d (Either T U)
      two_in d (inl e) = λ l w. inl (p l (subst (λ x. Walks g n x l) e w))
      two_in d (inr (inl e)) = λ l w. inr (q l (subst (λ x. Walks g n x l) e w))
      two_in d (inr (inr x)) = absurd x

  plain_back : (n : ℕ) (s : Node) (V : List Item → Type 0) (way : Way) (v b : ℕ) (T : Option Bool → List Item → Type 0) → Split (Has g) s way v → EachEnd way (λ o x. Within g n x (T o)) → ((U : List Item → Type 0) → Within g n v U → Within g n b (Ahead V U)) → Within g n b (SomeEnd way (λ o. Ahead (plain s V o) (T o)))
  plain_back n s V (To x) v b T p f h = h (T None) (subst (λ y. Within g n y (T None)) (sym p) f)
  plain_back n s V (ToEither y z) v b T p f h =
      let A = Ahead (Only (branched s true)) (T (Some true)) in
      let B = Ahead (Only (branched s false)) (T (Some false)) in
      let at_v = split_back n v v p.0 p.1 A B p.4 (one_back g n p.0 (Branched s true) y (T (Some true)) p.2 f.0) (one_back g n p.1 (Branched s false) z (T (Some false)) p.3 f.1) in
      λ l w. ahead_or_then V _ _ _ _ l (ahead_maps V V _ _ (λ m a. a) (λ m a. nothing m a) l (h _ at_v l w))
    where
      nothing : (m : List Item) → Ahead (λ w. w ≡ []) (Either (Ahead (Only (branched s true)) (T (Some true))) (Ahead (Only (branched s false)) (T (Some false)))) m → Either (Ahead (Only (branched s true)) (T (Some true))) (Ahead (Only (branched s false)) (T (Some false))) m
      nothing m a = ahead_nothing _ both m a
        where
          both : (l r : List Item) → Either (Ahead (Only (branched s true)) (T (Some true))) (Ahead (Only (branched s false)) (T (Some false))) (l ++ r) → Either (Ahead (Only (branched s true)) (T (Some true))) (Ahead (Only (branched s false)) (T (Some false))) l
          both l r (inl x) = inl (ahead_prefix _ _ l r x)
          both l r (inr x) = inr (ahead_prefix _ _ l r x)

  mutual
    pub fits_back : (e : Form) (way : Way) (b n : ℕ) (T : Option Bool → List Item → Type 0) → Fits (Has g) e way b → EachEnd way (λ o x. Within g n x (T o)) → Within g n b (SomeEnd way (λ o. Ahead (Evaluates e o) (T o)))
    fits_back (Plain s r) (To v) b n T h f = plain_back n s (Happens r) (To v) h.0 b T h.1 f (λ U u. row_back r h.0 b n U h.2 u)
    fits_back (Plain s r) (ToEither y z) b n T h f = plain_back n s (Happens r) (ToEither y z) h.0 b T h.1 f (λ U u. row_back r h.0 b n U h.2 u)
    fits_back (Inverts x r) (To v) b n T h f =
        let at_c = row_back r v h.0 n (T None) h.1 f in
        λ l w. ahead_then _ _ _ l (fits_back x (To h.0) b n (λ o. Ahead (Happens r) (T None)) h.2 at_c l w)
    fits_back (Inverts x r) (ToEither y z) b n T h f =
        λ l w. swap l (fits_back x (ToEither z y) b n (Two (T (Some false)) (T (Some true))) h (f.1, f.0) l w)
      where
        swap : (l : List Item) → Either (Ahead (Evaluates x (Some true)) (T (Some false))) (Ahead (Evaluates x (Some false)) (T (Some true))) l → Either (Ahead (Evaluates x (Some false)) (T (Some true))) (Ahead (Evaluates x (Some true)) (T (Some false))) l
        swap l (inl a) = inr a
        swap l (inr a) = inl a
    fits_back (Keeps x r) (To v) b n T h f =
        let at_c = row_back r v h.0 n (T None) h.1 f in
        λ l w. ahead_then _ _ _ l (fits_back x (To h.0) b n (λ o. Ahead (Happens r) (T None)) h.2 at_c l w)
    fits_back (Keeps x r) (ToEither y z) b n T h f = fits_back x (ToEither y z) b n T h f
    fits_back (Both x y r) (To v) b n T h f =
        let at_c = row_back r v h.0 n (T None) h.2 f in
        let at_d = fits_back y (ToEither h.0 h.0) h.1 n (λ o. Ahead (Happens r) (T None)) h.3 (at_c, at_c) in
        let at_b = fits_back x (ToEither h.1 h.0) b n (Two _ (Ahead (Happens r) (T None))) h.4 (at_d, at_c) in
        λ l w. ahead_then _ _ _ l (and_value (Evaluates x (Some true)) (Evaluates x (Some false)) (Evaluates y (Some true)) (Evaluates y (Some false)) _ l (at_b l w))
    fits_back (Both x y r) (ToEither t u) b n T h f =
        let at_d = fits_back y (ToEither t u) h.0 n T h.1 f in
        let at_b = fits_back x (ToEither h.0 u) b n (Two _ (T (Some false))) h.2 (at_d, f.1) in
        λ l w. and_cond (Evaluates x (Some true)) (Evaluates x (Some false)) (Evaluates y (Some true)) (Evaluates y (Some false)) (T (Some true)) (T (Some false)) l (at_b l w)
    fits_back (Any x y r) (To v) b n T h f =
        let at_c = row_back r v h.0 n (T None) h.2 f in
        let at_d = fits_back y (ToEither h.0 h.0) h.1 n (λ o. Ahead (Happens r) (T None)) h.3 (at_c, at_c) in
        let at_b = fits_back x (ToEither h.0 h.1) b n (Two (Ahead (Happens r) (T None)) _) h.4 (at_c, at_d) in
        λ l w. ahead_then _ _ _ l (or_value (Evaluates x (Some true)) (Evaluates x (Some false)) (Evaluates y (Some true)) (Evaluates y (Some false)) _ l (at_b l w))
    fits_back (Any x y r) (ToEither t u) b n T h f =
        let at_d = fits_back y (ToEither t u) h.0 n T h.1 f in
        let at_b = fits_back x (ToEither t h.0) b n (Two (T (Some true)) _) h.2 (f.0, at_d) in
        λ l w. or_cond (Evaluates x (Some true)) (Evaluates x (Some false)) (Evaluates y (Some true)) (Evaluates y (Some false)) (T (Some true)) (T (Some false)) l (at_b l w)
    fits_back (Chooses x y z r) (To v) b n T h f =
        let at_c = row_back r v h.0 n (T None) h.3 f in
        let at_d = fits_back y (To h.0) h.1 n (λ o. Ahead (Happens r) (T None)) h.4 at_c in
        let at_e = fits_back z (To h.0) h.2 n (λ o. Ahead (Happens r) (T None)) h.5 at_c in
        let at_b = fits_back x (ToEither h.1 h.2) b n (Two (Ahead (Evaluates y None) (Ahead (Happens r) (T None))) (Ahead (Evaluates z None) (Ahead (Happens r) (T None)))) h.6 (at_d, at_e) in
        λ l w. ahead_then _ _ _ l (choose_value (Evaluates x (Some true)) (Evaluates x (Some false)) (Evaluates y None) (Evaluates z None) _ l (at_b l w))
    fits_back (Chooses x y z r) (ToEither t u) b n T h f =
        let at_d = fits_back y (ToEither t u) h.0 n T h.2 f in
        let at_e = fits_back z (ToEither t u) h.1 n T h.3 f in
        let at_b = fits_back x (ToEither h.0 h.1) b n (Two (Either (Ahead (Evaluates y (Some true)) (T (Some true))) (Ahead (Evaluates y (Some false)) (T (Some false)))) (Either (Ahead (Evaluates z (Some true)) (T (Some true))) (Ahead (Evaluates z (Some false)) (T (Some false))))) h.4 (at_d, at_e) in
        λ l w. choose_cond (Evaluates x (Some true)) (Evaluates x (Some false)) (Evaluates y (Some true)) (Evaluates y (Some false)) (Evaluates z (Some true)) (Evaluates z (Some false)) (T (Some true)) (T (Some false)) l (at_b l w)
    fits_back (Follows x y r) (To v) b n T h f =
        let at_c = row_back r v h.0 n (T None) h.2 f in
        let at_d = fits_back y (To h.0) h.1 n (λ o. Ahead (Happens r) (T None)) h.3 at_c in
        let at_b = fits_back x (To h.1) b n (λ o. Ahead (Evaluates y None) (Ahead (Happens r) (T None))) h.4 at_d in
        λ l w. ahead_then _ _ _ l (ahead_second _ _ _ l (λ m a. ahead_then _ _ _ m a) (at_b l w))
    fits_back (Follows x y r) (ToEither t u) b n T h f =
        let at_d = fits_back y (ToEither t u) h.0 n T h.1 f in
        let at_b = fits_back x (To h.0) b n (λ o. Either (Ahead (Evaluates y (Some true)) (T (Some true))) (Ahead (Evaluates y (Some false)) (T (Some false)))) h.2 at_d in
        λ l w. ahead_or_then (Evaluates x None) (Evaluates y (Some true)) (Evaluates y (Some false)) (T (Some true)) (T (Some false)) l (at_b l w)

    pub row_back : (r : Row) (v b n : ℕ) (T : List Item → Type 0) → FitsRow (Has g) r v b → Within g n v T → Within g n b (Ahead (Happens r) T)
    row_back done v b n T h f = subst (λ x. Within g n x (Ahead Nothing T)) (sym h) (stay_back g n v T f)
    row_back (operand x r) v b n T h f =
        let at_c = row_back r v h.0 n T h.1 f in
        λ l w. ahead_then _ _ T l (fits_back x (To h.0) b n (λ o. Ahead (Happens r) T) h.2 at_c l w)
    row_back (item i r) v b n T h f =
        let at_c = row_back r v h.0 n T h.1 f in
        λ l w. ahead_then _ _ T l (item_back g n i b h.0 (Ahead (Happens r) T) h.2 at_c l w)
