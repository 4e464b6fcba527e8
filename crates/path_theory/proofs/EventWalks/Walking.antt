-- A set of tuples on its way over events: where it starts, one event further, and at the end.
use Rattle.std.proofs.Common.{◌≡◌, Bool, List, [], ◌∷◌, refl, subst}
use Rattle.path_theory.specs.Model.{Model}
use Rattle.path_theory.specs.Origins.{Origins}
use Rattle.path_theory.specs.Facts.{Fact, Objects}
use Rattle.path_theory.specs.Flows.{EventFlow}
use Rattle.path_theory.specs.BlockEdges.{Crosses, CrossesNone, CrossesOne}
use Rattle.path_theory.specs.EventWalks.Walks.{Tuples, Walks, Stands}

module _ (M : Model) (L : Origins M) (A : Objects M) (f : M.Fn) (k : Bool) where
  -- at the first event stands the tuple alone
  pub stands-start : (all : List M.Event) (g : M.Global) (t : Fact M) (X : Tuples M) → X g t → ((h : M.Global) (u : Fact M) → X h u → (h ≡ g) × (u ≡ t))
      → Stands M L A f k all all g t X
  stands-start all g t X there only = record {
    real = λ h i u v x c. let o = only h u x in subst (λ z. Crosses M L A f k all z t i v) o.0 (subst (λ z. Crosses M L A f k all h z i v) o.1 c);
    whole = λ i v c. (g, t, there, c);
  }

  -- what crosses one more event
  crosses-one : (e : M.Event) (es : List M.Event) (g i h : M.Global) (t u v : Fact M) → h ≡ M.next_global e f k g → EventFlow M L A f k e g t u
      → Crosses M L A f k es h u i v → Crosses M L A f k (e ∷ es) g t i v
  crosses-one e es g i h t u v n w c = CrossesOne w (subst (λ z. Crosses M L A f k es z u i v) n c)

  first-crossed : (e : M.Event) (es : List M.Event) (g i : M.Global) (t v : Fact M) → Crosses M L A f k (e ∷ es) g t i v
      → (u : Fact M) × EventFlow M L A f k e g t u × Crosses M L A f k es (M.next_global e f k g) u i v
  first-crossed e es g i t v (CrossesOne {u = u} w c) = (u, w, c)

  pub stands-next : (all : List M.Event) (e : M.Event) (left : List M.Event) (g : M.Global) (t : Fact M) (X Y : Tuples M)
      → Stands M L A f k all (e ∷ left) g t X → Walks M L A f k e X Y → Stands M L A f k all left g t Y
  stands-next all e left g t X Y s w = record {
    real = λ h i u v y c. let b = w.real h u y in s.real b.0 i b.1 v b.2 (crosses-one e left b.0 i h b.1 u v b.3 b.4 c);
    whole = λ i v c.
        let b = s.whole i v c in
        let o = first-crossed e left b.0 i b.1 v b.3 in
        (M.next_global e f k b.0, o.0, w.whole b.0 b.1 o.0 b.2 o.1, o.2);
  }

  -- no event is left
  none-crossed : (h i : M.Global) (u v : Fact M) → Crosses M L A f k [] h u i v → (h ≡ i) × (u ≡ v)
  none-crossed h i u v CrossesNone = (refl, refl)

  pub stands-end : (all : List M.Event) (g : M.Global) (t : Fact M) (X : Tuples M) → Stands M L A f k all [] g t X
      → (i : M.Global) (v : Fact M) → Crosses M L A f k all g t i v → X i v
  stands-end all g t X s i v c =
      let b = s.whole i v c in
      let o = none-crossed b.0 i b.1 v b.3 in
      subst (λ z. X z v) o.0 (subst (λ z. X b.0 z) o.1 b.2)

  pub ends-stand : (all : List M.Event) (g : M.Global) (t : Fact M) (X : Tuples M) → Stands M L A f k all [] g t X
      → (i : M.Global) (v : Fact M) → X i v → Crosses M L A f k all g t i v
  ends-stand all g t X s i v x = s.real i i v v x CrossesNone
