-- What happens on the way is noted, one event after the other.
use Rattle.std.proofs.Common.{◌≡◌, ℕ, zero, suc, ◌+◌, ◌⊎◌, inl, inr, Bool, List, [], ◌∷◌, Option, subst, arith}
use Rattle.path_theory.specs.Model.{Model}
use Rattle.path_theory.specs.Origins.{Origins}
use Rattle.path_theory.specs.Facts.{Fact, Objects}
use Rattle.path_theory.specs.Flows.{EventFlow}
use Rattle.path_theory.specs.EventWalks.Walks.{Tuples, Walks}
use Rattle.path_theory.specs.EventWalks.Happenings.{ToObjects, ToGlobals, HappensHere, HappensAt, Here, Later, Noted, Notes}

module _ (M : Model) (L : Origins M) (A : Objects M) {R : Type 0} (O : ToObjects M R) (G : ToGlobals M R) (f : M.Fn) (k : Bool) where
  abbrev At : List M.Event → ℕ → M.Global → Fact M → Option M.Obj → R → Type 0
  At = HappensAt M L A O G f k

  -- nothing is noted yet
  pub noted-start : (all : List M.Event) (g : M.Global) (t : Fact M) (X : Tuples M) (Out : ℕ → Option M.Obj → R → Type 0)
      → X g t → ((h : M.Global) (u : Fact M) → X h u → (h ≡ g) × (u ≡ t)) → ((m : ℕ) (q : Option M.Obj) (a : R) → Out m q a → ⊥)
      → Noted M L A O G f k all all zero g t X Out
  noted-start all g t X Out there only none = record {
    noted = λ m q a o. absurd (none m q a o);
    coming = λ h u m q a x w.
        let o = only h u x in
        let moved : At all m g t q a = subst (λ z. At all m z t q a) o.0 (subst (λ z. At all m h z q a) o.1 w) in
        let same : m ≡ zero + m = omega arith in
        subst (λ z. At all z g t q a) same moved;
    whole = λ m q a w. let same : m ≡ zero + m = omega arith in inr (m, same, g, t, there, w);
  }

  -- what happens now or later
  data Split (e : M.Event) (es : List M.Event) (g : M.Global) (t : Fact M) (q : Option M.Obj) (a : R) : ℕ → Type 0 where
    Now : HappensHere M L A O G f k e g t q a → Split e es g t q a zero
    Then : {n : ℕ} (u : Fact M) → EventFlow M L A f k e g t u → At es n (M.next_global e f k g) u q a → Split e es g t q a (suc n)

  split : (e : M.Event) (es : List M.Event) (n : ℕ) (g : M.Global) (t : Fact M) (q : Option M.Obj) (a : R) → At (e ∷ es) n g t q a → Split e es g t q a n
  split e es _ g t q a (Here w) = Now w
  split e es _ g t q a (Later {u = u} w x) = Then u w x

  later : (e : M.Event) (es : List M.Event) (m : ℕ) (g h : M.Global) (t u : Fact M) (q : Option M.Obj) (a : R) → h ≡ M.next_global e f k g → EventFlow M L A f k e g t u
      → At es m h u q a → At (e ∷ es) (suc m) g t q a
  later e es m g h t u q a n w x = Later w (subst (λ z. At es m z u q a) n x)

  module _ (all : List M.Event) (e : M.Event) (left : List M.Event) (n : ℕ) (g : M.Global) (t : Fact M) (X Y : Tuples M) (Old New : ℕ → Option M.Obj → R → Type 0)
      (s : Noted M L A O G f k all (e ∷ left) n g t X Old) (w : Walks M L A f k e X Y) (x : Notes M L A O G f k e n X Old New) where
    here : (m : ℕ) (h : M.Global) (u : Fact M) (q : Option M.Obj) (a : R) → m ≡ n → X h u → HappensHere M L A O G f k e h u q a → At all m g t q a
    here m h u q a same there now =
        let at : n + zero ≡ m = omega arith in
        subst (λ z. At all z g t q a) at (s.coming h u zero q a there (Here now))

    noted-now : (m : ℕ) (q : Option M.Obj) (a : R) → New m q a → At all m g t q a
    noted-now m q a o = elim (x.real m q a o) [
      | inl old ↦ s.noted m q a old
      | inr now ↦ here m now.1 now.2 q a now.0 now.3 now.4
    ]

    coming-then : (h : M.Global) (u : Fact M) (m : ℕ) (q : Option M.Obj) (a : R) → Y h u → At left m h u q a → At all ((n + 1) + m) g t q a
    coming-then h u m q a y z =
        let b = w.real h u y in
        let at : n + suc m ≡ (n + 1) + m = omega arith in
        subst (λ z. At all z g t q a) at (s.coming b.0 b.1 (suc m) q a b.2 (later e left m b.0 h b.1 u q a b.3 b.4 z))

    abbrev Rest : ℕ → Option M.Obj → R → Type 0
    Rest m q a = (j : ℕ) × (m ≡ (n + 1) + j) × (h : M.Global) × (u : Fact M) × Y h u × At left j h u q a

    part : (m j : ℕ) (h : M.Global) (u : Fact M) (q : Option M.Obj) (a : R) → m ≡ n + j → X h u → Split e left h u q a j → New m q a ⊎ Rest m q a
    part m _ h u q a same there (Now z) =
        let at : n ≡ m = omega arith in
        inl (subst (λ z. New z q a) at (x.added h u q a there z))
    part m (suc j) h u q a same there (Then v flow z) =
        let at : m ≡ (n + 1) + j = omega arith in
        inr (j, at, M.next_global e f k h, v, w.whole h u v there flow, z)

    whole-now : (m : ℕ) (q : Option M.Obj) (a : R) → At all m g t q a → New m q a ⊎ Rest m q a
    whole-now m q a z = elim (s.whole m q a z) [
      | inl old ↦ inl (x.kept m q a old)
      | inr b ↦ part m b.0 b.2 b.3 q a b.1 b.4 (split e left b.0 b.2 b.3 q a b.5)
    ]

    pub noted-next : Noted M L A O G f k all left (n + 1) g t Y New
    noted-next = record { noted = noted-now; coming = coming-then; whole = whole-now }

  none-happens : (m : ℕ) (h : M.Global) (u : Fact M) (q : Option M.Obj) (a : R) → At [] m h u q a → ⊥
  none-happens m h u q a w = elim w [ ]

  -- no event is left: all is noted
  pub noted-end : (all : List M.Event) (n : ℕ) (g : M.Global) (t : Fact M) (X : Tuples M) (Out : ℕ → Option M.Obj → R → Type 0)
      → Noted M L A O G f k all [] n g t X Out → (m : ℕ) (q : Option M.Obj) (a : R) → At all m g t q a → Out m q a
  noted-end all n g t X Out s m q a w = elim (s.whole m q a w) [
    | inl o ↦ o
    | inr b ↦ absurd (none-happens b.0 b.2 b.3 q a b.5)
  ]
