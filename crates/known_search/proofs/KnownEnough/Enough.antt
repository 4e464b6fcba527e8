-- What is closed under the rules of the search is closed under those of matched calls and returns, so it is enough.
use Rattle.std.proofs.Common.{◌≡◌, ◌⊎◌, inl, inr, ℕ, Option, None, Some, subst}
use Rattle.path_theory.specs.Facts.{Objects}
use Rattle.path_theory.specs.Model.{Model}
use Rattle.path_theory.specs.Origins.{Origins, IsLocal}
use Rattle.path_theory.specs.Supergraph.{Supergraph}
use Rattle.known_search.specs.Closed.{IsClosed}
use Rattle.known_search.specs.KnownEnough.Described.{Describes, Found, AreFollowed}
use Rattle.masked_paths.specs.Enough.{IsEnough}
use Rattle.masked_paths.specs.Matched.{ClosedUnderMet, CoversWhereMet}
use Rattle.masked_paths.specs.Met.{MetStates, CoversMet}
use Rattle.masked_paths.proofs.MetObjects.{enough_of_met}

module _ (M : Model) (K : Supergraph M) (L : Origins M) (at : ℕ → Option M.Fn)
    (IsBound : ℕ → M.Obj → Type 0) (Moves : ℕ → M.Obj → M.Obj → Type 0) (Enters Hands : ℕ → ℕ → M.Obj → ℕ → M.Obj → Type 0)
    (R : MetStates M) (D : Describes M K L at IsBound Moves Enters Hands R) (P : ℕ → Option M.Obj → M.Obj → Type 0) (C : IsClosed IsBound Moves Enters Hands P) where
  -- it is found under the one number of its function
  at_number : (f : M.Fn) (w : Option M.Obj) (o : M.Obj) (n : ℕ) → at n ≡ Some f → Found M at P f w o → P n w o
  at_number f w o n named p = subst (λ m. P m w o) (D.one p.0 n f p.1 named) p.2

  moved : (n : ℕ) (w : Option M.Obj) (b o : M.Obj) → (b ≡ o) ⊎ Moves n b o → P n w b → P n w o
  moved n w b o s p = elim s [ inl e ↦ subst (P n w) e p | inr m ↦ C.moves n w b o m p ]

  pub closed : ClosedUnderMet M K L R (Found M at P)
  closed = record {
    binds = λ k g o x i d. let b = D.binds k g o x i d in (b.0, b.1, C.binds b.0 o b.2);
    moves = λ w o b i d p. (p.0, p.1, moved p.0 w b o (D.moves p.0 o b i p.1 d) p.2);
    enters = λ {f = f} w c o i d p. let k = D.calls i in
        (k.callee, k.called, C.enters k.call k.caller k.callee w o c (k.enters o c (inl d)) (at_number f w o k.caller k.calls p));
    comes_back = λ {f = f} {h = h} w o c d b i e p q j. let k = D.calls i in
        (k.caller, k.calls, C.comes_back k.call k.caller k.callee w b c d o (k.enters b c (inl e)) (at_number f w b k.caller k.calls p) (at_number h (Some c) d k.callee k.called q) (k.hands o d j));
    hands_out = λ {h = h} o d i p e. let k = D.calls i in
        (k.caller, k.calls, C.hands_out k.call k.caller k.callee d o (at_number h None d k.callee k.called p) (k.hands o d e));
  }

  module _ (A : Objects M) (F : AreFollowed M at P A) where
    -- an object to which something is handed back is found there, by the rule of entries
    handed : (f h : M.Fn) (o c : M.Obj) (w : Option M.Obj) (n m : ℕ) (call : ℕ) → at m ≡ Some h → Enters call n o m c → P n w o → A h c
    handed f h o c w n m call named e p = (F h c).1 (Some c, (m, named, C.enters call n m w o c e p))

    pub covers : CoversWhereMet M K L R (Found M at P) A
    covers = record {
      known = λ {f = f} w o p. (F f o).1 (w, p);
      fires = λ {f = f} k g o r i d. let b = D.fires k g o r i d in (F f o).1 (None, (b.0, b.1, C.binds b.0 o b.2));
      handed = λ {f = f} {h = h} o c i d p. let k = D.calls i in let x = (F f o).0 p in
          handed f h o c x.0 k.caller k.callee k.call k.called (k.enters o c (inr d)) (at_number f x.0 o k.caller k.calls x.1);
    }

    -- R has the global state with which each path comes to each event
    pub enough : IsLocal M L → CoversMet M K R → IsEnough M K L A
    enough I T = enough_of_met M K L I R T (Found M at P) closed A covers
