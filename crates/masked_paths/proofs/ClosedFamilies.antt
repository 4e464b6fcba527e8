-- A family that is closed is enough: with it a mask changes nothing at all of what is followed.
use Rattle.std.proofs.Common.{◌≡◌, IsTrue, Option, refl, ◌∙◌, ap, option_and_then}
use Rattle.path_theory.specs.Model.{Model}
use Rattle.path_theory.specs.Supergraph.{Supergraph}
use Rattle.path_theory.specs.Origins.{Origins, IsLocal, handed}
use Rattle.path_theory.specs.Runs.{Run, Here, Skipped, Gone, Closed, origin}
use Rattle.path_theory.specs.Facts.{Objects}
use Rattle.path_theory.specs.Relevant.{CallOf, IsClosed}
use Rattle.path_theory.proofs.SmallFacts.{then_same, handed_same, then_known}
use Rattle.path_theory.proofs.Known.{event_of, call_of, origin_in}
use Rattle.path_theory.proofs.KnownObjects.{known_after, fires_after}
use Rattle.masked_paths.specs.Masked.{Mask, kept, masked, masked_origins, into_in, masked_supergraph}
use Rattle.masked_paths.specs.Enough.{IsEnough}
use Rattle.masked_paths.proofs.Masks.{within_all}
use Rattle.masked_paths.proofs.MaskedRuns.{run_in}

module _ (M : Model) (K : Supergraph M) (L : Origins M) (I : IsLocal M L) (A : Objects M) (Q : IsClosed M K L A) where
  -- the objects of a closed family are enough, as the relevant objects of a program are
  pub enough_of_closed : IsEnough M K L A
  enough_of_closed = record {
    known = λ P o x d. known_after M K L I A Q P o x d;
    fires = λ P e t o r i. fires_after M K L I A Q P e t o r i;
    handed = λ o c i d v. Q.out o c i d v;
  }

module _ (M : Model) (K : Supergraph M) (L : Origins M) (I : IsLocal M L) (a : Mask M) (Q : IsClosed M K L (kept M a)) where
  abbrev N : Model
  N = masked M L a

  abbrev J : Supergraph N
  J = masked_supergraph M L a K

  -- what the callee has from the caller
  same_into : {f h : M.Fn} {s : M.Site} (c : M.Obj) → CallOf M K f s h → IsTrue (a.follows h c)
      → into_in M L a (record { caller = f; site = s; callee = h }) c ≡ L.into s c
  same_into {f = f} {h = h} {s = s} c j i = within_all a.loose (a.follows h c) (a.follows f) (L.into s c) i (λ b d. Q.into c b j d i)

  -- from which object at the entry one has its state
  pub same_origin : {f : M.Fn} {p : K.Place} (R : Run M K f p) (o : M.Obj) → IsTrue (a.follows f o)
      → origin N J (masked_origins M L a) (run_in M L a K R) o ≡ origin M K L R o
  same_origin Here o i = refl
  same_origin (Skipped R t) o i = same_origin R o i
  same_origin {f = f} (Gone R e t) o i =
      ap (option_and_then (origin N J (masked_origins M L a) (run_in M L a K R)))
      (within_all a.loose (a.follows f o) (a.follows f) (L.source e o) i (λ b d. Q.source o b (event_of M K R e t) d i))
      ∙ then_same (L.source e o) _ _ (λ b d. same_origin R b (Q.source o b (event_of M K R e t) d i))
  same_origin {f = f} (Closed {h = h} R s t C e) o i =
      let j = call_of M K R s t in
      let back : M.Obj → Option M.Obj = λ c. option_and_then (origin N J (masked_origins M L a) (run_in M L a K R)) (option_and_then (into_in M L a (record { caller = f; site = s; callee = h })) (origin N J (masked_origins M L a) (run_in M L a K C) c)) in
      ap (λ z. handed z back (origin N J (masked_origins M L a) (run_in M L a K R) o))
      (within_all a.loose (a.follows f o) (a.follows h) (L.out s o) i (λ c d. Q.out o c j d i))
      ∙ handed_same (L.out s o) back _ _ _
      (λ c d. let w = Q.out o c j d i in
      ap (λ z. option_and_then (origin N J (masked_origins M L a) (run_in M L a K R)) (option_and_then (into_in M L a (record { caller = f; site = s; callee = h })) z)) (same_origin C c w)
      ∙ ap (option_and_then (origin N J (masked_origins M L a) (run_in M L a K R))) (then_same (origin M K L C c) _ _ (λ u v. same_into u j (origin_in M K L I (kept M a) Q C c u v w)))
      ∙ then_same (option_and_then (L.into s) (origin M K L C c)) _ _
      (λ b v. let u = then_known (origin M K L C c) (L.into s) b v in same_origin R b (Q.into u.0 b j u.2 (origin_in M K L I (kept M a) Q C c u.0 u.1 w))))
      (λ d. same_origin R o i)
